-- What a store knows that is opened over a shelf which keeps what is put on it.
use Rattle.std.proofs.Common.{◌≡◌, length, ◌≢◌, ◌⊎◌, inl, inr, ℕ, ◌≤◌, true, false, cond, List, [], ◌∷◌, ◌++◌, Option, Some, None, Contains, map, refl, sym, ap, subst, ◌∙◌}
use Rattle.std.specs.FinMap.{contains_key, get, get-insert}
use Rattle.std.specs.FinMap as fin
use Rattle.std.specs.List.{AllByRecursion}
use Rattle.std.specs.Ordering.{eq_by_cmp, is_eq}
use Rattle.std.specs.declared.cmp.Ordering.{Ordering}
use Rattle.std.specs.declared.cmp.Ordering.TheVariants.{Less, Equal, Greater}
use Rattle.host_names.specs.declared.digests.Digest.{Digest}
use Rattle.host_names.specs.Digests.{digest_cmp, digest_cmp_total, digest_cmp-IsAntisymmetric, digest_of}
use Rattle.byte_view.specs.Contents.{Contents, with_file}
use Rattle.blob_store.specs.declared.openings.OpenFault.TheVariants as open_fault
use Rattle.blob_store.specs.declared.openings.Wanted.{Wanted}
use Rattle.chunk_reads.specs.declared.faults.ReadFault.TheVariants as read_fault
use Rattle.blob_store.specs.declared.shelves.ShelfName.{ShelfName}
use Rattle.blob_store.specs.declared.shelves.ShelfName.TheVariants.{Part, Table}
use Rattle.blob_store.specs.declared.shelves.ShelfFault.{ShelfFault}
use Rattle.blob_store.specs.declared.shelves.ShelfFault.TheVariants as shelf_fault
use Rattle.chunk_reads.specs.declared.faults.ReadFault.{ReadFault}
use Rattle.blob_store.specs.declared.openings.OpenFault.{OpenFault}
use Rattle.byte_view.specs.Cuts.{cut}
use Rattle.blob_store.specs.Calls.{Call, part_of, table_of, things_of}
use Rattle.blob_store.specs.Keeping.{AlwaysKeeps, HasAll, HasFile}
use Rattle.blob_store.specs.Openings.{AreTaken, IsOpenFault, IsOpened, IsTaken, IsTakeFault, Taken, known_with}
use Rattle.blob_store.specs.Reads.{FailsAtFile, IsFileFault, IsFileRead, answers_of, pieces_given}
use Rattle.blob_store.proofs.Additions.{get_added}
use Rattle.blob_store.proofs.Kept.{file_given, file_not_damaged, file_not_missing, given_there, moved, same_after, same_digest, some_bytes}
use Rattle.blob_store.proofs.FileReads.{given}
use Rattle.blob_store.proofs.Once.{contains_none, first_or}
use Rattle.blob_store.proofs.TakenFiles.{with_taken, with_taken-files}

-- ---- what is known after one file more

is_eq-true : (o : Ordering) → is_eq o ≡ true → o ≡ Equal
is_eq-true Less e = cc e
is_eq-true Equal e = refl
is_eq-true Greater e = cc e

get_same : (known : Contents) (file kept : List ℕ) → get known (digest_of file) ≡ Some kept → get (with_file known file) (digest_of file) ≡ Some kept
get_same known file kept e =
    let stays : with_file known file ≡ known = rw e refl in
    ap (λ k. get k (digest_of file)) stays ∙ e

get_other : (known : Contents) (file : List ℕ) (digest : Digest) → digest ≢ digest_of file → get (with_file known file) digest ≡ get known digest
get_other known file digest differ =
    let apart : eq_by_cmp digest_cmp digest (digest_of file) ≡ false =
    elim (eq_by_cmp digest_cmp digest (digest_of file)) as (λ b. eq_by_cmp digest_cmp digest (digest_of file) ≡ b → b ≡ false) [
      | true ↦ λ tie. absurd (differ (digest_cmp-IsAntisymmetric digest (digest_of file) (is_eq-true _ tie)))
      | false ↦ λ tie. refl
    ] refl in
    elim (contains_key known (digest_of file)) as (λ b. get (cond b known (fin.insert known (digest_of file) file)) digest ≡ get known digest) [
      | true ↦ refl
      | false ↦ get-insert digest_cmp_total known (digest_of file) file digest ∙ ap (λ b. cond b (Some file) (get known digest)) apart
    ]

-- a file that is known then was known, or is the one that was added
known_or_added : (known : Contents) (file : List ℕ) (digest : Digest) (found : List ℕ) → get (with_file known file) digest ≡ Some found
    → (get known digest ≡ Some found) ⊎ (found ≡ file)
known_or_added known file digest found at =
    elim (contains_key known (digest_of file)) as (λ b. get (cond b known (fin.insert known (digest_of file) file)) digest ≡ Some found → (get known digest ≡ Some found) ⊎ (found ≡ file)) [
      | true ↦ λ e. inl e
      | false ↦ λ e.
          let here : cond (eq_by_cmp digest_cmp digest (digest_of file)) (Some file) (get known digest) ≡ Some found =
          sym (get-insert digest_cmp_total known (digest_of file) file digest) ∙ e in
          elim (eq_by_cmp digest_cmp digest (digest_of file)) as (λ t. cond t (Some file) (get known digest) ≡ Some found → (get known digest ≡ Some found) ⊎ (found ≡ file)) [
            | true ↦ λ is. inr (sym (ap some_bytes is))
            | false ↦ λ is. inl is
          ] here
    ] at

-- ---- what an opening leaves, and what it knows is there

module _ {S : Type 0} (did : S → Call → S → Type 0) (has : S → ShelfName → Option (List ℕ)) (keeps : AlwaysKeeps did has) where
  fails_stays : (old new : S) (digest : Digest) (why : ShelfFault) (name : ShelfName) → FailsAtFile did old digest why new → has new name ≡ has old name
  fails_stays old new digest why name (inl is) = keeps.get_fails old new (Table digest) name why is
  fails_stays old new digest why name (inr is) =
      let piece = is.6 in
      keeps.get_fails piece.3 new (Part piece.1) name why piece.6 ∙ same_after did has keeps is.3 piece.3 (pieces_given piece.0) piece.5 name
      ∙ keeps.stays old is.3 (Table digest) name (Some is.0) is.5

  fault_stays : (old new : S) (digest : Digest) (why : ReadFault) (name : ShelfName) → IsFileFault did old digest why new → has new name ≡ has old name
  fault_stays old new digest read_fault.Missing name is = keeps.stays old new (Table digest) name None is
  fault_stays old new digest read_fault.Damaged name is = same_after did has keeps old new ((Table digest, Some is.0) ∷ is.1) is.3 name
  fault_stays old new digest read_fault.Device name is = fails_stays old new digest shelf_fault.Device name is
  fault_stays old new digest read_fault.OutOfMemory name (inl is) = fails_stays old new digest shelf_fault.OutOfMemory name is
  fault_stays old new digest read_fault.OutOfMemory name (inr is) =
      same_after did has keeps is.3 new (pieces_given is.7.0) is.7.3 name ∙ keeps.stays old is.3 (Table digest) name (Some is.0) is.6

  after_taken : (old new : S) (next : Wanted) (read : Option (List ℕ)) → IsTaken did old next read new → (name : ShelfName) → has new name ≡ has old name
  after_taken old new next (Some read) is name = same_after did has keeps old new (answers_of read) is.2 name
  after_taken old new next None (free, inl is) name = fault_stays old new next.digest read_fault.Missing name is
  after_taken old new next None (free, inr is) name = fault_stays old new next.digest read_fault.Damaged name is

  pub after_all : (old new : S) (taken : List Taken) → AreTaken did old taken new → (name : ShelfName) → has new name ≡ has old name
  after_all old new [] are name = ap (λ s. has s name) are
  after_all old new (t ∷ taken) are name = after_all are.0 new taken are.2 name ∙ after_taken old are.0 t.wanted t.file are.1 name

  take_stops : (old new : S) (next : Wanted) (why : OpenFault) (name : ShelfName) → IsTakeFault did old next why new → has new name ≡ has old name
  take_stops old new next (open_fault.MissingBlob digest) name is = fault_stays old new digest read_fault.Missing name is.1
  take_stops old new next (open_fault.DamagedBlob digest) name is = fault_stays old new digest read_fault.Damaged name is.1
  take_stops old new next open_fault.Device name is = fault_stays old new next.digest read_fault.Device name is
  take_stops old new next open_fault.OutOfMemory name (inl is) = fault_stays old new next.digest read_fault.OutOfMemory name is
  take_stops old new next open_fault.OutOfMemory name (inr is) = same_after did has keeps old new (answers_of is.0) is.1.2 name

  pub opening_stays : (old new : S) (wanted : List Wanted) (known : Contents) → IsOpened did old wanted known new → (name : ShelfName) → has new name ≡ has old name
  opening_stays old new wanted known is = after_all old new is.0 is.2

  pub no_opening_stays : (old new : S) (wanted : List Wanted) (why : OpenFault) → IsOpenFault did old wanted why new → (name : ShelfName) → has new name ≡ has old name
  no_opening_stays old new wanted why is name = take_stops is.3 new is.1 why name is.6 ∙ after_all old is.3 is.0 is.5 name

  -- a file that was read whole is there
  all_there : (s : S) (file : List ℕ) (pieces : List (List ℕ)) → AllByRecursion (λ (a : ShelfName × Option (List ℕ)). a.1 ≡ has s a.0) (map given pieces)
      → has s (table_of file).0 ≡ Some (table_of file).1 → HasAll has s (map part_of pieces ++ table_of file ∷ [])
  all_there s file [] all table = (table, tt)
  all_there s file (piece ∷ pieces) all table = (sym all.0, all_there s file pieces all.1 table)

  read_there : (old new : S) (digest : Digest) (file : List ℕ) → IsFileRead did old digest file new → HasFile has old file
  read_there old new digest file is =
      let all = given_there did has keeps old old new (answers_of file) (λ name. refl) is.2 in
      all_there old file (cut file) all.1 (sym all.0)

  one_there : (old new : S) (next : Wanted) (read : Option (List ℕ)) (known : Contents) (digest : Digest) (file : List ℕ)
      → ((digest : Digest) (file : List ℕ) → get known digest ≡ Some file → HasFile has old file) → IsTaken did old next read new
      → get (known_with known read) digest ≡ Some file → HasFile has old file
  one_there old new next None known digest file had is at = had digest file at
  one_there old new next (Some read) known digest file had is at = elim (known_or_added known read digest file at) [
    | inl was ↦ had digest file was
    | inr same ↦ subst (HasFile has old) (sym same) (read_there old new next.digest read is)
  ]

  each_there : (old new : S) (taken : List Taken) (known : Contents) → ((digest : Digest) (file : List ℕ) → get known digest ≡ Some file → HasFile has old file)
      → AreTaken did old taken new → (digest : Digest) (file : List ℕ) → get (with_taken known taken) digest ≡ Some file → HasFile has new file
  each_there old new [] known had are digest file at = subst (λ s. HasFile has s file) (sym are) (had digest file at)
  each_there old new (t ∷ taken) known had are digest file at =
      each_there are.0 new taken (known_with known t.file)
      (λ d f found. moved has old are.0 (things_of f) (after_taken old are.0 t.wanted t.file are.1) (one_there old are.0 t.wanted t.file known d f had are.1 found))
      are.2 digest file at

  pub known_there : (old new : S) (wanted : List Wanted) (known : Contents) → IsOpened did old wanted known new
      → (digest : Digest) (file : List ℕ) → get known digest ≡ Some file → HasFile has new file
  known_there old new wanted known is digest file at =
      each_there old new is.0 fin.empty
      (λ d f none. let wrong : None ≡ Some f = sym (fin.get-empty {X = List ℕ} digest_cmp d) ∙ none in absurd (cc wrong))
      is.2 digest file (ap (λ k. get k digest) (sym (is.3 ∙ with_taken-files fin.empty is.0)) ∙ at)

-- ---- a file that the shelf has

module _ {S : Type 0} (did : S → Call → S → Type 0) (has : S → ShelfName → Option (List ℕ)) (keeps : AlwaysKeeps did has) (file : List ℕ) (small : length file ≤ 16777216) where
  -- where its digest is taken, the file is read
  is_read : (old new : S) (next : Wanted) (read : Option (List ℕ)) → next.digest ≡ digest_of file → HasFile has old file → IsTaken did old next read new → read ≡ Some file
  is_read old new next (Some read) named there is =
      ap Some (file_given did has keeps old file there new read (subst (λ d. IsFileRead did old d read new) named is))
  is_read old new next None named there is = elim is.1 [
    | inl got ↦ absurd (file_not_missing did has keeps old file there new (subst (λ d. IsFileFault did old d read_fault.Missing new) named got))
    | inr fault ↦ absurd (file_not_damaged did has keeps old file there new small (subst (λ d. IsFileFault did old d read_fault.Damaged new) named fault))
  ]

  -- it isn't known yet, or it is known as it is
  abbrev Right : Contents → Type 0
  Right known = (get known (digest_of file) ≡ None) ⊎ (get known (digest_of file) ≡ Some file)

  known_here : (known : Contents) → Right known → get (with_file known file) (digest_of file) ≡ Some file
  known_here known (inl none) = get_added known (with_file known file) file file refl refl none
  known_here known (inr some) = get_same known file file some

  stays_right : (known : Contents) (next : Wanted) (read : Option (List ℕ)) (old new : S) → next.digest ≢ digest_of file → IsTaken did old next read new
      → get (known_with known read) (digest_of file) ≡ get known (digest_of file)
  stays_right known next None old new differ is = refl
  stays_right known next (Some read) old new differ is = get_other known read (digest_of file) (λ e. differ (sym is.0 ∙ sym e))

  -- whatever is taken afterwards, it stays
  known_still : (old new : S) (taken : List Taken) (known : Contents) → HasFile has old file → AreTaken did old taken new → get known (digest_of file) ≡ Some file
      → get (with_taken known taken) (digest_of file) ≡ Some file
  known_still old new [] known there are e = e
  known_still old new (t ∷ taken) known there are e =
      let later = moved has old are.0 (things_of file) (after_taken did has keeps old are.0 t.wanted t.file are.1) there in
      let now : get (known_with known t.file) (digest_of file) ≡ Some file = elim (same_digest t.wanted.digest (digest_of file)) [
        | inl same ↦ ap (λ o. get (known_with known o) (digest_of file)) (is_read old are.0 t.wanted t.file same there are.1) ∙ known_here known (inr e)
        | inr differ ↦ stays_right known t.wanted t.file old are.0 differ are.1 ∙ e
      ] in
      known_still are.0 new taken (known_with known t.file) later are.2 now

  known_after : (old new : S) (taken : List Taken) (known : Contents) (one : Wanted) → one.digest ≡ digest_of file → HasFile has old file → AreTaken did old taken new
      → get known (digest_of file) ≡ None → Contains (map (λ t. t.wanted) taken) one → get (with_taken known taken) (digest_of file) ≡ Some file
  known_after old new [] known one named there are none wanted = absurd (contains_none one wanted)
  known_after old new (t ∷ taken) known one named there are none wanted =
      let later = moved has old are.0 (things_of file) (after_taken did has keeps old are.0 t.wanted t.file are.1) there in
      elim (same_digest t.wanted.digest (digest_of file)) [
        | inl same ↦
            let now = ap (λ o. get (known_with known o) (digest_of file)) (is_read old are.0 t.wanted t.file same there are.1) ∙ known_here known (inl none) in
            known_still are.0 new taken (known_with known t.file) later are.2 now
        | inr differ ↦ elim (first_or t.wanted (map (λ t. t.wanted) taken) wanted) [
          | inl is ↦ absurd (differ (ap (λ (w : Wanted). w.digest) is ∙ named))
          | inr more ↦ known_after are.0 new taken (known_with known t.file) one named later are.2 (stays_right known t.wanted t.file old are.0 differ are.1 ∙ none) more
        ]
      ]

  pub is_known : (old new : S) (wanted : List Wanted) (one : Wanted) (known : Contents) → HasFile has old file → Contains wanted one → one.digest ≡ digest_of file
      → IsOpened did old wanted known new → get known (digest_of file) ≡ Some file
  is_known old new wanted one known there among named is =
      ap (λ k. get k (digest_of file)) (is.3 ∙ with_taken-files fin.empty is.0)
      ∙ known_after old new is.0 fin.empty one named there is.2 (fin.get-empty {X = List ℕ} digest_cmp (digest_of file)) (subst (λ l. Contains l one) (sym is.1) among)

  pub not_missing : (old new : S) (wanted : List Wanted) → HasFile has old file → IsOpenFault did old wanted (open_fault.MissingBlob (digest_of file)) new → ⊥
  not_missing old new wanted there is =
      let later = moved has old is.3 (things_of file) (after_all did has keeps old is.3 is.0 is.5) there in
      file_not_missing did has keeps is.3 file later new is.6.1

  pub not_damaged : (old new : S) (wanted : List Wanted) → HasFile has old file → IsOpenFault did old wanted (open_fault.DamagedBlob (digest_of file)) new → ⊥
  not_damaged old new wanted there is =
      let later = moved has old is.3 (things_of file) (after_all did has keeps old is.3 is.0 is.5) there in
      file_not_damaged did has keeps is.3 file later new small is.6.1
