-- What a shelf gives that keeps what is put on it.
use Rattle.std.proofs.Common.{◌≡◌, ◌≢◌, ◌⊎◌, inl, inr, ℕ, ◌≤◌, true, false, List, [], ◌∷◌, ◌++◌, Option, Some, None, length, map, refl, sym, ap, subst, ◌∙◌, arith}
use Rattle.std.proofs.lemmas.Cmp.{eq_by_cmp_equiv}
use Rattle.std.proofs.lemmas.List.Elements.{All-contains, All-contains_itself, All-from_recursion, Contains-append_cases, Contains-append_left, Contains-append_right, Contains-push, Contains-push_cases, recursion_from_All}
use Rattle.std.specs.List.{AllByRecursion, Contains, concat}
use Rattle.std.specs.Ordering.{eq_by_cmp, is_eq}
use Rattle.std.specs.declared.cmp.Ordering.{Ordering}
use Rattle.std.specs.declared.cmp.Ordering.TheVariants.{Less, Equal, Greater}
use Rattle.host_names.specs.declared.digests.Digest.{Digest}
use Rattle.host_names.specs.Digests.{digest_cmp, digest_cmp_total, digest_cmp-IsAntisymmetric, digest_of}
use Rattle.byte_view.specs.Contents.{Contents}
use Rattle.byte_view.specs.Cuts.{cut, names_of}
use Rattle.byte_view.proofs.CutPieces.{concat-cut}
use Rattle.blob_store.specs.declared.shelves.ShelfName.{ShelfName}
use Rattle.blob_store.specs.declared.shelves.ShelfName.TheVariants.{Part, Table}
use Rattle.chunk_reads.specs.declared.faults.ReadFault.{ReadFault}
use Rattle.chunk_reads.specs.declared.faults.ReadFault.TheVariants as read_fault
use Rattle.blob_store.specs.declared.blobs.UploadFault.{UploadFault}
use Rattle.blob_store.specs.declared.blobs.UploadFault.TheVariants as upload_fault
use Rattle.blob_store.specs.declared.shelves.ShelfFault.{ShelfFault}
use Rattle.blob_store.specs.declared.shelves.ShelfFault.TheVariants as shelf_fault
use Rattle.blob_store.specs.Calls.{AreKnownNames, AreOnceEach, Call, IsKnownName, Put, PutFails, Got, PutsFile, PutsInTurn, part_of, table_of, things_of}
use Rattle.blob_store.specs.Faults.{HasPutSome, IsChunkFault}
use Rattle.blob_store.specs.Keeping.{Agree, AgreeWithKnown, AlwaysKeeps, HasAll, HasEach, HasFile, Thing}
use Rattle.blob_store.specs.Reads.{Answers, GivesInTurn, IsFileFault, IsFileRead, answers_of, pieces_given}
use Rattle.blob_store.specs.Tables.{text_of}
use Rattle.blob_store.proofs.FileReads.{all_named, digest_in, given}
use Rattle.blob_store.proofs.TableTexts.{names_told}

-- ---- names

is_eq-true : (o : Ordering) → is_eq o ≡ true → o ≡ Equal
is_eq-true Less e = cc e
is_eq-true Equal e = refl
is_eq-true Greater e = cc e

pub same_digest : (a b : Digest) → (a ≡ b) ⊎ (a ≢ b)
same_digest a b =
    elim (eq_by_cmp digest_cmp a b) as (λ t. eq_by_cmp digest_cmp a b ≡ t → (a ≡ b) ⊎ (a ≢ b)) [
      | true ↦ λ e. inl (digest_cmp-IsAntisymmetric a b (is_eq-true _ e))
      | false ↦ λ e. inr (λ same.
          let tie : eq_by_cmp digest_cmp a b ≡ true = ap (eq_by_cmp digest_cmp a) (sym same) ∙ (eq_by_cmp_equiv digest_cmp_total).refl a in
          let wrong : true ≡ false = sym tie ∙ e in
          absurd (cc wrong))
    ] refl

same_name : (a b : ShelfName) → (a ≡ b) ⊎ (a ≢ b)
same_name (Part a) (Part b) = elim (same_digest a b) [
  | inl same ↦ inl (ap Part same)
  | inr differ ↦ inr (λ e. differ (ap digest_in e))
]
same_name (Table a) (Table b) = elim (same_digest a b) [
  | inl same ↦ inl (ap Table same)
  | inr differ ↦ inr (λ e. differ (ap digest_in e))
]
same_name (Part a) (Table b) = inr (λ e. absurd (cc e))
same_name (Table a) (Part b) = inr (λ e. absurd (cc e))

-- ---- what is there after puts

fewer : (t : Thing) (things more : List Thing) → Agree more (t ∷ things) → Agree more things
fewer t things [] agree = tt
fewer t things (m ∷ more) agree = (agree.0.1, fewer t things more agree.1)

-- what holds of all holds of some of them
all_of : {X : Type 0} (P : X → Type 0) (xs some : List X) → AllByRecursion P xs → AllByRecursion (Contains xs) some → AllByRecursion P some
all_of P xs [] all among = tt
all_of P xs (x ∷ some) all among = (All-contains P xs x (All-from_recursion P xs all) among.0, all_of P xs some all among.1)

agreed : (things others : List Thing) → Agree things others → (thing other : Thing) → Contains things thing → Contains others other → thing.0 ≡ other.0 → thing.1 ≡ other.1
agreed things others agree thing other in_things in_others =
    let Same : Thing → Thing → Type 0 = λ t o. t.0 ≡ o.0 → t.1 ≡ o.1 in
    let each = All-contains (λ t. AllByRecursion (Same t) others) things thing (All-from_recursion (λ t. AllByRecursion (Same t) others) things agree) in_things in
    All-contains (Same thing) others other (All-from_recursion (Same thing) others each) in_others

each_weaker : {X : Type 0} (P Q : X → Type 0) → ((x : X) → P x → Q x) → (xs : List X) → AllByRecursion P xs → AllByRecursion Q xs
each_weaker P Q weaker [] all = tt
each_weaker P Q weaker (x ∷ xs) all = (weaker x all.0, each_weaker P Q weaker xs all.1)

parts_among : (pieces : List (List ℕ)) → AllByRecursion (λ p. Contains (map part_of pieces) (part_of p)) pieces
parts_among [] = tt
parts_among (p ∷ pieces) = (
  Contains-append_left (part_of p ∷ []) (map part_of pieces) (part_of p) (Contains-push [] (part_of p)),
  each_weaker (λ q. Contains (map part_of pieces) (part_of q)) (λ q. Contains (part_of p ∷ map part_of pieces) (part_of q))
      (λ q there. Contains-append_right (part_of p ∷ []) (map part_of pieces) (part_of q) there) pieces (parts_among pieces),
)

part_among : (pieces : List (List ℕ)) (piece : List ℕ) → Contains pieces piece → Contains (map part_of pieces) (part_of piece)
part_among pieces piece among = All-contains (λ p. Contains (map part_of pieces) (part_of p)) pieces piece (All-from_recursion (λ p. Contains (map part_of pieces) (part_of p)) pieces (parts_among pieces)) among

-- a name among those of pieces is that of one of them
piece_named : (pieces : List (List ℕ)) (name : Digest) → Contains (map digest_of pieces) name → (piece : List ℕ) × Contains pieces piece × (digest_of piece ≡ name)
piece_named [] name there = absurd (let below = there.1 in omega (arith, below))
piece_named (p ∷ pieces) name there = elim (Contains-append_cases (digest_of p ∷ []) (map digest_of pieces) name there) [
  | inl one ↦ elim (Contains-push_cases [] (digest_of p) name one) [
    | inl none ↦ absurd (let below = none.1 in omega (arith, below))
    | inr is ↦ (p, Contains-append_left (p ∷ []) pieces p (Contains-push [] p), is)
  ]
  | inr later ↦
      let (q, among, is) = piece_named pieces name later in
      (q, Contains-append_right (p ∷ []) pieces q among, is)
]

-- a shelf that has the same has the same things
pub moved : {S : Type 0} (has : S → ShelfName → Option (List ℕ)) (old new : S) (things : List Thing) → ((name : ShelfName) → has new name ≡ has old name) → HasAll has old things
    → HasAll has new things
moved has old new [] same are = tt
moved has old new (t ∷ things) same are = (same t.0 ∙ are.0, moved has old new things same are.1)

abbrev pub some_bytes : Option (List ℕ) → List ℕ
some_bytes None = []
some_bytes (Some bytes) = bytes

module _ {S : Type 0} (did : S → Call → S → Type 0) (has : S → ShelfName → Option (List ℕ)) (keeps : AlwaysKeeps did has) where
  one_put : (old new : S) (name : ShelfName) (bytes : List ℕ) (t : Thing) → (name ≡ t.0 → bytes ≡ t.1) → did old (Put t.0 t.1) new → has old name ≡ Some bytes → has new name ≡ Some bytes
  one_put old new name bytes t agree put had = elim (same_name name t.0) [
    | inl same ↦ ap (has new) same ∙ keeps.put old new t.0 t.1 put ∙ ap Some (sym (agree same))
    | inr differ ↦ keeps.others old new t.0 name t.1 put differ ∙ had
  ]

  put_not : (old new : S) (name : ShelfName) (bytes : List ℕ) (t : Thing) (why : ShelfFault) → (name ≡ t.0 → bytes ≡ t.1) → did old (PutFails t.0 t.1 why) new
      → has old name ≡ Some bytes → has new name ≡ Some bytes
  put_not old new name bytes t why agree fails had = elim (same_name name t.0) [
    | inl same ↦ elim (keeps.put_fails old new t.0 t.1 why fails) [
      | inl stays ↦ ap (has new) same ∙ stays ∙ ap (has old) (sym same) ∙ had
      | inr put ↦ ap (has new) same ∙ put ∙ ap Some (sym (agree same))
    ]
    | inr differ ↦ keeps.put_fails_others old new t.0 name t.1 why fails differ ∙ had
  ]

  stays_there : (old new : S) (name : ShelfName) (bytes : List ℕ) (things : List Thing) (outcome : Option ShelfFault)
      → AllByRecursion (λ (t : Thing). name ≡ t.0 → bytes ≡ t.1) things → PutsInTurn did old things outcome new → has old name ≡ Some bytes → has new name ≡ Some bytes
  stays_there old new name bytes [] outcome agree puts had = ap (λ s. has s name) puts.1 ∙ had
  stays_there old new name bytes (t ∷ things) outcome agree (inl fails) had = put_not old new name bytes t fails.0 agree.0 fails.2 had
  stays_there old new name bytes (t ∷ things) outcome agree (inr puts) had =
      stays_there puts.0 new name bytes things outcome agree.1 puts.2 (one_put old puts.0 name bytes t agree.0 puts.1 had)

  -- what was put is there
  all_there : (old new : S) (things : List Thing) → Agree things things → PutsInTurn did old things None new → HasAll has new things
  all_there old new [] agree puts = tt
  all_there old new (t ∷ things) agree (inl fails) = absurd (cc fails.1)
  all_there old new (t ∷ things) agree (inr puts) = (
    stays_there puts.0 new t.0 t.1 things None agree.0.1 puts.2 (keeps.put old puts.0 t.0 t.1 puts.1),
    all_there puts.0 new things (fewer t things things agree.1) puts.2,
  )

  -- what was there still is
  still_there : (old new : S) (had things : List Thing) (outcome : Option ShelfFault) → Agree had things → PutsInTurn did old things outcome new → HasAll has old had
      → HasAll has new had
  still_there old new [] things outcome agree puts are = tt
  still_there old new (h ∷ had) things outcome agree puts are =
      (stays_there old new h.0 h.1 things outcome agree.0 puts are.0, still_there old new had things outcome agree.1 puts are.1)

  -- what a file puts is of its things
  puts_among : (file : List ℕ) (pieces : List (List ℕ)) → AllByRecursion (Contains (cut file)) pieces
      → AllByRecursion (Contains (things_of file)) (map part_of pieces ++ table_of file ∷ [])
  puts_among file [] among = (Contains-push (map part_of (cut file)) (table_of file), tt)
  puts_among file (piece ∷ pieces) among =
      (Contains-append_left (map part_of (cut file)) (table_of file ∷ []) (part_of piece) (part_among (cut file) piece among.0), puts_among file pieces among.1)

  -- so it agrees with what these agree with
  agree_puts : (had : List Thing) (file : List ℕ) (pieces : List (List ℕ)) → AllByRecursion (Contains (cut file)) pieces → Agree had (things_of file)
      → Agree had (map part_of pieces ++ table_of file ∷ [])
  agree_puts [] file pieces among agree = tt
  agree_puts (h ∷ had) file pieces among agree = (
    all_of (λ other. h.0 ≡ other.0 → h.1 ≡ other.1) (things_of file) (map part_of pieces ++ table_of file ∷ []) agree.0 (puts_among file pieces among),
    agree_puts had file pieces among agree.1,
  )

  agree_front : (had others more : List Thing) → AllByRecursion (Contains had) more → Agree had others → Agree more others
  agree_front had others more among agree = all_of (λ thing. AllByRecursion (λ (other : Thing). thing.0 ≡ other.0 → thing.1 ≡ other.1) others) had more agree among

  its_table : (new : S) (file : List ℕ) (pieces : List (List ℕ)) → HasAll has new (map part_of pieces ++ table_of file ∷ []) → has new (table_of file).0 ≡ Some (table_of file).1
  its_table new file [] are = are.0
  its_table new file (p ∷ pieces) are = its_table new file pieces are.1

  -- what was there still is, wherever the putting of a file ended
  pub still_there_after : (known : Contents) (old new : S) (had : List Thing) (file : List ℕ) (outcome : Option ShelfFault) → Agree had (things_of file)
      → PutsFile did known old file outcome new → HasAll has old had → HasAll has new had
  still_there_after known old new had file outcome agree (stored, names, (pieces, once, puts)) are =
      still_there old new had (map part_of pieces ++ table_of file ∷ []) outcome (agree_puts had file pieces once.among agree) puts are

  -- a stored name is that of a piece of a known file, which was there, and is this one
  stored_piece : (known : Contents) (old new : S) (file piece : List ℕ) (outcome : Option ShelfFault) → AgreeWithKnown known file → HasEach has old known → Contains (cut file) piece
      → IsKnownName known (digest_of piece) → PutsFile did known old file outcome new → has new (Part (digest_of piece)) ≡ Some piece
  stored_piece known old new file piece outcome agree there of (digest, other, at, named) puts =
      let things = things_of other in
      let (q, among, is) = piece_named (cut other) (digest_of piece) named in
      let in_things = Contains-append_left (map part_of (cut other)) (table_of other ∷ []) (part_of q) (part_among (cut other) q among) in
      let in_own = Contains-append_left (map part_of (cut file)) (table_of file ∷ []) (part_of piece) (part_among (cut file) piece of) in
      let same : q ≡ piece = agreed things (things_of file) (agree digest other at) (part_of q) (part_of piece) in_things in_own (ap Part is) in
      let P : Thing → Type 0 = λ t. has new t.0 ≡ Some t.1 in
      let are = still_there_after known old new things file outcome (agree digest other at) puts (there digest other at) in
      let has_it : has new (Part (digest_of q)) ≡ Some q = All-contains P things (part_of q) (All-from_recursion P things are) in_things in
      ap (λ d. has new (Part d)) (sym is) ∙ has_it ∙ ap Some same

  -- a piece is there, since one of its name is, and is the same
  its_piece : (new : S) (file piece : List ℕ) (pieces : List (List ℕ)) → Agree (things_of file) (things_of file) → Contains (cut file) piece
      → AllByRecursion (Contains (cut file)) pieces → Contains (map digest_of pieces) (digest_of piece) → HasAll has new (map part_of pieces ++ table_of file ∷ [])
      → has new (Part (digest_of piece)) ≡ Some piece
  its_piece new file piece [] agree of among put are = absurd (let below = put.1 in omega (arith, below))
  its_piece new file piece (p ∷ pieces) agree of among put are = elim (Contains-append_cases (digest_of p ∷ []) (map digest_of pieces) (digest_of piece) put) [
    | inl one ↦ elim (Contains-push_cases [] (digest_of p) (digest_of piece) one) [
      | inl none ↦ absurd (let below = none.1 in omega (arith, below))
      | inr is ↦
          let things = things_of file in
          let in_things : (q : List ℕ) → Contains (cut file) q → Contains things (part_of q) =
          λ q there. Contains-append_left (map part_of (cut file)) (table_of file ∷ []) (part_of q) (part_among (cut file) q there) in
          let same : p ≡ piece = agreed things things agree (part_of p) (part_of piece) (in_things p among.0) (in_things piece of) (ap Part is) in
          ap (λ d. has new (Part d)) (sym is) ∙ are.0 ∙ ap Some same
    ]
    | inr later ↦ its_piece new file piece pieces agree of among.1 later are.1
  ]

  all_pieces : (known : Contents) (old new : S) (file : List ℕ) (stored : List Digest) (pieces : List (List ℕ)) → Agree (things_of file) (things_of file)
      → AgreeWithKnown known file → HasEach has old known → AreKnownNames known stored → PutsFile did known old file None new → AreOnceEach stored (cut file) pieces
      → HasAll has new (map part_of pieces ++ table_of file ∷ [])
      → (some : List (List ℕ)) → AllByRecursion (Contains (cut file)) some
      → AllByRecursion (λ piece. Contains stored (digest_of piece) ⊎ Contains (map digest_of pieces) (digest_of piece)) some
      → HasAll has new (map part_of some ++ table_of file ∷ [])
  all_pieces known old new file stored pieces agree others there names puts once are [] of met = (its_table new file pieces are, tt)
  all_pieces known old new file stored pieces agree others there names puts once are (piece ∷ some) of met =
      let rest = all_pieces known old new file stored pieces agree others there names puts once are some of.1 met.1 in
      let here : has new (Part (digest_of piece)) ≡ Some piece = elim met.0 [
        | inl is ↦ stored_piece known old new file piece None others there of.0 (names (digest_of piece) is) puts
        | inr put ↦ its_piece new file piece pieces agree of.0 once.among put are
      ] in
      (here, rest)

  -- a file that was put is there
  pub file_put : (known : Contents) (old new : S) (file : List ℕ) → Agree (things_of file) (things_of file) → AgreeWithKnown known file → HasEach has old known
      → PutsFile did known old file None new → HasFile has new file
  file_put known old new file agree others there is =
      let (stored, names, (pieces, once, puts)) = is in
      let among = once.among in
      let things = map part_of pieces ++ table_of file ∷ [] in
      let own = agree_front (things_of file) things things (puts_among file pieces among) (agree_puts (things_of file) file pieces among agree) in
      let are = all_there old new things own puts in
      let themselves = recursion_from_All (Contains (cut file)) (cut file) (All-contains_itself (cut file)) in
      all_pieces known old new file stored pieces agree others there names is once are (cut file) themselves once.each

  module _ (known : Contents) (old new : S) (had : List Thing) (file : List ℕ) where
    pub there_after_fault : (fault : UploadFault) → Agree had (things_of file) → HasPutSome did known old file fault new → HasAll has old had → HasAll has new had
    there_after_fault upload_fault.TooLarge agree (inl same) are = subst (λ s. HasAll has s had) (sym same) are
    there_after_fault upload_fault.Device agree (inl puts) are = still_there_after known old new had file (Some shelf_fault.Device) agree puts are
    there_after_fault upload_fault.OutOfMemory agree (inl (inl same)) are = subst (λ s. HasAll has s had) (sym same) are
    there_after_fault upload_fault.OutOfMemory agree (inl (inr puts)) are = still_there_after known old new had file (Some shelf_fault.OutOfMemory) agree puts are
    there_after_fault fault agree (inr puts) are = still_there_after known old new had file None agree puts.1 are

  -- ---- what is given

  pub same_after : (old new : S) (answers : Answers) → GivesInTurn did old answers new → (name : ShelfName) → has new name ≡ has old name
  same_after old new [] gives name = ap (λ s. has s name) gives
  same_after old new (a ∷ answers) gives name = same_after gives.0 new answers gives.2 name ∙ keeps.stays old gives.0 a.0 name a.1 gives.1

  -- each answer is what is there
  -- nor does a chunk that can't be read
  pub chunk_stays : (old new : S) (asked : Digest) (why : ReadFault) (name : ShelfName) → IsChunkFault did old asked why new → has new name ≡ has old name
  chunk_stays old new asked read_fault.Missing name fault = keeps.stays old new (Part asked) name None fault
  chunk_stays old new asked read_fault.Damaged name fault = keeps.stays old new (Part asked) name (Some fault.0) fault.2
  chunk_stays old new asked read_fault.Device name fault = keeps.get_fails old new (Part asked) name shelf_fault.Device fault
  chunk_stays old new asked read_fault.OutOfMemory name fault = keeps.get_fails old new (Part asked) name shelf_fault.OutOfMemory fault

  pub given_there : (first old new : S) (answers : Answers) → ((name : ShelfName) → has old name ≡ has first name) → GivesInTurn did old answers new
      → AllByRecursion (λ (a : ShelfName × Option (List ℕ)). a.1 ≡ has first a.0) answers
  given_there first old new [] same gives = tt
  given_there first old new (a ∷ answers) same gives = (
    keeps.got old gives.0 a.0 a.1 gives.1 ∙ same a.0,
    given_there first gives.0 new answers (λ name. keeps.stays old gives.0 a.0 name a.1 gives.1 ∙ same name) gives.2,
  )

  pieces_there : (s : S) (pieces : List (List ℕ)) (t : Thing) → HasAll has s (map (λ piece. (Part (digest_of piece), piece)) pieces ++ t ∷ [])
      → AllByRecursion (λ piece. has s (Part (digest_of piece)) ≡ Some piece) pieces × (has s t.0 ≡ Some t.1)
  pieces_there s [] t all = (tt, all.0)
  pieces_there s (piece ∷ pieces) t all =
      let rest = pieces_there s pieces t all.1 in
      ((all.0, rest.0), rest.1)

  module _ (s : S) (file : List ℕ) (there : HasFile has s file) where
    pub parts : AllByRecursion (λ piece. has s (Part (digest_of piece)) ≡ Some piece) (cut file)
    parts = (pieces_there s (cut file) (Table (digest_of file), text_of (length file) (names_of file)) there).0

    table : has s (Table (digest_of file)) ≡ Some (text_of (length file) (names_of file))
    table = (pieces_there s (cut file) (Table (digest_of file), text_of (length file) (names_of file)) there).1

    pub part_there : (piece : List ℕ) → Contains (cut file) piece → has s (Part (digest_of piece)) ≡ Some piece
    part_there piece among =
        All-contains (λ piece. has s (Part (digest_of piece)) ≡ Some piece) (cut file) piece
        (All-from_recursion (λ piece. has s (Part (digest_of piece)) ≡ Some piece) (cut file) parts) among

    -- a piece that is asked for is given
    pub piece_given : (new : S) (piece chunk : List ℕ) → Contains (cut file) piece → did s (Got (Part (digest_of piece)) (Some chunk)) new → chunk ≡ piece
    piece_given new piece chunk among got =
        let same : Some chunk ≡ Some piece = keeps.got s new (Part (digest_of piece)) (Some chunk) got ∙ part_there piece among in
        ap some_bytes same

    pub piece_not_missing : (new : S) (piece : List ℕ) → Contains (cut file) piece → IsChunkFault did s (digest_of piece) read_fault.Missing new → ⊥
    piece_not_missing new piece among got =
        let wrong : None ≡ Some piece = keeps.got s new (Part (digest_of piece)) None got ∙ part_there piece among in
        absurd (cc wrong)

    pub piece_not_damaged : (new : S) (piece : List ℕ) → Contains (cut file) piece → IsChunkFault did s (digest_of piece) read_fault.Damaged new → ⊥
    piece_not_damaged new piece among fault = fault.1 (ap digest_of (piece_given new piece fault.0 among fault.2))

    pub same_pieces : (pieces others : List (List ℕ)) → AllByRecursion (λ piece. has s (Part (digest_of piece)) ≡ Some piece) pieces
        → AllByRecursion (λ (a : ShelfName × Option (List ℕ)). a.1 ≡ has s a.0) (map given others) → map digest_of others ≡ map digest_of pieces → others ≡ pieces
    same_pieces [] [] are gives e = refl
    same_pieces [] (o ∷ others) are gives e = absurd (cc e)
    same_pieces (p ∷ pieces) [] are gives e = absurd (cc e)
    same_pieces (p ∷ pieces) (o ∷ others) are gives e =
        let named : digest_of o ≡ digest_of p = cc e in
        let rest : map digest_of others ≡ map digest_of pieces = cc e in
        let same : Some o ≡ Some p = gives.0 ∙ ap (λ d. has s (Part d)) named ∙ are.0 in
        ap (λ piece. piece ∷ others) (ap some_bytes same) ∙ ap (λ l. p ∷ l) (same_pieces pieces others are.1 gives.1 rest)

    -- a file that is read under this digest is this file
    pub file_given : (new : S) (read : List ℕ) → IsFileRead did s (digest_of file) read new → read ≡ file
    file_given new read is =
        let gives = given_there s s new (answers_of read) (λ name. refl) is.2 in
        let text : Some (text_of (length read) (names_of read)) ≡ Some (text_of (length file) (names_of file)) = gives.0 ∙ ap (λ d. has s (Table d)) is.0 ∙ table in
        let named = names_told (length read) (length file) (names_of read) (names_of file) (all_named (cut read)) (all_named (cut file)) (ap some_bytes text) in
        sym (concat-cut read) ∙ ap concat (same_pieces (cut file) (cut read) parts gives.1 named) ∙ concat-cut file

    pub file_not_missing : (new : S) → IsFileFault did s (digest_of file) read_fault.Missing new → ⊥
    file_not_missing new got =
        let wrong : None ≡ Some (text_of (length file) (names_of file)) = keeps.got s new (Table (digest_of file)) None got ∙ table in
        absurd (cc wrong)

    begins : (pieces : List (List ℕ)) (answers : Answers) (later : List ShelfName) → map Part (map digest_of pieces) ≡ map (λ a. a.0) answers ++ later
        → AllByRecursion (λ (a : ShelfName × Option (List ℕ)). a.1 ≡ has s a.0) answers → AllByRecursion (λ piece. has s (Part (digest_of piece)) ≡ Some piece) pieces
        → (rest : Answers) × (map given pieces ≡ answers ++ rest)
    begins pieces [] later e gives are = (map given pieces, refl)
    begins [] (a ∷ answers) later e gives are = absurd (cc e)
    begins (p ∷ pieces) (a ∷ answers) later e gives are =
        let name : Part (digest_of p) ≡ a.0 = cc e in
        let names : map Part (map digest_of pieces) ≡ map (λ a. a.0) answers ++ later = cc e in
        let value : Some p ≡ a.1 = sym are.0 ∙ ap (has s) name ∙ sym gives.0 in
        let one : given p ≡ a = ap (λ n. (n, Some p)) name ∙ ap (λ v. (a.0, v)) value in
        let rest = begins pieces answers later names gives.1 are.1 in
        (rest.0, ap (λ x. x ∷ map given pieces) one ∙ ap (λ l. a ∷ l) rest.1)

    pub file_not_damaged : (new : S) → length file ≤ 16777216 → IsFileFault did s (digest_of file) read_fault.Damaged new → ⊥
    file_not_damaged new small fault =
        let text = fault.0 in
        let answers = fault.1 in
        let gives = given_there s s new ((Table (digest_of file), Some text) ∷ answers) (λ name. refl) fault.3 in
        let some : Some text ≡ Some (text_of (length file) (names_of file)) = gives.0 ∙ table in
        let told : text ≡ text_of (length file) (names_of file) = ap some_bytes some in
        let front : (rest : Answers) × (pieces_given file ≡ answers ++ rest) = elim fault.2 [
          | inl none ↦ (pieces_given file, ap (λ l. l ++ pieces_given file) (sym none))
          | inr asked ↦
              let named : names_of file ≡ asked.1 = names_told (length file) asked.0 (names_of file) asked.1 (all_named (cut file))
              (recursion_from_All (λ (name : Digest). length name.0 ≡ 20) asked.1 asked.2.named) (sym told ∙ asked.2.spelled) in
              begins (cut file) answers (map Part asked.3.2) (ap (map Part) named ∙ asked.3.5) gives.1 parts
        ] in
        fault.4 file front.0 small refl (ap (λ t. (Table (digest_of file), Some t) ∷ pieces_given file) (sym told) ∙ ap (λ l. (Table (digest_of file), Some text) ∷ l) front.1)
