-- Of a shelf that is honest at the end, each call before was honest.
use Rattle.std.specs.Prelude.{IsTrue}
use Rattle.std.proofs.Common.{Bool, inl, inr, ℕ, List, [], ◌∷◌, Option, Some, None, subst}
use Rattle.host_names.specs.declared.digests.Digest.{Digest}
use Rattle.byte_view.specs.Contents.{Contents}
use Rattle.blob_store.specs.declared.shelves.ShelfFault.{ShelfFault}
use Rattle.blob_store.specs.declared.shelves.ShelfFault.TheVariants as shelf_fault
use Rattle.blob_store.specs.declared.shelves.ShelfName.TheVariants.{Part, Table}
use Rattle.chunk_reads.specs.declared.faults.ReadFault.{ReadFault}
use Rattle.chunk_reads.specs.declared.faults.ReadFault.TheVariants as read_fault
use Rattle.blob_store.specs.declared.blobs.UploadFault.{UploadFault}
use Rattle.blob_store.specs.declared.blobs.UploadFault.TheVariants as upload_fault
use Rattle.blob_store.specs.declared.openings.OpenFault.{OpenFault}
use Rattle.blob_store.specs.declared.openings.OpenFault.TheVariants as open_fault
use Rattle.blob_store.specs.declared.openings.Wanted.{Wanted}
use Rattle.blob_store.specs.Calls.{Call, Got, GetFails, Put, PutFails, PutsFile, PutsInTurn}
use Rattle.blob_store.specs.Faults.{HasPutPart, HasPutSome, IsChunkFault}
use Rattle.blob_store.specs.Keeping.{Keeps, Thing, Where}
use Rattle.blob_store.specs.Openings.{AreTaken, IsOpenFault, IsOpened, IsTaken, IsTakeFault, Taken}
use Rattle.blob_store.specs.Reads.{Answers, FailsAtFile, FailsAtPiece, GivesFirst, GivesInTurn, IsFileFault, IsFileRead, answers_of, pieces_given}
use Rattle.blob_store.specs.declared.shelves.ShelfName.{ShelfName}

module _ {S : Type 0} (did : S → Call → S → Type 0) (honest : S → Bool) (has : S → ShelfName → Option (List ℕ)) (keeps : Keeps did honest has) where
  -- the calls of a shelf that is honest after each
  abbrev pub Well : S → Call → S → Type 0
  Well = Where honest did

  pub gives : (old new : S) (answers : Answers) → IsTrue (honest new) → GivesInTurn did old answers new → IsTrue (honest old) × GivesInTurn Well old answers new
  gives old new [] so is = (subst (λ s. IsTrue (honest s)) is so, is)
  gives old new (a ∷ answers) so is =
      let rest = gives is.0 new answers so is.2 in
      (keeps.before old is.0 (Got a.0 a.1) is.1 rest.0, (is.0, (is.1, rest.0), rest.1))

  pub puts : (old new : S) (things : List Thing) (fault : Option ShelfFault) → IsTrue (honest new) → PutsInTurn did old things fault new → IsTrue (honest old) × PutsInTurn Well old things fault new
  puts old new [] fault so is = (subst (λ s. IsTrue (honest s)) is.1 so, is)
  puts old new (t ∷ things) fault so (inl is) = (keeps.before old new (PutFails t.0 t.1 is.0) is.2 so, inl (is.0, is.1, (is.2, so)))
  puts old new (t ∷ things) fault so (inr is) =
      let rest = puts is.0 new things fault so is.2 in
      (keeps.before old is.0 (Put t.0 t.1) is.1 rest.0, inr (is.0, (is.1, rest.0), rest.1))

  pub puts_file : (known : Contents) (old new : S) (file : List ℕ) (fault : Option ShelfFault) → IsTrue (honest new) → PutsFile did known old file fault new
      → IsTrue (honest old) × PutsFile Well known old file fault new
  puts_file known old new file fault so (stored, are, (pieces, once, is)) =
      let all = puts old new _ fault so is in
      (all.0, (stored, are, (pieces, once, all.1)))

  module _ (known : Contents) (old new : S) (file : List ℕ) where
    put_part : (why : UploadFault) → IsTrue (honest new) → HasPutPart did known old file why new → IsTrue (honest old) × HasPutPart Well known old file why new
    put_part upload_fault.TooLarge so is = (subst (λ s. IsTrue (honest s)) is so, is)
    put_part upload_fault.Device so is = puts_file known old new file (Some shelf_fault.Device) so is
    put_part upload_fault.OutOfMemory so (inl same) = (subst (λ s. IsTrue (honest s)) same so, inl same)
    put_part upload_fault.OutOfMemory so (inr is) =
        let all = puts_file known old new file (Some shelf_fault.OutOfMemory) so is in
        (all.0, inr all.1)

    pub put_some : (why : UploadFault) → IsTrue (honest new) → HasPutSome did known old file why new → IsTrue (honest old) × HasPutSome Well known old file why new
    put_some why so (inl part) =
        let all = put_part why so part in
        (all.0, inl all.1)
    put_some why so (inr whole) =
        let all = puts_file known old new file None so whole.1 in
        (all.0, inr (whole.0, all.1))

  -- ---- reads

  pub chunk : (old new : S) (name : Digest) (why : ReadFault) → IsTrue (honest new) → IsChunkFault did old name why new → IsTrue (honest old) × IsChunkFault Well old name why new
  chunk old new name read_fault.Missing so is = (keeps.before old new (Got (Part name) None) is so, (is, so))
  chunk old new name read_fault.Damaged so is = (keeps.before old new (Got (Part name) (Some is.0)) is.2 so, (is.0, is.1, (is.2, so)))
  chunk old new name read_fault.Device so is = (keeps.before old new (GetFails (Part name) shelf_fault.Device) is so, (is, so))
  chunk old new name read_fault.OutOfMemory so is = (keeps.before old new (GetFails (Part name) shelf_fault.OutOfMemory) is so, (is, so))

  pub file_read : (old new : S) (digest : Digest) (file : List ℕ) → IsTrue (honest new) → IsFileRead did old digest file new → IsTrue (honest old) × IsFileRead Well old digest file new
  file_read old new digest file so is =
      let all = gives old new (answers_of file) so is.2 in
      (all.0, (is.0, is.1, all.1))

  piece_fails : (old new : S) (names : List Digest) (why : ShelfFault) → IsTrue (honest new) → FailsAtPiece did old names why new → IsTrue (honest old) × FailsAtPiece Well old names why new
  piece_fails old new names why so is =
      let now = keeps.before is.3 new (GetFails (Part is.1) why) is.6 so in
      let before = gives old is.3 (pieces_given is.0) now is.5 in
      (before.0, (is.0, is.1, is.2, is.3, is.4, before.1, (is.6, so)))

  file_fails : (old new : S) (digest : Digest) (why : ShelfFault) → IsTrue (honest new) → FailsAtFile did old digest why new → IsTrue (honest old) × FailsAtFile Well old digest why new
  file_fails old new digest why so (inl is) = (keeps.before old new (GetFails (Table digest) why) is so, inl (is, so))
  file_fails old new digest why so (inr is) =
      let rest = piece_fails is.3 new is.2 why so is.6 in
      (keeps.before old is.3 (Got (Table digest) (Some is.0)) is.5 rest.0, inr (is.0, is.1, is.2, is.3, is.4, (is.5, rest.0), rest.1))

  first_given : (old new : S) (names : List Digest) → IsTrue (honest new) → GivesFirst did old names new → IsTrue (honest old) × GivesFirst Well old names new
  first_given old new names so is =
      let all = gives old new (pieces_given is.0) so is.3 in
      (all.0, (is.0, is.1, is.2, all.1))

  pub file_fault : (old new : S) (digest : Digest) (why : ReadFault) → IsTrue (honest new) → IsFileFault did old digest why new → IsTrue (honest old) × IsFileFault Well old digest why new
  file_fault old new digest read_fault.Missing so is = (keeps.before old new (Got (Table digest) None) is so, (is, so))
  file_fault old new digest read_fault.Damaged so is =
      let all = gives old new ((Table digest, Some is.0) ∷ is.1) so is.3 in
      (all.0, (is.0, is.1, is.2, all.1, is.4))
  file_fault old new digest read_fault.Device so is = file_fails old new digest shelf_fault.Device so is
  file_fault old new digest read_fault.OutOfMemory so (inl is) =
      let all = file_fails old new digest shelf_fault.OutOfMemory so is in
      (all.0, inl all.1)
  file_fault old new digest read_fault.OutOfMemory so (inr is) =
      let rest = first_given is.3 new is.2 so is.7 in
      (keeps.before old is.3 (Got (Table digest) (Some is.0)) is.6 rest.0, inr (is.0, is.1, is.2, is.3, is.4, is.5, (is.6, rest.0), rest.1))

  -- ---- openings

  taken : (old new : S) (next : Wanted) (file : Option (List ℕ)) → IsTrue (honest new) → IsTaken did old next file new → IsTrue (honest old) × IsTaken Well old next file new
  taken old new next (Some file) so is = file_read old new next.digest file so is
  taken old new next None so (free, inl is) =
      let all = file_fault old new next.digest read_fault.Missing so is in
      (all.0, (free, inl all.1))
  taken old new next None so (free, inr is) =
      let all = file_fault old new next.digest read_fault.Damaged so is in
      (all.0, (free, inr all.1))

  all_taken : (old new : S) (each : List Taken) → IsTrue (honest new) → AreTaken did old each new → IsTrue (honest old) × AreTaken Well old each new
  all_taken old new [] so is = (subst (λ s. IsTrue (honest s)) is so, is)
  all_taken old new (one ∷ more) so is =
      let rest = all_taken is.0 new more so is.2 in
      let first = taken old is.0 one.wanted one.file rest.0 is.1 in
      (first.0, (is.0, first.1, rest.1))

  pub opened : (old new : S) (wanted : List Wanted) (known : _) → IsTrue (honest new) → IsOpened did old wanted known new → IsOpened Well old wanted known new
  opened old new wanted known so is = (is.0, is.1, (all_taken old new is.0 so is.2).1, is.3)

  take_fault : (old new : S) (next : Wanted) (why : OpenFault) → IsTrue (honest new) → IsTakeFault did old next why new → IsTrue (honest old) × IsTakeFault Well old next why new
  take_fault old new next (open_fault.MissingBlob digest) so is =
      let all = file_fault old new digest read_fault.Missing so is.1 in
      (all.0, (is.0, all.1))
  take_fault old new next (open_fault.DamagedBlob digest) so is =
      let all = file_fault old new digest read_fault.Damaged so is.1 in
      (all.0, (is.0, all.1))
  take_fault old new next open_fault.Device so is = file_fault old new next.digest read_fault.Device so is
  take_fault old new next open_fault.OutOfMemory so (inl is) =
      let all = file_fault old new next.digest read_fault.OutOfMemory so is in
      (all.0, inl all.1)
  take_fault old new next open_fault.OutOfMemory so (inr is) =
      let all = file_read old new next.digest is.0 so is.1 in
      (all.0, inr (is.0, all.1))

  pub open_stops : (old new : S) (wanted : List Wanted) (why : OpenFault) → IsTrue (honest new) → IsOpenFault did old wanted why new → IsOpenFault Well old wanted why new
  open_stops old new wanted why so is =
      let last = take_fault is.3 new is.1 why so is.6 in
      let before = all_taken old is.3 is.0 last.0 is.5 in
      (is.0, is.1, is.2, is.3, is.4, before.1, last.1)
