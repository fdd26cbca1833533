-- Where the shelf of a node is honest at the end, each read of a chunk before was honest.
use Rattle.std.specs.Prelude.{IsTrue}
use Rattle.std.proofs.Common.{inl, inr, Bool, ℕ, List, Option, Some, Result, Ok, Err, subst}
use Rattle.byte_view.specs.Holds.{Held}
use Rattle.host_names.specs.declared.digests.Digest.{Digest}
use Rattle.blob_store.proofs.Honest.{chunk}
use Rattle.blob_store.specs.Calls.{Call, Got}
use Rattle.blob_store.specs.Keeping.{Keeps, Where}
use Rattle.chunk_reads.specs.declared.faults.ReadFault.{ReadFault}
use Rattle.blob_store.specs.declared.shelves.ShelfName.{ShelfName}
use Rattle.blob_store.specs.declared.shelves.ShelfName.TheVariants.{Part}
use Rattle.range_spec.specs.declared.selection.Choice.{Choice}
use Rattle.range_reply.proofs.Honest.{is_read, not_read}
use Rattle.range_reply.specs.Sending.{IsNotRead, IsRead}
use Rattle.range_reply.specs.Sending.{SentFile}
use Rattle.chunk_reads.proofs.Backwards.{not_held, turns}
use Rattle.chunk_reads.specs.Reading.{IsNotHeld}
use Rattle.chunk_group.specs.Cached.{CachedShelf, GaveOfNode, IsFromShelf, ReadsChunk}

module _ {S : Type 0} (did : S → Call → S → Type 0) (failures : S → ℕ) (honest : S → Bool) (has : S → ShelfName → Option (List ℕ)) (keeps : Keeps did honest has) where
  abbrev Well : S → Call → S → Type 0
  Well = Where honest did

  given : (old new : CachedShelf S) (name : Digest) (answer : Result (List ℕ) ReadFault) → IsTrue (honest new.shelf) → IsFromShelf did old name answer new
      → IsTrue (honest old.shelf) × IsFromShelf Well old name answer new
  given old new name (Ok c) so is =
      (keeps.before old.shelf new.shelf (Got (Part name) (Some c)) is.0.1 so, ((is.0.0, (is.0.1, so)), is.1))
  given old new name (Err why) so (inl fault, same) =
      let all = chunk did honest has keeps old.shelf new.shelf name why so fault in
      (all.0, (inl all.1, same))
  given old new name (Err why) so (inr is, same) =
      let piece = is.1 in
      (keeps.before old.shelf new.shelf (Got (Part name) (Some piece.0)) piece.1.1 so, (inr (is.0, (piece.0, (piece.1.0, (piece.1.1, so)))), same))

  one_read : (old new : CachedShelf S) (name : Digest) (answer : Result (List ℕ) ReadFault) → IsTrue (honest new.shelf) → ReadsChunk did failures old name answer new
      → IsTrue (honest old.shelf) × ReadsChunk Well failures old name answer new
  one_read old new name answer so (inl found) = (subst (λ s. IsTrue (honest s)) found.same so, inl found)
  one_read old new name answer so (inr loaded) =
      let all = given old new name answer so loaded.given in
      (all.0, inr (record { missed = loaded.missed; given = all.1; failed = loaded.failed; goes_on = loaded.goes_on }))

  abbrev is_honest : CachedShelf S → Bool
  is_honest node = honest node.shelf

  node_gave : (old new : CachedShelf S) (h : Held) → IsTrue (honest new.shelf) → GaveOfNode did failures old h new → IsTrue (honest old.shelf) × GaveOfNode Well failures old h new
  node_gave old new h so is = turns is_honest (ReadsChunk did failures) (ReadsChunk Well failures) one_read old new h.chunks so is

  node_failed : (old new : CachedShelf S) (file : List ℕ) (first last : ℕ) (why : ReadFault) → IsTrue (honest new.shelf) → IsNotHeld (ReadsChunk did failures) old file first last why new
      → IsTrue (honest old.shelf) × IsNotHeld (ReadsChunk Well failures) old file first last why new
  node_failed old new file first last why so is = not_held is_honest (ReadsChunk did failures) (ReadsChunk Well failures) one_read old new file first last why so is

  pub node_read : (old new : CachedShelf S) (file : List ℕ) (plan : Choice) (content_type : List ℕ) (body : SentFile) → IsTrue (honest new.shelf)
      → IsRead (GaveOfNode did failures) old file plan content_type body new → IsTrue (honest old.shelf) × IsRead (GaveOfNode Well failures) old file plan content_type body new
  node_read = is_read is_honest (GaveOfNode did failures) (GaveOfNode Well failures) node_gave

  pub node_not_read : (old new : CachedShelf S) (file : List ℕ) (plan : Choice) (why : ReadFault) → IsTrue (honest new.shelf)
      → IsNotRead (GaveOfNode did failures) (IsNotHeld (ReadsChunk did failures)) old file plan why new
      → IsTrue (honest old.shelf) × IsNotRead (GaveOfNode Well failures) (IsNotHeld (ReadsChunk Well failures)) old file plan why new
  node_not_read = not_read is_honest (GaveOfNode did failures) (GaveOfNode Well failures) node_gave (IsNotHeld (ReadsChunk did failures)) (IsNotHeld (ReadsChunk Well failures)) node_failed
