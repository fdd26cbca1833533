-- What a node that is alone reads comes from its cache or from its shelf.
use Rattle.std.proofs.Common.{◌≡◌, inl, inr, ℕ, List, None, Result, Ok, Err, IfOk, IfErr, length, refl, sym, ap, subst, ◌∙◌}
use Rattle.host_names.specs.declared.digests.Digest.{Digest}
use Rattle.byte_view.specs.Holds.{Held}
use Rattle.chunk_reads.specs.declared.faults.ReadFault.{ReadFault}
use Rattle.blob_store.specs.Calls.{Call}
use Rattle.chunk_lru.specs.Rules.{held}
use Rattle.chunk_group.specs.Fills.{IsHit}
use Rattle.chunk_reads.proofs.Alike.{in_turn, not_held}
use Rattle.chunk_reads.specs.Reading.{IsNotHeld, Reads, ReadsInTurn}
use Rattle.chunk_group.specs.Kept.{Drew}
use Rattle.chunk_group.specs.Loads.{Fetched, IsGiven}
use Rattle.chunk_group.specs.Lone.{IsAnswered, IsLone}
use Rattle.chunk_group.specs.Nodes.{ReadsOf}
use Rattle.chunk_group.specs.Stores.{LoadedOfFiles}
use Rattle.chunk_group.specs.declared.file_sources.FileSource.{FileSource}
use Rattle.chunk_group.specs.declared.solo_groups.SoloGroup.{SoloGroup}
use Rattle.chunk_group.proofs.Alone.{asks_source}
use Rattle.chunk_group.specs.Cached.{GaveOfNode, IsFound, IsLoaded, ReadsChunk}
use Rattle.chunk_group.specs.Shelves.{shelf_of}

-- ---- one read

module _ {H S L C : Type 0} (did : S → Call → S → Type 0) (failures : S → ℕ) (fetched : Fetched L) (drew : Drew C) (hashed : H → List ℕ → ℕ) where
  abbrev Group : Type 0
  Group = SoloGroup H (FileSource S) L C

  abbrev Loaded : FileSource S → Digest → Result (List ℕ) ReadFault → FileSource S → Type 0
  Loaded = LoadedOfFiles did failures

  module _ (old new : Group) (key : Digest) (missed : held key old.node.caches.cache ≡ None) where
    abbrev Loads : Result (List ℕ) ReadFault → Type 0
    Loads answer = IsLoaded did failures (shelf_of old) key answer (shelf_of new)

    -- what the source gave is answered
    given : (gave answer : Result (List ℕ) ReadFault) → IsGiven Loaded old.node.suppliers.source key gave new.node.suppliers.source
        → IsAnswered gave old.node.caches.cache answer new.node.caches.cache → Loads answer
    given (Ok bytes) answer (named, loaded) (inl (is, kept)) =
        subst Loads (sym is) (record { missed = missed; given = (loaded.0, kept); failed = λ e. absurd (cc e); goes_on = loaded.2 })
    given (Ok bytes) answer (named, loaded) (inr (is, same)) =
        subst Loads (sym is) (record { missed = missed; given = (inr (refl, (bytes, loaded.0)), same); failed = λ e. absurd (cc e); goes_on = loaded.2 })
    given (Err why) answer (inl loaded) (is, same) =
        subst Loads (sym is) (record { missed = missed; given = (inl loaded.0, same); failed = loaded.1; goes_on = loaded.2 })
    given (Err why) answer (inr (damaged, (bytes, other, loaded))) (is, same) = absurd (other loaded.0.0)

  found : (old new : Group) (key : Digest) (answer : Result (List ℕ) ReadFault) → IsHit old.node key answer new.node → IsFound (shelf_of old) key answer (shelf_of new)
  found old new key answer hit = record {
    chunk = hit.chunk;
    held = hit.held;
    same = ap (λ s. s.source.files.shelf) hit.same.0;
    answered = hit.answered;
  }

  pub reads_alone : (old new : Group) (key : Digest) (answer : Result (List ℕ) ReadFault) → IsLone old → ReadsOf Loaded fetched drew hashed old key answer new
      → ReadsChunk did failures (shelf_of old) key answer (shelf_of new) × IsLone new
  reads_alone old new key answer lone (fills, place) = (
    elim fills [
      | inl hit ↦ inl (found old new key answer hit)
      | inr miss ↦
          let is = asks_source Loaded fetched drew hashed old new key answer lone miss in
          inr (given old new key is.missed is.given answer is.gave is.answered)
    ],
    (ap (λ p. length p.ring.names) place ∙ lone.0, ap (λ p. p.me) place ∙ lone.1),
  )

-- ---- a stretch

module _ {H S L C : Type 0} (did : S → Call → S → Type 0) (failures : S → ℕ) (fetched : Fetched L) (drew : Drew C) (hashed : H → List ℕ → ℕ)
    (old new : SoloGroup H (FileSource S) L C) (lone : IsLone old) where
  abbrev ReadsGroup : Reads (SoloGroup H (FileSource S) L C)
  ReadsGroup = ReadsOf (LoadedOfFiles did failures) fetched drew hashed

  step : (from to : SoloGroup H (FileSource S) L C) (name : Digest) (answer : Result (List ℕ) ReadFault) → IsLone from → ReadsGroup from name answer to
      → ReadsChunk did failures (shelf_of from) name answer (shelf_of to) × IsLone to
  step = reads_alone did failures fetched drew hashed

  pub gave_alone : (r : Result Held ReadFault) → IfOk r (λ hold. ReadsInTurn ReadsGroup old hold.chunks new)
      → IfOk r (λ hold. GaveOfNode did failures (shelf_of old) hold (shelf_of new))
  gave_alone (Ok hold) turns = (in_turn ReadsGroup (ReadsChunk did failures) shelf_of IsLone step old new hold.chunks lone turns).0
  gave_alone (Err why) turns = tt

  module _ (file : List ℕ) (first last : ℕ) where
    pub failed_alone : (r : Result Held ReadFault) → IfErr r (λ why. IsNotHeld ReadsGroup old file first last why new)
        → IfErr r (λ why. IsNotHeld (ReadsChunk did failures) (shelf_of old) file first last why (shelf_of new))
    failed_alone (Ok hold) stop = tt
    failed_alone (Err why) stop = (not_held ReadsGroup (ReadsChunk did failures) shelf_of IsLone step old new file first last why lone stop).0

    pub still_alone : (r : Result Held ReadFault) → IfOk r (λ hold. ReadsInTurn ReadsGroup old hold.chunks new)
        → IfErr r (λ why. IsNotHeld ReadsGroup old file first last why new) → IsLone new
    still_alone (Ok hold) turns stop = (in_turn ReadsGroup (ReadsChunk did failures) shelf_of IsLone step old new hold.chunks lone turns).1
    still_alone (Err why) turns stop = (not_held ReadsGroup (ReadsChunk did failures) shelf_of IsLone step old new file first last why lone stop).1
