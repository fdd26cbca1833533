-- What is read of the files of a shelf through a cache.
use Rattle.std.proofs.Common.{◌≡◌, ◌⊎◌, inl, inr, ℕ, ◌<◌, ◌≤◌, List, [], ◌∷◌, Contains, Option, Some, Result, Ok, Err, map, refl, sym, subst, ◌∙◌, arith}
use Rattle.std.specs.List.{AllByRecursion}
use Rattle.host_names.specs.declared.digests.Digest.{Digest}
use Rattle.byte_view.specs.Holds.{Held}
use Rattle.chunk_reads.proofs.Turns.{of_failed}
use Rattle.host_names.specs.Digests.{digest_of}
use Rattle.byte_view.specs.Cuts.{cut, pieces_met}
use Rattle.chunk_reads.specs.declared.faults.ReadFault.{ReadFault}
use Rattle.chunk_reads.specs.declared.faults.ReadFault.TheVariants.{Damaged, Device, OutOfMemory}
use Rattle.blob_store.specs.declared.shelves.ShelfName.{ShelfName}
use Rattle.blob_store.specs.declared.shelves.ShelfName.TheVariants.{Part}
use Rattle.blob_store.specs.Calls.{Call, things_of}
use Rattle.blob_store.specs.Keeping.{AlwaysKeeps, HasFile}
use Rattle.chunk_reads.specs.Reading.{HaveWrongLengths}
use Rattle.blob_store.proofs.Kept.{part_there}
use Rattle.range_spec.specs.declared.selection.Choice.{Choice}
use Rattle.range_reply.specs.Sending.{SentFile}
use Rattle.range_reply.specs.Sending.{IsExact, IsNotRead, IsRead}
use Rattle.chunk_lru.specs.Caches.{Cache}
use Rattle.chunk_reads.specs.Reading.{IsNotHeld, ReadsInTurn}
use Rattle.chunk_group.specs.Cached.{AllCached, CachedShelf, GaveOfNode, HasCached, IsCached, ReadsChunk}
use Rattle.chunk_group.proofs.CachedChunks.{are-cached, both-cached, each-cached}
use Rattle.chunk_group.proofs.KeptReads.{Has, none_wrong, one_keeps, one_pure, one_stays, one_why}
use Rattle.chunk_group.proofs.Pieces.{IsOfFile, among_things, names_met}
use Rattle.host_server.proofs.KeptByReads.{exact_keeps, fault_keeps, read_keeps}

-- where nothing is asked of each
abbrev Any : {X : Type 0} → X → Type 0
Any x = Unit {0}

all-any : {X : Type 0} (xs : List X) → AllByRecursion Any xs
all-any [] = tt
all-any (x ∷ xs) = (tt, all-any xs)

any_met : (file : List ℕ) (first last : ℕ) → AllByRecursion Any (map digest_of (pieces_met file first last))
any_met file first last = all-any (map digest_of (pieces_met file first last))

module _ {S : Type 0} (did : S → Call → S → Type 0) (failures : S → ℕ) where
  -- the count doesn't fall
  abbrev GoesOn : CachedShelf S → CachedShelf S → Type 0
  GoesOn old new = failures old.shelf ≤ failures new.shelf

  one_goes_on : (old new : CachedShelf S) (name : Digest) (answer : Result (List ℕ) ReadFault) → ReadsChunk did failures old name answer new → GoesOn old new
  one_goes_on old new name answer (inl found) = subst (λ s. failures old.shelf ≤ failures s) (sym found.same) (omega (arith))
  one_goes_on old new name answer (inr loaded) = loaded.goes_on

  one_counts : (old new : CachedShelf S) (name : Digest) → ReadsChunk did failures old name (Err Device) new → failures old.shelf < failures new.shelf
  one_counts old new name (inl found) = elim found.answered [
    | inl is ↦ absurd (cc is.0)
    | inr is ↦ absurd (cc is.0)
  ]
  one_counts old new name (inr loaded) = loaded.failed refl

  module _ (old : CachedShelf S) (file : List ℕ) where
    read_on : (now new : CachedShelf S) (name : Digest) (answer : Result (List ℕ) ReadFault) → Any name → GoesOn old now → ReadsChunk did failures now name answer new
        → GoesOn old new
    read_on now new name answer any so read = omega (arith, so, one_goes_on now new name answer read)

    -- nor where it stops, and it grew where the device is blamed
    abbrev StopsOn : ReadFault → CachedShelf S → Type 0
    StopsOn why new = GoesOn old new × (why ≡ Device → failures old.shelf < failures new.shelf)

    fault_on : (now new : CachedShelf S) (name : Digest) (why : ReadFault) → Any name → GoesOn old now → ReadsChunk did failures now name (Err why) new → StopsOn why new
    fault_on now new name why any so read = (
      read_on now new name (Err why) any so read,
      λ disk. omega (arith, so, one_counts now new name (subst (λ w. ReadsChunk did failures now name (Err w) new) disk read)),
    )

    none_on : (new : CachedShelf S) → GoesOn old new → StopsOn OutOfMemory new
    none_on new so = (so, λ disk. absurd (cc disk))

    wrong_on : (now new : CachedShelf S) (chunks : List (List ℕ)) (first last : ℕ) → GoesOn old now → GoesOn old new → HaveWrongLengths chunks file first last
        → ReadsInTurn (ReadsChunk did failures) now chunks new → StopsOn Damaged new
    wrong_on now new chunks first last so after wrong turns = (after, λ disk. absurd (cc disk))

    stops_on : (new : CachedShelf S) (plan : Choice) (why : ReadFault) → IsNotRead (GaveOfNode did failures) (IsNotHeld (ReadsChunk did failures)) old file plan why new → StopsOn why new
    stops_on new plan why is =
        fault_keeps (ReadsChunk did failures) file Any (any_met file) (GoesOn old) read_on StopsOn fault_on none_on wrong_on old new plan why (omega (arith)) is

  pub read_goes_on : (old new : CachedShelf S) (file content_type : List ℕ) (plan : Choice) (body : SentFile) → IsRead (GaveOfNode did failures) old file plan content_type body new
      → failures old.shelf ≤ failures new.shelf
  read_goes_on old new file content_type plan body is =
      read_keeps (ReadsChunk did failures) file Any (any_met file) (GoesOn old) (read_on old file) old new content_type plan body (omega (arith)) is

  pub fault_goes_on : (old new : CachedShelf S) (file : List ℕ) (plan : Choice) (why : ReadFault)
      → IsNotRead (GaveOfNode did failures) (IsNotHeld (ReadsChunk did failures)) old file plan why new → failures old.shelf ≤ failures new.shelf
  fault_goes_on old new file plan why is = (stops_on old file new plan why is).0

  pub fault_counts : (old new : CachedShelf S) (file : List ℕ) (plan : Choice)
      → IsNotRead (GaveOfNode did failures) (IsNotHeld (ReadsChunk did failures)) old file plan Device new → failures old.shelf < failures new.shelf
  fault_counts old new file plan is = (stops_on old file new plan Device is).1 refl

  -- nor by a hold, or where one can't be given

  turns_go_on : (old new : CachedShelf S) (chunks : List (List ℕ)) → ReadsInTurn (ReadsChunk did failures) old chunks new → GoesOn old new
  turns_go_on old new [] same = subst (GoesOn old) (sym same) (omega (arith))
  turns_go_on old new (chunk ∷ chunks) (mid, read, more) =
      let first = one_goes_on old mid (digest_of chunk) (Ok chunk) read in
      let rest = turns_go_on mid new chunks more in
      omega (arith, first, rest)

  pub gave_counts : (old : CachedShelf S) (hold : Held) (new : CachedShelf S) → GaveOfNode did failures old hold new → failures old.shelf ≤ failures new.shelf
  gave_counts old hold new is = turns_go_on old new hold.chunks is

  pub failed_counts : (old : CachedShelf S) (file : List ℕ) (first last : ℕ) (why : ReadFault) (new : CachedShelf S) → IsNotHeld (ReadsChunk did failures) old file first last why new
      → failures old.shelf ≤ failures new.shelf
  failed_counts old file first last why new is =
      (of_failed (ReadsChunk did failures) file Any (any_met file) (GoesOn old) (read_on old file) (StopsOn old file) (fault_on old file) (none_on old file) (wrong_on old file)
      old new first last why (omega (arith)) is).0

  -- ---- over a shelf that keeps what is put there

  module _ (has : S → ShelfName → Option (List ℕ)) (keeps : AlwaysKeeps did has) where
    -- it has what it had
    abbrev Same : CachedShelf S → CachedShelf S → Type 0
    Same old new = (name : ShelfName) → has new.shelf name ≡ has old.shelf name

    module _ (old : CachedShelf S) where
      read_same : (now new : CachedShelf S) (asked : Digest) (answer : Result (List ℕ) ReadFault) → Any asked → Same old now → ReadsChunk did failures now asked answer new
          → Same old new
      read_same now new asked answer any so read name = one_stays did failures has keeps now new asked answer name read ∙ so name

      fault_same : (now new : CachedShelf S) (asked : Digest) (why : ReadFault) → Any asked → Same old now → ReadsChunk did failures now asked (Err why) new → Same old new
      fault_same now new asked why any so read = read_same now new asked (Err why) any so read

    pub read_stays : (old new : CachedShelf S) (file content_type : List ℕ) (plan : Choice) (body : SentFile) → IsRead (GaveOfNode did failures) old file plan content_type body new
        → (name : ShelfName) → has new.shelf name ≡ has old.shelf name
    read_stays old new file content_type plan body is =
        read_keeps (ReadsChunk did failures) file Any (any_met file) (Same old) (read_same old) old new content_type plan body (λ name. refl) is

    pub fault_stays : (old new : CachedShelf S) (file : List ℕ) (plan : Choice) (why : ReadFault)
        → IsNotRead (GaveOfNode did failures) (IsNotHeld (ReadsChunk did failures)) old file plan why new → (name : ShelfName) → has new.shelf name ≡ has old.shelf name
    fault_stays old new file plan why is =
        fault_keeps (ReadsChunk did failures) file Any (any_met file) (Same old) (read_same old) (λ w node. Same old node) (fault_same old) (λ node so. so)
        (λ now node chunks first last so after wrong turns. after) old new plan why (λ name. refl) is

    module _ (file : List ℕ) where
      -- what is there before, and of the chunks in the cache
      module _ (P : List ℕ → Type 0) (pieces : (piece : List ℕ) → Contains (cut file) piece → P piece) (first : CachedShelf S) (there : HasFile has first.shelf file) where
        parts : (piece : List ℕ) → Contains (cut file) piece → has first.shelf (Part (digest_of piece)) ≡ Some piece
        parts = part_there did has keeps first.shelf file there

        abbrev Inv : CachedShelf S → Type 0
        Inv = Has did failures has keeps (has first.shelf) file parts P pieces

        begins : HasCached has first → AllCached P first.cache → Inv first
        begins cached all = (λ name. refl, both-cached (λ chunk. has first.shelf (Part (digest_of chunk)) ≡ Some chunk) P first.cache cached all)

        keeps_on : (old new : CachedShelf S) (name : Digest) (answer : Result (List ℕ) ReadFault) → IsOfFile file name → Inv old → ReadsChunk did failures old name answer new
            → Inv new
        keeps_on = one_keeps did failures has keeps (has first.shelf) file parts P pieces

        abbrev Stops : ReadFault → CachedShelf S → Type 0
        Stops why node = Inv node × ((why ≡ Device) ⊎ (why ≡ OutOfMemory))

        fault_stops : (old new : CachedShelf S) (name : Digest) (why : ReadFault) → IsOfFile file name → Inv old → ReadsChunk did failures old name (Err why) new → Stops why new
        fault_stops old new name why of inv read =
            (keeps_on old new name (Err why) of inv read, one_why did failures has keeps (has first.shelf) file parts P pieces old new name why of inv read)

        wrong_stops : (old new : CachedShelf S) (chunks : List (List ℕ)) (from to : ℕ) → Inv old → Inv new → HaveWrongLengths chunks file from to
            → ReadsInTurn (ReadsChunk did failures) old chunks new → Stops Damaged new
        wrong_stops old new chunks from to inv after wrong turns =
            absurd (none_wrong did failures has keeps (has first.shelf) file parts P pieces old new chunks from to inv wrong turns)

        kept : (new : CachedShelf S) (content_type : List ℕ) (plan : Choice) (body : SentFile) → Inv first → IsRead (GaveOfNode did failures) first file plan content_type body new
            → Inv new
        kept new content_type plan body inv is =
            read_keeps (ReadsChunk did failures) file (IsOfFile file) (names_met file) Inv keeps_on first new content_type plan body inv is

        stops : (new : CachedShelf S) (plan : Choice) (why : ReadFault) → Inv first → IsNotRead (GaveOfNode did failures) (IsNotHeld (ReadsChunk did failures)) first file plan why new
            → Stops why new
        stops new plan why inv is =
            fault_keeps (ReadsChunk did failures) file (IsOfFile file) (names_met file) Inv keeps_on Stops fault_stops (λ node so. (so, inr refl)) wrong_stops
            first new plan why inv is

        exact : (new : CachedShelf S) (content_type : List ℕ) (plan : Choice) (body : SentFile) → Inv first → IsRead (GaveOfNode did failures) first file plan content_type body new
            → IsExact file plan content_type body
        exact new content_type plan body inv is =
            exact_keeps (ReadsChunk did failures) file (IsOfFile file) (names_met file) Inv keeps_on
            (one_pure did failures has keeps (has first.shelf) file parts P pieces) first new content_type plan body inv is

      any_piece : (piece : List ℕ) → Contains (cut file) piece → Any piece
      any_piece piece among = tt

      any_cached : (cache : Cache) → AllCached Any cache
      any_cached cache = (all-any cache.main, all-any cache.hot)

      pub sent_exact : (old new : CachedShelf S) (content_type : List ℕ) (plan : Choice) (body : SentFile) → HasFile has old.shelf file → HasCached has old
          → IsRead (GaveOfNode did failures) old file plan content_type body new → IsExact file plan content_type body
      sent_exact old new content_type plan body there cached is =
          exact Any any_piece old there new content_type plan body (begins Any any_piece old there cached (any_cached old.cache)) is

      pub fault_why : (old new : CachedShelf S) (plan : Choice) (why : ReadFault) → HasFile has old.shelf file → HasCached has old
          → IsNotRead (GaveOfNode did failures) (IsNotHeld (ReadsChunk did failures)) old file plan why new → (why ≡ Device) ⊎ (why ≡ OutOfMemory)
      fault_why old new plan why there cached is =
          (stops Any any_piece old there new plan why (begins Any any_piece old there cached (any_cached old.cache)) is).1

      -- ---- what is then in the cache

      -- each chunk was there before, or is a piece of the file
      abbrev IsOld : CachedShelf S → List ℕ → Type 0
      IsOld old chunk = IsCached old.cache chunk ⊎ Contains (cut file) chunk

      new_piece : (old : CachedShelf S) (piece : List ℕ) → Contains (cut file) piece → IsOld old piece
      new_piece old piece among = inr among

      old_cached : (old : CachedShelf S) → AllCached (IsOld old) old.cache
      old_cached old = each-cached (IsCached old.cache) (IsOld old) (λ chunk there. inl there) old.cache (are-cached old.cache)

      -- what holds of each chunk that the shelf had
      with_there : (P : List ℕ → Type 0) (old new : CachedShelf S)
          → AllCached (λ chunk. (has old.shelf (Part (digest_of chunk)) ≡ Some chunk) × P chunk) new.cache → AllCached P new.cache
      with_there P old new all = each-cached (λ chunk. (has old.shelf (Part (digest_of chunk)) ≡ Some chunk) × P chunk) P (λ chunk is. is.1) new.cache all

      pub read_adds : (old new : CachedShelf S) (content_type : List ℕ) (plan : Choice) (body : SentFile) → HasFile has old.shelf file → HasCached has old
          → IsRead (GaveOfNode did failures) old file plan content_type body new → AllCached (λ chunk. IsCached old.cache chunk ⊎ Contains (cut file) chunk) new.cache
      read_adds old new content_type plan body there cached is =
          with_there (IsOld old) old new
          (kept (IsOld old) (new_piece old) old there new content_type plan body (begins (IsOld old) (new_piece old) old there cached (old_cached old)) is).1

      pub fault_adds : (old new : CachedShelf S) (plan : Choice) (why : ReadFault) → HasFile has old.shelf file → HasCached has old
          → IsNotRead (GaveOfNode did failures) (IsNotHeld (ReadsChunk did failures)) old file plan why new
          → AllCached (λ chunk. IsCached old.cache chunk ⊎ Contains (cut file) chunk) new.cache
      fault_adds old new plan why there cached is =
          with_there (IsOld old) old new
          (stops (IsOld old) (new_piece old) old there new plan why (begins (IsOld old) (new_piece old) old there cached (old_cached old)) is).0.1

      -- the shelf still has each chunk in the cache
      still_has : (old new : CachedShelf S) (there : HasFile has old.shelf file) → Inv Any any_piece old there new → HasCached has new
      still_has old new there inv =
          each-cached (λ chunk. (has old.shelf (Part (digest_of chunk)) ≡ Some chunk) × Any chunk) (λ chunk. has new.shelf (Part (digest_of chunk)) ≡ Some chunk)
          (λ chunk is. inv.0 (Part (digest_of chunk)) ∙ is.0) new.cache inv.1

      pub read_has_cached : (old new : CachedShelf S) (content_type : List ℕ) (plan : Choice) (body : SentFile) → HasFile has old.shelf file → HasCached has old
          → IsRead (GaveOfNode did failures) old file plan content_type body new → HasCached has new
      read_has_cached old new content_type plan body there cached is =
          still_has old new there (kept Any any_piece old there new content_type plan body (begins Any any_piece old there cached (any_cached old.cache)) is)

      pub fault_has_cached : (old new : CachedShelf S) (plan : Choice) (why : ReadFault) → HasFile has old.shelf file → HasCached has old
          → IsNotRead (GaveOfNode did failures) (IsNotHeld (ReadsChunk did failures)) old file plan why new → HasCached has new
      fault_has_cached old new plan why there cached is =
          still_has old new there (stops Any any_piece old there new plan why (begins Any any_piece old there cached (any_cached old.cache)) is).0

      module _ (P : List ℕ → Type 0) (pieces : (chunk : List ℕ) → Contains (things_of file) (Part (digest_of chunk), chunk) → P chunk) where
        each_piece : (piece : List ℕ) → Contains (cut file) piece → P piece
        each_piece piece among = pieces piece (among_things file piece among)

        pub read_cached : (old new : CachedShelf S) (content_type : List ℕ) (plan : Choice) (body : SentFile) → HasFile has old.shelf file → HasCached has old
            → AllCached P old.cache → IsRead (GaveOfNode did failures) old file plan content_type body new → AllCached P new.cache
        read_cached old new content_type plan body there cached all is =
            with_there P old new (kept P each_piece old there new content_type plan body (begins P each_piece old there cached all) is).1

        pub fault_cached : (old new : CachedShelf S) (plan : Choice) (why : ReadFault) → HasFile has old.shelf file → HasCached has old → AllCached P old.cache
            → IsNotRead (GaveOfNode did failures) (IsNotHeld (ReadsChunk did failures)) old file plan why new → AllCached P new.cache
        fault_cached old new plan why there cached all is =
            with_there P old new (stops P each_piece old there new plan why (begins P each_piece old there cached all) is).0.1
