-- A cache over a shelf that keeps what is put there.
use Rattle.std.proofs.Common.{◌≡◌, ◌⊎◌, inl, inr, ℕ, List, Contains, Option, Some, None, Result, Ok, Err, length, map, refl, sym, ap, subst, ◌∙◌}
use Rattle.std.specs.List.{AllByRecursion}
use Rattle.host_names.specs.declared.digests.Digest.{Digest}
use Rattle.host_names.specs.Digests.{digest_of}
use Rattle.byte_view.specs.Cuts.{IsPure, cut}
use Rattle.chunk_reads.specs.declared.faults.ReadFault.{ReadFault}
use Rattle.chunk_reads.specs.declared.faults.ReadFault.TheVariants.{Missing, Damaged, Device, OutOfMemory}
use Rattle.blob_store.specs.declared.shelves.ShelfName.{ShelfName}
use Rattle.blob_store.specs.declared.shelves.ShelfName.TheVariants.{Part}
use Rattle.blob_store.specs.Calls.{Call}
use Rattle.blob_store.specs.Faults.{IsChunkFault}
use Rattle.blob_store.specs.Keeping.{AlwaysKeeps}
use Rattle.chunk_reads.specs.Reading.{HaveWrongLengths}
use Rattle.blob_store.proofs.Kept.{some_bytes}
use Rattle.blob_store.proofs.Kept.{chunk_stays}
use Rattle.chunk_lru.specs.declared.caches.Which.TheVariants.{Main}
use Rattle.chunk_reads.specs.Reading.{ReadsInTurn}
use Rattle.chunk_group.specs.Cached.{AllCached, CachedShelf, IsFromShelf, ReadsChunk}
use Rattle.chunk_group.proofs.CachedChunks.{all-added, all-held, all-looked_up, held-name}
use Rattle.chunk_group.proofs.Pieces.{IsOfFile, are_met, names_met}
use Rattle.chunk_reads.proofs.Turns.{turns_pure}

module _ {S : Type 0} (did : S → Call → S → Type 0) (failures : S → ℕ) (has : S → ShelfName → Option (List ℕ)) (keeps : AlwaysKeeps did has) where
  given_stays : (old new : CachedShelf S) (asked : Digest) (answer : Result (List ℕ) ReadFault) (name : ShelfName) → IsFromShelf did old asked answer new
      → has new.shelf name ≡ has old.shelf name
  given_stays old new asked (Ok chunk) name given = keeps.stays old.shelf new.shelf (Part asked) name (Some chunk) given.0.1
  given_stays old new asked (Err why) name given = elim given.0 [
    | inl fault ↦ chunk_stays did has keeps old.shelf new.shelf asked why name fault
    | inr full ↦ keeps.stays old.shelf new.shelf (Part asked) name (Some full.1.0) full.1.1.1
  ]

  -- a read of a chunk changes nothing on the shelf
  pub one_stays : (old new : CachedShelf S) (asked : Digest) (answer : Result (List ℕ) ReadFault) (name : ShelfName) → ReadsChunk did failures old asked answer new
      → has new.shelf name ≡ has old.shelf name
  one_stays old new asked answer name (inl found) = ap (λ s. has s name) found.same
  one_stays old new asked answer name (inr loaded) = given_stays old new asked answer name loaded.given

  -- ---- where the shelf has a file, and what is in the cache

  module _ (there : ShelfName → Option (List ℕ)) (file : List ℕ) (parts : (piece : List ℕ) → Contains (cut file) piece → there (Part (digest_of piece)) ≡ Some piece)
      (P : List ℕ → Type 0) (pieces : (piece : List ℕ) → Contains (cut file) piece → P piece) where
    -- a chunk is there, and such a one
    abbrev pub IsThere : List ℕ → Type 0
    IsThere chunk = (there (Part (digest_of chunk)) ≡ Some chunk) × P chunk

    -- the shelf has what it had, and the chunks in the cache are there
    abbrev pub Has : CachedShelf S → Type 0
    Has node = ((name : ShelfName) → has node.shelf name ≡ there name) × AllCached IsThere node.cache

    -- what is there under the name of a piece is that piece
    is_piece : (name : Digest) (chunk : List ℕ) (of : IsOfFile file name) → there (Part name) ≡ Some chunk → chunk ≡ of.0
    is_piece name chunk of at =
        let same : Some chunk ≡ Some of.0 = sym at ∙ ap (λ d. there (Part d)) of.1 ∙ parts of.0 of.2 in
        ap some_bytes same

    -- what is answered is there
    answered : (old new : CachedShelf S) (name : Digest) (chunk : List ℕ) → Has old → ReadsChunk did failures old name (Ok chunk) new → there (Part name) ≡ Some chunk
    answered old new name chunk inv (inl found) = elim found.answered [
      | inl is ↦
          let same : found.chunk ≡ chunk = cc is.0 in
          ap (λ d. there (Part d)) (sym (held-name name old.cache found.chunk found.held)) ∙ (all-held IsThere name old.cache found.chunk inv.1 found.held).0 ∙ ap Some same
      | inr is ↦ absurd (cc is.0)
    ]
    answered old new name chunk inv (inr loaded) =
        let got : Some chunk ≡ has old.shelf (Part name) = keeps.got old.shelf new.shelf (Part name) (Some chunk) loaded.given.0.1 in
        sym (got ∙ inv.0 (Part name))

    cached : (old new : CachedShelf S) (name : Digest) (answer : Result (List ℕ) ReadFault) → IsOfFile file name → Has old → ReadsChunk did failures old name answer new
        → AllCached IsThere new.cache
    cached old new name answer of inv (inl found) = elim found.answered [
      | inl is ↦ subst (AllCached IsThere) (sym is.1) (all-looked_up IsThere name old.cache inv.1)
      | inr is ↦ subst (AllCached IsThere) (sym is.1) inv.1
    ]
    cached old new name (Ok chunk) of inv (inr loaded) =
        let at = answered old new name chunk inv (inr loaded) in
        let one : IsThere chunk = (ap (λ d. there (Part d)) loaded.given.0.0 ∙ at, subst P (sym (is_piece name chunk of at)) (pieces of.0 of.2)) in
        elim loaded.given.1 [
          | inl is ↦ subst (AllCached IsThere) (sym is) (all-added IsThere Main chunk old.cache one inv.1)
          | inr is ↦ subst (AllCached IsThere) (sym is) inv.1
        ]
    cached old new name (Err why) of inv (inr loaded) = subst (AllCached IsThere) (sym loaded.given.1) inv.1

    pub one_keeps : (old new : CachedShelf S) (name : Digest) (answer : Result (List ℕ) ReadFault) → IsOfFile file name → Has old
        → ReadsChunk did failures old name answer new → Has new
    one_keeps old new name answer of inv read = (λ n. one_stays old new name answer n read ∙ inv.0 n, cached old new name answer of inv read)

    -- a chunk that is answered differs from no piece of its name
    pub one_pure : (old new : CachedShelf S) (chunk : List ℕ) → Has old → ReadsChunk did failures old (digest_of chunk) (Ok chunk) new → IsPure file chunk
    one_pure old new chunk inv read = λ piece among same. is_piece (digest_of chunk) chunk (piece, same, among) (answered old new (digest_of chunk) chunk inv read)

    -- of these alone a chunk isn't read
    abbrev pub IsOther : ReadFault → Type 0
    IsOther why = (why ≡ Device) ⊎ (why ≡ OutOfMemory)

    shelf_why : (old new : S) (name : Digest) (why : ReadFault) → IsOfFile file name → has old (Part name) ≡ there (Part name) → IsChunkFault did old name why new → IsOther why
    shelf_why old new name Missing of same fault =
        let wrong : None ≡ Some of.0 = keeps.got old new (Part name) None fault ∙ same ∙ ap (λ d. there (Part d)) of.1 ∙ parts of.0 of.2 in
        absurd (cc wrong)
    shelf_why old new name Damaged of same fault =
        let at : there (Part name) ≡ Some fault.0 = sym same ∙ sym (keeps.got old new (Part name) (Some fault.0) fault.2) in
        absurd (fault.1 (ap digest_of (is_piece name fault.0 of at) ∙ sym of.1))
    shelf_why old new name Device of same fault = inl refl
    shelf_why old new name OutOfMemory of same fault = inr refl

    pub one_why : (old new : CachedShelf S) (name : Digest) (why : ReadFault) → IsOfFile file name → Has old → ReadsChunk did failures old name (Err why) new → IsOther why
    one_why old new name why of inv (inl found) = elim found.answered [
      | inl is ↦ absurd (cc is.0)
      | inr is ↦ inr (let same : why ≡ OutOfMemory = cc is.0 in same)
    ]
    one_why old new name why of inv (inr loaded) = elim loaded.given.0 [
      | inl fault ↦ shelf_why old.shelf new.shelf name why of (inv.0 (Part name)) fault
      | inr full ↦ inr full.0
    ]

    -- and each is as long as its piece
    pub none_wrong : (old new : CachedShelf S) (chunks : List (List ℕ)) (first last : ℕ) → Has old → HaveWrongLengths chunks file first last
        → ReadsInTurn (ReadsChunk did failures) old chunks new → ⊥
    none_wrong old new chunks first last inv wrong turns =
        let asked = subst (AllByRecursion (IsOfFile file)) (sym wrong.named) (names_met file first last) in
        let pure = turns_pure (ReadsChunk did failures) file (IsOfFile file) (names_met file) Has one_keeps one_pure old new chunks asked inv turns in
        wrong.wrong (ap (map length) (are_met file chunks first last wrong.named pure))
