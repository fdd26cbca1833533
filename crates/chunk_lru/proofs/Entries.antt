-- Entries, each under its chunk's name, and the chunks that they are.
use Rattle.std.proofs.Common.{◌≡◌, ℕ, suc, zero, ◌+◌, ◌-◌, ◌<◌, Bool, true, false, cond, List, [], ◌∷◌, get_or, length, map, take, Option, Some, None, is_some, option_map, slice_get, refl, sym, ap, subst, ◌∙◌, arith}
use Rattle.std.specs.List.{cons_option}
use Rattle.std.specs.Map.{lookup, lookup_entry, remove_entry}
use Rattle.std.specs.Option.{option_map_or}
use Rattle.std.specs.Set.{remove_key}
use Rattle.std.specs.Str.{bytes_eq}
use Rattle.std.proofs.lemmas.List.{length-map, take_all}
use Rattle.std.proofs.lemmas.Option.{get_or_from_slice_get, slice_get-get_or, slice_get_within}
use Rattle.std.proofs.lemmas.Slice.Eq.{bytes_eq-Decides}
use Rattle.host_names.specs.declared.digests.Digest.{Digest}
use Rattle.host_names.specs.Digests.{digest_of}
use Rattle.lru.specs.LruCache.{LruCache, lru_cache, promoted, put_entries}
use Rattle.chunk_lru.specs.Recent.{AreNamed, Recent, chunks_of, found, has_name, recent, size_of, to_front, without_last}
use Rattle.chunk_lru.proofs.Sizes.{sum_by-moved, sum_by-without_last}

option_map-cond : {A B : Type 0} (f : A → B) (b : Bool) (w o : Option A) → option_map f (cond b w o) ≡ cond b (option_map f w) (option_map f o)
option_map-cond f true w o = refl
option_map-cond f false w o = refl

is_some-map : {A B : Type 0} (f : A → B) (o : Option A) → is_some o ≡ is_some (option_map f o)
is_some-map f None = refl
is_some-map f (Some x) = refl

map-cond : {A B : Type 0} (f : A → B) (b : Bool) (xs ys : List A) → map f (cond b xs ys) ≡ cond b (map f xs) (map f ys)
map-cond f true xs ys = refl
map-cond f false xs ys = refl

module _ {Share : Type 0} (bytes : Share → List ℕ) where
  abbrev Entries : Type 0
  Entries = List (List ℕ × Share)

  pub chunks-take : (n : ℕ) (es : Entries) → chunks_of bytes (take n es) ≡ take n (chunks_of bytes es)
  chunks-take zero es = refl
  chunks-take (suc n) [] = refl
  chunks-take (suc n) (e ∷ es) = ap (λ (rest : List (List ℕ)). bytes e.1 ∷ rest) (chunks-take n es)

  pub named-take : (n : ℕ) (es : Entries) → AreNamed bytes es → AreNamed bytes (take n es)
  named-take zero es named = tt
  named-take (suc n) [] named = tt
  named-take (suc n) (e ∷ es) named = (named.0, named-take n es named.1)

  module _ (name : Digest) where
    -- the chunk that is found is that of the entry
    pub found-entry : (es : Entries) → AreNamed bytes es → option_map (λ e. bytes e.1) (lookup_entry (bytes_eq name.0) es) ≡ found name (chunks_of bytes es)
    found-entry [] named = refl
    found-entry (e ∷ es) named =
        option_map-cond (λ (f : List ℕ × Share). bytes f.1) (bytes_eq name.0 e.0) (Some e) (lookup_entry (bytes_eq name.0) es)
        ∙ ap (λ (key : List ℕ). cond (bytes_eq name.0 key) (Some (bytes e.1)) (option_map (λ f. bytes f.1) (lookup_entry (bytes_eq name.0) es))) named.0
        ∙ ap (cond (has_name name (bytes e.1)) (Some (bytes e.1))) (found-entry es named.1)

    pub found-value : (es : Entries) → AreNamed bytes es → option_map bytes (lookup (bytes_eq name.0) es) ≡ found name (chunks_of bytes es)
    found-value [] named = refl
    found-value (e ∷ es) named =
        option_map-cond bytes (bytes_eq name.0 e.0) (Some e.1) (lookup (bytes_eq name.0) es)
        ∙ ap (λ (key : List ℕ). cond (bytes_eq name.0 key) (Some (bytes e.1)) (option_map bytes (lookup (bytes_eq name.0) es))) named.0
        ∙ ap (cond (has_name name (bytes e.1)) (Some (bytes e.1))) (found-value es named.1)

    removed : (es : Entries) → AreNamed bytes es → chunks_of bytes (remove_entry (bytes_eq name.0) es) ≡ remove_key (has_name name) (chunks_of bytes es)
    removed [] named = refl
    removed (e ∷ es) named =
        map-cond (λ (f : List ℕ × Share). bytes f.1) (bytes_eq name.0 e.0) es (e ∷ remove_entry (bytes_eq name.0) es)
        ∙ ap (λ (key : List ℕ). cond (bytes_eq name.0 key) (chunks_of bytes es) (bytes e.1 ∷ chunks_of bytes (remove_entry (bytes_eq name.0) es))) named.0
        ∙ ap (λ (rest : List (List ℕ)). cond (has_name name (bytes e.1)) (chunks_of bytes es) (bytes e.1 ∷ rest)) (removed es named.1)

    nothing_removed : (es : Entries) → lookup_entry (bytes_eq name.0) es ≡ None → remove_entry (bytes_eq name.0) es ≡ es
    nothing_removed [] none = refl
    nothing_removed (e ∷ es) none = by (bytes_eq name.0 e.0) none (nothing_removed es)
      where
        by : (b : Bool) → cond b (Some e) (lookup_entry (bytes_eq name.0) es) ≡ None → (lookup_entry (bytes_eq name.0) es ≡ None → remove_entry (bytes_eq name.0) es ≡ es) → cond b es (e ∷ remove_entry (bytes_eq name.0) es) ≡ e ∷ es
        by true bad h = cc bad
        by false none h = ap (λ (rest : Entries). e ∷ rest) (h none)

    chunks_by : (es : Entries) → AreNamed bytes es → (o : Option (List ℕ × Share)) → lookup_entry (bytes_eq name.0) es ≡ o
        → chunks_of bytes (option_map_or (λ e. e ∷ remove_entry (bytes_eq name.0) es) o es) ≡ cons_option (option_map (λ e. bytes e.1) o) (remove_key (has_name name) (chunks_of bytes es))
    chunks_by es named None none = ap (chunks_of bytes) (sym (nothing_removed es none)) ∙ removed es named
    chunks_by es named (Some e) some = ap (λ (rest : List (List ℕ)). bytes e.1 ∷ rest) (removed es named)

    -- a promoted entry is a chunk at the front
    pub chunks-promoted : (es : Entries) → AreNamed bytes es → chunks_of bytes (promoted (bytes_eq name.0) es) ≡ to_front name (chunks_of bytes es)
    chunks-promoted es named =
        chunks_by es named (lookup_entry (bytes_eq name.0) es) refl
        ∙ ap (λ (o : Option (List ℕ)). cons_option o (remove_key (has_name name) (chunks_of bytes es))) (found-entry es named)

    named-found : (es : Entries) (f : List ℕ × Share) → AreNamed bytes es → lookup_entry (bytes_eq name.0) es ≡ Some f → f.0 ≡ (digest_of (bytes f.1)).0
    named-found [] f named none = cc none
    named-found (e ∷ es) f named some = by (bytes_eq name.0 e.0) some (named-found es f named.1)
      where
        by : (b : Bool) → cond b (Some e) (lookup_entry (bytes_eq name.0) es) ≡ Some f → (lookup_entry (bytes_eq name.0) es ≡ Some f → f.0 ≡ (digest_of (bytes f.1)).0) → f.0 ≡ (digest_of (bytes f.1)).0
        by true here h = let same : e ≡ f = cc here in subst (λ (g : List ℕ × Share). g.0 ≡ (digest_of (bytes g.1)).0) same named.0
        by false later h = h later

    named-removed : (es : Entries) → AreNamed bytes es → AreNamed bytes (remove_entry (bytes_eq name.0) es)
    named-removed [] named = tt
    named-removed (e ∷ es) named = by (bytes_eq name.0 e.0) (named-removed es named.1)
      where
        by : (b : Bool) → AreNamed bytes (remove_entry (bytes_eq name.0) es) → AreNamed bytes (cond b es (e ∷ remove_entry (bytes_eq name.0) es))
        by true later = named.1
        by false later = (named.0, later)

    named_by : (es : Entries) → AreNamed bytes es → (o : Option (List ℕ × Share)) → lookup_entry (bytes_eq name.0) es ≡ o → AreNamed bytes (option_map_or (λ e. e ∷ remove_entry (bytes_eq name.0) es) o es)
    named_by es named None none = named
    named_by es named (Some f) some = (named-found es f named some, named-removed es named)

    pub named-promoted : (es : Entries) → AreNamed bytes es → AreNamed bytes (promoted (bytes_eq name.0) es)
    named-promoted es named = named_by es named (lookup_entry (bytes_eq name.0) es) refl

    -- whether a chunk is there
    pub is_found : (es : Entries) (old : Recent) → AreNamed bytes es → (room : ℕ) → recent (chunks_of bytes es) room ≡ old → is_some (lookup (bytes_eq name.0) es) ≡ is_some (found name old.chunks)
    is_found es old named room view = is_some-map bytes _ ∙ ap is_some (found-value es named) ∙ ap (λ (r : Recent). is_some (found name r.chunks)) view

    -- a list whose chunk of that name was promoted
    pub view-promoted : (es : Entries) (room : ℕ) (old : Recent) → AreNamed bytes es → recent (chunks_of bytes es) room ≡ old
        → recent (chunks_of bytes (promoted (bytes_eq name.0) es)) room ≡ recent (to_front name old.chunks) old.room
    view-promoted es room old named view =
        ap (λ (chunks : List (List ℕ)). recent chunks room) (chunks-promoted es named)
        ∙ ap (λ (r : Recent). recent (to_front name r.chunks) r.room) view

    pub size-promoted : (es : Entries) → AreNamed bytes es → size_of (chunks_of bytes (promoted (bytes_eq name.0) es)) ≡ size_of (chunks_of bytes es)
    size-promoted es named = ap size_of (chunks-promoted es named) ∙ sum_by-moved (λ chunk. 40 + length chunk) (has_name name) (chunks_of bytes es)

    -- the first entry, where it has the name, is the one that is found
    lookup-first : (es : Entries) (e : List ℕ × Share) → slice_get es 0 ≡ Some e → bytes_eq name.0 e.0 ≡ true → lookup (bytes_eq name.0) es ≡ Some e.1
    lookup-first [] e some passes = cc some
    lookup-first (f ∷ es) e some passes =
        let same : f ≡ e = cc some in
        ap (λ (g : List ℕ × Share). cond (bytes_eq name.0 g.0) (Some g.1) (lookup (bytes_eq name.0) es)) same ∙ ap (λ b. cond b (Some e.1) (lookup (bytes_eq name.0) es)) passes

    -- and promoted it stays the first
    promoted-first : (es : Entries) (e : List ℕ × Share) → slice_get es 0 ≡ Some e → bytes_eq name.0 e.0 ≡ true → promoted (bytes_eq name.0) es ≡ es
    promoted-first [] e some passes = refl
    promoted-first (f ∷ es) e some passes =
        let same : f ≡ e = cc some in
        by (bytes_eq name.0 f.0) (ap (λ (g : List ℕ × Share). bytes_eq name.0 g.0) same ∙ passes)
      where
        by : (b : Bool) → b ≡ true → option_map_or (λ g. g ∷ cond b es (f ∷ remove_entry (bytes_eq name.0) es)) (cond b (Some f) (lookup_entry (bytes_eq name.0) es)) (f ∷ es) ≡ f ∷ es
        by true passes = refl
        by false passes = cc passes

    is_named : (key : List ℕ) → bytes_eq key name.0 ≡ true → bytes_eq name.0 key ≡ true
    is_named key same = (bytes_eq-Decides name.0 key).1 (sym ((bytes_eq-Decides key name.0).0 same))

    pub found-first : (es : Entries) (e : List ℕ × Share) (room : ℕ) (old : Recent) → AreNamed bytes es → recent (chunks_of bytes es) room ≡ old → slice_get es 0 ≡ Some e → bytes_eq e.0 name.0 ≡ true
        → Some (bytes e.1) ≡ found name old.chunks
    found-first es e room old named view some same =
        sym (ap (option_map bytes) (lookup-first es e some (is_named e.0 same))) ∙ found-value es named ∙ ap (λ (r : Recent). found name r.chunks) view

    pub view-first : (es : Entries) (e : List ℕ × Share) (room : ℕ) (old : Recent) → AreNamed bytes es → recent (chunks_of bytes es) room ≡ old → slice_get es 0 ≡ Some e → bytes_eq e.0 name.0 ≡ true
        → old ≡ recent (to_front name old.chunks) old.room
    view-first es e room old named view some same =
        sym view ∙ ap (λ (fs : Entries). recent (chunks_of bytes fs) room) (sym (promoted-first es e some (is_named e.0 same))) ∙ view-promoted es room old named view

    -- nothing is found where there is no first entry
    pub none-first : (es : Entries) (room : ℕ) (old : Recent) → recent (chunks_of bytes es) room ≡ old → slice_get es 0 ≡ None → None ≡ found name old.chunks
    none-first [] room old view none = ap (λ (r : Recent). found name r.chunks) view
    none-first (e ∷ es) room old view none = cc none

  none_from_map : {A B : Type 0} (f : A → B) (o : Option A) → option_map f o ≡ None → o ≡ None
  none_from_map f None h = refl
  none_from_map f (Some x) h = cc h

  -- a chunk that isn't there goes first, where there is room
  pub entries-put : (name : Digest) (cache : LruCache (List ℕ) Share) (share : Share) → AreNamed bytes cache.entries → found name (chunks_of bytes cache.entries) ≡ None → length (chunks_of bytes cache.entries) < cache.cap
      → put_entries bytes_eq cache name.0 share ≡ (name.0, share) ∷ cache.entries
  entries-put name cache share named none room =
      ap (λ (o : Option (List ℕ × Share)). option_map_or (λ e. (e.0, share) ∷ remove_entry (bytes_eq name.0) cache.entries) o ((name.0, share) ∷ take (cache.cap - 1) cache.entries))
      (none_from_map (λ (e : List ℕ × Share). bytes e.1) _ (found-entry name cache.entries named ∙ none))
      ∙ ap (λ (rest : Entries). (name.0, share) ∷ rest) (take_all (cache.cap - 1) cache.entries (omega (arith, room, length-map cache.entries (λ (e : List ℕ × Share). bytes e.1))))

  -- no last entry
  none_is_last : (es : Entries) → slice_get es (length es - 1) ≡ None → es ≡ []
  none_is_last [] none = refl
  none_is_last (e ∷ es) none = let bad : None ≡ Some _ = sym none ∙ slice_get-get_or (e ∷ es) (length (e ∷ es) - 1) e (omega arith) in cc bad

  slice_get-chunks : (es : Entries) (i : ℕ) → slice_get (chunks_of bytes es) i ≡ option_map (λ e. bytes e.1) (slice_get es i)
  slice_get-chunks [] i = refl
  slice_get-chunks (e ∷ es) zero = refl
  slice_get-chunks (e ∷ es) (suc i) = slice_get-chunks es i

  -- what is counted without the last entry
  pub size-last : (es : Entries) (e : List ℕ × Share) → slice_get es (length es - 1) ≡ Some e → size_of (chunks_of bytes (take (length es - 1) es)) + (40 + length (bytes e.1)) ≡ size_of (chunks_of bytes es)
  size-last es e last =
      let long : length (chunks_of bytes es) ≡ length es = length-map es (λ (f : List ℕ × Share). bytes f.1) in
      let some : 0 < length es = omega (arith, slice_get_within es (length es - 1) e last) in
      let chunk : slice_get (chunks_of bytes es) (length es - 1) ≡ Some (bytes e.1) = slice_get-chunks es (length es - 1) ∙ ap (option_map (λ (f : List ℕ × Share). bytes f.1)) last in
      let is : get_or (chunks_of bytes es) (length es - 1) [] ≡ bytes e.1 = get_or_from_slice_get (chunks_of bytes es) (length es - 1) (bytes e.1) [] chunk in
      let counted : size_of (take (length es - 1) (chunks_of bytes es)) + (40 + length (get_or (chunks_of bytes es) (length es - 1) [])) ≡ size_of (chunks_of bytes es) =
      subst (λ n. size_of (take (n - 1) (chunks_of bytes es)) + (40 + length (get_or (chunks_of bytes es) (n - 1) [])) ≡ size_of (chunks_of bytes es)) long
      (sum_by-without_last (λ chunk. 40 + length chunk) (chunks_of bytes es) [] (omega (arith, some, long))) in
      ap (λ (chunks : List (List ℕ)). size_of chunks + (40 + length (bytes e.1))) (chunks-take (length es - 1) es)
      ∙ ap (λ (chunk : List ℕ). size_of (take (length es - 1) (chunks_of bytes es)) + (40 + length chunk)) (sym is) ∙ counted

  -- a list without its last entry
  pub view-last : (es : Entries) (room : ℕ) (old : Recent) → recent (chunks_of bytes es) room ≡ old → recent (chunks_of bytes (take (length es - 1) es)) room ≡ recent (without_last old.chunks) old.room
  view-last es room old view =
      ap (λ (chunks : List (List ℕ)). recent chunks room) (chunks-take (length es - 1) es)
      ∙ ap (λ n. recent (take (n - 1) (chunks_of bytes es)) room) (sym (length-map es (λ (f : List ℕ × Share). bytes f.1)))
      ∙ ap (λ (r : Recent). recent (without_last r.chunks) r.room) view

  -- what a list is after a `put` of a chunk that wasn't there
  pub put-absent : (cache after : LruCache (List ℕ) Share) (name : Digest) (share : Share) (old : Recent) → AreNamed bytes cache.entries → recent (chunks_of bytes cache.entries) cache.cap ≡ old
      → name ≡ digest_of (bytes share) → found (digest_of (bytes share)) old.chunks ≡ None → length old.chunks < old.room
      → after ≡ lru_cache (put_entries bytes_eq cache name.0 share) cache.cap
      → after ≡ lru_cache (((digest_of (bytes share)).0, share) ∷ cache.entries) cache.cap
  put-absent cache after name share old named view is none room put =
      put
      ∙ ap (λ (d : Digest). lru_cache (put_entries bytes_eq cache d.0 share) cache.cap) is
      ∙ ap (λ (es : Entries). lru_cache es cache.cap) (entries-put (digest_of (bytes share)) cache share named
      (ap (λ (r : Recent). found (digest_of (bytes share)) r.chunks) view ∙ none)
      (subst (λ (r : Recent). length r.chunks < r.room) (sym view) room))

  -- the chunk that is found, seen from outside
  pub found-view : (name : Digest) (es : Entries) (room : ℕ) (old : Recent) → AreNamed bytes es → recent (chunks_of bytes es) room ≡ old → option_map bytes (lookup (bytes_eq name.0) es) ≡ found name old.chunks
  found-view name es room old named view = found-value name es named ∙ ap (λ (r : Recent). found name r.chunks) view

  pub none_goes : (es : Entries) → slice_get es (length es - 1) ≡ None → take (length es - 1) es ≡ es
  none_goes es none = let empty = none_is_last es none in ap (λ (fs : Entries). take (length fs - 1) fs) empty ∙ sym empty
