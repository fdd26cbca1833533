-- No list has a name twice.
use Rattle.std.proofs.Common.{◌≡◌, ℕ, zero, suc, Bool, true, false, cond, List, [], ◌∷◌, length, take, is_some, nat_lt, Option, Some, None, refl, sym, ap, ◌∙◌, ◌-◌}
use Rattle.std.specs.Prelude.{if◌then◌else◌}
use Rattle.std.specs.List.{cons_option}
use Rattle.std.specs.Set.{remove_key}
use Rattle.host_names.specs.declared.digests.Digest.{Digest}
use Rattle.host_names.specs.Digests.{digest_of}
use Rattle.chunk_lru.specs.declared.caches.Which.{Which}
use Rattle.chunk_lru.specs.declared.caches.Which.TheVariants.{Main, Hot}
use Rattle.chunk_lru.specs.Caches.{Cache}
use Rattle.chunk_lru.specs.Recent.{HaveOwnNames, found, has_name, inserted, to_front, without_last}
use Rattle.chunk_lru.specs.Rules.{chunks_in, evicted, shrunk, total, victim, with_chunks, with_one_gone}
use Rattle.chunk_lru.proofs.Evictions.{count}
use Rattle.chunk_lru.proofs.Sizes.{found-name, none_from_is_some, same_name}

none-take : (name : Digest) (n : ℕ) (chunks : List (List ℕ)) → found name chunks ≡ None → found name (take n chunks) ≡ None
none-take name zero chunks none = refl
none-take name (suc n) [] none = refl
none-take name (suc n) (chunk ∷ chunks) none = by (has_name name chunk) none (none-take name n chunks)
  where
    by : (b : Bool) → cond b (Some chunk) (found name chunks) ≡ None → (found name chunks ≡ None → found name (take n chunks) ≡ None) → cond b (Some chunk) (found name (take n chunks)) ≡ None
    by true bad rest = cc bad
    by false none rest = rest none

own-take : (n : ℕ) (chunks : List (List ℕ)) → HaveOwnNames chunks → HaveOwnNames (take n chunks)
own-take zero chunks own = tt
own-take (suc n) [] own = tt
own-take (suc n) (chunk ∷ chunks) own = (none-take (digest_of chunk) n chunks own.0, own-take n chunks own.1)

both_none : {X : Type 0} (b : Bool) (x : X) (o : Option X) → cond b (Some x) o ≡ None → (b ≡ false) × (o ≡ None)
both_none true x o bad = cc bad
both_none false x o none = (refl, none)

none-removed : (name : Digest) (test : List ℕ → Bool) (chunks : List (List ℕ)) → found name chunks ≡ None → found name (remove_key test chunks) ≡ None
none-removed name test [] none = refl
none-removed name test (chunk ∷ chunks) none =
    let parts = both_none (has_name name chunk) chunk (found name chunks) none in
    by (test chunk) parts.0 parts.1 (none-removed name test chunks parts.1)
  where
    by : (b : Bool) → has_name name chunk ≡ false → found name chunks ≡ None → found name (remove_key test chunks) ≡ None → found name (cond b chunks (chunk ∷ remove_key test chunks)) ≡ None
    by true fails none rest = none
    by false fails none rest = ap (λ b. cond b (Some chunk) (found name (remove_key test chunks))) fails ∙ rest

own-removed : (test : List ℕ → Bool) (chunks : List (List ℕ)) → HaveOwnNames chunks → HaveOwnNames (remove_key test chunks)
own-removed test [] own = tt
own-removed test (chunk ∷ chunks) own = by (test chunk) (own-removed test chunks own.1)
  where
    by : (b : Bool) → HaveOwnNames (remove_key test chunks) → HaveOwnNames (cond b chunks (chunk ∷ remove_key test chunks))
    by true rest = own.1
    by false rest = (none-removed (digest_of chunk) test chunks own.0, rest)

-- the others have other names
none-others : (name : Digest) (chunks : List (List ℕ)) → HaveOwnNames chunks → found name (remove_key (has_name name) chunks) ≡ None
none-others name [] own = refl
none-others name (chunk ∷ chunks) own = by (has_name name chunk) refl (none-others name chunks own.1)
  where
    by : (b : Bool) → has_name name chunk ≡ b → found name (remove_key (has_name name) chunks) ≡ None → found name (cond b chunks (chunk ∷ remove_key (has_name name) chunks)) ≡ None
    by true passes rest = ap (λ (d : Digest). found d chunks) (sym (same_name name chunk passes)) ∙ own.0
    by false fails rest = ap (λ b. cond b (Some chunk) (found name (remove_key (has_name name) chunks))) fails ∙ rest

pub own-to_front : (name : Digest) (chunks : List (List ℕ)) → HaveOwnNames chunks → HaveOwnNames (to_front name chunks)
own-to_front name chunks own = by (found name chunks) refl
  where
    by : (o : Option (List ℕ)) → found name chunks ≡ o → HaveOwnNames (cons_option o (remove_key (has_name name) chunks))
    by None none = own-removed (has_name name) chunks own
    by (Some chunk) some = (
      ap (λ (d : Digest). found d (remove_key (has_name name) chunks)) (found-name name chunks chunk some) ∙ none-others name chunks own,
      own-removed (has_name name) chunks own,
    )

pub own-inserted : (chunk : List ℕ) (chunks : List (List ℕ)) → HaveOwnNames chunks → HaveOwnNames (inserted chunk chunks)
own-inserted chunk chunks own = by (is_some (found (digest_of chunk) chunks)) refl
  where
    by : (b : Bool) → is_some (found (digest_of chunk) chunks) ≡ b → HaveOwnNames (if b then to_front (digest_of chunk) chunks else chunk ∷ chunks)
    by true there = own-to_front (digest_of chunk) chunks own
    by false absent = (none_from_is_some _ absent, own)

abbrev pub AreOwn : Cache → Type 0
AreOwn cache = HaveOwnNames cache.main × HaveOwnNames cache.hot

own-in : (which : Which) (cache : Cache) → AreOwn cache → HaveOwnNames (chunks_in which cache)
own-in Main cache own = own.0
own-in Hot cache own = own.1

own-with : (which : Which) (chunks : List (List ℕ)) (cache : Cache) → HaveOwnNames chunks → AreOwn cache → AreOwn (with_chunks which chunks cache)
own-with Main chunks cache new own = (new, own.1)
own-with Hot chunks cache new own = (own.0, new)

own-gone : (cache : Cache) → AreOwn cache → AreOwn (with_one_gone cache)
own-gone cache own =
    let chunks = chunks_in (victim cache) cache in
    own-with (victim cache) (without_last chunks) cache (own-take (length chunks - 1) chunks (own-in (victim cache) cache own)) own

own-shrunk : (n : ℕ) (cache : Cache) → AreOwn cache → AreOwn (shrunk n cache)
own-shrunk zero cache own = own
own-shrunk (suc n) cache own = by (nat_lt cache.limit (total cache)) (own-shrunk n (with_one_gone cache) (own-gone cache own))
  where
    by : (b : Bool) → AreOwn (shrunk n (with_one_gone cache)) → AreOwn (if b then shrunk n (with_one_gone cache) else cache)
    by true rest = rest
    by false rest = own

pub own-evicted : (cache : Cache) → AreOwn cache → AreOwn (evicted cache)
own-evicted cache own = own-shrunk (count cache) cache own
