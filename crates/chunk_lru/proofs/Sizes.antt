-- What chunks count, as their order changes and as one goes.
use Rattle.std.proofs.Common.{◌≡◌, ℕ, ◌+◌, ◌-◌, ◌*◌, ◌<◌, ◌≤◌, Bool, true, false, cond, List, [], ◌∷◌, length, take, get_or, is_some, Option, Some, None, refl, sym, ap, ◌∙◌, arith}
use Rattle.std.specs.Prelude.{if◌then◌else◌}
use Rattle.std.specs.List.{cons_option, find, sum_by}
use Rattle.std.specs.Set.{remove_key}
use Rattle.std.proofs.lemmas.List.{take_all}
use Rattle.std.proofs.lemmas.List.Sums.{sum_by-cons, sum_by_more}
use Rattle.std.proofs.lemmas.Slice.Eq.{bytes_eq-Decides}
use Rattle.host_names.specs.declared.digests.Digest.{Digest}
use Rattle.host_names.specs.Digests.{digest_of}
use Rattle.chunk_lru.specs.Recent.{Recent, found, has_name, inserted, recent, size_of, to_front}

module _ {X : Type 0} (f : X → ℕ) where
  -- a move to the front
  pub sum_by-moved : (test : X → Bool) (xs : List X) → sum_by f (cons_option (find test xs) (remove_key test xs)) ≡ sum_by f xs
  sum_by-moved test [] = refl
  sum_by-moved test (x ∷ xs) = by (test x) (find test xs) (sum_by-moved test xs)
    where
      by : (b : Bool) (o : Option X) → sum_by f (cons_option o (remove_key test xs)) ≡ sum_by f xs → sum_by f (cons_option (cond b (Some x) o) (cond b xs (x ∷ remove_key test xs))) ≡ sum_by f (x ∷ xs)
      by true o h = refl
      by false None h = omega (arith, h, sum_by-cons f x xs, sum_by-cons f x (remove_key test xs))
      by false (Some y) h = omega (arith, h, sum_by-cons f x xs, sum_by-cons f y (x ∷ remove_key test xs), sum_by-cons f x (remove_key test xs), sum_by-cons f y (remove_key test xs))

  -- without the last
  pub sum_by-without_last : (xs : List X) (d : X) → 0 < length xs → sum_by f (take (length xs - 1) xs) + f (get_or xs (length xs - 1) d) ≡ sum_by f xs
  sum_by-without_last xs d some =
      let last : length xs - 1 + 1 ≡ length xs = omega (arith, some) in
      sym (sum_by_more f xs (length xs - 1) d (omega (arith, some)))
      ∙ ap (λ n. sum_by f (take n xs)) last
      ∙ ap (sum_by f) (take_all (length xs) xs (omega arith))

pub none_from_is_some : {X : Type 0} (o : Option X) → is_some o ≡ false → o ≡ None
none_from_is_some None absent = refl
none_from_is_some (Some x) absent = cc absent

-- a name that isn't there
module _ {X : Type 0} (test : X → Bool) where
  nothing_removed : (xs : List X) → find test xs ≡ None → remove_key test xs ≡ xs
  nothing_removed [] none = refl
  nothing_removed (x ∷ xs) none = by (test x) none (nothing_removed xs)
    where
      by : (b : Bool) → cond b (Some x) (find test xs) ≡ None → (find test xs ≡ None → remove_key test xs ≡ xs) → cond b xs (x ∷ remove_key test xs) ≡ x ∷ xs
      by true bad h = cc bad
      by false none h = ap (λ (rest : List X). x ∷ rest) (h none)

  pub moved-absent : (xs : List X) → find test xs ≡ None → cons_option (find test xs) (remove_key test xs) ≡ xs
  moved-absent xs none = ap (λ (o : Option X). cons_option o (remove_key test xs)) none ∙ nothing_removed xs none

-- where a name isn't there, a look for it moves nothing
pub to_front-absent : (name : Digest) (chunks : List (List ℕ)) → found name chunks ≡ None → to_front name chunks ≡ chunks
to_front-absent name chunks none = moved-absent (has_name name) chunks none

pub looked-absent : (name : Digest) (old new : Recent) → new ≡ recent (to_front name old.chunks) old.room → found name old.chunks ≡ None → new ≡ old
looked-absent name old new is none = is ∙ ap (λ (chunks : List (List ℕ)). recent chunks old.room) (to_front-absent name old.chunks none)

pub size_of-to_front : (name : Digest) (chunks : List (List ℕ)) → size_of (to_front name chunks) ≡ size_of chunks
size_of-to_front name chunks = sum_by-moved (λ chunk. 40 + length chunk) (has_name name) chunks

pub inserted-absent : (chunk : List ℕ) (chunks : List (List ℕ)) → found (digest_of chunk) chunks ≡ None → inserted chunk chunks ≡ chunk ∷ chunks
inserted-absent chunk chunks none = ap (λ o. if is_some o then to_front (digest_of chunk) chunks else chunk ∷ chunks) none

-- what passes the test has the name
pub same_name : (name : Digest) (chunk : List ℕ) → has_name name chunk ≡ true → digest_of chunk ≡ name
same_name name chunk passes = ap (λ (bytes : List ℕ). let d : Digest = record { 0 = bytes } in d) (sym ((bytes_eq-Decides name.0 (digest_of chunk).0).0 passes))

-- what is found has the name
pub found-name : (name : Digest) (chunks : List (List ℕ)) (chunk : List ℕ) → found name chunks ≡ Some chunk → digest_of chunk ≡ name
found-name name [] chunk none = cc none
found-name name (c ∷ chunks) chunk some = by (has_name name c) refl some (found-name name chunks chunk)
  where
    by : (b : Bool) → has_name name c ≡ b → cond b (Some c) (found name chunks) ≡ Some chunk → (found name chunks ≡ Some chunk → digest_of chunk ≡ name) → digest_of chunk ≡ name
    by true passes here h = ap digest_of (let is : chunk ≡ c = cc here in is) ∙ same_name name c passes
    by false fails later h = h later

-- each counts 40 at least
pub forty_each : (chunks : List (List ℕ)) → 40 * length chunks ≤ size_of chunks
forty_each [] = omega arith
forty_each (chunk ∷ chunks) = omega (arith, forty_each chunks, sum_by-cons (λ c. 40 + length c) chunk chunks)

pub size_of-cons : (chunk : List ℕ) (chunks : List (List ℕ)) → size_of (chunk ∷ chunks) ≡ 40 + length chunk + size_of chunks
size_of-cons chunk chunks = sum_by-cons (λ c. 40 + length c) chunk chunks
