-- What the entries of a table mean.
use Rattle.std.proofs.Common.{◌≡◌, Bool, true, false, cond, List, [], ◌∷◌, map, Option, Some, None, option_map, refl, sym, ap, ◌∙◌}
use Rattle.std.specs.BTreeMap.{is_at}
use Rattle.std.specs.FinMap.{get, find, insert, remove, get-from_entries, get-insert, get-remove, same_map}
use Rattle.std.specs.Map.{lookup}
use Rattle.std.specs.Ordering.{eq_by_cmp, is_eq}
use Rattle.std.specs.declared.cmp.Ordering.{Ordering}
use Rattle.std.specs.declared.cmp.Ordering.TheVariants.{Less, Equal, Greater}
use Rattle.std.proofs.lemmas.Cmp.{eq_by_cmp_equiv}
use Rattle.host_names.specs.declared.digests.Digest.{Digest}
use Rattle.host_names.specs.Digests.{digest_cmp, digest_cmp_total, digest_cmp-IsAntisymmetric}
use Rattle.single_flight.specs.Open.{AreOfTheirKeys, OpenFlight, opened}

ties : (o : Ordering) → is_eq o ≡ true → o ≡ Equal
ties Less e = cc e
ties Equal e = refl
ties Greater e = cc e

-- keys that tie are one
pub one_key : (key k : Digest) → eq_by_cmp digest_cmp key k ≡ true → key ≡ k
one_key key k tie = digest_cmp-IsAntisymmetric key k (ties _ tie)

option_map-cond : {A B : Type 0} (f : A → B) (b : Bool) (w o : Option A) → option_map f (cond b w o) ≡ cond b (option_map f w) (option_map f o)
option_map-cond f true w o = refl
option_map-cond f false w o = refl

module _ {F : Type 0} (seen : F → OpenFlight) where
  find-opened : (flights : List (Digest × F)) (q : Digest) → find digest_cmp q (map (λ e. (e.0, seen e.1)) flights) ≡ option_map seen (lookup (is_at (digest_cmp q)) flights)
  find-opened [] q = refl
  find-opened (e ∷ flights) q =
      ap (cond (is_at (digest_cmp q) e.0) (Some (seen e.1))) (find-opened flights q) ∙ sym (option_map-cond seen (is_at (digest_cmp q) e.0) (Some e.1) _)

  -- the flight of a key is the one at its entry
  pub get-opened : (flights : List (Digest × F)) (q : Digest) → get (opened seen flights) q ≡ option_map seen (lookup (is_at (digest_cmp q)) flights)
  get-opened flights q = get-from_entries digest_cmp_total _ q ∙ find-opened flights q

  -- flights that differ at one key
  get-changed : (old new : List (Digest × F)) (key : Digest) (w : Option F)
      → ((q : Digest) → lookup (is_at (digest_cmp q)) new ≡ cond (is_at (digest_cmp key) q) w (lookup (is_at (digest_cmp q)) old))
      → (q : Digest) → get (opened seen new) q ≡ cond (eq_by_cmp digest_cmp q key) (option_map seen w) (get (opened seen old) q)
  get-changed old new key w h q =
      get-opened new q ∙ ap (option_map seen) (h q) ∙ option_map-cond seen _ w _
      ∙ ap (cond (is_at (digest_cmp key) q) (option_map seen w)) (sym (get-opened old q))
      ∙ ap (λ b. cond b (option_map seen w) (get (opened seen old) q)) ((eq_by_cmp_equiv digest_cmp_total).symm key q)

  pub opened-insert : (old new : List (Digest × F)) (key : Digest) (flight : F)
      → ((q : Digest) → lookup (is_at (digest_cmp q)) new ≡ cond (is_at (digest_cmp key) q) (Some flight) (lookup (is_at (digest_cmp q)) old))
      → opened seen new ≡ insert (opened seen old) key (seen flight)
  opened-insert old new key flight h = same_map digest_cmp_total digest_cmp-IsAntisymmetric _ _ (λ q.
      get-changed old new key (Some flight) h q ∙ sym (get-insert digest_cmp_total (opened seen old) key (seen flight) q))

  pub opened-remove : (old new : List (Digest × F)) (key : Digest)
      → ((q : Digest) → lookup (is_at (digest_cmp q)) new ≡ cond (is_at (digest_cmp key) q) None (lookup (is_at (digest_cmp q)) old))
      → opened seen new ≡ remove (opened seen old) key
  opened-remove old new key h = same_map digest_cmp_total digest_cmp-IsAntisymmetric _ _ (λ q.
      get-changed old new key None h q ∙ sym (get-remove digest_cmp_total (opened seen old) key q))

module _ {F : Type 0} (key_of : F → Digest) where
  -- no flight is kept
  pub of_keys-none : (flights : List (Digest × F)) → flights ≡ [] → AreOfTheirKeys key_of flights
  of_keys-none flights none q p here =
      let bad : None ≡ Some p = ap (lookup (is_at (digest_cmp q))) (sym none) ∙ here in cc bad

  -- flights that differ at one key
  of_keys-changed : (old new : List (Digest × F)) (key : Digest) (w : Option F) → AreOfTheirKeys key_of old → ((p : F) → w ≡ Some p → key_of p ≡ key)
      → ((q : Digest) → lookup (is_at (digest_cmp q)) new ≡ cond (is_at (digest_cmp key) q) w (lookup (is_at (digest_cmp q)) old))
      → AreOfTheirKeys key_of new
  of_keys-changed old new key w are own h q p here =
      elim (is_at (digest_cmp key) q) as (λ b. is_at (digest_cmp key) q ≡ b → cond b w (lookup (is_at (digest_cmp q)) old) ≡ Some p → key_of p ≡ q) [
        | true ↦ λ tie found. own p found ∙ one_key key q tie
        | false ↦ λ tie found. are q p found
      ] refl (sym (h q) ∙ here)

  pub of_keys-insert : (old new : List (Digest × F)) (key : Digest) (flight : F) → AreOfTheirKeys key_of old → key_of flight ≡ key
      → ((q : Digest) → lookup (is_at (digest_cmp q)) new ≡ cond (is_at (digest_cmp key) q) (Some flight) (lookup (is_at (digest_cmp q)) old))
      → AreOfTheirKeys key_of new
  of_keys-insert old new key flight are own h =
      of_keys-changed old new key (Some flight) are (λ p same. let is : flight ≡ p = cc same in ap key_of (sym is) ∙ own) h

  pub of_keys-remove : (old new : List (Digest × F)) (key : Digest) → AreOfTheirKeys key_of old
      → ((q : Digest) → lookup (is_at (digest_cmp q)) new ≡ cond (is_at (digest_cmp key) q) None (lookup (is_at (digest_cmp q)) old))
      → AreOfTheirKeys key_of new
  of_keys-remove old new key are h = of_keys-changed old new key None are (λ p none. cc none) h
