-- The test of values answers true just where they are the same.
use Rattle.std.proofs.Common.{◌≡◌, ◌==◌, ℕ, List, Bool, true, Option, Some, None, Decides, bytes_eq, refl, ap}
use Rattle.std.specs.Cmp.{IsEquivalence, decided, booleans_Decides, and_equiv, on_equiv}
use Rattle.std.specs.Option.{option_eq}
use Rattle.std.specs.Cmp.Lexicographic.{pointwise_decides, bytes_decides, lists_equiv, nat_list_eq_equiv, options_equiv}
use Rattle.std.proofs.lemmas.Bool.Decides.{Decides-and, Decides-like, Decides-eqb}
use Rattle.host_names.specs.Digests.{digest_of}
use Rattle.host_names.specs.declared.digests.Digest.{Digest}
use Rattle.site_state.specs.declared.values.Draft.{Draft}
use Rattle.site_state.specs.declared.values.Value.{Value}
use Rattle.site_state.specs.declared.values.Value.TheVariants as value
use Rattle.site_state.specs.Files.{Paths}
use Rattle.site_state.specs.Listings.{Listed}
use Rattle.site_state.specs.Values.{paths_eq, digest_eq, listing_eq, draft_eq, value_eq, same_value, one_digest, value_alike, are_alike}

pub paths_eq-decides : {X : Type 0} {eq : X → X → Bool} → ((a b : X) → Decides (eq a b) (a ≡ b)) → (xs ys : Paths X) → Decides (paths_eq eq xs ys) (xs ≡ ys)
paths_eq-decides {X} {eq} same = pointwise_decides (λ a b.
    Decides-like _ (λ e i. (e.0 i, e.1 i)) (λ e. (ap (λ (x : List ℕ × X). x.0) e, ap (λ (x : List ℕ × X). x.1) e))
    (Decides-and (bytes_eq a.0 b.0) (eq a.1 b.1) (bytes_decides a.0 b.0) (same a.1 b.1)))

pub digest_eq-decides : (a b : Digest) → Decides (digest_eq a b) (a ≡ b)
digest_eq-decides a b = Decides-like _ (λ e i. record { 0 = e i }) (λ e. ap (λ (d : Digest). d.0) e) (bytes_decides a.0 b.0)

pub option_eq-decides : {X : Type 0} {eq : X → X → Bool} → ((a b : X) → Decides (eq a b) (a ≡ b)) → (a b : Option X) → Decides (option_eq eq a b) (a ≡ b)
option_eq-decides same None None = (λ e. refl, λ e. refl)
option_eq-decides same None (Some b) = (λ e. cc, λ e. cc)
option_eq-decides same (Some a) None = (λ e. cc, λ e. cc)
option_eq-decides same (Some a) (Some b) = Decides-like _ (λ e. ap Some e) (λ e. cc) (same a b)

pub listing_eq-decides : (a b : Listed) → Decides (listing_eq a b) (a ≡ b)
listing_eq-decides a b =
    Decides-like _ (λ e i. (e.0 i, e.1 i)) (λ e. (ap (λ (l : Listed). l.0) e, ap (λ (l : Listed). l.1) e))
    (Decides-and _ _ (booleans_Decides a.0 b.0) (paths_eq-decides (option_eq-decides digest_eq-decides) a.1 b.1))

pub draft_eq-decides : (a b : Draft) → Decides (draft_eq a b) (a ≡ b)
draft_eq-decides a b =
    Decides-like _ (λ e i. record { auto = e.0 i; files = e.1 i }) (λ e. (ap (λ (d : Draft). d.auto) e, ap (λ (d : Draft). d.files) e))
    (Decides-and _ _ (booleans_Decides a.auto b.auto) (listing_eq-decides a.files b.files))

pub value_eq-decides : (v w : Value) → Decides (value_eq v w) (v ≡ w)
value_eq-decides (value.Live a) (value.Live b) = Decides-like _ (λ e. ap value.Live e) (λ e. cc) (bytes_decides a b)
value_eq-decides (value.Kept a) (value.Kept b) = Decides-like _ (λ e. ap value.Kept e) (λ e. cc) (paths_eq-decides bytes_decides a b)
value_eq-decides (value.Alias m) (value.Alias n) = Decides-like _ (λ e. ap value.Alias e) (λ e. cc) (Decides-eqb m n)
value_eq-decides (value.Draft a) (value.Draft b) = Decides-like _ (λ e. ap value.Draft e) (λ e. cc) (draft_eq-decides a b)
value_eq-decides (value.Live a) w = (λ e. cc, λ e. cc)
value_eq-decides (value.Kept a) w = (λ e. cc, λ e. cc)
value_eq-decides (value.Alias a) w = (λ e. cc, λ e. cc)
value_eq-decides (value.Draft a) w = (λ e. cc, λ e. cc)

pub same_value-decides : (v w : Option Value) → Decides (same_value v w) (v ≡ w)
same_value-decides None None = (λ e. refl, λ e. refl)
same_value-decides (Some a) (Some b) = Decides-like _ (λ e. ap Some e) (λ e. cc) (value_eq-decides a b)
same_value-decides None (Some b) = (λ e. cc, λ e. cc)
same_value-decides (Some a) None = (λ e. cc, λ e. cc)

pub digest_eq-equiv : IsEquivalence digest_eq
digest_eq-equiv = decided digest_eq digest_eq-decides

pub listing_eq-equiv : IsEquivalence listing_eq
listing_eq-equiv = decided listing_eq listing_eq-decides

pub draft_eq-equiv : IsEquivalence draft_eq
draft_eq-equiv = decided draft_eq draft_eq-decides

-- ---- as far as digests tell

pub one_digest-equiv : IsEquivalence one_digest
one_digest-equiv = on_equiv digest_of digest_eq-equiv

trees-equiv : IsEquivalence (paths_eq one_digest)
trees-equiv = lists_equiv (and_equiv (on_equiv (λ e. e.0) nat_list_eq_equiv) (on_equiv (λ e. e.1) one_digest-equiv))

-- that two numbers are the same
numbers-equiv : IsEquivalence ◌==◌
numbers-equiv = decided _ Decides-eqb

alike_itself : (v : Value) → value_alike v v ≡ true
alike_itself (value.Live a) = one_digest-equiv.refl a
alike_itself (value.Kept a) = trees-equiv.refl a
alike_itself (value.Alias n) = numbers-equiv.refl n
alike_itself (value.Draft a) = draft_eq-equiv.refl a

alike_back : (v w : Value) → value_alike v w ≡ value_alike w v
alike_back (value.Live a) (value.Live b) = one_digest-equiv.symm a b
alike_back (value.Kept a) (value.Kept b) = trees-equiv.symm a b
alike_back (value.Alias m) (value.Alias n) = numbers-equiv.symm m n
alike_back (value.Draft a) (value.Draft b) = draft_eq-equiv.symm a b
alike_back (value.Live a) w = refl
alike_back (value.Kept a) w = refl
alike_back (value.Alias a) w = refl
alike_back (value.Draft a) w = refl

alike_both : (u v w : Value) → value_alike u v ≡ true → value_alike u w ≡ value_alike v w
alike_both (value.Live a) (value.Live b) (value.Live c) e = one_digest-equiv.congr a b c e
alike_both (value.Kept a) (value.Kept b) (value.Kept c) e = trees-equiv.congr a b c e
alike_both (value.Alias l) (value.Alias m) (value.Alias n) e = numbers-equiv.congr l m n e
alike_both (value.Draft a) (value.Draft b) (value.Draft c) e = draft_eq-equiv.congr a b c e
alike_both (value.Live a) (value.Live b) w e = refl
alike_both (value.Kept a) (value.Kept b) w e = refl
alike_both (value.Alias m) (value.Alias n) w e = refl
alike_both (value.Draft a) (value.Draft b) w e = refl
alike_both (value.Live a) v w e = cc e
alike_both (value.Kept a) v w e = cc e
alike_both (value.Alias a) v w e = cc e
alike_both (value.Draft a) v w e = cc e

pub value_alike-equiv : IsEquivalence value_alike
value_alike-equiv = record { refl = alike_itself; symm = alike_back; congr = alike_both }

pub are_alike-itself : (v : Option Value) → are_alike v v ≡ true
are_alike-itself v = (options_equiv value_alike-equiv).refl v
