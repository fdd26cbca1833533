-- The body that is joined of what is held.
use Rattle.std.proofs.Common.{◌≡◌, Result, Ok, Err, IfOk, ℕ, List, [], ◌∷◌, ◌++◌, All, map, Option, Some, None, refl, sym, ap, subst, ◌∙◌}
use Rattle.std.proofs.lemmas.List.Elements.{All-cons, All-head, All-nil, All-tail}
use Rattle.host_names.specs.declared.digests.Digest.{Digest}
use Rattle.host_names.specs.Digests.{digest_of}
use Rattle.byte_view.specs.Cuts.{IsPure, slice}
use Rattle.byte_view.specs.Holds.{Held}
use Rattle.range_spec.specs.declared.selection.Choice.{Choice}
use Rattle.range_spec.specs.declared.selection.Choice.TheVariants.{Whole, One, Many, None416}
use Rattle.range_reply.specs.declared.boundaries.Boundary.{Boundary}
use Rattle.range_reply.specs.Bodies.{HasBoundary, stretch_of, stretches}
use Rattle.range_reply.specs.Boundaries.{HasNoBoundary}
use Rattle.range_reply.specs.Slices.{ArePure, all_meant}
use Rattle.range_reply.specs.Sending.{IsSent, more_of, sent_holds}
use Rattle.range_reply.proofs.Sent.{slices-of_file}

-- chunks of one file that differ from none of its pieces
pub are_pure : (file : List ℕ) (holds : List Held) → All (λ h. h.file ≡ file) holds → All (λ h. All (IsPure file) h.chunks) holds → ArePure holds
are_pure file [] same pure = All-nil (λ (h : Held). All (IsPure h.file) h.chunks)
are_pure file (h ∷ hs) same pure =
    let F = λ (g : Held). g.file ≡ file in
    let P = λ (g : Held). All (IsPure file) g.chunks in
    let here = subst (λ f. All (IsPure f) h.chunks) (sym (All-head F h hs same)) (All-head P h hs pure) in
    All-cons (λ (g : Held). All (IsPure g.file) g.chunks) h hs here (are_pure file hs (All-tail F h hs same) (All-tail P h hs pure))

-- what is sent goes by the bytes of the stretches that are asked for
pub is_sent : (file : List ℕ) (size : ℕ) (holds : List Held) (digest : Digest) (plan : Choice) (boundary : Option Boundary) (sent : Choice) → All (λ h. h.file ≡ file) holds
    → map stretch_of holds ≡ stretches size plan → IsSent (all_meant holds) digest plan boundary sent
    → IsSent (map (λ i. slice file i.0 i.1) (stretches size plan)) digest plan boundary sent
is_sent file size holds digest plan boundary sent same order is =
    subst (λ texts. IsSent texts digest plan boundary sent) (slices-of_file file holds same ∙ ap (map (λ i. slice file i.0 i.1)) order) is

-- what a result is under a premise
pub ok_when : {T E : Type 0} (r : Result T E) (A : Type 0) (P : T → Type 0) → (A → IfOk r P) → IfOk r (λ v. A → P v)
ok_when (Ok v) A P f = f
ok_when (Err e) A P f = tt

-- what follows from two facts of a result
pub ok_both : {T E : Type 0} (r : Result T E) (P Q R : T → Type 0) → ((v : T) → P v → Q v → R v) → IfOk r P → IfOk r Q → IfOk r R
ok_both (Ok v) P Q R f p q = f v p q
ok_both (Err e) P Q R f p q = tt

-- what separates parts, over the slices that holds show, goes by the file itself
pub sent_of : (file : List ℕ) (size : ℕ) (holds seen : List Held) (digest : Digest) (plan : Choice) (boundary : Option Boundary) (sent : Choice) → seen ≡ holds
    → digest ≡ digest_of file → All (λ h. h.file ≡ file) holds → map stretch_of holds ≡ stretches size plan → (ArePure seen → IsSent (all_meant seen) digest plan boundary sent)
    → ArePure holds → IsSent (map (λ i. slice file i.0 i.1) (stretches size plan)) (digest_of file) plan boundary sent
sent_of file size holds seen digest plan boundary sent same is of_file order separated pure =
    let here : IsSent (all_meant holds) digest plan boundary sent = subst (λ hs. ArePure hs → IsSent (all_meant hs) digest plan boundary sent) same separated pure in
    is_sent file size holds (digest_of file) plan boundary sent of_file order (subst (λ d. IsSent (all_meant holds) d plan boundary sent) is here)

-- of all that is held, the first part and the rest
pub pure-first : (file : List ℕ) (xs ys : List Held) → All (λ h. All (IsPure file) h.chunks) (xs ++ ys) → All (λ h. All (IsPure file) h.chunks) xs
pure-first file [] ys pure = All-nil (λ (h : Held). All (IsPure file) h.chunks)
pure-first file (x ∷ xs) ys pure =
    let P = λ (h : Held). All (IsPure file) h.chunks in
    All-cons P x xs (All-head P x (xs ++ ys) pure) (pure-first file xs ys (All-tail P x (xs ++ ys) pure))

pub pure-rest : (file : List ℕ) (xs ys : List Held) → All (λ h. All (IsPure file) h.chunks) (xs ++ ys) → All (λ h. All (IsPure file) h.chunks) ys
pure-rest file [] ys pure = pure
pure-rest file (x ∷ xs) ys pure = pure-rest file xs ys (All-tail (λ (h : Held). All (IsPure file) h.chunks) x (xs ++ ys) pure)

-- ---- what is held after the stretches of a plan

-- nothing, where several parts have a boundary
pub none-more : (size : ℕ) (plan : Choice) (boundary : Option Boundary) → HasBoundary boundary plan → more_of size plan boundary ≡ []
none-more size Whole boundary has = refl
none-more size (One first last) boundary has = refl
none-more size (Many intervals) (Some boundary) has = refl
none-more size (Many intervals) None has =
    let wrong = has intervals refl in
    absurd (cc wrong)
none-more size None416 boundary has = refl

pub first-sent : (holds more : List Held) (plan : Choice) (boundary : Option Boundary) → HasBoundary boundary plan → sent_holds holds more plan boundary ≡ holds
first-sent holds more Whole boundary has = refl
first-sent holds more (One first last) boundary has = refl
first-sent holds more (Many intervals) (Some boundary) has = refl
first-sent holds more (Many intervals) None has =
    let wrong = has intervals refl in
    absurd (cc wrong)
first-sent holds more None416 boundary has = refl

-- each boundary occurs in one of several parts
pub no_boundary : (texts : List (List ℕ)) (digest : Digest) (plan sent : Choice) (intervals : List (ℕ × ℕ)) → plan ≡ Many intervals → IsSent texts digest plan None sent
    → HasNoBoundary texts digest
no_boundary texts digest plan sent intervals is sends =
    let here : IsSent texts digest (Many intervals) None sent = subst (λ p. IsSent texts digest p None sent) is sends in
    here.0
