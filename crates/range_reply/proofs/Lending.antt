-- The parts that a body lends are its bytes.
use Rattle.std.proofs.Common.{◌≡◌, ℕ, ◌+◌, ◌-◌, ◌≤◌, zero, suc, List, [], ◌∷◌, ◌++◌, All, codes, drop, get_or, length, map, slice_get, Option, Some, refl, sym, ap, ap₂, ◌∙◌, arith, append_assoc, append-nil}
use Rattle.std.proofs.lemmas.List.{length-drop, length-map, length-take}
use Rattle.std.proofs.lemmas.List.Elements.{All-head, All-tail}
use Rattle.std.specs.List.{concat, flat_map, zip}
use Rattle.byte_view.specs.Holds.{Held, IsHeld, lent}
use Rattle.byte_view.specs.Cuts.{slice}
use Rattle.byte_view.proofs.Wholes.{whole-joined, whole-long}
use Rattle.http_wire.proofs.PartsPut.{concat-append}
use Rattle.http_wire.specs.Replies.{range_text}
use Rattle.http_wire.specs.declared.replies.ContentRange.TheVariants.{Of}
use Rattle.range_spec.specs.declared.selection.Choice.{Choice}
use Rattle.range_spec.specs.declared.selection.Choice.TheVariants.{Whole, One, Many, None416}
use Rattle.range_reply.specs.Bodies.{AreFor, body_text, stretch_of, stretches, text_in, whole_of}
use Rattle.range_reply.specs.Multipart.{last_line, part_text, text_of}
use Rattle.range_reply.specs.PartTexts.{boundary_line, hold_texts, range_line, several_texts, stretch_texts}
use Rattle.range_reply.specs.Sending.{IsForm}
use Rattle.range_reply.specs.declared.boundaries.Boundary.{Boundary}
use Rattle.range_reply.specs.declared.file_bodies.FileForm.{FileForm}
use Rattle.range_reply.specs.declared.file_bodies.FileForm.TheVariants as form
use Rattle.range_reply.specs.Slices.{shown}

-- a head in three texts, and what comes behind it
regroup : (a boundary b content_type c range d bytes : List ℕ) → (a ++ (boundary ++ b)) ++ (content_type ++ ((c ++ (range ++ d)) ++ bytes))
    ≡ a ++ (boundary ++ (b ++ (content_type ++ (c ++ (range ++ (d ++ bytes))))))
regroup a boundary b content_type c range d bytes = simp append_assoc

-- the part of one hold
one_part : (boundary content_type file : List ℕ) (h : Held) → h.file ≡ file → IsHeld h
    → concat (hold_texts boundary content_type h) ≡ part_text boundary content_type (length file) (stretch_of h, shown h)
one_part boundary content_type file h same held =
    let end = codes "\r\n" in
    let bytes : concat (lent h h.first h.last ++ end ∷ []) ≡ shown h ++ end =
    concat-append (lent h h.first h.last) (end ∷ []) ∙ ap₂ (λ u v. u ++ v) (whole-joined h held) (append-nil end) in
    ap (λ u. boundary_line boundary ++ (content_type ++ (range_line (stretch_of h) (length h.file) ++ u))) bytes
    ∙ regroup (codes "--") boundary (codes "\r\nContent-Type: ") content_type (codes "\r\nContent-Range: ") (range_text (Of h.first h.last (length h.file))) (codes "\r\n\r\n") (shown h ++ end)
    ∙ ap (λ f. part_text boundary content_type (length f) (stretch_of h, shown h)) same

-- those of several
parts_joined : (boundary content_type file : List ℕ) (holds : List Held) → All (λ h. h.file ≡ file) holds → All IsHeld holds
    → concat (flat_map (hold_texts boundary content_type) holds)
    ≡ flat_map (part_text boundary content_type (length file)) (zip (map stretch_of holds) (map shown holds))
parts_joined boundary content_type file [] same held = refl
parts_joined boundary content_type file (h ∷ hs) same held =
    let P = λ (g : Held). g.file ≡ file in
    concat-append (hold_texts boundary content_type h) (flat_map (hold_texts boundary content_type) hs)
    ∙ ap₂ (λ u v. u ++ v) (one_part boundary content_type file h (All-head P h hs same) (All-head IsHeld h hs held))
    (parts_joined boundary content_type file hs (All-tail P h hs same) (All-tail IsHeld h hs held))

several_joined : (boundary content_type file : List ℕ) (holds : List Held) → All (λ h. h.file ≡ file) holds → All IsHeld holds
    → concat (several_texts boundary content_type holds) ≡ body_text boundary content_type (length file) (Many (map stretch_of holds)) (map shown holds)
several_joined boundary content_type file holds same held =
    concat-append (flat_map (hold_texts boundary content_type) holds) (last_line boundary ∷ [])
    ∙ ap₂ (λ u v. u ++ v) (parts_joined boundary content_type file holds same held) (append-nil (last_line boundary))

-- ---- several parts

pub several_shown : (plan : Choice) (boundary : Option Boundary) (intervals : List (ℕ × ℕ)) (between : Boundary) (content_type : List ℕ) (size : ℕ)
    (file : List ℕ) (holds : List Held) → plan ≡ Many intervals → boundary ≡ Some between → length file ≡ size → AreFor holds file plan → All IsHeld holds
    → concat (several_texts (text_of between) content_type holds) ≡ body_text (text_in boundary) content_type size plan (map shown holds)
several_shown plan boundary intervals between content_type size file holds many some sized are held =
    let planned : Many (map stretch_of holds) ≡ plan = ap Many (are.in_order ∙ ap (stretches (length file)) many) ∙ sym many in
    several_joined (text_of between) content_type file holds are.same_file held
    ∙ ap₂ (λ p q. body_text (text_in q) content_type (length file) p (map shown holds)) planned (sym some)
    ∙ ap (λ n. body_text (text_in boundary) content_type n plan (map shown holds)) sized

-- ---- one stretch, or nothing

few_stretches : (size : ℕ) → length (whole_of size) ≤ 1
few_stretches zero = omega arith
few_stretches (suc last) = omega arith

first_shown : (first : Option Held) (holds : List Held) → length holds ≤ 1 → All IsHeld holds → first ≡ slice_get holds 0 → concat (stretch_texts first) ≡ concat (map shown holds)
first_shown first [] few held is = ap (λ f. concat (stretch_texts f)) is
first_shown first (h ∷ []) few held is = ap (λ f. concat (stretch_texts f)) is ∙ whole-joined h (All-head IsHeld h [] held) ∙ sym (append-nil (shown h))
first_shown first (h ∷ g ∷ hs) few held is = absurd (omega (arith, few))

-- how many holds there are
count-holds : (holds : List Held) (stretches : List (ℕ × ℕ)) → map stretch_of holds ≡ stretches → length stretches ≤ 1 → length holds ≤ 1
count-holds holds stretches order few = omega (arith, few, length-map holds stretch_of, ap length order)

pub few_holds : (holds : List Held) (file : List ℕ) (plan : Choice) → AreFor holds file plan → ((intervals : List (ℕ × ℕ)) → plan ≡ Many intervals → ⊥) → length holds ≤ 1
few_holds holds file Whole are alone = count-holds holds (whole_of (length file)) are.in_order (few_stretches (length file))
few_holds holds file (One first last) are alone = count-holds holds ((first, last) ∷ []) are.in_order (omega arith)
few_holds holds file (Many intervals) are alone = absurd (alone intervals refl)
few_holds holds file None416 are alone = count-holds holds [] are.in_order (omega arith)

pub single_shown : (boundary content_type : List ℕ) (size : ℕ) (plan : Choice) (texts : List (List ℕ)) → ((intervals : List (ℕ × ℕ)) → plan ≡ Many intervals → ⊥)
    → body_text boundary content_type size plan texts ≡ concat texts
single_shown boundary content_type size Whole texts alone = refl
single_shown boundary content_type size (One first last) texts alone = refl
single_shown boundary content_type size (Many intervals) texts alone = absurd (alone intervals refl)
single_shown boundary content_type size None416 texts alone = refl

pub stretch_shown : (first : Option Held) (boundary content_type : List ℕ) (size : ℕ) (holds : List Held) (file : List ℕ) (plan : Choice) → AreFor holds file plan
    → All IsHeld holds → first ≡ slice_get holds 0 → ((intervals : List (ℕ × ℕ)) → plan ≡ Many intervals → ⊥)
    → concat (stretch_texts first) ≡ body_text boundary content_type size plan (map shown holds)
stretch_shown first boundary content_type size holds file plan are held is alone =
    first_shown first holds (few_holds holds file plan are alone) held is ∙ sym (single_shown boundary content_type size plan (map shown holds) alone)

-- a form that is none of several
pub not_several : (f : FileForm) (plan : Choice) (boundary : Option Boundary) → IsForm f plan boundary → ((between : Boundary) → f ≡ form.Several between → ⊥)
    → (intervals : List (ℕ × ℕ)) → plan ≡ Many intervals → ⊥
not_several form.Whole plan boundary is other intervals many = absurd (cc (sym is ∙ many))
not_several (form.One first last) plan boundary is other intervals many = absurd (cc (sym is ∙ many))
not_several (form.Several between) plan boundary is other intervals many = other between refl
not_several form.Nothing plan boundary is other intervals many = absurd (cc (sym is ∙ many))

-- ---- how long a stretch is

pub single_long : (holds : List Held) (h d : Held) → length holds ≤ 1 → 1 ≤ length holds → h ≡ get_or holds 0 d → IsHeld h
    → h.last - h.first + 1 ≡ length (concat (map shown holds))
single_long [] h d few some is held = absurd (omega (arith, some))
single_long (x ∷ []) h d few some is held =
    let after = length-drop h.first h.file in
    let taken = length-take (h.last + 1 - h.first) (drop h.first h.file) in
    let long : length (shown h) ≡ length (slice h.file h.first h.last) = whole-long h held in
    let joined : length (concat (map shown (x ∷ []))) ≡ length (shown h) = ap length (append-nil (shown x)) ∙ ap (λ g. length (shown g)) (sym is) in
    omega (arith, after, taken, long, joined, held.ordered, held.within)
single_long (x ∷ y ∷ ys) h d few some is held = absurd (omega (arith, few))
