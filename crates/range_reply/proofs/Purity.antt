-- What holds show where their chunks are those of the file.
use Rattle.std.proofs.Common.{◌≡◌, ◌<◌, ◌∙◌, ℕ, List, [], ◌∷◌, refl, sym, ap, subst, All, get_or, length, map}
use Rattle.std.proofs.lemmas.List.{get_or-map}
use Rattle.std.proofs.lemmas.List.Elements.{All-head, All-tail}
use Rattle.byte_view.specs.Cuts.{IsPure, slice}
use Rattle.byte_view.specs.Holds.{Held, IsHeld}
use Rattle.byte_view.proofs.Wholes.{whole-pure}
use Rattle.range_reply.specs.Slices.{ArePure, all_meant, shown}

pub shown-pure : (holds : List Held) → All IsHeld holds → ArePure holds → map shown holds ≡ all_meant holds
shown-pure [] held pure = refl
shown-pure (h ∷ hs) held pure =
    let P = λ (g : Held). All (IsPure g.file) g.chunks in
    let first = whole-pure h (All-head IsHeld h hs held) (All-head P h hs pure) in
    let others = shown-pure hs (All-tail IsHeld h hs held) (All-tail P h hs pure) in
    cc

-- the same of one of them
pub shown-pure-at : (holds : List Held) (i : ℕ) (h : Held) → i < length holds → h ≡ get_or holds i h → IsHeld h → ArePure holds → get_or (all_meant holds) i [] ≡ shown h
shown-pure-at holds i h within is held pure =
    let meant : Held → List ℕ = λ g. slice g.file g.first g.last in
    let here : All (IsPure h.file) h.chunks = subst (λ (g : Held). All (IsPure g.file) g.chunks) (sym is) (pure i h within) in
    get_or-map meant holds i h [] within ∙ ap meant (sym is) ∙ sym (whole-pure h held here)
