-- What a hold shows of the whole of its stretch.
use Rattle.std.proofs.Common.{◌≡◌, ◌+◌, ◌-◌, ◌*◌, ◌≤◌, ◌∙◌, sym, ap, arith, length, take, drop, map, All}
use Rattle.std.proofs.lemmas.List.{length-drop, length-take}
use Rattle.std.proofs.lemmas.List.Elements.{All-take, All-drop}
use Rattle.std.specs.List.{concat}
use Rattle.byte_view.specs.Cuts.{IsPure, cut_into, place_of, slice}
use Rattle.byte_view.specs.Holds.{Held, IsHeld, LiesIn, held_part, lent}
use Rattle.byte_view.proofs.CutPieces.{concat-cut_into, met-cut_into}
use Rattle.byte_view.proofs.Followed.{length-concat}
use Rattle.byte_view.proofs.Stretches.{lent-joined, lent-pure}

pub whole-pure : (h : Held) → IsHeld h → All (IsPure h.file) h.chunks → held_part h h.first h.last ≡ slice h.file h.first h.last
whole-pure h held pure =
    let lies : LiesIn h h.first h.last = record { from = omega arith; ordered = held.ordered; to = omega arith } in
    let first = place_of h.first - place_of h.first in
    let count = place_of h.last + 1 - place_of h.first - first in
    sym (lent-joined h held h.first h.last lies)
    ∙ lent-pure h held h.first h.last lies (All-take (IsPure h.file) count (drop first h.chunks) (All-drop (IsPure h.file) first h.chunks pure))

-- as many bytes as the stretch has
pub whole-long : (h : Held) → IsHeld h → length (held_part h h.first h.last) ≡ length (slice h.file h.first h.last)
whole-long h held =
    let place = place_of h.first in let count = place_of h.last + 1 - place in
    let from = h.first - place * 65536 in let to = h.last - place * 65536 + 1 in
    let rest = drop (place * 65536) h.file in
    let met : map length h.chunks ≡ map length (cut_into count rest) = held.long ∙ ap (map length) (met-cut_into h.file h.first h.last held.ordered held.within) in
    let joined : length (concat h.chunks) ≡ length (take (count * 65536) rest) =
    length-concat h.chunks (cut_into count rest) met ∙ ap length (concat-cut_into count rest) in
    let joined_size = length-take (count * 65536) rest in
    let left = length-drop (place * 65536) h.file in
    let enough : to ≤ length (concat h.chunks) = omega (arith, joined, joined_size, left, held.ordered, held.within) in
    let after = length-drop from (concat h.chunks) in
    let shown = length-take (to - from) (drop from (concat h.chunks)) in
    let file_after = length-drop h.first h.file in
    let meant = length-take (h.last + 1 - h.first) (drop h.first h.file) in
    omega (arith, enough, after, shown, file_after, meant, held.ordered, held.within)

-- what the hold lends of its chunks, joined
pub whole-joined : (h : Held) → IsHeld h → concat (lent h h.first h.last) ≡ held_part h h.first h.last
whole-joined h held = lent-joined h held h.first h.last (record { from = omega arith; ordered = held.ordered; to = omega arith })
