use Rattle.std.proofs.Common.{◌≡◌, ◌-◌, ◌*◌, ◌≤◌, ◌/◌, ◌%◌, length, slice_get, sym, ap, ◌∙◌, arith, []}
use Rattle.persistent_lists.specs.Lists.{Shared}
use Rattle.persistent_lists.proofs.Joined.{got, missed, slice_get-full, slice_get-last}
use Rattle.persistent_lists.proofs.lists.SharedList.get.Goals as goal

pub returns-in-Some : goal.returns-in-Some
returns-in-Some g c =
    let place = c.args.place in
    let blocks = c.self.inside.full.items in
    let it = got blocks (place / 128) c.in-Some.block.now [] c.in-Some.ensures in
    c.item_at.ensures ∙ sym (ap (λ (s : Shared _). slice_get s.items place) (sym c.self.view_is)
    ∙ slice_get-full blocks c.self.inside.last.items (place / 128) (place % 128) place c.self.invariant.0 it.0 (omega arith) (omega arith)
    ∙ ap (λ l. slice_get l (place % 128)) (it.1 ∙ sym c.as_slice.ensures))

pub returns : goal.returns
returns g c =
    let place = c.args.place in
    let blocks = c.self.inside.full.items in
    let beyond : length blocks ≤ place / 128 = missed blocks (place / 128) c.in_default.ensures in
    let past : length blocks * 128 ≤ place = omega (arith, beyond) in
    let from : place - length blocks * 128 ≡ place - c.len.result * 128 = omega (arith, c.len.ensures) in
    c.item_at-2.ensures ∙ sym (ap (λ (s : Shared _). slice_get s.items place) (sym c.self.view_is)
    ∙ slice_get-last blocks c.self.inside.last.items place c.self.invariant.0 past
    ∙ ap (slice_get c.self.inside.last.items) from ∙ ap (λ l. slice_get l (place - c.len.result * 128)) (sym c.as_slice-2.ensures.value))
