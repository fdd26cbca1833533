use Rattle.std.proofs.Common.{rules, ◌≡◌, ◌-◌, ◌*◌, ◌<◌, ◌≤◌, ◌/◌, ◌%◌, length, slice_get, vec_len, sym, ap, ◌∙◌, arith, []}
use Rattle.std.proofs.lemmas.List.{get_or_default}
use Rattle.persistent_lists.specs.Lists.{Shared}
use Rattle.persistent_lists.proofs.Joined.{slice_get-full, slice_get-last}
use Rattle.persistent_lists.proofs.block_lists.BlockList.get.Goals as goal

pub returns-then-block-len : goal.returns-then-block-len
returns-then-block-len g c =
    let place = c.args.place in
    let blocks = c.self.inside.full.items in
    let count : vec_len c.self.inside.full ≡ length blocks = search rules in
    let within : place / 128 < length blocks = omega (arith, c.if-block-len.true, c.len.ensures, count) in
    c.item_at.ensures ∙ sym (ap (λ (s : Shared _). slice_get s.items place) (sym c.self.view_is)
    ∙ slice_get-full blocks c.self.inside.last.items (place / 128) (place % 128) place c.self.invariant.0 within (omega arith) (omega arith)
    ∙ ap (λ l. slice_get l (place % 128)) (get_or_default blocks (place / 128) [] c.index.result.now within ∙ sym c.index.ensures ∙ sym c.as_slice.ensures))

pub returns : goal.returns
returns g c =
    let place = c.args.place in
    let blocks = c.self.inside.full.items in
    let count : vec_len c.self.inside.full ≡ length blocks = search rules in
    let past : length blocks * 128 ≤ place = omega (arith, c.if-block-len.false, c.len.ensures, count) in
    let from : place - length blocks * 128 ≡ place - c.len-2.result * 128 = omega (arith, c.len-2.ensures, count) in
    c.item_at-2.ensures ∙ sym (ap (λ (s : Shared _). slice_get s.items place) (sym c.self.view_is)
    ∙ slice_get-last blocks c.self.inside.last.items place c.self.invariant.0 past
    ∙ ap (slice_get c.self.inside.last.items) from ∙ ap (λ l. slice_get l (place - c.len-2.result * 128)) (sym c.as_slice-2.ensures.value))
