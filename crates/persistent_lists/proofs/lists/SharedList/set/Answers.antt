use Rattle.std.proofs.Common.{rules, ◌≡◌, ◌-◌, ◌*◌, ◌≤◌, ◌/◌, ◌%◌, ◌++◌, [], length, set, vec_len, sym, ap, ◌∙◌, arith}
use Rattle.shared_blocks.specs.Blocks.{joined}
use Rattle.persistent_lists.specs.Lists.{Shared}
use Rattle.persistent_lists.proofs.Joined.{got, missed, length-all, set-full, set-last}
use Rattle.persistent_lists.proofs.lists.SharedList.set.Goals as goal

pub index_mut-requires : goal.index_mut-requires
index_mut-requires g c =
    let full = c.self.inside.full in
    let last = c.self.inside.last in
    let beyond : length full.items ≤ c.args.place / 128 = missed full.items (c.args.place / 128) c.in_default.ensures in
    let rest : vec_len last ≡ length last.items = search rules in
    let all = length-all full.items last.items c.len.result (vec_len last) c.self.invariant.0 c.len.ensures rest ∙ ap (λ (s : Shared _). length s.items) c.self.view_is in
    omega (arith, all, c.requires.within, beyond, c.len.ensures)

pub returns-in_ok-set-clause-ok : goal.returns-in_ok-set-clause-ok
returns-in_ok-set-clause-ok g c =
    let place = c.args.place in
    let blocks = c.self.inside.full.items in
    let last = c.self.inside.last.items in
    let it = got blocks (place / 128) c.in-Some.block.now [] c.in-Some.ensures in
    let same = c.as_slice.ensures ∙ sym it.1 in
    ap (λ bs. joined bs ++ last) (c.in_ok-set.ensures.ok ∙ ap (set blocks (place / 128)) (c.in_ok-written.ensures ∙ ap (λ l. set l (place % 128) c.args.item) same))
    ∙ set-full blocks last (place / 128) (place % 128) place c.args.item c.self.invariant.0 it.0 (omega arith) (omega arith)
    ∙ ap (λ (s : Shared _). set s.items place c.args.item) c.self.view_is

pub returns-in_default-clause-ok : goal.returns-in_default-clause-ok
returns-in_default-clause-ok g c =
    let place = c.args.place in
    let blocks = c.self.inside.full.items in
    let last = c.self.inside.last.items in
    let beyond : length blocks ≤ place / 128 = missed blocks (place / 128) c.in_default.ensures in
    let past : length blocks * 128 ≤ place = omega (arith, beyond) in
    let from : place - c.len.result * 128 ≡ place - length blocks * 128 = omega (arith, c.len.ensures) in
    ap (λ n. joined blocks ++ set last n c.args.item) from
    ∙ set-last blocks last place c.args.item c.self.invariant.0 past
    ∙ ap (λ (s : Shared _). set s.items place c.args.item) c.self.view_is
