use Rattle.std.proofs.Common.{rules, ◌≡◌, ◌-◌, ◌*◌, ◌<◌, ◌≤◌, ◌/◌, ◌%◌, ◌++◌, [], length, get_or, set, vec_len, ap, ◌∙◌, arith}
use Rattle.std.proofs.lemmas.List.{get_or_default}
use Rattle.shared_blocks.specs.Blocks.{joined}
use Rattle.persistent_lists.specs.Lists.{Shared}
use Rattle.persistent_lists.proofs.Joined.{length-all, set-full, set-last}
use Rattle.persistent_lists.proofs.block_lists.BlockList.set.Goals as goal

pub index_mut-requires-else-block-len : goal.index_mut-requires-else-block-len
index_mut-requires-else-block-len g c =
    let full = c.self.inside.full in
    let last = c.self.inside.last in
    let blocks : vec_len full ≡ length full.items = search rules in
    let rest : vec_len last ≡ length last.items = search rules in
    let all = length-all full.items last.items (vec_len full) (vec_len last) c.self.invariant.0 blocks rest ∙ ap (λ (s : Shared _). length s.items) c.self.view_is in
    omega (arith, all, c.requires.within, c.if-block-len.false, c.len.ensures, c.len-else-block-len.ensures)

pub returns-in_ok-self-inside-clause-ok : goal.returns-in_ok-self-inside-clause-ok
returns-in_ok-self-inside-clause-ok g c =
    let place = c.args.place in
    let blocks = c.self.inside.full.items in
    let last = c.self.inside.last.items in
    let count : vec_len c.self.inside.full ≡ length blocks = search rules in
    let within : place / 128 < length blocks = omega (arith, c.if-block-len.true, c.len.ensures, count) in
    let same : c.as_slice-items.result.now ≡ get_or blocks (place / 128) [] = c.as_slice-items.ensures ∙ c.index.ensures ∙ get_or_default blocks (place / 128) c.index.result.now [] within in
    ap (λ b. joined (set blocks (place / 128) b) ++ last) (c.in_ok-self-inside.ensures ∙ ap (λ l. set l (place % 128) c.args.item) same)
    ∙ set-full blocks last (place / 128) (place % 128) place c.args.item c.self.invariant.0 within (omega arith) (omega arith)
    ∙ ap (λ (s : Shared _). set s.items place c.args.item) c.self.view_is

pub returns-else-block-len-clause-ok : goal.returns-else-block-len-clause-ok
returns-else-block-len-clause-ok g c =
    let place = c.args.place in
    let blocks = c.self.inside.full.items in
    let last = c.self.inside.last.items in
    let count : vec_len c.self.inside.full ≡ length blocks = search rules in
    let past : length blocks * 128 ≤ place = omega (arith, c.if-block-len.false, c.len.ensures, count) in
    let from : place - c.len-else-block-len.result * 128 ≡ place - length blocks * 128 = omega (arith, c.len-else-block-len.ensures, count) in
    ap (λ n. joined blocks ++ set last n c.args.item) from
    ∙ set-last blocks last place c.args.item c.self.invariant.0 past
    ∙ ap (λ (s : Shared _). set s.items place c.args.item) c.self.view_is
