use Rattle.std.proofs.Common.{rules, ◌≡◌, length, sym, ◌∙◌}
use Rattle.host_answers.proofs.Lines.{all_found, enough_found, most_lines, no_line_found, none_found}
use Rattle.host_answers.proofs.change_lists.newest_lines.Goals as goal

pub loop-number-init : goal.loop-number-init
loop-number-init g c =
    none_found (g.H.House.calls.seen c.args.house.now).entries c.args.site.now c.new-lines.result.items _ c.new-lines.ensures.items
    (c.into_iter-number-iterator.ensures.into_iter_gives ∙ c.entries_of-number-items.ensures)

pub returns-then-len-eq-MOST_LINES : goal.returns-then-len-eq-MOST_LINES
returns-then-len-eq-MOST_LINES g c =
    let full : length c.loop-number.lines.items ≡ most_lines = search rules in
    enough_found (g.H.House.calls.seen c.args.house.now).entries c.args.site.now c.loop-number.lines.items c.loop-number.number-iterator c.loop-number.invariant full

pub loop-number-preserved : goal.loop-number-preserved
loop-number-preserved g c =
    no_line_found (g.H.House.calls.seen c.args.house.now).entries c.args.site.now c.loop-number.lines.items c.in-Some.number _ _ c.loop-number.invariant
    c.in-Some.ensures.steps (sym c.line.ensures ∙ c.in_default.is)

pub returns : goal.returns
returns g c =
    all_found (g.H.House.calls.seen c.args.house.now).entries c.args.site.now c.loop-number.lines.items c.loop-number.number-iterator c.loop-number.invariant
    c.in-None.ensures.steps.0
