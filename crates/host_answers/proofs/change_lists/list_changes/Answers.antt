use Rattle.std.proofs.Common.{List, reverse, ap, ◌∙◌}
use Rattle.host_api.specs.declared.change_lines.ChangeLine.{ChangeLine}
use Rattle.host_answers.specs.ChangeLists.{lines_of}
use Rattle.host_answers.proofs.Lines.{most_lines, turned}
use Rattle.host_answers.proofs.change_lists.list_changes.Goals as goal

pub returns : goal.returns
returns g c =
    let lines = lines_of (g.H.House.calls.seen c.args.house.now).entries c.args.site.now in
    let turned_back = ap (λ (ls : List ChangeLine). reverse ls) c.in_ok-lines.ensures ∙ turned most_lines lines in
    let same = ◌∙◌ {A = List ChangeLine} c.reverse.ensures.items turned_back in
    ◌∙◌ {A = List ChangeLine} c.from.ensures same
