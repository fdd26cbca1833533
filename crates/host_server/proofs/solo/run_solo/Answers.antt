use Rattle.std.proofs.Common.{rules, ◌≡◌, Some, ap, inl, inr, map, refl, subst, sym}
use Rattle.std.specs.String.{string_bytes}
use Rattle.command_line.specs.CommandLine.{AskForSolo}
use Rattle.host_server.proofs.solo.run_solo.Goals as goal

pub returns-in-Ok-Solo-Some : goal.returns-in-Ok-Solo-Some
returns-in-Ok-Solo-Some g c =
    let words = map g.S.AsStr.text c.args.words.now in
    let named : c.as_str.result.now ≡ string_bytes c.in-Ok-Solo-Some.folder = search rules in
    let asked : AskForSolo words (Some (string_bytes c.in-Ok-Solo-Some.folder)) = search rules in
    inr (inr (c.as_str.result.now, subst (AskForSolo words) (ap Some (sym named)) asked, c.run_folder.ensures))

pub returns-in-Err : goal.returns-in-Err
returns-in-Err g c = inl (c.refuse.ensures (map g.S.AsStr.text c.args.words.now) c.in-Err.ensures, refl)
