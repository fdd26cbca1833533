use Rattle.std.proofs.Common.{◌≡◌, ◌∙◌, [], ap, map, subst, sym}
use Rattle.clap.specs.Kinds.{HasKind}
use Rattle.clap.specs.Words.{App, HasMatchesOf, fault_of, is_simple_and_free}
use Rattle.command_line.specs.CommandLine.{filehost}
use Rattle.command_line.proofs.Asking.{is_exact}
use Rattle.command_line.proofs.Reading.{only_memory, read_of, refused}
use Rattle.command_line.proofs.read.Goals as goal

pub returns-in-Ok : goal.returns-in-Ok
returns-in-Ok g c =
    let known = c.in_ok-command.ensures in
    let words = map g.S.AsStr.text c.args.words.now in
    let m = c.in-Ok.matches in
    let none : fault_of filehost words ≡ [] = ap (λ (a : App). fault_of a words) (sym known) ∙ c.in-Ok.ensures.kinds (ap is_simple_and_free known ∙ is_exact) in
    let matches : HasMatchesOf filehost words m = subst (λ (a : App). HasMatchesOf a words m) known c.in-Ok.ensures.matches in
    read_of words m c.read_matches.result none matches c.read_matches.ensures

pub returns-in-Err : goal.returns-in-Err
returns-in-Err g c =
    let known = c.in_ok-command.ensures in
    let words = map g.S.AsStr.text c.args.words.now in
    let kinds : HasKind (fault_of filehost words) c.in-Err.error =
    subst (λ (a : App). HasKind (fault_of a words) c.in-Err.error) known (c.in-Err.ensures.kinds (ap is_simple_and_free known ∙ is_exact)) in
    refused words c.make_refusal.result (λ taken. c.make_refusal.ensures.memory (only_memory words c.in-Err.error kinds taken)) c.make_refusal.ensures.told
