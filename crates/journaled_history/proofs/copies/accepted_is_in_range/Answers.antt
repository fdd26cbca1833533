use Rattle.std.proofs.Common.{arith}
use Rattle.journaled_history.proofs.InRange.{command_in_range, undo_in_range}
use Rattle.journaled_history.proofs.copies.accepted_is_in_range.Goals as goal

pub returns-clause-commands : goal.returns-clause-commands
returns-clause-commands c = λ uploads command ok.
    let past = c.args.history.now in
    let over = c.state.ensures.over in
    let law = c.deploys_were_opened_by_their_entries.ensures in
    command_in_range over.0 past.entries past.state (omega (arith, c.len.ensures.room, c.len.ensures.bounded)) over.1.legal.0 (law.opened over.0 past.entries past.state over.1.ran)
    (law.kept over.0 past.entries past.state over.1.ran) uploads past.limit command ok

pub returns-clause-undos : goal.returns-clause-undos
returns-clause-undos c = λ uploads site change ok.
    let past = c.args.history.now in
    undo_in_range uploads past.limit past.entries site change (omega (arith, c.len.ensures.room, c.len.ensures.bounded)) ok
