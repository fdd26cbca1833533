-- The reasons against a commit, as the host has them.
use Rattle.std.proofs.Common.{ℕ, Result, unwrap_or, sym, ap, subst}
use Rattle.std.specs.FinMap as map
use Rattle.byte_view.specs.Contents.{Contents}
use Rattle.site_change.specs.Refusals.{IsRefusedBy}
use Rattle.site_change.specs.declared.refusals.ChangeError.{ChangeError}
use Rattle.site_state.specs.States.{State}
use Rattle.site_change.specs.declared.commands.Command.{Command}
use Rattle.change_undo.specs.Histories as histories
use Rattle.change_undo.specs.Histories.{Past}
use Rattle.host_server.specs.Hosts.{IsKept, host_of}
use Rattle.host_server.specs.Reasons.{commit_refusal}

-- the state that a history has is the one that the host's entries give
pub refused_as_kept : (result : Result ℕ ChangeError) (past : Past) (uploads : Contents) (command : Command) → IsKept past uploads
    → IsRefusedBy (histories.commit_refusal uploads past.limit past.entries past.state command) result
    → IsRefusedBy (commit_refusal (host_of past uploads) command) result
refused_as_kept result past uploads command kept refused =
    let P : State → Type 0 = λ state. IsRefusedBy (histories.commit_refusal uploads past.limit past.entries state command) result in
    subst P (sym (ap (λ o. unwrap_or o map.empty) kept.ran)) refused
