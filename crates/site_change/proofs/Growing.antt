-- What was accepted stays so as more is uploaded.
use Rattle.std.proofs.Common.{◌≡◌, ℕ, List, [], ◌∷◌, None, ap, ◌∙◌}
use Rattle.byte_view.specs.Contents.{Contents}
use Rattle.site_state.specs.States.{State}
use Rattle.site_change.specs.declared.commands.Command.{Command}
use Rattle.site_change.specs.Changes.{refusal, applied, run_from, IsWithin}
use Rattle.site_change.specs.Laws.{KeepsRunning}
use Rattle.site_change.proofs.LeftOut.{if_accepted, accepted}
use Rattle.site_change.proofs.CommandLaws.{command_laws}

-- an accepted command stays accepted, and does the same
pub command_grows : (command : Command) (n : ℕ) (state : State) (uploads more : Contents) → IsWithin uploads more → refusal command n state uploads ≡ None
    → (refusal command n state more ≡ None) × (applied command n state more ≡ applied command n state uploads)
command_grows command n state uploads = (command_laws command n state uploads).grows

pub keeps_running : (uploads more : Contents) (state : State) (commands : List (ℕ × Command)) → KeepsRunning uploads more state commands
keeps_running uploads more state [] within after ran = ran
keeps_running uploads more state (c ∷ commands) within after ran =
    let parts = accepted (refusal c.1 c.0 state uploads) _ after ran in
    let grown = command_grows c.1 c.0 state uploads more within parts.0 in
    let rest = keeps_running uploads more (applied c.1 c.0 state uploads) commands within after parts.1 in
    ap (λ r. if_accepted r (run_from more (applied c.1 c.0 state more) commands)) grown.0
    ∙ ap (λ s. run_from more s commands) grown.1 ∙ rest
