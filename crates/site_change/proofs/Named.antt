-- A command that is accepted leaves each alias with a kept deploy.
use Rattle.std.proofs.Common.{◌≡◌, ℕ, None}
use Rattle.byte_view.specs.Contents.{Contents}
use Rattle.site_state.specs.Named.{AliasesNamed}
use Rattle.site_state.specs.States.{State}
use Rattle.site_change.specs.declared.commands.Command.{Command}
use Rattle.site_change.specs.Changes.{refusal, applied}
use Rattle.site_change.proofs.CommandLaws.{command_laws}

pub named_applied : (command : Command) (n : ℕ) (state : State) (uploads : Contents) → AliasesNamed state → refusal command n state uploads ≡ None → AliasesNamed (applied command n state uploads)
named_applied command n state uploads = (command_laws command n state uploads).named
