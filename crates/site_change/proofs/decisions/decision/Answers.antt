use Rattle.std.proofs.Common.{sym, subst}
use Rattle.site_change.specs.Changes.{applied, refusal, site_of_command, touches}
use Rattle.site_change.specs.declared.commands.Command.{Command}
use Rattle.site_change.specs.Decisions.{IsDecision}
use Rattle.site_change.proofs.decisions.decision.Goals as goal

pub rename_folder-requires : goal.rename_folder-requires
rename_folder-requires g c = record { uploads = g.U.Uploads.contents c.args.uploads.now; served_or_kept = c.requires; listed = tt }

pub returns-in-RenameFolder : goal.returns-in-RenameFolder
returns-in-RenameFolder g c =
    let n = c.args.number in
    let state = c.args.state.now in
    let uploads = g.U.Uploads.contents c.args.uploads.now in
    let P : Command → Type 0 = λ command.
    IsDecision (refusal command n state uploads) (site_of_command command) (touches command n state) state (applied command n state uploads) c.rename_folder.result in
    subst P (sym c.in-RenameFolder.is) c.rename_folder.ensures
