use Rattle.site_change.proofs.UploadedRuns.{command_uploaded, run_uploaded}
use Rattle.site_change.proofs.laws.accepted_commands_leave_uploaded_files.Goals as goal

pub returns-clause-command : goal.returns-clause-command
returns-clause-command c command number state uploads digested = command_uploaded uploads digested command number state

pub returns-clause-run : goal.returns-clause-run
returns-clause-run c uploads state after commands digested all = run_uploaded uploads digested state commands after all
