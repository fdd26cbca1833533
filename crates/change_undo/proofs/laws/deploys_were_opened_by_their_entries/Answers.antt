use Rattle.change_undo.proofs.Opened.{opened, opened-kept}
use Rattle.change_undo.proofs.laws.deploys_were_opened_by_their_entries.Goals as goal

pub returns-clause-opened : goal.returns-clause-opened
returns-clause-opened c uploads log state ran = (opened uploads log state ran).drafts

pub returns-clause-kept : goal.returns-clause-kept
returns-clause-kept c uploads log state ran site number tree is = opened-kept log state site number tree (opened uploads log state ran) is
