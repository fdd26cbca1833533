use Rattle.sealed_logs.proofs.Growing.{later-grows}
use Rattle.sealed_logs.proofs.Laters.{earlier-legal, later-entry, later-itself, later-legal, later-seal, later-trans}
use Rattle.sealed_logs.proofs.laws.later_logs.Goals as goal

pub returns-clause-itself : goal.returns-clause-itself
returns-clause-itself c = later-itself

pub returns-clause-entry : goal.returns-clause-entry
returns-clause-entry c = later-entry

pub returns-clause-seal : goal.returns-clause-seal
returns-clause-seal c = later-seal

pub returns-clause-goes_on : goal.returns-clause-goes_on
returns-clause-goes_on c = λ uploads a b d digested first second. later-trans uploads a b d digested first second

pub returns-clause-grows : goal.returns-clause-grows
returns-clause-grows c = λ uploads more a b within later. later-grows uploads more within a b later

pub returns-clause-legal : goal.returns-clause-legal
returns-clause-legal c = later-legal

pub returns-clause-was_legal : goal.returns-clause-was_legal
returns-clause-was_legal c = earlier-legal
