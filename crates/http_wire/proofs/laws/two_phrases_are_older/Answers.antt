use Rattle.std.proofs.Common.{refl}
use Rattle.http_wire.specs.Replies.{status_line}
use Rattle.http_wire.proofs.laws.two_phrases_are_older.Goals as goal

pub returns-clause-too_large : goal.returns-clause-too_large
unfolding status_line
returns-clause-too_large c = refl

pub returns-clause-unprocessable : goal.returns-clause-unprocessable
unfolding status_line
returns-clause-unprocessable c = refl
