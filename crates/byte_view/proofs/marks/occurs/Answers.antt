use Rattle.byte_view.proofs.Occurrences.{found_exactly}
use Rattle.byte_view.proofs.marks.occurs.Goals as goal

pub returns : goal.returns
returns c = found_exactly c.args.bytes.now c.args.text.now c.find.result c.is_some.result c.find.ensures c.is_some.ensures
