use Rattle.host_answers.proofs.FileReplies.{reads_of}
use Rattle.host_answers.proofs.laws.replies_to_reads_are_of_their_files.Goals as goal

pub returns : goal.returns
returns g c = λ old new parts path found answer by. reads_of g.H.Holder.gave g.H.Holder.failed old new parts path found answer by
