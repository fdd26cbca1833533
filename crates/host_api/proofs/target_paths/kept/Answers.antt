use Rattle.host_api.proofs.PathTexts.{keeps}
use Rattle.host_api.proofs.target_paths.kept.Goals as goal

pub returns : goal.returns
returns c = keeps c.args.text.now c.read.result c.utf8.text c.read.ensures.bad.1 c.read.ensures.bad.0 c.read.ensures.kept c.read.ensures.lawful
