use Rattle.change_log.proofs.Items.{put_or_kept}
use Rattle.change_log.proofs.names.Names.put.Goals as goal

pub invariant_of-self : goal.invariant_of-self
invariant_of-self c =
    (put_or_kept c.write.result c.self.inside.cells c.write.new.self c.args.self.now c.args.cell c.args.name c.self.invariant c.self.view_is c.requires.lawful
    c.write.ensures.ok c.write.ensures.err).items

pub returns-clause-ok : goal.returns-clause-ok
returns-clause-ok c =
    (put_or_kept c.write.result c.self.inside.cells c.write.new.self c.args.self.now c.args.cell c.args.name c.self.invariant c.self.view_is c.requires.lawful
    c.write.ensures.ok c.write.ensures.err).ok
