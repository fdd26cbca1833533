use Rattle.site_desk.proofs.AddedFiles.{later_digested}
use Rattle.site_desk.proofs.stocks.Tie.learn.Goals as goal

pub invariant_of-self : goal.invariant_of-self
invariant_of-self g c =
    later_digested c.self.inside.front c.other.inside.front c.learn.new.self c.self.invariant c.other.invariant c.learn.ensures.later
