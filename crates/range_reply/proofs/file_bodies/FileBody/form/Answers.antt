use Rattle.std.proofs.Common.{◌∙◌, ap, map, sym}
use Rattle.range_reply.specs.Bodies.{stretch_of}
use Rattle.range_reply.specs.Holding.{held_in}
use Rattle.range_reply.specs.Sending.{plan_sent}
use Rattle.range_reply.proofs.file_bodies.FileBody.form.Goals as goal

pub returns-in-Some : goal.returns-in-Some
returns-in-Some c =
    let holds = held_in c.self.inside.holds in
    let plan = sym (ap (λ v. v.plan) c.self.view_is) ∙ ap (λ s. plan_sent s holds) c.in-Several.is in
    let boundary = sym (ap (λ v. v.boundary) c.self.view_is) ∙ c.in-Some.is in
    ((map stretch_of holds, plan), boundary)
