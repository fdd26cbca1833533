use Rattle.std.proofs.Common.{rules, ◌≡◌, ◌<◌, ◌-◌, ◌∙◌, ℕ, Ok, length, ap, arith}
use Rattle.world_desk.specs.Desks.{change_at}
use Rattle.world_desk.proofs.Changing.{change_written}
use Rattle.world_read.specs.Reads.{ReadState}
use Rattle.host_world.specs.Visits.{with_reading}
use Rattle.host_world.proofs.visits.Visits.go_on.Goals as goal

pub returns-then-count-gt0 : goal.returns-then-count-gt0
returns-then-count-gt0 c =
    let items = c.self.inside.reads.items in
    let count = c.len-count.result in
    let f : ReadState → ReadState = λ read. record read { content = Ok c.args.reading } in
    let long : count ≡ length items = search rules in
    let within : count - 1 < length items = omega (arith, long, c.if-count-gt0.true) in
    change_written f (count - 1) items c.index_mut-read.result.now c.go_on.new.self within c.index_mut-read.ensures.value c.go_on.ensures
    ∙ ap (λ (k : ℕ). change_at (k - 1) f items) long ∙ ap (with_reading c.args.reading) c.self.view_is
