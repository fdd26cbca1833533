use Rattle.std.proofs.Common.{rules, ◌≡◌, List, ℕ, Ok, refl, subst, ◌∙◌}
use Rattle.host_replies.specs.Versions.{file_of}
use Rattle.host_answers.proofs.Reading.{IsAsked, no_memory}
use Rattle.host_answers.proofs.reads.read_range.Goals as goal

pub returns-in_default-try_clone : goal.returns-in_default-try_clone
returns-in_default-try_clone g c =
    let house = c.args.house.now in
    let parts = c.args.head.now in
    let plan = c.plan_of_range-plan.result in
    let asked = c.plan_of_range-plan.ensures.asked in
    no_memory g.H.Holder.gave g.H.Holder.failed house house parts c.args.path.now c.in-Ok.file.now
    (file_of (g.H.House.calls.seen house).state c.args.site.now c.args.version.now c.args.path.now) plan _
    (subst (λ s. file_of s c.args.site.now c.args.version.now c.args.path.now ≡ Ok c.in-Ok.file.now) c.state.ensures c.in-Ok.ensures.found)
    c.requires.get
    (subst (λ (f : List ℕ). IsAsked parts f plan) (c.deref.ensures ∙ c.info.ensures) (asked.0, c.requires.asks asked.0 asked.1, asked.2))
    (search rules) c.out_of_memory.ensures refl
