use denote.Param.Always.{always_mut}
use Rattle.node_process.specs.Repeats.{Lacked}
use Rattle.node_process.proofs.repeating.repeated.Given as goal

-- the calls so far lacked a descriptor
abbrev pub invariant-loop-made : goal.invariant-loop-made
invariant-loop-made g l =
    (always_mut g.C.FnMut l.initial.call → always_mut g.C.FnMut l.call)
    × (always_mut g.G.FnMut l.initial.give → always_mut g.G.FnMut l.give)
    × Lacked (goal.C-step g) (goal.G-step g) l._made l.initial.call l.initial.give l.call l.give
