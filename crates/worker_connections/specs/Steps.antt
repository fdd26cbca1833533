-- What a step of a connection came to.
use Rattle.std.specs.Prelude.{◌+◌, ℕ, Bool, true, false}
use Rattle.connection_rules.specs.Paces.{up_to_most}
use Rattle.worker_connections.specs.declared.steps.Holding.{Holding}
use Rattle.worker_connections.specs.declared.steps.Holding.TheVariants.{Nothing, Body, Reply}
use Rattle.worker_connections.specs.declared.steps.Step.{Step}

abbrev pub is_body : Holding → Bool
is_body Nothing = false
is_body (Body held) = true
is_body (Reply held) = false

-- how many bytes a step moved
abbrev pub moved_by : Step → ℕ
moved_by step = up_to_most (step.read + step.written)
