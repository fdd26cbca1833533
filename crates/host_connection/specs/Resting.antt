-- A connection that rests: nothing of its next request has come, and nothing of a reply is left.
use Rattle.std.specs.Prelude.{◌≡◌, ℕ, zero, suc, List, [], Option, None, Some, length}
use Rattle.host_connection.specs.declared.phases.Phase.{Phase}
use Rattle.host_connection.specs.declared.phases.Phase.TheVariants as phase
use Rattle.host_connection.specs.declared.steps.Connection.{Connection}

-- it is before the request of this number
abbrev pub IsResting : ℕ → Connection → Type 0
IsResting number c = (c.wire ≡ []) × (c.number ≡ number) × (c.phase ≡ phase.Head)

-- the number of the request that it is before, where so many bytes are there
abbrev pub number_before : (buffered number : ℕ) → Option ℕ
number_before zero number = Some number
number_before (suc more) number = None

abbrev pub resting_in : (buffer : List ℕ) → ℕ → Phase → Option ℕ
resting_in buffer number phase.Head = number_before (length buffer) number
resting_in buffer number p = None

abbrev pub resting_number : Connection → Option ℕ
resting_number c = resting_in c.wire c.number c.phase
