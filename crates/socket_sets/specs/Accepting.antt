-- Why no client was accepted.
use Rattle.std.specs.Prelude.{◌≡◌, ◌⊎◌, Bool, true, false, Some, pos}
use Rattle.std.specs.IoError.{raw_os_error}
use Rattle.std.specs.declared.io.Error.{Error}
use Rattle.socket_sets.specs.declared.traits.AcceptFault.{AcceptFault}
use Rattle.socket_sets.specs.declared.traits.AcceptFault.TheVariants as fault
use Rattle.socket_sets.specs.declared.traits.NotAccepted.{NotAccepted}
use Rattle.socket_sets.specs.declared.traits.NotAccepted.TheVariants.{Lacks, Gone}

-- the system has no memory, no descriptor, none for this process, or no room for a socket: ENOMEM, ENFILE, EMFILE, ENOBUFS (accept(2))
abbrev pub LacksRoom : Error → Type 0
LacksRoom error =
    (raw_os_error error ≡ Some (pos 12)) ⊎ (raw_os_error error ≡ Some (pos 23))
    ⊎ (raw_os_error error ≡ Some (pos 24)) ⊎ (raw_os_error error ≡ Some (pos 105))

-- A descriptor or memory lacks for a client that waits; or there is none to wait for it, or the failure was its own. So nobody gives anything up for a client
-- that another worker took meanwhile.
abbrev pub IsReason : (failed : AcceptFault → Type 0) → (looked : Bool → Type 0) → NotAccepted → Type 0
IsReason failed looked Lacks = failed fault.Lacks × looked true
IsReason failed looked Gone = failed fault.Other ⊎ (failed fault.Lacks × looked false)
