-- How a run of `serve` ends: its status, and what is said on standard error.
use Rattle.std.specs.Prelude.{◌≡◌, ◌⊎◌, ℕ, codes}
use Rattle.found_host.specs.declared.faults.OpenFault.{OpenFault}
use Rattle.host_connection.specs.Serving.{Stream}
use Rattle.host_server.specs.Solo.{IsSaid, SaysFault}
use Rattle.host_nodes.specs.declared.lines.Failure.{Failure}
use Rattle.host_nodes.specs.declared.lines.Failure.TheVariants as failure

-- it is said that a port can't be listened on
abbrev pub SaysNoListener : (says_fail : Type 0) → ℕ → (said new_said : Stream) → Type 0
SaysNoListener says_fail status said new_said = (status ≡ 2) × IsSaid says_fail (codes "filehost: cannot listen\n") said new_said

-- The nodes have served as many clients as they were to, and nothing is said; or it is said that the host can't be opened, or that there was no
-- memory, or that a port can't be listened on.
abbrev pub IsEnd : (says_fail : Type 0) → ℕ → (said new_said : Stream) → Type 0
IsEnd says_fail status said new_said =
    ((status ≡ 0) × (new_said ≡ said))
    ⊎ ((why : OpenFault) × SaysFault says_fail why status said new_said)
    ⊎ SaysNoListener says_fail status said new_said

-- it is said why the nodes don't serve
abbrev pub SaysFailure : (says_fail : Type 0) → Failure → ℕ → (said new_said : Stream) → Type 0
SaysFailure says_fail (failure.NotOpened why) status said new_said = SaysFault says_fail why status said new_said
SaysFailure says_fail failure.CannotListen status said new_said = SaysNoListener says_fail status said new_said
