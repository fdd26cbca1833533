-- Which ports the first node may have.
use Rattle.std.specs.Prelude.{◌≤◌}
use Rattle.std.specs.Net.Socket.{socket_port}
use Rattle.std.specs.declared.net.socket_addr.SocketAddr.{SocketAddr}

-- after the port of the first of eight nodes there is room for both ports of each
abbrev pub LeavesRoom : SocketAddr → Type 0
LeavesRoom first = socket_port first ≤ 65520

-- and the first has a port
abbrev pub HasPorts : SocketAddr → Type 0
HasPorts first = (1 ≤ socket_port first) × LeavesRoom first
