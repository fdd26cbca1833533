use Rattle.std.proofs.Common.{◌≡◌, map, drop}
use Rattle.host_api.specs.Routes.{found_in}
use Rattle.host_api.specs.Patterns.{row_of}
use Rattle.host_api.proofs.table.found_in.Given as goal

abbrev pub invariant-loop-row : goal.invariant-loop-row
invariant-loop-row l = found_in (map row_of l.rows) l.path ≡ found_in (map row_of (drop l.row-index l.rows)) l.path
