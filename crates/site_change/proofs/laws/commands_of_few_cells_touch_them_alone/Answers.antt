use Rattle.host_names.specs.declared.cells.Cell.TheVariants as cell
use Rattle.site_change.proofs.Touching.{cell_is, either_is}
use Rattle.site_change.proofs.laws.commands_of_few_cells_touch_them_alone.Goals as goal

pub returns-clause-cancelled : goal.returns-clause-cancelled
returns-clause-cancelled c site m number state at = cell_is at (cell.Draft site m)

pub returns-clause-removed : goal.returns-clause-removed
returns-clause-removed c site path number state at = cell_is at (cell.Live site path)

pub returns-clause-renamed : goal.returns-clause-renamed
returns-clause-renamed c site source target number state at = either_is at (cell.Live site source) (cell.Live site target)

pub returns-clause-moved : goal.returns-clause-moved
returns-clause-moved c site name m number state at = either_is at (cell.Kept site m) (cell.Alias site name)

pub returns-clause-given_up : goal.returns-clause-given_up
returns-clause-given_up c site name number state at = cell_is at (cell.Alias site name)
