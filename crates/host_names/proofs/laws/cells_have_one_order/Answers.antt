use Rattle.host_names.specs.CellOrder.{cell_cmp_total, cell_cmp-IsAntisymmetric}
use Rattle.host_names.proofs.laws.cells_have_one_order.Goals as goal

pub returns-clause-total : goal.returns-clause-total
returns-clause-total c = cell_cmp_total

pub returns-clause-exact : goal.returns-clause-exact
returns-clause-exact c = cell_cmp-IsAntisymmetric
