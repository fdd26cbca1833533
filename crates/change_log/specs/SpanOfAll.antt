-- All cells are side by side.
use Rattle.std.specs.Prelude.{true, false}
use Rattle.std.proofs.Common.{refl}
use Rattle.host_names.specs.Cells.{cell_cmp}
use Rattle.persistent_maps.specs.Spans.{StandTogether}

pub all_together : StandTogether cell_cmp (λ c. false) (λ c. true)
all_together = record { falls = λ a b less before. before; apart = λ c before. cc before; first = λ a b less late within. refl }
