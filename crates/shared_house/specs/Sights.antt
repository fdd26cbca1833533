-- What contracts see of a house.
use Rattle.std.specs.Prelude.{refl}
use Rattle.std.specs.Coded.{Coded, code_by, coded×}
use Rattle.change_undo.specs.Histories.{Past}
use Rattle.shared_house.specs.Seeing.{Known}

-- what it knows: the latest log that its visitor saw or learnt of, and the files that it saw; and the history that it shows
pub record Sight : Type 0 where
  pub known : Known
  pub past : Past

-- it is stored as its parts in a row
abbrev pub coded_sight : Coded Known → Coded Past → Coded Sight
coded_sight known past = code_by (Known × Past) (coded× known past) (λ s. (s.known, s.past)) (λ t. record { known = t.0; past = t.1 }) (λ _. refl)
