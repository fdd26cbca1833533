-- What is answered to the value of a Range field.
use Rattle.std.specs.Prelude.{◌≡◌, ◌↔◌, ℕ, List}
use Rattle.range_spec.specs.declared.grammar.Asked.{Asked}
use Rattle.range_spec.specs.declared.grammar.Asked.TheVariants.{Specs}
use Rattle.range_spec.specs.declared.grammar.Spec.{Spec}
use Rattle.range_spec.specs.Asks.{AsksRanges}

-- specs are answered exactly where the value asks for them; where it asks for none it is ignored
abbrev pub IsUnderstoodAs : List ℕ → Asked → Type 0
IsUnderstoodAs text asked = (specs : List Spec) → (asked ≡ Specs specs) ↔ AsksRanges text specs
