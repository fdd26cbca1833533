-- Options, as a parse reads them.
use Rattle.std.specs.Prelude.{ℕ, true, List, [], ◌∷◌, Some}
use Rattle.clap.specs.Words.{Rule, Text, new_rule}
use Rattle.clap.specs.declared.builder.action.ArgAction.TheVariants.{Set}
use Rattle.clap.specs.declared.builder.value_parser.ValueParser.TheVariants.{Unsigned}

-- an option with one value
abbrev pub option_rule : Text → Rule
option_rule name = record (new_rule name) { long = Some name; value_names = 1; action = Some Set }

-- an option for a number from 1 on
abbrev pub number_rule : Text → ℕ → Rule
number_rule name most = record (option_rule name) { parser = Some (Unsigned 1 most) }

-- one that has to be given
abbrev pub required : Rule → Rule
required rule = record rule { required = true }

-- one that has a value where it isn't given
abbrev pub with_default : Rule → Text → Rule
with_default rule value = record rule { defaults = value ∷ [] }
