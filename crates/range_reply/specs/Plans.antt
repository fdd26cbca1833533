-- What is sent of a file.
use Rattle.std.specs.Prelude.{ℕ, Bool, true, false, if◌then◌else◌}
use Rattle.range_spec.specs.declared.grammar.Asked.{Asked}
use Rattle.range_spec.specs.declared.grammar.Asked.TheVariants.{Ignore, Specs}
use Rattle.range_spec.specs.declared.selection.Choice.{Choice}
use Rattle.range_spec.specs.declared.selection.Choice.TheVariants.{Whole}
use Rattle.range_spec.specs.Chosen.{chosen}
use Rattle.range_reply.specs.declared.conditions.IfRange.{IfRange}
use Rattle.range_reply.specs.declared.conditions.IfRange.TheVariants.{Absent, True, False}

-- what the code keeps of the If-Range fields lets a range be sent: there is no condition, or it holds; `allows_range` says the
-- same of the values of the fields
abbrev pub lets_ranges : IfRange → Bool
lets_ranges Absent = true
lets_ranges True = true
lets_ranges False = false

-- what a Range field chooses of a file of this many bytes; all, where nothing is asked for that is understood
abbrev pub choice_in : Asked → ℕ → Choice
choice_in Ignore size = Whole
choice_in (Specs specs) size = chosen specs size

-- what is sent of a file of this many bytes: what is chosen, or all of it where a condition doesn't hold; without a Range the
-- condition changes nothing (RFC 9110, sections 13.1.5 and 14.2)
abbrev pub planned : Asked → IfRange → ℕ → Choice
planned asked condition size = if lets_ranges condition then choice_in asked size else Whole
