-- What the indexes of a history tell of its plans and of its sites.
use Rattle.std.specs.Prelude.{◌≡◌, ℕ, ◌<◌, Bool, false, List, length, Option, Some, None}
use Rattle.host_names.specs.declared.names.SiteName.{SiteName}
use Rattle.site_change.specs.declared.plans.Plan.{Plan}
use Rattle.touch_index.specs.Keys.{touched_keys}
use Rattle.touch_index.specs.Postings.{Postings, is_among, is_posted}
use Rattle.change_log.specs.Logs.{Log}
use Rattle.change_undo.specs.declared.marks.Mark.{Mark}
use Rattle.change_undo.specs.Kept.{plan_of}
use Rattle.change_undo.specs.PlannedEntries.{PlannedEntry, with_marks}
use Rattle.change_undo.specs.SiteIndexes.{AreChained}

-- whether what the plan touches has the key
abbrev pub has_key : Option Plan → ℕ → Bool
has_key None key = false
has_key (Some plan) key = is_among key (touched_keys plan.touched)

-- The change of a number above the base is posted under the keys of what its plan touches, and under no other key.
abbrev pub IsIndexOf : (base : ℕ) → List PlannedEntry → Postings → Type 0
IsIndexOf base logged index = (key i : ℕ) → base < i → is_posted index key i ≡ has_key (plan_of base logged i) key

-- Each entry has its mark, the index is that of both, and the entries of each site are chained.
pub record BelongTogether (log : Log) (marks : List Mark) (index : Postings) (earlier : List ℕ) (last : List (SiteName × ℕ)) : Type 0 where
  pub lengths : length log.entries ≡ length marks
  pub indexed : IsIndexOf log.base (with_marks log.entries marks) index
  pub chained : AreChained log earlier last
