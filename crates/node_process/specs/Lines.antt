-- The lines that the operator reads.
use Rattle.std.specs.Prelude.{◌≡◌, ℕ, ◌==◌, ◌<◌, ◌⊎◌, ◌*ℤ◌, pos, List, [], ◌++◌, codes, Some, if◌then◌else◌}
use Rattle.std.specs.Fmt.{decimal}
use Rattle.jiff_core.specs.declared.civil.datetime.DateTime.{DateTime}
use Rattle.jiff_core.specs.DateTime.{civil_nanos}
use Rattle.jiff_fmt.specs.Text.{date_text, time_text}
use Rattle.operator_notices.specs.Kinds.{word_of}
use Rattle.operator_notices.specs.declared.kinds.Kind.{Kind}
use Rattle.operator_notices.specs.declared.slots.Notice.{Notice}

-- the last second that has a date in each zone of the world
abbrev pub last_second : ℕ
last_second = 253_402_207_200

-- Which text tells a number of seconds since the beginning of 1970: the date and the time that a clock at UTC shows then (RFC 3339, section 5.6), as in
-- `2026-11-28T18:04:05Z`. Past the last second that has a date it is all noughts.
abbrev pub IsStamp : (seconds : ℕ) → List ℕ → Type 0
IsStamp seconds text =
    ((clock : DateTime) × (civil_nanos clock ≡ pos seconds *ℤ pos 1_000_000_000)
    × (text ≡ date_text clock.date ++ codes "T" ++ time_text (Some 0) clock.time ++ codes "Z"))
    ⊎ ((last_second < seconds) × (text ≡ codes "0000-00-00T00:00:00Z"))

-- how many more of its kind came, if any did
abbrev pub more_text : ℕ → List ℕ
more_text more = if more == 0 then [] else codes " (" ++ decimal more ++ codes " more)"

-- the line of a notice that is written then: the time, the word of its kind, what happened, and how many more came
abbrev pub IsLine : (seconds : ℕ) → Kind → Notice → List ℕ → Type 0
IsLine seconds kind notice line =
    (stamp : List ℕ) × IsStamp seconds stamp
    × (line ≡ codes "filehost: " ++ stamp ++ codes " " ++ word_of kind ++ codes ": " ++ notice.text.bytes
    ++ more_text notice.more ++ codes "\n")
