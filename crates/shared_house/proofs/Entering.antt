-- An entry that is made is told and shown under its number.
use Rattle.std.proofs.Common.{◌≡◌, inl, inr, ℕ, Some, Result, Ok, Err, refl, sym, ap, ◌∙◌, Option}
use Rattle.std.specs.Prelude.{IfErr, IfOk, OnOk, option_map}
use Rattle.change_log.specs.Logs.{BeginsWith, Log, entry_at, last_number, with_entry}
use Rattle.change_log.proofs.Longer.{entry_at-with_entry, last_number-with_entry}
use Rattle.site_change.specs.declared.commands.Command.{Command}
use Rattle.site_change.specs.declared.entries.Entry.{Entry}
use Rattle.site_change.specs.declared.entries.Entry.TheVariants.{Change}
use Rattle.host_api.specs.declared.refusals.Refusal.{Refusal}
use Rattle.host_answers.specs.declared.stops.Stop.{Stop}
use Rattle.host_answers.specs.declared.stops.Stop.TheVariants as stop
use Rattle.host_answers.specs.declared.uploads.Uploaded.{Uploaded}
use Rattle.shared_house.specs.declared.desk_access.Taken.{Taken}
use Rattle.shared_house.specs.Desks.{Asks, Enters, HouseCall}
use Rattle.shared_house.specs.Entering.{IsEntryAnswer, reason_of_command, uploaded_of}
use Rattle.shared_house.specs.Seeing.{Known, by_front}
use Rattle.shared_house.specs.Shared.{CommitsAs}

last_shown : (log before : Log) (entry : Entry) (number : ℕ) → log ≡ with_entry before entry → number ≡ last_number log → entry_at log number ≡ Some entry
last_shown log before entry number is last =
    ap (λ (l : Log). entry_at l number) is ∙ entry_at-with_entry before entry number (last ∙ ap last_number is ∙ last_number-with_entry before entry)

pub shown_taken : (entry : Entry) (before log receipt : Log) (result : Result ℕ Stop) → receipt ≡ with_entry before entry
    → IfOk result (λ number. number ≡ last_number receipt) → OnOk result (log ≡ receipt) → IfOk result (λ number. entry_at log number ≡ Some entry)
shown_taken entry before log receipt (Ok number) made last is = last_shown log before entry number (is ∙ made) (last ∙ ap last_number (sym is))
shown_taken entry before log receipt (Err why) made last is = tt

-- a change that the desk makes an entry
pub committed : (did : HouseCall → Type 0) (command : Command) (old : Known) (log receipt : Log) (result : Result ℕ Stop) (new : Known) → BeginsWith log old.log
    → did (Asks (Enters (Change command) log (Ok receipt))) → IsEntryAnswer (Change command) (reason_of_command command) log (Ok receipt)
    → IfOk result (λ number. number ≡ last_number receipt) → IfErr result (λ why. why ≡ stop.OutOfMemory) → by_front.learns old receipt new
    → CommitsAs did by_front old command result new
committed did command old log receipt (Ok number) new later asked answer last memory learnt =
    inl (log, Ok receipt, later, asked, answer, ap (λ (n : ℕ). Ok n) last, learnt)
committed did command old log receipt (Err why) new later asked answer last memory learnt =
    inr (ap (λ (s : Stop). Err s) memory, (last_number receipt, (log, Ok receipt, later, asked, answer, refl, learnt)))

-- an upload that the desk takes, told with this number
abbrev pub told_with : Taken Log → Option ℕ → Result Uploaded Refusal
told_with taken number = Ok (record { published = number; digest = taken.digest })

pub taken_told : (taken : Taken Log) (number : Option ℕ) → number ≡ option_map last_number taken.published → told_with taken number ≡ uploaded_of (Ok taken)
taken_told taken number is = ap (told_with taken) is
