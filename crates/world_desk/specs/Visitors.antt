-- What a visitor has seen.
use Rattle.std.specs.Prelude.{ℕ, ◌≤◌, List, [], ◌∷◌, ◌++◌, length, drop, refl}
use Rattle.std.specs.List.{AllByRecursion}
use Rattle.std.specs.Coded.{Coded, code_by, coded×, coded_list, coded_ℕ}
use Rattle.change_log.specs.Logs.{BeginsWith, Log}

-- the logs of its looks, in order; and the logs that it was told of, each with how many looks it had then
pub record Watched : Type 0 where
  pub looks : List Log
  pub told : List (ℕ × Log)

-- how both are stored
abbrev pub coded_watched : Coded Log → Coded Watched
coded_watched log =
    code_by (List Log × List (ℕ × Log)) (coded× (coded_list log) (coded_list (coded× coded_ℕ log)))
    (λ v. (v.looks, v.told)) (λ t. record { looks = t.0; told = t.1 }) (λ _. refl)

-- it has seen nothing yet
abbrev pub unseen : Watched
unseen = record { looks = []; told = [] }

-- it looks, and sees this log
abbrev pub looked : Log → Watched → Watched
looked log v = record v { looks = v.looks ++ log ∷ [] }

-- it is told of this log
abbrev pub taught : Log → Watched → Watched
taught log v = record v { told = v.told ++ (length v.looks, log) ∷ [] }

-- ---- looks never go back

-- each log is a beginning of all that come after it
abbrev pub OnlyGrow : List Log → Type 0
OnlyGrow [] = Unit {0}
OnlyGrow (log ∷ logs) = AllByRecursion (λ later. BeginsWith later log) logs × OnlyGrow logs

-- it was told of a log that had been shown, after so many looks, and each look since then begins with that log
pub record IsKeptTo (shown : Log) (looks : List Log) (told : ℕ × Log) : Type 0 where
  pub was_shown : BeginsWith shown told.1
  pub before : told.0 ≤ length looks
  pub since : AllByRecursion (λ look. BeginsWith look told.1) (drop told.0 looks)

-- its looks are beginnings of what is shown, and each begins with all earlier looks, and with all that it had been told of
pub record SeesInOrder (shown : Log) (v : Watched) : Type 0 where
  pub were_shown : AllByRecursion (BeginsWith shown) v.looks
  pub grow : OnlyGrow v.looks
  pub kept : AllByRecursion (IsKeptTo shown v.looks) v.told
