-- Which logs are later than others.
use Rattle.std.specs.Prelude.{◌≡◌, ◌⊎◌, List, [], ◌∷◌, None}
use Rattle.byte_view.specs.Contents.{AreDigested, Contents}
use Rattle.change_log.specs.Logs.{BeginsWith, Log}
use Rattle.change_undo.specs.Histories.{IsLegal}
use Rattle.sealed_logs.specs.Sealing.{seal_refusal, sealed}

-- the new log is the history as it stands, or sealed where nothing is against that
abbrev pub IsSealedAs : Contents → Log → Log → Type 0
IsSealedAs uploads history new = (new ≡ history) ⊎ ((seal_refusal history new.base ≡ None) × (new ≡ sealed uploads new.base history))

-- Over these uploads some legal history begins with the old log, and is the new one as it stands or sealed at its base.
pub record IsLater (uploads : Contents) (old new : Log) : Type 0 where
  pub history : Log
  pub begins : BeginsWith history old
  pub legal : IsLegal uploads history
  pub is : IsSealedAs uploads history new

-- each of these logs is later than the one before over some uploads, and the last one is the new log
abbrev pub Leads : Log → List (Contents × Log) → Log → Type 0
Leads old [] new = new ≡ old
Leads old (step ∷ steps) new = AreDigested step.0 × IsLater step.0 old step.1 × Leads step.1 steps new

-- Some steps lead from the old log to the new one.
abbrev pub IsLaterLog : Log → Log → Type 0
IsLaterLog old new = (steps : List (Contents × Log)) × Leads old steps new
