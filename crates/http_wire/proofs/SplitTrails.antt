-- Trails in two parts: which streams they are of, and what they wrote.
use Rattle.std.proofs.Common.{◌≡◌, ℕ, List, [], ◌∷◌, ◌++◌, Option, Some, None, refl, ap, subst, ◌∙◌, append_assoc, append-nil}
use Rattle.std.specs.Io.KnownBytes.{Consumes}
use Rattle.http_wire.specs.Timing.{Event, Got, AtEnd, ReadFails, Put, WriteFails, all_got, all_put, IsLatest, GoesOn, Gives, Ran}
use Rattle.http_wire.proofs.Trails.{got_joined, put_joined, latest_joined}
use Rattle.http_wire.specs.Halting.{Together}

pub ran_none : {S : Type 0} (saw : S → Event → S → Type 0) (may : List ℕ → List ℕ → Type 0) (old : S) (claim : List Event → Type 0) → claim [] → Ran saw may old old claim
ran_none saw may old claim claimed = record { events = []; steps = refl; timely = tt; claimed = claimed }

ended_stops : (events : List Event) → GoesOn events → IsLatest AtEnd events → ⊥
ended_stops [] on latest = latest
ended_stops (Got bytes ∷ past) on latest = cc latest
ended_stops (AtEnd ∷ past) on latest = on
ended_stops (ReadFails ∷ past) on latest = on
ended_stops (Put bytes ∷ past) on latest = cc latest
ended_stops (WriteFails ∷ past) on latest = on

pub read_goes_on : (events : List Event) → GoesOn events → IsLatest ReadFails events → ⊥
read_goes_on [] on latest = latest
read_goes_on (Got bytes ∷ past) on latest = cc latest
read_goes_on (AtEnd ∷ past) on latest = on
read_goes_on (ReadFails ∷ past) on latest = on
read_goes_on (Put bytes ∷ past) on latest = cc latest
read_goes_on (WriteFails ∷ past) on latest = on

pub write_goes_on : (events : List Event) → GoesOn events → IsLatest WriteFails events → ⊥
write_goes_on [] on latest = latest
write_goes_on (Got bytes ∷ past) on latest = cc latest
write_goes_on (AtEnd ∷ past) on latest = on
write_goes_on (ReadFails ∷ past) on latest = on
write_goes_on (Put bytes ∷ past) on latest = cc latest
write_goes_on (WriteFails ∷ past) on latest = on

-- a stream that goes on after these reads
pub gives_more : (events : List Event) (more : List ℕ) → GoesOn events → Gives events (Some (all_got events ++ more)) (Some more)
gives_more events more on = record { taken = refl; end = λ latest. absurd (ended_stops events on latest) }

-- a stream between two trails
pub record Between (events past : List Event) (left new_left : Option (List ℕ)) : Type 0 where
  pub mid : Option (List ℕ)
  pub first : Gives past left mid
  pub second : Gives events mid new_left
  pub together : Together left mid
  pub later : Together left new_left → Together mid new_left

pub record Parted (left new_left : Option (List ℕ)) (xs ys : List ℕ) : Type 0 where
  pub mid : Option (List ℕ)
  pub first : Consumes left mid xs
  pub second : Consumes mid new_left ys
  pub together : Together left mid
  pub later : Together left new_left → Together mid new_left

between : (left new_left : Option (List ℕ)) (xs ys : List ℕ) → Consumes left new_left (xs ++ ys) → Parted left new_left xs ys
between None new_left xs ys taken = record { mid = None; first = tt; second = tt; together = tt; later = λ t. t }
between (Some bs) None xs ys taken = absurd taken
between (Some bs) (Some cs) xs ys taken =
    record { mid = Some (ys ++ cs); first = taken ∙ append_assoc xs ys cs; second = refl; together = tt; later = λ t. tt }

pub gives_split : (events past : List Event) (left new_left : Option (List ℕ)) → GoesOn past → Gives (events ++ past) left new_left → Between events past left new_left
gives_split events past left new_left on gives =
    let parts = between left new_left (all_got past) (all_got events) (subst (Consumes left new_left) (got_joined events past) gives.taken) in
    record {
      mid = parts.mid;
      first = record { taken = parts.first; end = λ latest. absurd (ended_stops past on latest) };
      second = record { taken = parts.second; end = λ latest. gives.end (latest_joined AtEnd events past latest) };
      together = parts.together;
      later = parts.later;
    }

-- the same stream, of which nothing is known after the reads where nothing was before
pub together_of : (events : List Event) (left new_left : Option (List ℕ)) → Gives events left new_left → (mid : Option (List ℕ)) × Gives events left mid × Together left mid
together_of events None new_left gives = (None, record { taken = tt; end = λ latest. tt }, tt)
together_of events (Some bytes) new_left gives = (new_left, gives, tt)

-- writes after reads take nothing of the stream
pub gives_read : (events past : List Event) (left new_left : Option (List ℕ)) → GoesOn past → all_got events ≡ [] → Gives (events ++ past) left new_left → Gives past left new_left
gives_read events past left new_left on none gives = record {
  taken = subst (Consumes left new_left) (got_joined events past ∙ ap (λ u. all_got past ++ u) none ∙ append-nil (all_got past)) gives.taken;
  end = λ latest. absurd (ended_stops past on latest);
}

-- reads after writes take all that is taken of the stream
pub gives_written : (events past : List Event) (left new_left : Option (List ℕ)) → all_got past ≡ [] → Gives (events ++ past) left new_left → Gives events left new_left
gives_written events past left new_left none gives = record {
  taken = subst (Consumes left new_left) (got_joined events past ∙ ap (λ u. u ++ all_got events) none) gives.taken;
  end = λ latest. gives.end (latest_joined AtEnd events past latest);
}

-- what was written by both is what the later ones wrote
pub put_after : (events past : List Event) → all_put past ≡ [] → all_put (events ++ past) ≡ all_put events
put_after events past none = put_joined events past ∙ ap (λ u. u ++ all_put events) none

-- what was written by both is what the earlier ones wrote
pub put_before : (events past : List Event) → all_put events ≡ [] → all_put (events ++ past) ≡ all_put past
put_before events past none = put_joined events past ∙ ap (λ u. all_put past ++ u) none ∙ append-nil (all_put past)
