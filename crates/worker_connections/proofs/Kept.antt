-- What is kept of the connections of a worker.
use Rattle.std.proofs.Common.{◌≡◌, ◌≢◌, ◌+◌, ◌<◌, ◌≤◌, ◌⊎◌, ◌∷◌, ◌==◌, [], ℕ, zero, suc, Bool, true, false, List, Option, None, Some, arith, inl, inr, if◌then◌else◌, length, ap, refl, subst, sym, ◌∙◌, eqb, slice_set}
use Rattle.std.proofs.lemmas.Bool.Decides.{eqb_tells}
use Rattle.std.proofs.lemmas.Grind.{common_steps}
use Rattle.std.proofs.lemmas.List.{length-set}
use Rattle.worker_connections.specs.Clients.{answered, answered_in, is_live, is_live_in as is_live_of}
use Rattle.worker_connections.specs.Connections.{IsKept, KeepsAll, KeepsAt, kept_at}
use Rattle.worker_connections.specs.Places.{Held, becomes, becomes_in, is_live_in, named, place_at, placed, with_number}
use Rattle.worker_connections.specs.declared.changes.Name.{Name}
use Rattle.worker_connections.specs.declared.clients.Client.{Client}
use Rattle.worker_connections.specs.declared.clients.State.{State}
use Rattle.worker_connections.specs.declared.clients.State.TheVariants.{Waits, ForRoom, Away, Back, Closing, Left}

placed_here : (places : List (Option Client)) (at : ℕ) (client : Client) → at ≤ length places → place_at (placed at client places) at ≡ Some client
placed_here places at client within = grind (arith, common_steps)

placed_elsewhere : (places : List (Option Client)) (at k : ℕ) (client : Client) → at ≤ length places → k ≢ at
    → place_at (placed at client places) k ≡ place_at places k
placed_elsewhere places at k client within other = grind (arith, common_steps)

placed_length : (places : List (Option Client)) (at : ℕ) (client : Client) → length (placed at client places) ≤ length places + 1
placed_length places at client = grind (arith, common_steps)

-- one comes into a place that is free, and something is kept of it
pub kept_come : {K : Type 0} (places : List (Option Client)) (at : ℕ) (client : Client) (one : K) (old mid new : List (Option K)) → IsKept places old
    → at ≤ length places → is_live client ≡ true → length places < length mid → KeepsAll old mid → KeepsAt at (Some one) mid new → length new ≡ length mid
    → IsKept (placed at client places) new
kept_come {K} places at client one old mid new kept within live room same keeps long = record {
  within = omega (arith, placed_length places at client, room, long);
  dropped = λ k ended. go k ended (eqb_tells k at);
}
  where
    go : (k : ℕ) → is_live_in (place_at (placed at client places) k) ≡ false → ((eqb k at ≡ true) × (k ≡ at)) ⊎ ((eqb k at ≡ false) × (k ≢ at)) → kept_at new k ≡ None
    go k ended (inl (_, is)) =
        let there : is_live_in (place_at (placed at client places) at) ≡ false = subst (λ (j : ℕ). is_live_in (place_at (placed at client places) j) ≡ false) is ended in
        let here : is_live_in (Some client) ≡ false = subst (λ (p : Option Client). is_live_in p ≡ false) (placed_here places at client within) there in
        cc
    go k ended (inr (_, other)) =
        let there : is_live_in (place_at places k) ≡ false = subst (λ (p : Option Client). is_live_in p ≡ false) (placed_elsewhere places at k client within other) ended in
        keeps.elsewhere k other ∙ same k ∙ kept.dropped k there

live_same : (places : List (Option Client)) (at : ℕ) (old new : Client) → place_at places at ≡ Some old → is_live new ≡ is_live old
    → (k : ℕ) → is_live_in (place_at (slice_set places at (Some new)) k) ≡ is_live_in (place_at places k)
live_same [] at old new h e k = refl
live_same (p ∷ ps) zero old new h e zero = e ∙ sym (ap is_live_in h)
live_same (p ∷ ps) zero old new h e (suc k) = refl
live_same (p ∷ ps) (suc at) old new h e zero = refl
live_same (p ∷ ps) (suc at) old new h e (suc k) = live_same ps at old new h e k

answered_live_in : (state : State) (has_room : Bool) (now : ℕ) (old : Client) → old.state ≡ state → is_live (answered_in state has_room now old) ≡ is_live old
answered_live_in (Waits interest) true now old is = refl
answered_live_in (Waits interest) false now old is = sym (ap is_live_of is)
answered_live_in (ForRoom since) true now old is = sym (ap is_live_of is)
answered_live_in (ForRoom since) false now old is = refl
answered_live_in Away has_room now old is = refl
answered_live_in (Back since interest) true now old is = refl
answered_live_in (Back since interest) false now old is = sym (ap is_live_of is)
answered_live_in Closing has_room now old is = refl
answered_live_in Left has_room now old is = refl

pub with_number_is : (number : ℕ) (place : Option Client) (old : Client) → with_number number place ≡ Some old → place ≡ Some old
with_number_is number None old h = cc
with_number_is number (Some client) old h = go (client.number == number) h
  where
    go : (b : Bool) → (if b then Some client else None) ≡ Some old → Some client ≡ Some old
    go true h = h
    go false h = cc

pub kept_answered : {K : Type 0} (name : Name) (has_room : Bool) (now : ℕ) (held : Held) (kept : List (Option K)) → IsKept held.places kept
    → IsKept (becomes (λ c. Some (answered has_room now c)) name held).places kept
kept_answered {K} name has_room now held kept sound = go (named name held.places) refl
  where
    go : (found : Option Client) → named name held.places ≡ found → IsKept (becomes_in found (λ c. Some (answered has_room now c)) name held).places kept
    go None is = sound
    go (Some old) is = record {
      within = omega (arith, sound.within, length-set held.places name.place (Some (answered has_room now old)));
      dropped = λ k ended. sound.dropped k (sym (live_same held.places name.place old (answered has_room now old)
          (with_number_is name.number (place_at held.places name.place) old is) (answered_live_in old.state has_room now old refl) k) ∙ ended);
    }
