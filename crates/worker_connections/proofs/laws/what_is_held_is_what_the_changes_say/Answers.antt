use Rattle.std.proofs.Common.{◌≡◌, ◌+◌, Option, None, Some, option_map, refl, subst, slice_set}
use Rattle.std.specs.List.{sum_by}
use Rattle.std.proofs.lemmas.List.Sums.{sum_by-set}
use Rattle.worker_connections.proofs.Kept.{with_number_is}
use Rattle.worker_connections.proofs.Sound.{below}
use Rattle.worker_connections.specs.Places.{becomes_in, bytes_in, bytes_of, change_between, named, place_at}
use Rattle.worker_connections.specs.declared.changes.Change.{Change}
use Rattle.worker_connections.specs.declared.clients.Client.{Client}
use Rattle.worker_connections.proofs.laws.what_is_held_is_what_the_changes_say.Goals as goal

held_then : (old : Client) (new : Option Client) → bytes_of (change_between old new).holds ≡ bytes_in new
held_then old None = refl
held_then old (Some new) = refl

held_before : (old : Client) (new : Option Client) → bytes_of (change_between old new).held ≡ bytes_of old.holds
held_before old None = refl
held_before old (Some new) = refl

pub returns : goal.returns
returns c f name held change h = go (named name held.places) refl h
  where
    go : (found : Option Client) → named name held.places ≡ found → option_map (λ old. change_between old (f old)) found ≡ Some change
        → sum_by bytes_in (becomes_in found f name held).places + bytes_of change.held ≡ sum_by bytes_in held.places + bytes_of change.holds
    go None is h = cc
    go (Some old) is h =
        let same : change_between old (f old) ≡ change = cc in
        let there : place_at held.places name.place ≡ Some old = with_number_is name.number (place_at held.places name.place) old is in
        let sums : sum_by bytes_in (slice_set held.places name.place (f old)) + bytes_in (place_at held.places name.place) ≡ sum_by bytes_in held.places + bytes_in (f old)
        = sum_by-set bytes_in held.places name.place (f old) None (below held.places name.place old there) in
        let now : sum_by bytes_in (slice_set held.places name.place (f old)) + bytes_of old.holds ≡ sum_by bytes_in held.places + bytes_in (f old)
        = subst (λ (p : Option Client). sum_by bytes_in (slice_set held.places name.place (f old)) + bytes_in p ≡ sum_by bytes_in held.places + bytes_in (f old)) there sums in
        subst (λ (other : Change). sum_by bytes_in (slice_set held.places name.place (f old)) + bytes_of other.held ≡ sum_by bytes_in held.places + bytes_of other.holds) same
        (rw (held_before old (f old), held_then old (f old)) now)
