-- The connections of a worker, with what it keeps of each.
use Rattle.std.specs.Prelude.{◌≡◌, ◌≢◌, ◌≤◌, ℕ, false, List, Option, None, Some, if◌then◌else◌, is_some, length, slice_index_or}
use Rattle.worker_connections.specs.Places.{Held, is_live_in, named, place_at}
use Rattle.worker_connections.specs.declared.changes.Name.{Name}
use Rattle.worker_connections.specs.declared.clients.Client.{Client}

-- what is known of each, and what is kept of it
pub record Keeps (K : Type 0) : Type 0 where
  pub held : Held
  pub kept : List (Option K)

-- what is kept at a place
abbrev pub kept_at : {K : Type 0} → List (Option K) → ℕ → Option K
kept_at kept at = slice_index_or kept at None

-- nothing is kept of one that has ended
pub record IsKept {K : Type 0} (places : List (Option Client)) (kept : List (Option K)) : Type 0 where
  pub within : length places ≤ length kept
  pub dropped : (at : ℕ) → is_live_in (place_at places at) ≡ false → kept_at kept at ≡ None

-- this is kept at a place, and at each other what was
pub record KeepsAt {K : Type 0} (at : ℕ) (one : Option K) (old new : List (Option K)) : Type 0 where
  pub here : kept_at new at ≡ one
  pub elsewhere : (k : ℕ) → k ≢ at → kept_at new k ≡ kept_at old k

-- the same is kept at each place
abbrev pub KeepsAll : {K : Type 0} → (old new : List (Option K)) → Type 0
KeepsAll old new = (k : ℕ) → kept_at new k ≡ kept_at old k

-- what is kept of the connection of this name; nothing, where it has ended
abbrev pub lent : {K : Type 0} → Name → Keeps K → Option K
lent name keeps = if is_some (named name keeps.held.places) then kept_at keeps.kept name.place else None

-- this, where the place of this name has a connection that has not ended
abbrev pub if_live : {K : Type 0} → Name → Held → Option K → Option K
if_live name held one = if is_live_in (place_at held.places name.place) then one else None

-- this is kept of the connection of this name, if it has not ended, and of each other what was
abbrev pub KeepsBut_in : {K : Type 0} → Option Client → ℕ → Option K → (old new : List (Option K)) → Type 0
KeepsBut_in None at one old new = KeepsAll old new
KeepsBut_in (Some client) at one old new = KeepsAt at one old new

abbrev pub KeepsBut : {K : Type 0} → Name → Held → Option K → (old new : List (Option K)) → Type 0
KeepsBut name held one old new = KeepsBut_in (named name held.places) name.place one old new
