-- A desk goes on: what was uploaded stays, and so do looks.
use Rattle.std.proofs.Common.{◌≡◌, ℕ, zero, suc, ◌&&◌, Bool, true, false, cond, List, [], ◌∷◌, ◌++◌, length, slice_get, Option, Some, refl, ap, ◌∙◌}
use Rattle.site_change.specs.Changes.{IsWithin}
use Rattle.change_log.specs.Logs.{Log, with_entry}
use Rattle.world_desk.specs.Visitors.{Watched, looked, taught}
use Rattle.world_desk.specs.Desks.{Ask, DeskState, DeskStep, Enter, Learn, Publish, Upload, change_at, happens, is_published, is_taken, look_at, looks_of}
use Rattle.world_desk.proofs.Changing.{uploads_stay}
use Rattle.host_world.proofs.Lists.{get_changed, get_last, get_pushed, length_changed}

pub record Later (d e : DeskState) : Type 0 where
  pub within : IsWithin d.uploads e.uploads
  pub looks : (v i : ℕ) (log : Log) → look_at d v i ≡ Some log → look_at e v i ≡ Some log
  pub count : length e.visitors ≡ length d.visitors

grown : (f : Watched → Watched) → ((x : Watched) (i : ℕ) (log : Log) → slice_get x.looks i ≡ Some log → slice_get (f x).looks i ≡ Some log) → (vs : List Watched) (u v i : ℕ) (log : Log)
    → slice_get (looks_of (slice_get vs v)) i ≡ Some log → slice_get (looks_of (slice_get (change_at u f vs) v)) i ≡ Some log
grown f more [] u v i log e = e
grown f more (x ∷ vs) zero zero i log e = more x i log e
grown f more (x ∷ vs) zero (suc v) i log e = e
grown f more (x ∷ vs) (suc u) zero i log e = e
grown f more (x ∷ vs) (suc u) (suc v) i log e = grown f more vs u v i log e

later_itself : (d : DeskState) → Later d d
later_itself d = record { within = λ digest bytes e. e; looks = λ v i l e. e; count = refl }

later_asked : (d : DeskState) (log : Log) (taken : Bool) → Later d (cond taken (record d { log = log }) d)
later_asked d log true = record { within = λ digest bytes e. e; looks = λ v i l e. e; count = refl }
later_asked d log false = later_itself d

pub later_step : (d : DeskState) (step : DeskStep) → Later d (happens d step)
later_step d (Ask entry) = later_asked d (with_entry d.log entry) (is_published d && is_taken d entry)
later_step d Publish = record { within = λ digest bytes e. e; looks = λ v i l e. e; count = refl }
later_step d (Enter u) = record {
  within = λ digest bytes e. e;
  looks = grown (looked d.shown) (λ x i log e. get_pushed x.looks d.shown i log e) d.visitors u;
  count = length_changed (looked d.shown) u d.visitors;
}
later_step d (Learn u) = record {
  within = λ digest bytes e. e;
  looks = grown (taught d.shown) (λ x i log e. e) d.visitors u;
  count = length_changed (taught d.shown) u d.visitors;
}
later_step d (Upload bytes) = record { within = uploads_stay d.uploads bytes; looks = λ v i l e. e; count = refl }

-- the last look of a visitor who has just looked is at what is shown
pub saw : (d : DeskState) (v : ℕ) (x : Watched) → slice_get d.visitors v ≡ Some x → look_at (happens d (Enter v)) v (length (looks_of (slice_get d.visitors v))) ≡ Some d.shown
saw d v x there =
    let now : slice_get (change_at v (looked d.shown) d.visitors) v ≡ Some (looked d.shown x) = get_changed (looked d.shown) v d.visitors x there in
    ap (λ (it : Option Watched). slice_get (looks_of it) (length (looks_of (slice_get d.visitors v)))) now
    ∙ ap (λ (it : Option Watched). slice_get (x.looks ++ d.shown ∷ []) (length (looks_of it))) there ∙ get_last x.looks d.shown
