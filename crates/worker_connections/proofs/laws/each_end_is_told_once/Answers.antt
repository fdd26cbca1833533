use Rattle.std.proofs.Common.{◌≡◌, ◌&&◌, ◌↔◌, ℕ, Bool, true, false, not, None, Some, if◌then◌else◌, refl}
use Rattle.worker_connections.specs.Clients.{is_live, is_live_in as is_live_of}
use Rattle.worker_connections.specs.Places.{fate_at_end, fate_in}
use Rattle.worker_connections.specs.declared.changes.Fate.TheVariants.{Ends}
use Rattle.worker_connections.specs.declared.clients.State.{State}
use Rattle.worker_connections.specs.declared.clients.State.TheVariants.{Waits, ForRoom, Away, Back, Closing, Left}
use Rattle.worker_connections.proofs.laws.each_end_is_told_once.Goals as goal

abbrev lost_in : State → State → ℕ
lost_in old new = if is_live_of old && not (is_live_of new) then 1 else 0

told_in : (old new : State) → (fate_in old new ≡ Ends) ↔ (lost_in old new ≡ 1)
told_in (Waits i) (Waits j) = (λ h. cc, λ (h : 0 ≡ 1). cc)
told_in (Waits i) (ForRoom t) = (λ h. cc, λ (h : 0 ≡ 1). cc)
told_in (Waits i) Away = (λ h. cc, λ (h : 0 ≡ 1). cc)
told_in (Waits i) (Back t j) = (λ h. cc, λ (h : 0 ≡ 1). cc)
told_in (Waits i) Closing = (λ h. cc, λ (h : 0 ≡ 1). cc)
told_in (Waits i) Left = (λ h. refl, λ h. refl)
told_in (ForRoom s) (Waits j) = (λ h. cc, λ (h : 0 ≡ 1). cc)
told_in (ForRoom s) (ForRoom t) = (λ h. cc, λ (h : 0 ≡ 1). cc)
told_in (ForRoom s) Away = (λ h. cc, λ (h : 0 ≡ 1). cc)
told_in (ForRoom s) (Back t j) = (λ h. cc, λ (h : 0 ≡ 1). cc)
told_in (ForRoom s) Closing = (λ h. cc, λ (h : 0 ≡ 1). cc)
told_in (ForRoom s) Left = (λ h. refl, λ h. refl)
told_in Away (Waits j) = (λ h. cc, λ (h : 0 ≡ 1). cc)
told_in Away (ForRoom t) = (λ h. cc, λ (h : 0 ≡ 1). cc)
told_in Away Away = (λ h. cc, λ (h : 0 ≡ 1). cc)
told_in Away (Back t j) = (λ h. cc, λ (h : 0 ≡ 1). cc)
told_in Away Closing = (λ h. cc, λ (h : 0 ≡ 1). cc)
told_in Away Left = (λ h. refl, λ h. refl)
told_in (Back s i) (Waits j) = (λ h. cc, λ (h : 0 ≡ 1). cc)
told_in (Back s i) (ForRoom t) = (λ h. cc, λ (h : 0 ≡ 1). cc)
told_in (Back s i) Away = (λ h. cc, λ (h : 0 ≡ 1). cc)
told_in (Back s i) (Back t j) = (λ h. cc, λ (h : 0 ≡ 1). cc)
told_in (Back s i) Closing = (λ h. cc, λ (h : 0 ≡ 1). cc)
told_in (Back s i) Left = (λ h. refl, λ h. refl)
told_in Closing (Waits j) = (λ h. cc, λ (h : 0 ≡ 1). cc)
told_in Closing (ForRoom t) = (λ h. cc, λ (h : 0 ≡ 1). cc)
told_in Closing Away = (λ h. cc, λ (h : 0 ≡ 1). cc)
told_in Closing (Back t j) = (λ h. cc, λ (h : 0 ≡ 1). cc)
told_in Closing Closing = (λ h. cc, λ (h : 0 ≡ 1). cc)
told_in Closing Left = (λ h. refl, λ h. refl)
told_in Left (Waits j) = (λ h. cc, λ (h : 0 ≡ 1). cc)
told_in Left (ForRoom t) = (λ h. cc, λ (h : 0 ≡ 1). cc)
told_in Left Away = (λ h. cc, λ (h : 0 ≡ 1). cc)
told_in Left (Back t j) = (λ h. cc, λ (h : 0 ≡ 1). cc)
told_in Left Closing = (λ h. cc, λ (h : 0 ≡ 1). cc)
told_in Left Left = (λ h. cc, λ (h : 0 ≡ 1). cc)

abbrev lost_at_end : Bool → ℕ
lost_at_end live = if live && true then 1 else 0

told_at_end : (live : Bool) → (fate_at_end live ≡ Ends) ↔ (lost_at_end live ≡ 1)
told_at_end true = (λ h. refl, λ h. refl)
told_at_end false = (λ h. cc, λ (h : 0 ≡ 1). cc)

pub returns : goal.returns
returns c old None = told_at_end (is_live old)
returns c old (Some new) = told_in old.state new.state
