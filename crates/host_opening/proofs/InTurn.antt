-- Entries that are accepted in turn.
use Rattle.std.proofs.Common.{◌≡◌, ◌∙◌, inl, inr, ℕ, ◌+◌, ◌≤◌, ◌<◌, List, [], ◌∷◌, ◌++◌, Bool, true, false, IsTrue, Option, Some, None, is_none, nat_le, cond, ap, append_assoc, arith, length, length-append, refl, subst, sym}
use Rattle.byte_view.specs.Contents.{Contents}
use Rattle.site_change.specs.declared.refusals.ChangeRefusal.{ChangeRefusal}
use Rattle.site_change.specs.declared.refusals.ChangeRefusal.TheVariants.{HistoryFull}
use Rattle.site_state.specs.States.{State}
use Rattle.site_change.specs.Changes.{refusal}
use Rattle.site_change.specs.declared.entries.Entry.{Entry}
use Rattle.site_change.specs.declared.entries.Entry.TheVariants.{Change, Undo}
use Rattle.change_log.specs.Logs.{Log, last_number, next_number, with_entries, with_entry, with_only}
use Rattle.change_undo.specs.Histories.{IsLegal, IsLegalAfter, change_refusal, is_accepted_in, is_allowed, run}
use Rattle.host_opening.specs.declared.replays.ReplayFault.TheVariants.{NotLegal}
use Rattle.host_opening.specs.Replays.{IsRefusedAfter, StopsAt, StopsAtEntry}

-- of entries that are allowed in turn, each is allowed after those before it
allowed_at : (uploads : Contents) (done : Log) (before after : List Entry) (entry : Entry) → IsLegalAfter uploads done (before ++ entry ∷ after)
    → IsTrue (is_allowed uploads (with_entries done before) entry)
allowed_at uploads done [] after entry legal = subst (λ l. IsTrue (is_allowed uploads (with_only done l) entry)) (sym (append_nothing done.entries)) legal.0
  where
    append_nothing : (l : List Entry) → l ++ [] ≡ l
    append_nothing [] = refl
    append_nothing (x ∷ l) = ap (λ r. x ∷ r) (append_nothing l)
allowed_at uploads done (e ∷ before) after entry legal =
    subst (λ l. IsTrue (is_allowed uploads (with_only done l) entry)) (append_assoc done.entries (e ∷ []) before) (allowed_at uploads (with_entry done e) before after entry legal.1)

-- where there is room, a reason is no want of room
reason_left : (full : Bool) (other : Option ChangeRefusal) (reason : ChangeRefusal) → full ≡ false → cond full (Some HistoryFull) other ≡ Some reason → other ≡ Some reason
reason_left true other reason room is = cc room
reason_left false other reason room is = is

no_room_needed : (limit n : ℕ) → n < limit → nat_le limit n ≡ false
no_room_needed limit n lt = grind arith

not_none : (o : Option ChangeRefusal) (reason : ChangeRefusal) → o ≡ Some reason → IsTrue (is_none o) → ⊥
not_none None reason is true_is = cc is
not_none (Some other) reason is true_is = cc true_is

not_refused : (uploads : Contents) (limit : ℕ) (before : Log) (entry : Entry) (reason : ChangeRefusal) → last_number before < limit
    → IsTrue (is_allowed uploads before entry) → IsRefusedAfter uploads limit before entry reason → ⊥
not_refused uploads limit before (Change command) reason room allowed refused =
    let n = next_number before in
    let told = reason_left (nat_le limit (last_number before)) (refusal command n refused.0 uploads) reason (no_room_needed limit (last_number before) room) refused.2 in
    let here = subst (λ s. IsTrue (is_accepted_in uploads s n command)) refused.1 allowed in
    not_none (refusal command n refused.0 uploads) reason told here
not_refused uploads limit before (Undo site k) reason room allowed refused =
    let told = reason_left (nat_le limit (last_number before)) (change_refusal uploads before site k) reason (no_room_needed limit (last_number before) room) refused in
    not_none (change_refusal uploads before site k) reason told allowed

never_at_entry : (uploads : Contents) (limit : ℕ) (log : Log) (n : ℕ) → IsLegal uploads log → last_number log ≤ limit → StopsAtEntry uploads limit log (NotLegal n) → ⊥
never_at_entry uploads limit log n legal within stop =
    let before = stop.before in
    let whole : IsLegal uploads (with_entries before (stop.entry ∷ stop.after)) = subst (IsLegal uploads) stop.parts legal in
    let allowed = allowed_at uploads (with_only before []) before.entries stop.after stop.entry whole.1 in
    let size = ap last_number stop.parts in
    let long = length-append before.entries (stop.entry ∷ stop.after) in
    let room : last_number before < limit = omega (arith, size, long, within) in
    not_refused uploads limit before stop.entry stop.stopped.1.0 room allowed stop.stopped.1.1

pub never_stops : (uploads : Contents) (limit : ℕ) (log : Log) (n : ℕ) → IsLegal uploads log → last_number log ≤ limit → StopsAt uploads limit log (NotLegal n) → ⊥
never_stops uploads limit log n legal within (inl (is, inl above)) = omega (arith, above, within)
never_stops uploads limit log n legal within (inl (is, inr other)) = other legal.0
never_stops uploads limit log n legal within (inr stop) = never_at_entry uploads limit log n legal within stop
