-- A history that is made of entries in turn.
use Rattle.std.proofs.Common.{◌≡◌, ◌∙◌, inr, ℕ, suc, ◌+◌, ◌-◌, ◌≤◌, arith, List, [], ◌∷◌, ◌++◌, Err, Some, ap, drop, length, refl, subst, sym, take}
use Rattle.std.specs.FinMap as map
use Rattle.byte_view.specs.Contents.{Contents}
use Rattle.site_change.specs.declared.refusals.ChangeError.{ChangeError}
use Rattle.site_change.specs.declared.refusals.ChangeError.TheVariants as error
use Rattle.site_change.specs.declared.refusals.ChangeRefusal.{ChangeRefusal}
use Rattle.site_change.specs.Refusals.{IsRefusedBy}
use Rattle.site_change.specs.declared.commands.Command.{Command}
use Rattle.site_change.specs.declared.entries.Entry.{Entry}
use Rattle.site_change.specs.declared.entries.Entry.TheVariants.{Change}
use Rattle.site_state.specs.States.{State}
use Rattle.change_log.specs.Bases.{Names}
use Rattle.change_log.specs.Logs.{Log, empty_log, last_number, next_number, with_entries, with_entry, with_only}
use Rattle.change_log.proofs.Resolving.{base-empty, resolved-empty}
use Rattle.change_undo.specs.Histories.{IsLegal, Past, commit_refusal, entry_at, run}
use Rattle.change_undo.specs.Plans.{IsHistoryOver}
use Rattle.host_opening.specs.declared.replays.ReplayFault.{ReplayFault}
use Rattle.host_opening.specs.Replays.{IsAppendFault, IsRefusedAfter, IsReplayed, IsStoppedBy, StopsAt, fault_at}
use Rattle.host_opening.proofs.Taken.{split_more, take_all, taken_more, up_to}

-- a log of this base without entries
abbrev bare : ℕ → Names → Log
bare base names = record { base = base; names = names; entries = [] }

-- where a log has no base, a new history is that of the log without its entries
pub new_replayed : (uploads : Contents) (limit : ℕ) (log : Log) (past : Past) → log.base ≡ 0 → log.names ≡ map.empty
    → past ≡ record { limit = limit; entries = empty_log; plans = []; state = map.empty } → IsReplayed uploads limit (with_only log []) past
new_replayed uploads limit log past zero none is =
    let at : empty_log ≡ with_only log [] = sym (ap (λ (b : ℕ). bare b log.names) zero ∙ ap (bare 0) none) in
    subst (λ (l : Log). IsReplayed uploads limit l past) at (subst (λ (p : Past). IsReplayed uploads limit empty_log p) (sym is) (record {
      entries_are = refl;
      limit_is = refl;
      over = record { legal = (base-empty uploads, tt); ran = ap (λ (s : State). Some s) (resolved-empty uploads); planned = tt };
    }))

-- the log up to its base has no entries
pub nothing_taken : (uploads : Contents) (limit : ℕ) (log : Log) (past : Past) → IsReplayed uploads limit (with_only log []) past → IsReplayed uploads limit (up_to log.base log) past
nothing_taken uploads limit log past was =
    let none : log.base - log.base ≡ 0 = omega arith in
    let P : ℕ → Type 0 = λ n. IsReplayed uploads limit (with_only log (take n log.entries)) past in
    subst P (sym none) (nothing log.entries was)
  where
    nothing : (es : List Entry) → IsReplayed uploads limit (with_only log []) past → IsReplayed uploads limit (with_only log (take 0 es)) past
    nothing [] was = was
    nothing (e ∷ es) was = was

pub replayed_more : (uploads : Contents) (limit n : ℕ) (log : Log) (entry : Entry) (old new : Past) → log.base ≤ n → entry_at log (n + 1) ≡ Some entry
    → IsReplayed uploads limit (up_to n log) old → new.entries ≡ with_entry old.entries entry → IsHistoryOver uploads new → new.limit ≡ old.limit
    → IsReplayed uploads limit (up_to (n + 1) log) new
replayed_more uploads limit n log entry old new above here was entries over same = record {
  entries_are = entries ∙ ap (λ (l : Log). with_entry l entry) was.entries_are ∙ ap (with_only log) (sym (taken_more log n entry above here));
  limit_is = same ∙ was.limit_is;
  over = over;
}

pub all_replayed : (uploads : Contents) (limit n : ℕ) (log : Log) (past : Past) → n ≡ last_number log → IsReplayed uploads limit (up_to n log) past → IsReplayed uploads limit log past
all_replayed uploads limit n log past end was =
    subst (λ (es : List Entry). IsReplayed uploads limit (with_only log es) past) (take_all log.entries (n - log.base) (omega (arith, end))) was

-- why the entry behind those of a history isn't taken
stopped_by : (uploads : Contents) (past : Past) (entry : Entry) (why : ChangeError) (number : ℕ) → number ≡ next_number past.entries → IsAppendFault uploads past entry why
    → IsStoppedBy uploads past.limit past.entries entry (fault_at number why)
stopped_by uploads past entry (error.Refused reason) number is fault = (is, (reason, fault))
stopped_by uploads past entry error.OutOfMemory number is fault = tt

pub stops_here : (uploads : Contents) (limit n number : ℕ) (log : Log) (entry : Entry) (past : Past) (why : ChangeError) (fault : ReplayFault) → log.base ≤ n
    → entry_at log (n + 1) ≡ Some entry → IsReplayed uploads limit (up_to n log) past → number ≡ next_number past.entries → last_number past.entries ≤ past.limit
    → IsAppendFault uploads past entry why → fault ≡ fault_at number why → StopsAt uploads limit log fault
stops_here uploads limit n number log entry past why fault above here was is room failed told = inr (record {
  before = past.entries;
  entry = entry;
  after = drop (suc (n - log.base)) log.entries;
  parts = ap (with_only log) (split_more log n entry above here) ∙ ap (λ (l : Log). with_entries l (entry ∷ drop (suc (n - log.base)) log.entries)) (sym was.entries_are);
  legal = was.over.legal;
  within = subst (λ m. last_number past.entries ≤ m) was.limit_is room;
  stopped =
      let by = stopped_by uploads past entry why number is failed in
      let with_limit = subst (λ m. IsStoppedBy uploads m past.entries entry (fault_at number why)) was.limit_is by in
      subst (λ f. IsStoppedBy uploads limit past.entries entry f) (sym told) with_limit;
})

-- entries give one state
pub same_again : (uploads : Contents) (past opened : Past) → IsHistoryOver uploads past → IsReplayed uploads past.limit past.entries opened → opened.state ≡ past.state
same_again uploads past opened over replayed =
    let both : Some opened.state ≡ Some past.state = sym replayed.over.ran ∙ ap (run uploads) replayed.entries_are ∙ over.ran in
    cc both

-- a command that is refused, or for which there is no memory
pub commit_fails : (uploads : Contents) (past : Past) (entry : Entry) (command copy : Command) (why : ChangeError) → IsHistoryOver uploads past → entry ≡ Change command → copy ≡ command
    → IsRefusedBy {A = ℕ} (commit_refusal uploads past.limit past.entries past.state copy) (Err why) → IsAppendFault uploads past entry why
commit_fails uploads past entry command copy (error.Refused reason) over is same refused =
    let P : Command → Type 0 = λ c. commit_refusal uploads past.limit past.entries past.state c ≡ Some reason in
    subst (λ e. IsRefusedAfter uploads past.limit past.entries e reason) (sym is) (past.state, over.ran, subst P same refused)
commit_fails uploads past entry command copy error.OutOfMemory over is same refused = tt
