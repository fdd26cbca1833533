-- What running nodes answer.
use Rattle.std.proofs.Common.{◌≡◌, ◌∙◌, inl, inr, ℕ, List, true, false, Some, None, Result, Ok, Err, cond, ap, sym, subst}
use Rattle.std.specs.Prelude.{nat_le}
use Rattle.byte_view.specs.Contents.{Contents}
use Rattle.host_names.specs.declared.names.SiteName.{SiteName}
use Rattle.site_change.specs.Changes.{run_from}
use Rattle.site_change.specs.declared.refusals.ChangeRefusal.TheVariants.{HistoryFull}
use Rattle.change_undo.specs.Histories.{base_state, change_refusal, undo_refusal}
use Rattle.change_log.specs.Logs.{BeginsWith, Log, last_number, next_number}
use Rattle.site_change.specs.declared.entries.Entry.TheVariants.{Undo}
use Rattle.change_log.proofs.Longer.{last_number-with_entry}
use Rattle.change_undo.proofs.Live.{live_changes-undo}
use Rattle.change_undo.proofs.Runs.{undo-leaves}
use Rattle.http_wire.specs.Requests.{RequestParts}
use Rattle.host_api.specs.declared.bodies.Ask.{Ask}
use Rattle.host_api.specs.declared.bodies.Ask.TheVariants as ask
use Rattle.host_api.specs.declared.refusals.Refusal.{Refusal}
use Rattle.host_api.specs.declared.versions.Version.{Version}
use Rattle.host_api.specs.declared.texts.Told.TheVariants as told
use Rattle.host_replies.specs.Replies.{Answer, Tells}
use Rattle.host_answers.specs.Answers.{told_entry}
use Rattle.host_answers.specs.Asking.{asked_for}
use Rattle.host_answers.specs.Houses.{Seen}
use Rattle.host_answers.specs.declared.stops.Stop.{Stop}
use Rattle.host_answers.proofs.Growing as growing
use Rattle.host_answers.proofs.Growing.{StaysBy}
use Rattle.site_desk.specs.declared.errors.DeskError.{DeskError}
use Rattle.site_desk.specs.declared.errors.DeskError.TheVariants as desk
use Rattle.shared_house.specs.Desks.{Asks, Enters, HouseCall}
use Rattle.shared_house.specs.Entering.{IsEntryAnswer, IsJudged, learnt_of, reason_of_undo, told_of}
use Rattle.shared_house.specs.Guests.{IsGuestAnswer}
use Rattle.growing.specs.Logs.{goes_on}
use Rattle.shared_house.specs.HouseLaws.{commits_known, has_all, has_itself, looks_known, same_known, takes_known, undoes_known}
use Rattle.shared_house.specs.Running.{IsReadReply, IsUndoReply, LeavesOut}
use Rattle.shared_house.specs.Seeing.{HasAll, Known, by_front}
use Rattle.shared_house.specs.Shared.{IsSharedAnswer, RespondsAs, UndoesAs, calls_over, fails, gives}
use Rattle.shared_house.proofs.FileReplies.{file_reply}

-- ---- what is known

module _ (did : HouseCall → Type 0) where
  known_over : (seen : Seen) → StaysBy (λ (old new : Known). HasAll old new) (calls_over did by_front seen) (gives did by_front) (fails did by_front)
  known_over seen = record {
    stays = has_itself;
    goes_on = has_all;
    gave_grows = λ old hold new. same_known old new;
    failed_grows = λ old file first last why new is. same_known old new is.1;
    commits = λ old command done new. commits_known did old command done new;
    undoes = λ old site change done new. undoes_known did old site change done new;
    uploads = λ old site n path bytes done new. takes_known did old site n path bytes done new;
  }

  responds_known : (old : Known) (parts : RequestParts) (body : List ℕ) (asking : Result Ask Refusal) (answer : Answer) (new : Known)
      → RespondsAs did by_front old parts body asking answer new → HasAll old new
  responds_known old parts body (Err why) answer new (tells, is) = same_known old new is
  responds_known old parts body (Ok asked) answer new (inl (seen, mid, looks, run, is)) =
      has_all old mid new (looks_known old seen.entries mid looks)
      (growing.does (λ (a b : Known). HasAll a b) (calls_over did by_front seen) (gives did by_front) (fails did by_front) (known_over seen) answer parts body mid asked new is)
  responds_known old parts body (Ok asked) answer new (inr (told, is)) = same_known old new is

  answers_known : (old : Known) (parts : RequestParts) (body : List ℕ) (answer : Answer) (new : Known) → IsSharedAnswer did by_front old parts body answer new → HasAll old new
  answers_known old parts body answer new (inl is) = responds_known old parts body (asked_for parts body) answer new is
  answers_known old parts body answer new (inr (takes, (tells, is))) = same_known old new is

  pub later : (old new : Known) (parts : RequestParts) (body : List ℕ) (answer : Answer) → IsGuestAnswer did old parts body answer new → HasAll old new
  later old new parts body answer (start, begins, is) = has_all old start new begins (answers_known start parts body answer new is)

-- ---- undos

allowed : (uploads : Contents) (limit : ℕ) (log : Log) (site : SiteName) (k : ℕ) → undo_refusal uploads limit log site k ≡ None → change_refusal uploads log site k ≡ None
allowed uploads limit log site k none =
    elim (nat_le limit (last_number log)) as (λ b. cond b (Some HistoryFull) (change_refusal uploads log site k) ≡ None → change_refusal uploads log site k ≡ None)
    [ true ↦ λ e. absurd (cc e) | false ↦ λ e. e ] none

leaves_out : (site : SiteName) (k : ℕ) (before : Log) → IsJudged (reason_of_undo site k) before None → LeavesOut site k before
leaves_out site k before (uploads, state, over, first) =
    let left = undo-leaves uploads before site k over.legal (allowed uploads 1000000 before site k first) in
    record {
      uploads = uploads;
      state = left.0;
      runs = record { digested = over.digested; legal = left.2; ran = left.1 };
      without_it = subst (λ (cs : _). run_from uploads (base_state uploads before) cs ≡ Some left.0) (live_changes-undo before site k) left.1;
    }

module _ (did : HouseCall → Type 0) (site : SiteName) (k : ℕ) (old : Known) (answer : Answer) (new : Known) where
  -- by what the desk answers, at a log that begins with what was seen
  by_answer : (log : Log) (made : Result Log (DeskError Log)) → BeginsWith log old.log → did (Asks (Enters (Undo site k) log made))
      → IsEntryAnswer (Undo site k) (reason_of_undo site k) log made → Tells (told_entry (told_of made)) answer
      → by_front.learns old (learnt_of log made) new → IsUndoReply did site k old.log answer new.log
  by_answer log (Ok receipt) later asked (judged, is) tells learnt =
      let next : last_number receipt ≡ next_number log = ap last_number is ∙ last_number-with_entry log (Undo site k) in inl (
        log,
        later,
        leaves_out site k log judged,
        subst (λ (n : ℕ). Tells (told.Entered n) answer) next tells,
        subst (λ (l : Log). BeginsWith new.log l) is learnt.1,
      )
  by_answer log (Err (desk.Refused why seen)) later asked (judged, is) tells learnt = inr (inl (log, why, later, judged, tells, learnt.1))
  by_answer log (Err (desk.NoReceipt why)) later asked is tells learnt = inr (inr (inl tells))
  by_answer log (Err desk.OutOfMemory) later asked is tells learnt = inr (inr (inl tells))
  by_answer log (Err desk.Device) later asked is tells learnt = inr (inr (inr (inl (log, later, asked, tells))))
  by_answer log (Err desk.Broken) later asked is tells learnt = inr (inr (inr (inr (log, later, asked, tells))))

  undoes : (done : Result ℕ Stop) → UndoesAs did by_front old site k done new → Tells (told_entry done) answer → IsUndoReply did site k old.log answer new.log
  undoes done (log, made, later, asked, is, same, learnt) tells =
      by_answer log made later asked is (subst (λ (d : Result ℕ Stop). Tells (told_entry d) answer) same tells) learnt

-- a house that begins with a longer log
module _ (did : HouseCall → Type 0) (old : Log) (answer : Answer) (new : Log) where
  undone_later : (site : SiteName) (k : ℕ) (start : Log) → BeginsWith start old → IsUndoReply did site k start answer new → IsUndoReply did site k old answer new
  undone_later site k start begins (inl (before, later, leaves, tells, seen)) = inl (before, goes_on old start before begins later, leaves, tells, seen)
  undone_later site k start begins (inr (inl (log, why, later, judged, tells, seen))) = inr (inl (log, why, goes_on old start log begins later, judged, tells, seen))
  undone_later site k start begins (inr (inr (inl tells))) = inr (inr (inl tells))
  undone_later site k start begins (inr (inr (inr (inl (log, later, asked, tells))))) = inr (inr (inr (inl (log, goes_on old start log begins later, asked, tells))))
  undone_later site k start begins (inr (inr (inr (inr (log, later, asked, tells))))) = inr (inr (inr (inr (log, goes_on old start log begins later, asked, tells))))

module _ (did : HouseCall → Type 0) (old : Known) (answer : Answer) (new : Known) (parts : RequestParts) (body : List ℕ) where
  undo_answers : (site : SiteName) (k : ℕ) → RespondsAs did by_front old parts body (Ok (ask.Undo site k)) answer new → IsUndoReply did site k old.log answer new.log
  undo_answers site k (inl (seen, mid, looks, run, (done, is, tells))) =
      undone_later did old.log answer new.log site k mid.log (looks_known old seen.entries mid looks).log (undoes did site k mid answer new done is tells)
  undo_answers site k (inr (is, same)) = inr (inr (inl (inl is)))

  undo_shared : (site : SiteName) (k : ℕ) → asked_for parts body ≡ Ok (ask.Undo site k) → IsSharedAnswer did by_front old parts body answer new
      → IsUndoReply did site k old.log answer new.log
  undo_shared site k asks (inl is) = undo_answers site k (subst (λ (r : Result Ask Refusal). RespondsAs did by_front old parts body r answer new) asks is)
  undo_shared site k asks (inr (takes, (tells, is))) = inr (inr (inl tells))

pub undo_reply : (did : HouseCall → Type 0) (old new : Known) (parts : RequestParts) (body : List ℕ) (answer : Answer) (site : SiteName) (k : ℕ)
    → asked_for parts body ≡ Ok (ask.Undo site k) → IsGuestAnswer did old parts body answer new → IsUndoReply did site k old.log answer new.log
undo_reply did old new parts body answer site k asks (start, begins, is) =
    undone_later did old.log answer new.log site k start.log begins.log (undo_shared did start answer new parts body site k asks is)

-- ---- reads

pub read_reply : (did : HouseCall → Type 0) (old new : Known) (parts : RequestParts) (body : List ℕ) (answer : Answer) (site : SiteName) (version : Version) (path : List ℕ)
    → asked_for parts body ≡ Ok (ask.Read site version path) → IsGuestAnswer did old parts body answer new → IsReadReply old.log parts site version path answer new.log
read_reply did old new parts body answer site version path asks (start, begins, is) =
    elim (file_reply did by_front start new parts body site version path answer asks is) as (λ r. IsReadReply old.log parts site version path answer new.log) [
      | inl over ↦ inl (over.0, goes_on old.log start.log over.0.entries begins.log over.1.0, ap (λ (k : Known). k.log) over.1.1, over.2, over.3)
      | inr none ↦ inr (inl none.0)
    ]
