-- A reply that is kept over a log is one to its head as long as a look shows that log.
use Rattle.std.proofs.Common.{◌≡◌, ◌⊎◌, inl, inr, ℕ, List, [], ◌∷◌, Bool, true, false, Option, Some, None, Result, Ok, Err, refl, sym, ap, subst, ◌∙◌}
use Rattle.std.specs.Prelude.{IsSome}
use Rattle.std.specs.declared.alloc.AllocError.{AllocError}
use Rattle.byte_view.specs.Holds.{Held}
use Rattle.chunk_reads.specs.declared.faults.ReadFault.{ReadFault}
use Rattle.change_log.specs.Logs.{BeginsWith, Log, entry_at}
use Rattle.range_spec.specs.declared.selection.Choice.{Choice}
use Rattle.range_spec.specs.declared.selection.Choice.TheVariants.{Whole, One, Many, None416}
use Rattle.http_wire.specs.Requests.{RequestParts, Says}
use Rattle.host_api.specs.Types.{type_of}
use Rattle.host_api.specs.declared.bodies.Ask.{Ask}
use Rattle.host_api.specs.declared.bodies.Ask.TheVariants as ask
use Rattle.host_api.specs.declared.refusals.Refusal.{Refusal}
use Rattle.host_api.specs.declared.refusals.Refusal.TheVariants as reason
use Rattle.host_api.specs.declared.texts.Told.TheVariants as told
use Rattle.host_api.specs.declared.versions.Version.{Version}
use Rattle.host_names.specs.declared.names.SiteName.{SiteName}
use Rattle.host_replies.specs.FileAsks.{plan_of}
use Rattle.host_replies.specs.Replies.{Answer, is_head, sent_text}
use Rattle.host_replies.specs.Versions.{file_of}
use Rattle.host_answers.specs.Answers.{told_entry, DoesBy}
use Rattle.host_answers.specs.ChangeLists.{shown_lines}
use Rattle.site_change.specs.declared.commands.Command.TheVariants as command
use Rattle.host_answers.specs.Asking.{asked_for}
use Rattle.host_answers.specs.Deploys.{site_of_deploy}
use Rattle.host_answers.specs.Houses.{Failed, Gave, Seen}
use Rattle.host_answers.specs.Reads.{GivesBy, ReadsBy, SendsBy}
use Rattle.host_answers.proofs.Reading.{Sends}
use Rattle.host_answers.proofs.Seen.{HoldsAs, is_read, reads_as}
use Rattle.host_answers.proofs.Tagged as tagged
use Rattle.host_connection.specs.Again.{IsAgain, IsWhole}
use Rattle.shared_house.specs.Desks.{HouseCall}
use Rattle.shared_house.specs.Guests.{IsGuestAnswer}
use Rattle.shared_house.specs.Kept.{IsKept, holds_all, lacks_none}
use Rattle.shared_house.specs.Seeing.{HasAll, Known, by_front}
use Rattle.shared_house.specs.Shared.{IsLegalRun, IsSharedAnswer, RespondsAs, calls_over, fails, gives}
use Rattle.shared_house.proofs.FileReplies.{kept_by_read}

-- ---- where it is made

-- no file fails to be held, where that is no part of what is said
abbrev never : Failed Known
never old file first last why new = ⊥

module _ (did : HouseCall → Type 0) (answer : Answer) (tag : IsSome answer.etag) where
  held_as : HoldsAs (λ (k : Known). tt) (gives did by_front) never holds_all lacks_none
  held_as = record { gave_is = λ old hold new is. tt; failed_is = λ old file first last why new no. no }

  sends : (old new : Known) (path file : List ℕ) (plan : Choice) → Sends (gives did by_front) (fails did by_front) old new path file plan answer
      → Sends holds_all lacks_none tt tt path file plan answer
  sends old new path file plan (inl (body, read, is)) =
      inl (body, is_read (λ (k : Known). tt) (gives did by_front) never holds_all lacks_none held_as old file plan (type_of path) body new read, is)
  sends old new path file plan (inr (inl (why, read, is))) = absurd (tagged.bare answer tag _ is refl)
  sends old new path file plan (inr (inr (is, same))) = absurd (tagged.bare answer tag _ is refl)

  sends_by : (old new : Known) (path file : List ℕ) (plan : Choice) → SendsBy (gives did by_front) (fails did by_front) old path file plan answer new
      → SendsBy holds_all lacks_none tt path file plan answer tt
  sends_by old new path file Whole is = sends old new path file Whole is
  sends_by old new path file (One first last) is = sends old new path file (One first last) is
  sends_by old new path file (Many intervals) is = sends old new path file (Many intervals) is
  sends_by old new path file None416 (is, same) = (is, refl)

  gives_by : (by_head : Bool) (old new : Known) (parts : RequestParts) (path file : List ℕ) → GivesBy (gives did by_front) (fails did by_front) by_head old parts path file answer new
      → GivesBy holds_all lacks_none by_head tt parts path file answer tt
  gives_by true old new parts path file (is, same) = (is, refl)
  gives_by false old new parts path file (range, asks, is) = (range, asks, sends_by old new path file (plan_of parts range file) is)

  reads_by : (old new : Known) (parts : RequestParts) (path : List ℕ) (found : Result (List ℕ) Refusal) → ReadsBy (gives did by_front) (fails did by_front) old parts path found answer new
      → ReadsBy holds_all lacks_none tt parts path found answer tt
  reads_by old new parts path (Err why) (is, same) = (is, refl)
  reads_by old new parts path (Ok file) is = gives_by (is_head parts) old new parts path file is

  module _ (start new : Known) (parts : RequestParts) (head text : List ℕ) (says : Says head parts) (whole : IsWhole parts) (text_is : text ≡ sent_text false (is_head parts) answer) where
    does : (seen : Seen) (mid : Known) (asked : Ask) → asked_for parts [] ≡ Ok asked → by_front.looks start seen.entries mid → IsLegalRun seen
        → DoesBy (calls_over did by_front seen) (gives did by_front) (fails did by_front) mid parts [] asked answer new → IsKept new.log head text
    does seen mid (ask.Read site version path) asks looks legal is =
        let found = file_of seen.state site version path in
        let same : new ≡ mid = kept_by_read did by_front mid new parts path found answer is in
        record {
          parts = parts;
          says = says;
          whole = whole;
          site = site;
          version = version;
          path = path;
          asks = asks;
          seen = seen;
          over = sym (ap (λ (k : Known). k.log) (same ∙ looks.1));
          legal = legal;
          answer = answer;
          reads = reads_by mid new parts path found is;
          text_is = text_is;
        }
    does seen mid (ask.Command command) asks looks legal is = absurd (tagged.changes answer tag (calls_over did by_front seen) new mid command is)
    does seen mid (ask.Undo site change) asks looks legal (done, undoes, is) = absurd (tagged.tells answer tag (told_entry done) is)
    does seen mid (ask.Changes site) asks looks legal (is, same) = absurd (tagged.tells answer tag (told.Changes (shown_lines seen.entries site)) is)
    does seen mid (ask.Deploy n) asks looks legal is = absurd (tagged.shown answer tag (calls_over did by_front seen) new mid n is)
    does seen mid (ask.RemoveDeploy n) asks looks legal is =
        absurd (tagged.in_site answer tag (calls_over did by_front seen) new mid (site_of_deploy (entry_at seen.entries n)) _ (λ site. tagged.changes answer tag (calls_over did by_front seen) new mid (command.RemoveDeploy site n)) is)
    does seen mid (ask.Cancel n) asks looks legal is =
        absurd (tagged.in_site answer tag (calls_over did by_front seen) new mid (site_of_deploy (entry_at seen.entries n)) _ (λ site. tagged.changes answer tag (calls_over did by_front seen) new mid (command.Cancel site n)) is)
    does seen mid (ask.Upload n path) asks looks legal is =
        absurd (tagged.in_site answer tag (calls_over did by_front seen) new mid (site_of_deploy (entry_at seen.entries n)) _ (λ site uploads. tagged.tells answer tag _ uploads.2) is)

    responds : (asking : Result Ask Refusal) → asked_for parts [] ≡ asking → RespondsAs did by_front start parts [] asking answer new → IsKept new.log head text
    responds (Err why) asks (is, same) = absurd (tagged.tells answer tag (told.Refused why) is)
    responds (Ok asked) asks (inl (seen, mid, looks, legal, is)) = does seen mid asked asks looks legal is
    responds (Ok asked) asks (inr (is, same)) = absurd (tagged.bare answer tag _ is refl)

    answers : IsSharedAnswer did by_front start parts [] answer new → IsKept new.log head text
    answers (inl is) = responds (asked_for parts []) refl is
    answers (inr (takes, only)) = absurd (tagged.tells answer tag (told.Refused reason.OutOfMemory) only.0)

-- an answer that names a file by its tag is kept
pub kept : (did : HouseCall → Type 0) (old new : Known) (parts : RequestParts) (body : List ℕ) (answer : Answer) (head text : List ℕ) → IsGuestAnswer did old parts body answer new → body ≡ []
    → IsSome answer.etag → Says head parts → IsWhole parts → text ≡ sent_text false (is_head parts) answer → IsKept new.log head text
kept did old new parts body answer head text is none tag says whole text_is =
    let now = subst (λ (b : List ℕ). IsSharedAnswer did by_front is.0 parts b answer new) none is.2 in
    answers did answer tag is.0 new parts head text says whole text_is now

-- ---- where it is sent again

-- whoever holds files gives what one gives that holds all of them
all_held : (did : HouseCall → Type 0) (now : Known) → HoldsAs (λ (house : Unit {0}). now) holds_all lacks_none (gives did by_front) (fails did by_front)
all_held did now = record { gave_is = λ old hold new is. refl; failed_is = λ old file first last why new no. absurd no }

pub again : (did : HouseCall → Type 0) (old start new : Known) (head text : List ℕ) → IsKept new.log head text → HasAll old start → BeginsWith new.log start.log
    → new ≡ record { log = new.log; files = start.files } → IsAgain (IsGuestAnswer did) old head text new
again did old start new head text k has later is =
    let found = file_of k.seen.state k.site k.version k.path in
    let R : Result Ask Refusal → Type 0 = λ r. RespondsAs did by_front start k.parts [] r k.answer new in
    let looks : by_front.looks start k.seen.entries new =
    subst (λ (l : Log). BeginsWith l start.log × (new ≡ record { log = l; files = start.files })) (sym k.over) (later, is) in
    let reads : ReadsBy (gives did by_front) (fails did by_front) new k.parts k.path found k.answer new =
    reads_as (λ (house : Unit {0}). new) holds_all lacks_none (gives did by_front) (fails did by_front) (all_held did new) tt k.parts k.path found k.answer tt k.reads in
    record {
      parts = k.parts;
      says = k.says;
      whole = k.whole;
      is_sent = record {
        answer = k.answer;
        is_answer = (start, has, inl (subst R (sym k.asks) (inl (k.seen, new, looks, k.legal, reads))));
        sent_is = k.text_is;
      };
    }
