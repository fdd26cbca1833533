-- What stays of a house by each of its calls stays by all that is done for an answer.
use Rattle.std.proofs.Common.{◌≡◌, inl, inr, ℕ, List, [], ◌∷◌, Bool, true, false, Option, Some, None, Result, Ok, Err, sym, subst}
use Rattle.std.specs.List.{FoldsTo}
use Rattle.std.specs.declared.alloc.AllocError.{AllocError}
use Rattle.host_names.specs.declared.digests.Digest.{Digest}
use Rattle.host_names.specs.declared.names.SiteName.{SiteName}
use Rattle.byte_view.specs.Holds.{Held}
use Rattle.chunk_reads.specs.declared.faults.ReadFault.{ReadFault}
use Rattle.site_state.specs.Files.{Paths}
use Rattle.site_state.specs.States.{draft_at, kept_at}
use Rattle.site_state.specs.declared.values.Draft.{Draft}
use Rattle.site_change.specs.declared.commands.Command.{Command}
use Rattle.site_change.specs.declared.commands.Command.TheVariants as command
use Rattle.change_log.specs.Logs.{entry_at}
use Rattle.range_spec.specs.declared.selection.Choice.{Choice}
use Rattle.range_spec.specs.declared.selection.Choice.TheVariants.{Whole, One, Many, None416}
use Rattle.range_reply.specs.Holding.{AreNotHeld}
use Rattle.range_reply.specs.Sending.{IsNotRead}
use Rattle.http_wire.specs.Requests.{RequestParts}
use Rattle.host_api.specs.declared.bodies.Ask.{Ask}
use Rattle.host_api.specs.declared.bodies.Ask.TheVariants as ask
use Rattle.host_api.specs.declared.refusals.Refusal.{Refusal}
use Rattle.host_replies.specs.Replies.{Answer, is_head}
use Rattle.host_answers.specs.Answers.{AnswersBy, CarriesOut, ChangesBy, DoesBy, FollowsBy, InSite, LacksBy, PublishesBy, ShowsBy, UploadsBy}
use Rattle.host_answers.specs.Deploys.{Opening, opened_by, site_of_deploy}
use Rattle.host_answers.specs.Asking.{asked_for}
use Rattle.host_answers.specs.Houses.{Calls, Failed, Gave}
use Rattle.host_answers.specs.Reads.{GivesBy, ReadsBy, SendsBy}
use Rattle.host_answers.specs.declared.stops.Stop.{Stop}
use Rattle.host_answers.specs.declared.uploads.Uploaded.{Uploaded}
use Rattle.host_answers.proofs.Reading.{Sends}

-- it stays where nothing is done, from one call to the next, and by each call but a look
pub record StaysBy {H : Type 0} (grows : H → H → Type 0) (calls : Calls H) (gave : Gave H) (failed : Failed H) : Type 0 where
  pub stays : (house : H) → grows house house
  pub goes_on : (first mid last : H) → grows first mid → grows mid last → grows first last
  pub gave_grows : (old : H) (hold : Held) (new : H) → gave old hold new → grows old new
  pub failed_grows : (old : H) (file : List ℕ) (first last : ℕ) (why : ReadFault) (new : H) → failed old file first last why new → grows old new
  pub commits : (old : H) (command : Command) (done : Result ℕ Stop) (new : H) → calls.commits old command done new → grows old new
  pub undoes : (old : H) (site : SiteName) (change : ℕ) (done : Result ℕ Stop) (new : H) → calls.undoes old site change done new → grows old new
  pub uploads : (old : H) (site : SiteName) (n : ℕ) (path bytes : List ℕ) (done : Result Uploaded Refusal) (new : H)
      → calls.uploads old site n path bytes done new → grows old new

module _ {H : Type 0} (grows : H → H → Type 0) (calls : Calls H) (gave : Gave H) (failed : Failed H) (by : StaysBy grows calls gave failed) where
  same : (house next : H) → next ≡ house → grows house next
  same house next is = subst (grows house) (sym is) (by.stays house)

  -- ---- files

  given : (old : H) (holds : List Held) (new : H) → FoldsTo gave old holds new → grows old new
  given old [] new is = same old new (sym is)
  given old (hold ∷ holds) new (mid, first, more) = by.goes_on old mid new (by.gave_grows old hold mid first) (given mid holds new more)

  not_held : (old : H) (file : List ℕ) (stretches : List (ℕ × ℕ)) (why : ReadFault) (new : H) → AreNotHeld gave failed old file stretches why new → grows old new
  not_held old file stretches why new (before, left, holds, mid, is, held, inl (stretch, more, first, failing)) =
      by.goes_on old mid new (given old holds mid held.given) (by.failed_grows mid file stretch.0 stretch.1 why new failing)
  not_held old file stretches why new (before, left, holds, mid, is, held, inr (none, unchanged)) =
      by.goes_on old mid new (given old holds mid held.given) (same mid new unchanged)

  not_read : (old : H) (file : List ℕ) (plan : Choice) (why : ReadFault) (new : H) → IsNotRead gave failed old file plan why new → grows old new
  not_read old file plan why new (inl fails) = not_held old file _ why new fails
  not_read old file plan why new (inr (intervals, holds, mid, several, held, none, fails)) =
      by.goes_on old mid new (given old holds mid held.given) (not_held mid file _ why new fails)

  module _ (answer : Answer) where
    sent : (old : H) (path file : List ℕ) (plan : Choice) (new : H) → Sends gave failed old new path file plan answer → grows old new
    sent old path file plan new (inl (body, read, is)) =
        by.goes_on old read.mid new (given old read.holds read.mid read.held.given) (given read.mid read.more new read.more_held.given)
    sent old path file plan new (inr (inl (why, fails, is))) = not_read old file plan why new fails
    sent old path file plan new (inr (inr (is, unchanged))) = same old new unchanged

    sends : (old : H) (path file : List ℕ) (plan : Choice) (new : H) → SendsBy gave failed old path file plan answer new → grows old new
    sends old path file Whole new is = sent old path file Whole new is
    sends old path file (One first last) new is = sent old path file (One first last) new is
    sends old path file (Many intervals) new is = sent old path file (Many intervals) new is
    sends old path file None416 new (is, unchanged) = same old new unchanged

    gives : (by_head : Bool) (old : H) (parts : RequestParts) (path file : List ℕ) (new : H) → GivesBy gave failed by_head old parts path file answer new → grows old new
    gives true old parts path file new (is, unchanged) = same old new unchanged
    gives false old parts path file new (range, asks, is) = sends old path file _ new is

    pub reads : (old : H) (parts : RequestParts) (path : List ℕ) (found : Result (List ℕ) Refusal) (new : H) → ReadsBy gave failed old parts path found answer new → grows old new
    reads old parts path (Err why) new (is, unchanged) = same old new unchanged
    reads old parts path (Ok file) new is = gives (is_head parts) old parts path file new is

    -- ---- entries and uploads

    publishes : (house : H) (site : SiteName) (id : ℕ) (auto : Bool) (required : List Digest) (next : H) → PublishesBy calls house site id auto required answer next → grows house next
    publishes house site id true [] next (done, commits, is) = by.commits house _ done next commits
    publishes house site id true (digest ∷ required) next (is, unchanged) = same house next unchanged
    publishes house site id false [] next (is, unchanged) = same house next unchanged
    publishes house site id false (digest ∷ required) next (is, unchanged) = same house next unchanged

    lacks : (house : H) (opening : Opening) (id : ℕ) (required : Result (List Digest) AllocError) (next : H) → LacksBy calls house opening id required answer next
        → grows house next
    lacks house opening id (Err why) next (is, unchanged) = same house next unchanged
    lacks house opening id (Ok required) next is = publishes house opening.site id opening.auto required next is

    follows : (house : H) (opening : Option Opening) (done : Result ℕ Stop) (next : H) → FollowsBy calls house opening done answer next → grows house next
    follows house (Some opening) (Ok id) next (required, misses, is) = lacks house opening id required next is
    follows house (Some opening) (Err why) next (is, unchanged) = same house next unchanged
    follows house None (Ok id) next (is, unchanged) = same house next unchanged
    follows house None (Err why) next (is, unchanged) = same house next unchanged

    changes : (house : H) (command : Command) (next : H) → ChangesBy calls house command answer next → grows house next
    changes house command next (done, mid, commits, is) =
        by.goes_on house mid next (by.commits house command done mid commits) (follows mid (opened_by command) done next is)

    shows : (house : H) (site : SiteName) (n : ℕ) (draft : Option Draft) (tree : Option (Paths (List ℕ))) (next : H) → ShowsBy calls house site n draft tree answer next
        → grows house next
    shows house site n (Some draft) tree next (required, misses, only) = same house next only.1
    shows house site n None (Some tree) next (is, unchanged) = same house next unchanged
    shows house site n None None next (is, unchanged) = same house next unchanged

    in_site : (house : H) (site : Option SiteName) (does : SiteName → Answer → H → Type 0) (next : H) → ((owner : SiteName) → does owner answer next → grows house next)
        → InSite calls house site does answer next → grows house next
    in_site house None does next each (is, unchanged) = same house next unchanged
    in_site house (Some site) does next each is = each site is

    -- ---- what is asked for

    pub does : (parts : RequestParts) (body : List ℕ) (house : H) (asked : Ask) (next : H) → DoesBy calls gave failed house parts body asked answer next → grows house next
    does parts body house (ask.Read site version path) next is = reads house parts path _ next is
    does parts body house (ask.Command command) next is = changes house command next is
    does parts body house (ask.Undo site change) next (done, undoes, is) = by.undoes house site change done next undoes
    does parts body house (ask.Changes site) next (is, unchanged) = same house next unchanged
    does parts body house (ask.Deploy n) next is =
        let cells = (calls.seen house).state in
        in_site house (site_of_deploy (entry_at (calls.seen house).entries n)) (λ site. ShowsBy calls house site n (draft_at cells site n) (kept_at cells site n)) next
        (λ site shown. shows house site n (draft_at cells site n) (kept_at cells site n) next shown) is
    does parts body house (ask.RemoveDeploy n) next is =
        in_site house (site_of_deploy (entry_at (calls.seen house).entries n)) (λ site. ChangesBy calls house (command.RemoveDeploy site n)) next
        (λ site. changes house (command.RemoveDeploy site n) next) is
    does parts body house (ask.Cancel n) next is =
        in_site house (site_of_deploy (entry_at (calls.seen house).entries n)) (λ site. ChangesBy calls house (command.Cancel site n)) next
        (λ site. changes house (command.Cancel site n) next) is
    does parts body house (ask.Upload n path) next is =
        in_site house (site_of_deploy (entry_at (calls.seen house).entries n)) (λ site. UploadsBy calls house site n path body) next
        (λ site uploads. by.uploads house site n path body uploads.0 next uploads.1) is

    carries_out : (looks : (old : H) (done : Result (Unit {0}) AllocError) (new : H) → calls.looks old done new → grows old new) (parts : RequestParts) (body : List ℕ) (house : H)
        (asking : Result Ask Refusal) (next : H) → CarriesOut calls gave failed house parts body asking answer next → grows house next
    carries_out looks parts body house (Err why) next (is, unchanged) = same house next unchanged
    carries_out looks parts body house (Ok asked) next (inl (mid, looked, is)) = by.goes_on house mid next (looks house (Ok tt) mid looked) (does parts body mid asked next is)
    carries_out looks parts body house (Ok asked) next (inr (why, looked, is)) = looks house (Err why) next looked

    -- what stays by a look, too, stays by all of it
    pub answers_grow : (looks : (old : H) (done : Result (Unit {0}) AllocError) (new : H) → calls.looks old done new → grows old new) (parts : RequestParts) (body : List ℕ) (house next : H)
        → AnswersBy calls gave failed house parts body answer next → grows house next
    answers_grow looks parts body house next (inl is) = carries_out looks parts body house (asked_for parts body) next is
    answers_grow looks parts body house next (inr (takes, only)) = same house next only.1
