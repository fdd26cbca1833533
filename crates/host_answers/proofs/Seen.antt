-- What is done by calls of a house is done by those of what it is taken for, if that is so of each call.
use Rattle.std.proofs.Common.{◌≡◌, inl, inr, ℕ, List, [], ◌∷◌, Bool, true, false, Option, Some, None, Result, Ok, Err, sym, ap, subst}
use Rattle.std.specs.List.{FoldsTo}
use Rattle.std.specs.declared.alloc.AllocError.{AllocError}
use Rattle.host_names.specs.declared.digests.Digest.{Digest}
use Rattle.host_names.specs.declared.names.SiteName.{SiteName}
use Rattle.byte_view.specs.Holds.{Held}
use Rattle.chunk_reads.specs.declared.faults.ReadFault.{ReadFault}
use Rattle.site_state.specs.Files.{Paths}
use Rattle.site_state.specs.States.{draft_at, kept_at}
use Rattle.site_state.specs.declared.values.Draft.{Draft}
use Rattle.site_change.specs.declared.commands.Command.{Command}
use Rattle.site_change.specs.declared.commands.Command.TheVariants as command
use Rattle.change_log.specs.Logs.{entry_at}
use Rattle.range_spec.specs.declared.selection.Choice.{Choice}
use Rattle.range_spec.specs.declared.selection.Choice.TheVariants.{Whole, One, Many, None416}
use Rattle.range_reply.specs.Holding.{AreHeld, AreNotHeld}
use Rattle.range_reply.specs.Sending.{IsNotRead, IsRead, SentFile}
use Rattle.http_wire.specs.Requests.{RequestParts}
use Rattle.host_api.specs.declared.bodies.Ask.{Ask}
use Rattle.host_api.specs.declared.bodies.Ask.TheVariants as ask
use Rattle.host_api.specs.declared.refusals.Refusal.{Refusal}
use Rattle.host_api.specs.declared.texts.Told.TheVariants as told
use Rattle.host_replies.specs.Replies.{Answer, is_head}
use Rattle.host_answers.specs.Answers.{ChangesBy, DoesBy, FollowsBy, InSite, LacksBy, OnlyTells, PublishesBy, ShowsBy, UploadsBy}
use Rattle.host_answers.specs.ChangeLists.{shown_lines}
use Rattle.host_answers.specs.Deploys.{Opening, opened_by, site_of_deploy}
use Rattle.host_answers.specs.Houses.{Calls, Failed, Gave, Seen}
use Rattle.host_answers.specs.Reads.{GivesBy, ReadsBy, SendsBy}
use Rattle.host_replies.specs.Versions.{file_of}
use Rattle.host_answers.specs.declared.stops.Stop.{Stop}
use Rattle.host_answers.specs.declared.uploads.Uploaded.{Uploaded}
use Rattle.host_answers.proofs.Reading.{Sends}

-- ---- files

-- each hold of the one is a hold of the other
pub record HoldsAs {G H : Type 0} (f : H → G) (gave : Gave H) (failed : Failed H) (gives : Gave G) (fails : Failed G) : Type 0 where
  pub gave_is : (old : H) (hold : Held) (new : H) → gave old hold new → gives (f old) hold (f new)
  pub failed_is : (old : H) (file : List ℕ) (first last : ℕ) (why : ReadFault) (new : H) → failed old file first last why new → fails (f old) file first last why (f new)

module _ {G H : Type 0} (f : H → G) (gave : Gave H) (failed : Failed H) (gives : Gave G) (fails : Failed G) (same_as : HoldsAs f gave failed gives fails) where
  given : (old : H) (holds : List Held) (new : H) → FoldsTo gave old holds new → FoldsTo gives (f old) holds (f new)
  given old [] new is = ap f is
  given old (hold ∷ holds) new (mid, first, more) = (f mid, same_as.gave_is old hold mid first, given mid holds new more)

  are_held : (old : H) (file : List ℕ) (stretches : List (ℕ × ℕ)) (holds : List Held) (new : H) → AreHeld gave old file stretches holds new
      → AreHeld gives (f old) file stretches holds (f new)
  are_held old file stretches holds new held =
      record { same_file = held.same_file; in_order = held.in_order; lawful = held.lawful; given = given old holds new held.given }

  are_not_held : (old : H) (file : List ℕ) (stretches : List (ℕ × ℕ)) (why : ReadFault) (new : H) → AreNotHeld gave failed old file stretches why new
      → AreNotHeld gives fails (f old) file stretches why (f new)
  are_not_held old file stretches why new (before, left, holds, mid, is, held, inl (stretch, more, first, failing)) =
      (before, left, holds, f mid, is, are_held old file before holds mid held, inl (stretch, more, first, same_as.failed_is mid file stretch.0 stretch.1 why new failing))
  are_not_held old file stretches why new (before, left, holds, mid, is, held, inr (none, same)) =
      (before, left, holds, f mid, is, are_held old file before holds mid held, inr (none, ap f same))

  pub is_read : (old : H) (file : List ℕ) (plan : Choice) (content_type : List ℕ) (body : SentFile) (new : H) → IsRead gave old file plan content_type body new
      → IsRead gives (f old) file plan content_type body (f new)
  is_read old file plan content_type body new read = record {
    holds = read.holds;
    mid = f read.mid;
    held = are_held old file _ read.holds read.mid read.held;
    sent = read.sent;
    more = read.more;
    more_held = are_held read.mid file _ read.more new read.more_held;
    bytes = read.bytes;
    exact = read.exact;
  }

  pub is_not_read : (old : H) (file : List ℕ) (plan : Choice) (why : ReadFault) (new : H) → IsNotRead gave failed old file plan why new
      → IsNotRead gives fails (f old) file plan why (f new)
  is_not_read old file plan why new (inl not_held) = inl (are_not_held old file _ why new not_held)
  is_not_read old file plan why new (inr (intervals, holds, mid, several, held, none, not_held)) =
      inr (intervals, holds, f mid, several, are_held old file intervals holds mid held, none, are_not_held mid file _ why new not_held)

  sent_as : (old : H) (path file : List ℕ) (plan : Choice) (answer : Answer) (new : H) → Sends gave failed old new path file plan answer
      → Sends gives fails (f old) (f new) path file plan answer
  sent_as old path file plan answer new (inl (body, read, is)) = inl (body, is_read old file plan _ body new read, is)
  sent_as old path file plan answer new (inr (inl (why, read, is))) = inr (inl (why, is_not_read old file plan why new read, is))
  sent_as old path file plan answer new (inr (inr (is, same))) = inr (inr (is, ap f same))

  sends_as : (old : H) (path file : List ℕ) (plan : Choice) (answer : Answer) (new : H) → SendsBy gave failed old path file plan answer new
      → SendsBy gives fails (f old) path file plan answer (f new)
  sends_as old path file Whole answer new is = sent_as old path file Whole answer new is
  sends_as old path file (One first last) answer new is = sent_as old path file (One first last) answer new is
  sends_as old path file (Many intervals) answer new is = sent_as old path file (Many intervals) answer new is
  sends_as old path file None416 answer new (is, same) = (is, ap f same)

  gives_as : (by_head : Bool) (old : H) (parts : RequestParts) (path file : List ℕ) (answer : Answer) (new : H) → GivesBy gave failed by_head old parts path file answer new
      → GivesBy gives fails by_head (f old) parts path file answer (f new)
  gives_as true old parts path file answer new (is, same) = (is, ap f same)
  gives_as false old parts path file answer new (range, asks, is) = (range, asks, sends_as old path file _ answer new is)

  pub reads_as : (old : H) (parts : RequestParts) (path : List ℕ) (found : Result (List ℕ) Refusal) (answer : Answer) (new : H)
      → ReadsBy gave failed old parts path found answer new → ReadsBy gives fails (f old) parts path found answer (f new)
  reads_as old parts path (Err why) answer new (is, same) = (is, ap f same)
  reads_as old parts path (Ok file) answer new is = gives_as (is_head parts) old parts path file answer new is

-- ---- all calls but looks

pub record CallsAs {G H : Type 0} (f : H → G) (calls : Calls H) (coarse : Calls G) : Type 0 where
  pub misses : (house : H) (files : Paths (Option Digest)) (required : Result (List Digest) AllocError) → calls.misses house files required → coarse.misses (f house) files required
  pub commits : (old : H) (command : Command) (done : Result ℕ Stop) (new : H) → calls.commits old command done new → coarse.commits (f old) command done (f new)
  pub undoes : (old : H) (site : SiteName) (change : ℕ) (done : Result ℕ Stop) (new : H) → calls.undoes old site change done new → coarse.undoes (f old) site change done (f new)
  pub uploads : (old : H) (site : SiteName) (n : ℕ) (path bytes : List ℕ) (done : Result Uploaded Refusal) (new : H) → calls.uploads old site n path bytes done new
      → coarse.uploads (f old) site n path bytes done (f new)

module _ {G H : Type 0} (f : H → G) (calls : Calls H) (coarse : Calls G) (same_as : CallsAs f calls coarse) (answer : Answer) where
  publishes_as : (house : H) (site : SiteName) (id : ℕ) (auto : Bool) (required : List Digest) (next : H) → PublishesBy calls house site id auto required answer next
      → PublishesBy coarse (f house) site id auto required answer (f next)
  publishes_as house site id true [] next (done, commits, is) = (done, same_as.commits house _ done next commits, is)
  publishes_as house site id true (digest ∷ required) next (is, same) = (is, ap f same)
  publishes_as house site id false [] next (is, same) = (is, ap f same)
  publishes_as house site id false (digest ∷ required) next (is, same) = (is, ap f same)

  lacks_as : (house : H) (opening : Opening) (id : ℕ) (required : Result (List Digest) AllocError) (next : H) → LacksBy calls house opening id required answer next
      → LacksBy coarse (f house) opening id required answer (f next)
  lacks_as house opening id (Err why) next (is, same) = (is, ap f same)
  lacks_as house opening id (Ok required) next is = publishes_as house opening.site id opening.auto required next is

  follows_as : (house : H) (opening : Option Opening) (done : Result ℕ Stop) (next : H) → FollowsBy calls house opening done answer next
      → FollowsBy coarse (f house) opening done answer (f next)
  follows_as house (Some opening) (Ok id) next (required, misses, is) = (required, same_as.misses house opening.files required misses, lacks_as house opening id required next is)
  follows_as house (Some opening) (Err why) next (is, same) = (is, ap f same)
  follows_as house None (Ok id) next (is, same) = (is, ap f same)
  follows_as house None (Err why) next (is, same) = (is, ap f same)

  changes_as : (house : H) (command : Command) (next : H) → ChangesBy calls house command answer next → ChangesBy coarse (f house) command answer (f next)
  changes_as house command next (done, mid, commits, is) =
      (done, f mid, same_as.commits house command done mid commits, follows_as mid (opened_by command) done next is)

  shows_as : (house : H) (site : SiteName) (n : ℕ) (draft : Option Draft) (tree : Option (Paths (List ℕ))) (next : H) → ShowsBy calls house site n draft tree answer next
      → ShowsBy coarse (f house) site n draft tree answer (f next)
  shows_as house site n (Some draft) tree next (required, misses, only) = (required, same_as.misses house _ required misses, (only.0, ap f only.1))
  shows_as house site n None (Some tree) next (is, same) = (is, ap f same)
  shows_as house site n None None next (is, same) = (is, ap f same)

  in_site_as : (house : H) (site : Option SiteName) (next : H) (does : SiteName → Answer → H → Type 0) (coarsely : SiteName → Answer → G → Type 0)
      → ((owner : SiteName) → does owner answer next → coarsely owner answer (f next)) → InSite calls house site does answer next
      → InSite coarse (f house) site coarsely answer (f next)
  in_site_as house None next does coarsely each (is, same) = (is, ap f same)
  in_site_as house (Some site) next does coarsely each is = each site is

-- ---- what is done for what is asked for, where both show the same

module _ {G H : Type 0} (f : H → G) (calls : Calls H) (gave : Gave H) (failed : Failed H) (coarse : Calls G) (gives : Gave G) (fails : Failed G)
    (same_as : CallsAs f calls coarse) (holds : HoldsAs f gave failed gives fails) (parts : RequestParts) (body : List ℕ) (answer : Answer) (house next : H)
    (same : coarse.seen (f house) ≡ calls.seen house) where
  of_deploy_as : (n : ℕ) (does : Seen → SiteName → Answer → H → Type 0) (coarsely : Seen → SiteName → Answer → G → Type 0)
      → ((owner : SiteName) → does (calls.seen house) owner answer next → coarsely (calls.seen house) owner answer (f next))
      → InSite calls house (site_of_deploy (entry_at (calls.seen house).entries n)) (does (calls.seen house)) answer next
      → InSite coarse (f house) (site_of_deploy (entry_at (coarse.seen (f house)).entries n)) (coarsely (coarse.seen (f house))) answer (f next)
  of_deploy_as n does coarsely each is =
      subst (λ (s : Seen). InSite coarse (f house) (site_of_deploy (entry_at s.entries n)) (coarsely s) answer (f next)) (sym same)
      (in_site_as f calls coarse same_as answer house (site_of_deploy (entry_at (calls.seen house).entries n)) next (does (calls.seen house)) (coarsely (calls.seen house)) each is)

  pub does_as : (asked : Ask) → DoesBy calls gave failed house parts body asked answer next → DoesBy coarse gives fails (f house) parts body asked answer (f next)
  does_as (ask.Read site version path) is =
      subst (λ (s : Seen). ReadsBy gives fails (f house) parts path (file_of s.state site version path) answer (f next)) (sym same)
      (reads_as f gave failed gives fails holds house parts path (file_of (calls.seen house).state site version path) answer next is)
  does_as (ask.Command command) is = changes_as f calls coarse same_as answer house command next is
  does_as (ask.Undo site change) (done, undoes, is) = (done, same_as.undoes house site change done next undoes, is)
  does_as (ask.Changes site) (is, unchanged) =
      subst (λ (s : Seen). OnlyTells (f house) (told.Changes (shown_lines s.entries site)) answer (f next)) (sym same) (is, ap f unchanged)
  does_as (ask.Deploy n) is =
      of_deploy_as n (λ s site. ShowsBy calls house site n (draft_at s.state site n) (kept_at s.state site n))
      (λ s site. ShowsBy coarse (f house) site n (draft_at s.state site n) (kept_at s.state site n))
      (λ site shows. shows_as f calls coarse same_as answer house site n _ _ next shows) is
  does_as (ask.RemoveDeploy n) is =
      of_deploy_as n (λ s site. ChangesBy calls house (command.RemoveDeploy site n)) (λ s site. ChangesBy coarse (f house) (command.RemoveDeploy site n))
      (λ site. changes_as f calls coarse same_as answer house (command.RemoveDeploy site n) next) is
  does_as (ask.Cancel n) is =
      of_deploy_as n (λ s site. ChangesBy calls house (command.Cancel site n)) (λ s site. ChangesBy coarse (f house) (command.Cancel site n))
      (λ site. changes_as f calls coarse same_as answer house (command.Cancel site n) next) is
  does_as (ask.Upload n path) is =
      of_deploy_as n (λ s site. UploadsBy calls house site n path body) (λ s site. UploadsBy coarse (f house) site n path body)
      (λ site uploads. (uploads.0, same_as.uploads house site n path body uploads.0 next uploads.1, uploads.2)) is
