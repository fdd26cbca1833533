-- What the calls of a house answer together whose history others change.
use Rattle.std.proofs.Common.{◌≡◌, inl, inr, ℕ, List, true, Result, Ok, Err, refl, sym, ap, subst}
use Rattle.std.specs.declared.alloc.AllocError.{AllocError}
use Rattle.change_log.specs.Logs.{BeginsWith, Log}
use Rattle.growing.specs.Logs.{goes_on, stays}
use Rattle.site_change.specs.declared.entries.Entry.{Entry}
use Rattle.site_change.specs.declared.commands.Command.{Command}
use Rattle.site_change.specs.declared.entries.Entry.TheVariants.{Change, Undo}
use Rattle.http_wire.specs.Requests.{RequestParts}
use Rattle.host_names.specs.declared.names.SiteName.{SiteName}
use Rattle.host_api.specs.declared.bodies.Ask.{Ask}
use Rattle.host_api.specs.declared.refusals.Refusal.{Refusal}
use Rattle.host_api.specs.declared.refusals.Refusal.TheVariants.{OutOfMemory}
use Rattle.host_api.specs.declared.texts.Told.TheVariants.{Refused}
use Rattle.host_replies.specs.Replies.{Answer, is_head}
use Rattle.host_answers.specs.Answers.{AnswersBy, CarriesOut, DoesBy}
use Rattle.host_answers.specs.Asking.{asked_for}
use Rattle.host_answers.specs.declared.stops.Stop.{Stop}
use Rattle.host_answers.specs.declared.uploads.Uploaded.{Uploaded}
use Rattle.host_answers.proofs.Growing as growing
use Rattle.host_answers.proofs.Growing.{StaysBy}
use Rattle.host_answers.proofs.Seen.{does_as}
use Rattle.host_answers.proofs.Withheld as withheld
use Rattle.shared_house.specs.Desks.{HouseCall}
use Rattle.shared_house.specs.Entering.{Reason}
use Rattle.shared_house.specs.Houses.{calls_of, failed_at, gave_at, shown}
use Rattle.shared_house.specs.Seeing.{HasAll, Known, Seeing, by_front}
use Rattle.shared_house.specs.Shared.{CommitsAs, EntersAs, IsSharedAnswer, RespondsAs, TakesAs, UndoesAs, calls_over, fails, gives}
use Rattle.shared_house.specs.Sights.{Sight}

-- ---- what is answered

module _ (did : HouseCall → Type 0) (parts : RequestParts) (body : List ℕ) (answer : Answer) where
  does : (mid new : Sight) (asked : Ask) → DoesBy (calls_of did) gave_at (failed_at did) mid parts body asked answer new
      → DoesBy (calls_over did by_front (shown mid)) (gives did by_front) (fails did by_front) mid.known parts body asked answer new.known
  does mid new asked is =
      does_as (λ (h : Sight). h.known) (calls_of did) gave_at (failed_at did) (calls_over did by_front (shown mid)) (gives did by_front) (fails did by_front)
      (record {
        misses = λ house files required is. is;
        commits = λ old command done next is. is;
        undoes = λ old site change done next is. is;
        uploads = λ old site n path bytes done next is. is;
      })
      (record { gave_is = λ old hold next is. is; failed_is = λ old file first last why next is. is }) parts body answer mid new refl asked is

  responds : (old new : Sight) (asking : Result Ask Refusal) → CarriesOut (calls_of did) gave_at (failed_at did) old parts body asking answer new
      → RespondsAs did by_front old.known parts body asking answer new.known
  responds old new (Err why) (is, same) = (is, ap (λ (h : Sight). h.known) same)
  responds old new (Ok asked) (inl (mid, looks, is)) = inl (shown mid, mid.known, looks.0, looks.1, does mid new asked is)
  responds old new (Ok asked) (inr (why, looks, is)) = inr (is, looks)

pub told : (did : HouseCall → Type 0) (old new : Sight) (parts : RequestParts) (body : List ℕ) (answer : Answer)
    → AnswersBy (calls_of did) gave_at (failed_at did) old parts body answer new → IsSharedAnswer did by_front old.known parts body answer new.known
told did old new parts body answer (inl is) = inl (responds did parts body answer old new (asked_for parts body) is)
told did old new parts body answer (inr (takes, only)) = inr (takes, (only.0, ap (λ (h : Sight). h.known) only.1))

-- ---- what is known

pub has_itself : (known : Known) → HasAll known known
has_itself known = record { log = stays known.log; files = λ digest bytes has. has }

pub has_all : (first mid last : Known) → HasAll first mid → HasAll mid last → HasAll first last
has_all first mid last a b =
    record { log = goes_on first.log mid.log last.log a.log b.log; files = λ digest bytes has. b.files digest bytes (a.files digest bytes has) }

pub same_known : (old new : Known) → new ≡ old → HasAll old new
same_known old new is = subst (λ (k : Known). HasAll old k) (sym is) (has_itself old)

pub looks_known : (old : Known) (log : Log) (new : Known) → by_front.looks old log new → HasAll old new
looks_known old log new looks = subst (λ (k : Known). HasAll old k) (sym looks.1) (record { log = looks.0; files = λ digest bytes has. has })

module _ (did : HouseCall → Type 0) where
  pub enters_known : (entry : Entry) (reason : Reason) (old : Known) (done : Result ℕ Stop) (new : Known) → EntersAs did by_front entry reason old done new → HasAll old new
  enters_known entry reason old done new (log, answer, later, asked, is, tells, learnt) = learnt.0

  pub commits_known : (old : Known) (command : Command) (done : Result ℕ Stop) (new : Known) → CommitsAs did by_front old command done new → HasAll old new
  commits_known old command done new (inl is) = enters_known (Change command) _ old done new is
  commits_known old command done new (inr (tells, (number, is))) = enters_known (Change command) _ old (Ok number) new is

  pub undoes_known : (old : Known) (site : SiteName) (change : ℕ) (done : Result ℕ Stop) (new : Known) → UndoesAs did by_front old site change done new → HasAll old new
  undoes_known old site change done new is = enters_known (Undo site change) _ old done new is

  pub takes_known : (old : Known) (site : SiteName) (n : ℕ) (path bytes : List ℕ) (done : Result Uploaded Refusal) (new : Known)
      → TakesAs did by_front old site n path bytes done new → HasAll old new
  takes_known old site n path bytes done new (first, last, files, answer, mid, later, more, all, asked, is, tells, found, learnt) =
      has_all old mid new found.0 learnt.0

  at_look : (old : Sight) (done : Result (Unit {0}) AllocError) (new : Sight) → (calls_of did).looks old done new → HasAll old.known new.known
  at_look old (Ok done) new looks = looks_known old.known (shown new).entries new.known looks.0
  at_look old (Err why) new looks = same_known old.known new.known looks

  known : StaysBy (λ (old new : Sight). HasAll old.known new.known) (calls_of did) gave_at (failed_at did)
  known = record {
    stays = λ house. has_itself house.known;
    goes_on = λ first mid last. has_all first.known mid.known last.known;
    gave_grows = λ old hold new. same_known old.known new.known;
    failed_grows = λ old file first last why new is. same_known old.known new.known is.1;
    commits = λ old command done new. commits_known old.known command done new.known;
    undoes = λ old site change done new. undoes_known old.known site change done new.known;
    uploads = λ old site n path bytes done new. takes_known old.known site n path bytes done new.known;
  }

  pub grew : (old new : Sight) (parts : RequestParts) (body : List ℕ) (answer : Answer) → AnswersBy (calls_of did) gave_at (failed_at did) old parts body answer new
      → HasAll old.known new.known
  grew old new parts body answer is =
      growing.answers_grow (λ (a b : Sight). HasAll a.known b.known) (calls_of did) gave_at (failed_at did) known answer at_look parts body old new is

-- ---- only to HEAD is a body told by its length alone

module _ {K : Type 0} (did : HouseCall → Type 0) (sees : Seeing K) (answer : Answer) (held : answer.withheld ≡ true) (old new : K) (parts : RequestParts) (body : List ℕ) where
  responds_withheld : (asking : Result Ask Refusal) → RespondsAs did sees old parts body asking answer new → is_head parts ≡ true
  responds_withheld (Err why) (is, same) = absurd (withheld.tells answer held (Refused why) is)
  responds_withheld (Ok asked) (inl (seen, mid, looks, run, is)) =
      withheld.does answer held (calls_over did sees seen) (gives did sees) (fails did sees) parts body new mid asked is
  responds_withheld (Ok asked) (inr (is, same)) = absurd (withheld.whole answer held _ is refl)

pub withheld_to_head : {K : Type 0} (did : HouseCall → Type 0) (sees : Seeing K) (old : K) (parts : RequestParts) (body : List ℕ) (answer : Answer) (new : K)
    → IsSharedAnswer did sees old parts body answer new → answer.withheld ≡ true → is_head parts ≡ true
withheld_to_head did sees old parts body answer new (inl is) held = responds_withheld did sees answer held old new parts body (asked_for parts body) is
withheld_to_head did sees old parts body answer new (inr (takes, only)) held = absurd (withheld.tells answer held (Refused OutOfMemory) only.0)
