-- Every step keeps a world lawful.
use Rattle.std.proofs.Common.{◌≡◌, ℕ, ◌-◌, true, false, cond, List, [], ◌∷◌, ◌++◌, length, slice_get, Option, Some, None, option_map, is_some, Result, Ok, Err, refl, sym, ap, ◌∙◌, subst}
use Rattle.std.specs.List.{AllByRecursion}
use Rattle.host_names.specs.declared.digests.Digest.{Digest}
use Rattle.byte_view.specs.Contents.{Contents}
use Rattle.site_state.specs.States.{State}
use Rattle.site_change.specs.Changes.{IsWithin}
use Rattle.site_change.specs.declared.entries.Entry.TheVariants as entry
use Rattle.change_undo.specs.Histories.{IsLegal, run}
use Rattle.change_log.specs.Logs.{BeginsWith, Log}
use Rattle.host_api.specs.declared.refusals.Refusal.{Refusal}
use Rattle.host_replies.specs.Replies.{Answer}
use Rattle.world_desk.specs.Desks as desk
use Rattle.world_desk.specs.Desks.{DeskState, DeskStep, IsLawful, change_at, look_at, look_count}
use Rattle.world_desk.proofs.Changing.{all_push, all_weaker}
use Rattle.world_desk.proofs.Lawful.{Outlasts, start_lawful, step_lawful}
use Rattle.world_node.specs.Nodes as node
use Rattle.world_node.specs.Nodes.{Landing, NodeState, NodeStep}
use Rattle.world_node.proofs.Lawful as of_node
use Rattle.world_read.specs.declared.requests.FileRequest.{FileRequest}
use Rattle.world_read.specs.Reads.{FileReading, GoesOnWith, IsBegun, IsRight, ReadState}
use Rattle.world_read.specs.Requests.{file_asked}
use Rattle.world_read.proofs.Taken.{begins_right, next_right}
use Rattle.host_world.specs.declared.steps.Step.{Step}
use Rattle.host_world.specs.declared.steps.Step.TheVariants.{Call, Commit, Enter, Learn, Publish, Take, Undo, Upload}
use Rattle.host_world.specs.Lawful.{AreRight, IsReached, IsRightRead, ShareFlights, SharesFlights}
use Rattle.host_world.specs.Steps.{Enters, EntersFree, EntersUnless, GoesOn, Happens, Runs, Takes, TakesAt, wanting, went_on}
use Rattle.host_world.specs.Visits.{in_hand, waiting_of, with_reading}
use Rattle.host_world.specs.Worlds.{WorldState, at_desk, at_node, place_in, ready, start}
use Rattle.host_world.proofs.Later.{Later, later_step, saw}
use Rattle.host_world.proofs.Lists.{all_copies, all_changed_at, all_here, copies_get, each_changed, length_changed, length_copies, there_too}

-- a log that was legal gives the same state as uploads grow
abbrev pub RunOutlasts : Type 0
RunOutlasts = (uploads more : Contents) (log : Log) (state : State) → IsWithin uploads more → IsLegal uploads log → run uploads log ≡ Some state → run more log ≡ Some state

-- what a legal log begins with is legal
abbrev pub BeginningLegal : Type 0
BeginningLegal = (uploads : Contents) (log longer : Log) → BeginsWith longer log → IsLegal uploads longer → IsLegal uploads log

abbrev ReadsOk : DeskState → ℕ → List ReadState → Type 0
ReadsOk d v reads = AllByRecursion (IsRightRead d v) reads

record IsOk (w : WorldState) : Type 0 where
  lawful : IsLawful w.desk
  nodes : AllByRecursion of_node.IsLawful w.nodes
  reads : (v : ℕ) (reads : List ReadState) → slice_get w.reads v ≡ Some reads → ReadsOk w.desk v reads
  count : length w.desk.visitors ≡ length w.reads

-- ---- nodes

node_ok : (w : WorldState) (v : ℕ) (step : NodeStep) → IsOk w → IsOk (at_node v step w)
node_ok w v step ok = record {
  lawful = ok.lawful;
  nodes = all_changed_at of_node.IsLawful (λ n. node.happens n step) (place_in w.nodes v) w.nodes (λ n there lawful. of_node.step_lawful n step lawful) ok.nodes;
  reads = ok.reads;
  count = ok.count;
}

wanting_ok : (w : WorldState) (v : ℕ) (name : Option Digest) → IsOk w → IsOk (wanting v name w)
wanting_ok w v None ok = ok
wanting_ok w v (Some name) ok = node_ok w v (node.Want v name) ok

-- ---- reads

is_last : (reads : List ReadState) (read : ReadState) (found : Option ReadState) → waiting_of found ≡ Some read → found ≡ Some read
is_last reads read None e = e
is_last reads read (Some other) e =
    elim (is_some (Rattle.world_read.specs.Reads.wanted other.content)) as (λ b. cond b (Some other) None ≡ Some read → Some other ≡ Some read) [ true ↦ λ x. x | false ↦ λ x. absurd (let no : None ≡ Some read = x in cc) ] e

module _ (legal_on : Outlasts) (run_on : RunOutlasts) (legal_front : BeginningLegal) where
  read_later : (d e : DeskState) → Later d e → (v : ℕ) (read : ReadState) → IsRightRead d v read → IsRightRead e v read
  read_later d e later v read is = record {
    log = is.log;
    looked = later.looks v read.look is.log is.looked;
    legal = legal_on d.uploads e.uploads is.log later.within is.legal;
    state = is.state;
    ran = run_on d.uploads e.uploads is.log is.state later.within is.legal is.ran;
    right = is.right;
  }

  reads_later : (d e : DeskState) → Later d e → (v : ℕ) (reads : List ReadState) → ReadsOk d v reads → ReadsOk e v reads
  reads_later d e later v reads ok = all_weaker (IsRightRead d v) (IsRightRead e v) (read_later d e later v) reads ok

  desk_ok : (w : WorldState) (step : DeskStep) → IsOk w → IsOk (at_desk step w)
  desk_ok w step ok =
      let later : Later w.desk (desk.happens w.desk step) = later_step w.desk step in
      record {
        lawful = step_lawful legal_on w.desk step ok.lawful;
        nodes = ok.nodes;
        reads = λ v reads there. reads_later w.desk (desk.happens w.desk step) later v reads (ok.reads v reads there);
        count = later.count ∙ ok.count;
      }

  -- ---- a read begins

  begun_right : (w : WorldState) (v : ℕ) (request : FileRequest) (reads : List ReadState) (state : State) (read : ReadState) → IsOk w → slice_get w.reads v ≡ Some reads
      → run w.desk.uploads w.desk.shown ≡ Some state → IsBegun request (look_count w.desk v) state read → IsRightRead (desk.happens w.desk (desk.Enter v)) v read
  begun_right w v request reads state read ok there ran (asked, place, begins) =
      let x = there_too w.reads w.desk.visitors v reads ok.count there in
      let right : IsRight request (file_asked state request) read.content = begins_right request (file_asked state request) read.content begins in
      record {
        log = w.desk.shown;
        looked = ap (λ i. look_at (desk.happens w.desk (desk.Enter v)) v i) place ∙ saw w.desk v x.0 x.1;
        legal = legal_front w.desk.uploads w.desk.shown w.desk.log ok.lawful.shown ok.lawful.legal;
        state = state;
        ran = ran;
        right = subst (λ (r : FileRequest). IsRight r (file_asked state r) read.content) (sym asked) right;
      }

  begun_ok : (w : WorldState) (v : ℕ) (request : FileRequest) (reads : List ReadState) (state : State) (read : ReadState) → IsOk w → slice_get w.reads v ≡ Some reads
      → run w.desk.uploads w.desk.shown ≡ Some state → IsBegun request (look_count w.desk v) state read
      → IsOk (record (at_desk (desk.Enter v) w) { reads = change_at v (λ rs. rs ++ read ∷ []) w.reads })
  begun_ok w v request reads state read ok there ran begun =
      let d = desk.happens w.desk (desk.Enter v) in
      let now = desk_ok w (desk.Enter v) ok in
      let right : IsRightRead d v read = begun_right w v request reads state read ok there ran begun in
      record {
        lawful = now.lawful;
        nodes = now.nodes;
        reads = each_changed (ReadsOk d) (λ rs. rs ++ read ∷ []) v w.reads (λ rs at. all_push (IsRightRead d v) rs read (now.reads v rs at) right) now.reads;
        count = now.count ∙ sym (length_changed (λ rs. rs ++ read ∷ []) v w.reads);
      }

  enters_free_ok : (w new : WorldState) (v : ℕ) (request : Option FileRequest) (reads : List ReadState) → IsOk w → slice_get w.reads v ≡ Some reads → EntersFree w v request new → IsOk new
  enters_free_ok w new v None reads ok there is = subst IsOk (sym is) (desk_ok w (desk.Enter v) ok)
  enters_free_ok w new v (Some request) reads ok there (state, read, ran, begun, is) =
      subst IsOk (sym is) (wanting_ok _ v (Rattle.world_read.specs.Reads.wanted read.content) (begun_ok w v request reads state read ok there ran begun))

  enters_unless_ok : (w new : WorldState) (v : ℕ) (request : Option FileRequest) (reads : List ReadState) (hand : Option ReadState) → IsOk w → slice_get w.reads v ≡ Some reads
      → EntersUnless hand w v request new → IsOk new
  enters_unless_ok w new v request reads None ok there enters = enters_free_ok w new v request reads ok there enters
  enters_unless_ok w new v request reads (Some read) ok there is = subst IsOk (sym is) ok

  enters_ok : (w new : WorldState) (v : ℕ) (request : Option FileRequest) (found : Option (List ReadState)) → IsOk w → slice_get w.reads v ≡ found → Enters found w v request new → IsOk new
  enters_ok w new v request None ok there is = subst IsOk (sym is) ok
  enters_ok w new v request (Some reads) ok there enters = enters_unless_ok w new v request reads (in_hand reads) ok there enters

  -- ---- a read goes on

  reading_right : (d : DeskState) (v : ℕ) (request : FileRequest) (old next : FileReading) (landing : Landing) (read : ReadState) → read.request ≡ request → read.content ≡ Ok old
      → GoesOnWith request old landing next → IsRightRead d v read → IsRightRead d v (record read { content = Ok next })
  reading_right d v request old next landing read asks has goes is =
      let file = file_asked is.state read.request in
      let goes_ : GoesOnWith read.request old landing next = subst (λ (r : FileRequest). GoesOnWith r old landing next) (sym asks) goes in
      record {
        log = is.log;
        looked = is.looked;
        legal = is.legal;
        state = is.state;
        ran = is.ran;
        right = goes_right read.request old next landing (file_asked is.state read.request) (subst (IsRight read.request file) has is.right) goes_;
      }
    where
      goes_right : (request : FileRequest) (old next : FileReading) (landing : Landing) (found : Result (List ℕ) Refusal) → IsRight request found (Ok old) → GoesOnWith request old landing next
          → IsRight request found (Ok next)
      goes_right request old next landing (Ok file) right goes = next_right request file old next landing right goes
      goes_right request old next landing (Err reason) right goes = absurd (cc right)

  went_ok : (w : WorldState) (v : ℕ) (reads : List ReadState) (read : ReadState) (old next : FileReading) (landing : Landing) → IsOk w → slice_get w.reads v ≡ Some reads → in_hand reads ≡ Some read
      → read.content ≡ Ok old → GoesOnWith read.request old landing next → IsOk (went_on v next w)
  went_ok w v reads read old next landing ok there hand has goes =
      let now = node_ok w v (node.Take v) ok in
      let last : slice_get reads (length reads - 1) ≡ Some read = is_last reads read (slice_get reads (length reads - 1)) hand in
      let right : (other : ReadState) → slice_get reads (length reads - 1) ≡ Some other → IsRightRead w.desk v other → IsRightRead w.desk v (record other { content = Ok next }) =
      λ other at is. went_right w.desk v read other old next landing (Rattle.host_world.proofs.Lists.same_some read other (sym last ∙ at)) has goes is in
      let changed : (rs : List ReadState) → slice_get w.reads v ≡ Some rs → ReadsOk w.desk v (with_reading next rs) =
      λ rs at. subst (λ (x : List ReadState). ReadsOk w.desk v (with_reading next x)) (Rattle.host_world.proofs.Lists.same_some reads rs (sym there ∙ at))
      (all_changed_at (IsRightRead w.desk v) (λ r. record r { content = Ok next }) (length reads - 1) reads right (ok.reads v reads there)) in
      wanting_ok _ v (Rattle.world_read.specs.Reads.wanted_at next.stage) (record {
        lawful = now.lawful;
        nodes = now.nodes;
        reads = each_changed (ReadsOk w.desk) (with_reading next) v w.reads changed ok.reads;
        count = ok.count ∙ sym (length_changed (with_reading next) v w.reads);
      })
    where
      went_right : (d : DeskState) (v : ℕ) (read other : ReadState) (old next : FileReading) (landing : Landing) → read ≡ other → read.content ≡ Ok old → GoesOnWith read.request old landing next
          → IsRightRead d v other → IsRightRead d v (record other { content = Ok next })
      went_right d v read other old next landing same has goes is =
          reading_right d v read.request old next landing other (ap (λ (r : ReadState). r.request) (sym same)) (ap (λ (r : ReadState). r.content) (sym same) ∙ has) goes is

  goes_ok : (w new : WorldState) (v : ℕ) (reads : List ReadState) (read : ReadState) (content : Result FileReading Answer) (landing : Landing) → IsOk w → slice_get w.reads v ≡ Some reads
      → in_hand reads ≡ Some read → read.content ≡ content → GoesOn v read.request content landing w new → IsOk new
  goes_ok w new v reads read (Ok old) landing ok there hand has (next, goes, is) = subst IsOk (sym is) (went_ok w v reads read old next landing ok there hand has goes)
  goes_ok w new v reads read (Err answer) landing ok there hand has is = subst IsOk (sym is) ok

  takes_at_ok : (w new : WorldState) (v : ℕ) (reads : List ReadState) (it : Option (Digest × Option ℕ × Landing)) (hand : Option ReadState) → IsOk w → slice_get w.reads v ≡ Some reads
      → in_hand reads ≡ hand → TakesAt v it hand w new → IsOk new
  takes_at_ok w new v reads (Some it) (Some read) ok there hand goes = goes_ok w new v reads read read.content it.2 ok there hand refl goes
  takes_at_ok w new v reads (Some it) None ok there hand is = subst IsOk (sym is) ok
  takes_at_ok w new v reads None hand ok there e is = subst IsOk (sym is) ok

  takes_ok : (w new : WorldState) (v : ℕ) (found : Option (List ReadState)) → IsOk w → slice_get w.reads v ≡ found → Takes found v w new → IsOk new
  takes_ok w new v None ok there is = subst IsOk (sym is) ok
  takes_ok w new v (Some reads) ok there takes = takes_at_ok w new v reads (ready w v) (in_hand reads) ok there refl takes

  -- ---- all steps

  step_ok : (w new : WorldState) (step : Step) → IsOk w → Happens w step new → IsOk new
  step_ok w new (Commit command) ok is = subst IsOk (sym is) (desk_ok w (desk.Ask (entry.Change command)) ok)
  step_ok w new (Undo site change) ok is = subst IsOk (sym is) (desk_ok w (desk.Ask (entry.Undo site change)) ok)
  step_ok w new Publish ok is = subst IsOk (sym is) (desk_ok w desk.Publish ok)
  step_ok w new (Enter v request) ok enters = enters_ok w new v (option_map (λ it. it.value) request) (slice_get w.reads v) ok refl enters
  step_ok w new (Learn v) ok is = subst IsOk (sym is) (desk_ok w (desk.Learn v) ok)
  step_ok w new (Upload bytes) ok is = subst IsOk (sym is) (desk_ok w (desk.Upload bytes.items) ok)
  step_ok w new (Call v call) ok is = subst IsOk (sym is) (node_ok w v (node.called v call) ok)
  step_ok w new (Take v) ok takes = takes_ok w new v (slice_get w.reads v) ok refl takes

  runs_ok : (w new : WorldState) (steps : List Step) → IsOk w → Runs w steps new → IsOk new
  runs_ok w new [] ok is = subst IsOk (sym is) ok
  runs_ok w new (step ∷ steps) ok runs = runs_ok runs.0 new steps (step_ok w runs.0 step ok runs.1) runs.2

  start_ok : (entries cache nodes visitors : ℕ) → IsOk (start entries cache nodes visitors)
  start_ok entries cache nodes visitors = record {
    lawful = start_lawful entries visitors;
    nodes = all_copies of_node.IsLawful nodes (node.start cache visitors) (of_node.start_lawful cache visitors);
    reads = λ v reads there. subst (ReadsOk (desk.start entries visitors) v) (copies_get visitors v [] reads there) tt;
    count = length_copies visitors _ ∙ sym (length_copies visitors _);
  }

  reached_ok : (w : WorldState) → IsReached w → IsOk w
  reached_ok w reached = runs_ok (start reached.entries reached.cache reached.nodes reached.visitors) w reached.steps (start_ok reached.entries reached.cache reached.nodes reached.visitors) reached.runs

  pub reached_lawful : (w : WorldState) → IsReached w → IsLawful w.desk
  reached_lawful w reached = (reached_ok w reached).lawful

  pub reached_right : (w : WorldState) → IsReached w → AreRight w
  reached_right w reached = (reached_ok w reached).reads

  pub reached_flights : (w : WorldState) → IsReached w → ShareFlights w
  reached_flights w reached = all_weaker of_node.IsLawful SharesFlights (λ n lawful. (lawful.once, of_node.agree n lawful)) w.nodes (reached_ok w reached).nodes
