-- What code needs of the steps.
use Rattle.std.proofs.Common.{◌≡◌, ℕ, ◌+◌, ◌<◌, List, [], ◌∷◌, ◌++◌, length, take, get_or, slice_get, Option, Some, None, Result, Ok, Err, OnOk, OnErr, refl, sym, subst}
use Rattle.std.proofs.lemmas.List.{take_more}
use Rattle.host_names.specs.declared.digests.Digest.{Digest}
use Rattle.host_replies.specs.Replies.{Answer}
use Rattle.world_desk.specs.Desks.{DeskState}
use Rattle.world_node.specs.Nodes.{Landing, NodeState}
use Rattle.world_read.specs.declared.requests.FileRequest.{FileRequest}
use Rattle.world_read.specs.Reads.{FileReading, GoesOnAt, GoesOnWith, IsNext, ReadState, wanted_at}
use Rattle.host_world.specs.declared.steps.Step.{Step}
use Rattle.host_world.specs.Steps.{GoesOn, Happens, Runs, Takes, TakesAt, went_on}
use Rattle.host_world.specs.Visits.{IsNextOf, in_hand}
use Rattle.host_world.specs.Lawful.{IsReached}
use Rattle.host_world.proofs.Lists.{same_some}
use Rattle.host_world.specs.Worlds.{WorldState, ready, start}

-- one step more
pub runs_push : (w v u : WorldState) (steps : List Step) (step : Step) → Runs w steps v → Happens v step u → Runs w (steps ++ step ∷ []) u
runs_push w v u [] step is happens = (u, subst (λ (x : WorldState). Happens x step u) is happens, refl)
runs_push w v u (s ∷ steps) step runs happens = (runs.0, runs.1, runs_push runs.0 v u steps step runs.2 happens)

-- more steps
pub runs_on : (w v u : WorldState) (steps more : List Step) → Runs w steps v → Runs v more u → Runs w (steps ++ more) u
runs_on w v u [] more is runs = subst (λ (x : WorldState). Runs x more u) is runs
runs_on w v u (s ∷ steps) more runs then_ = (runs.0, runs.1, runs_on runs.0 v u steps more runs.2 then_)

-- one step more of a run
pub after_one_more : (steps : List Step) (i : ℕ) (step : Step) (w v u : WorldState) → i < length steps → step ≡ get_or steps i step → Runs w (take i steps) v → Happens v step u
    → Runs w (take (i + 1) steps) u
after_one_more steps i step w v u within here so_far took =
    subst (λ (ss : List Step). Runs w ss u) (sym (take_more steps i step within))
    (subst (λ (s : Step). Runs w (take i steps ++ s ∷ []) u) here (runs_push w v u (take i steps) step so_far took))

-- a world that some steps led to is led on by more
reached_on : (w v : WorldState) (steps : List Step) → Runs w steps v → IsReached w → IsReached v
reached_on w v steps runs reached = record {
  entries = reached.entries;
  cache = reached.cache;
  nodes = reached.nodes;
  visitors = reached.visitors;
  steps = reached.steps ++ steps;
  runs = runs_on (start reached.entries reached.cache reached.nodes reached.visitors) w v reached.steps steps reached.runs runs;
}

-- so it is after all steps, or after those before the one that found no memory
pub reached_by : {A E : Type 0} (result : Result A E) (w v : WorldState) (steps : List Step) → OnOk result (Runs w steps v)
    → OnErr result ((n : ℕ) × (n < length steps) × Runs w (take n steps) v) → IsReached w → IsReached v
reached_by (Ok done) w v steps ok err reached = reached_on w v steps ok reached
reached_by (Err why) w v steps ok err reached = reached_on w v (take err.0 steps) err.2 reached

-- ---- worlds

pub same_world : (d e : DeskState) (n m : List NodeState) (r s : List (List ReadState)) → d ≡ e → n ≡ m → r ≡ s
    → ◌≡◌ {A = WorldState} (record { desk = d; nodes = n; reads = r }) (record { desk = e; nodes = m; reads = s })
same_world d e n m r s desk nodes reads = λ i. record { desk = desk i; nodes = nodes i; reads = reads i }

went_at : (w new : WorldState) (v : ℕ) (request : FileRequest) (name : Option Digest) (old reading : FileReading) (landing : Landing) → GoesOnAt request name old landing (Some reading)
    → new ≡ went_on v reading w → GoesOn v request (Ok old) landing w new
went_at w new v request (Some name) old reading landing (next, same, goes) is =
    (reading, subst (λ (r : FileReading). GoesOnWith request old landing r) (sym (same_some reading next same)) goes, is)
went_at w new v request None old reading landing none is = absurd (let no : Some reading ≡ None = none in cc)

goes_done : (w new : WorldState) (v : ℕ) (request : FileRequest) (content : Result FileReading Answer) (reading : FileReading) (landing : Landing) → IsNext request content landing (Some reading)
    → new ≡ went_on v reading w → GoesOn v request content landing w new
goes_done w new v request (Ok old) reading landing next is = went_at w new v request (wanted_at old.stage) old reading landing next is
goes_done w new v request (Err answer) reading landing none is = absurd (let no : Some reading ≡ None = none in cc)

takes_at_done : (w new : WorldState) (v : ℕ) (it : Digest × Option ℕ × Landing) (hand : Option ReadState) (reading : FileReading) → IsNextOf hand it.2 (Some reading) → new ≡ went_on v reading w
    → TakesAt v (Some it) hand w new
takes_at_done w new v it (Some read) reading next is = goes_done w new v read.request read.content reading it.2 next is
takes_at_done w new v it None reading none is = absurd (let no : Some reading ≡ None = none in cc)

-- a read in hand goes on with what there is
pub takes_done : (w new : WorldState) (v : ℕ) (reads : List ReadState) (it : Digest × Option ℕ × Landing) (reading : FileReading) → slice_get w.reads v ≡ Some reads → ready w v ≡ Some it
    → IsNextOf (in_hand reads) it.2 (Some reading) → new ≡ went_on v reading w → Takes (slice_get w.reads v) v w new
takes_done w new v reads it reading there is_ready next is =
    subst (λ (found : Option (List ReadState)). Takes found v w new) (sym there)
    (subst (λ (some : Option (Digest × Option ℕ × Landing)). TakesAt v some (in_hand reads) w new) (sym is_ready) (takes_at_done w new v it (in_hand reads) reading next is))
