-- What each step does to a world.
use Rattle.std.specs.Prelude.{◌≡◌, ℕ, List, [], ◌∷◌, ◌++◌, slice_get, Option, Some, None, option_map, Result, Ok}
use Rattle.host_names.specs.declared.digests.Digest.{Digest}
use Rattle.site_state.specs.States.{State}
use Rattle.site_change.specs.declared.entries.Entry.TheVariants as entry
use Rattle.change_undo.specs.Histories.{run}
use Rattle.host_replies.specs.Replies.{Answer}
use Rattle.world_desk.specs.Desks as desk
use Rattle.world_desk.specs.Desks.{change_at, look_count}
use Rattle.world_node.specs.Nodes as node
use Rattle.world_node.specs.Nodes.{Landing, NodeState, called}
use Rattle.world_read.specs.declared.requests.FileRequest.{FileRequest}
use Rattle.world_read.specs.Reads.{FileReading, GoesOnWith, IsBegun, ReadState, wanted, wanted_at}
use Rattle.host_world.specs.declared.steps.Step.{Step}
use Rattle.host_world.specs.declared.steps.Step.TheVariants.{Call, Commit, Enter, Learn, Publish, Take, Undo, Upload}
use Rattle.host_world.specs.Visits.{in_hand, with_reading}
use Rattle.host_world.specs.Worlds.{WorldState, at_desk, at_node, ready, stepped}

-- where a read waits for a chunk, its visitor wants that at its node
abbrev pub wanted_there : ℕ → Option Digest → List NodeState → List NodeState
wanted_there visitor None nodes = nodes
wanted_there visitor (Some name) nodes = stepped visitor (node.Want visitor name) nodes

abbrev pub wanting : ℕ → Option Digest → WorldState → WorldState
wanting visitor name w = record w { nodes = wanted_there visitor name w.nodes }

-- ---- looks

-- a visitor with no read in hand looks, and a read begins if it asks for a file, in the state of the log that it sees
abbrev pub EntersFree : WorldState → ℕ → Option FileRequest → WorldState → Type 0
EntersFree old visitor None new = new ≡ at_desk (desk.Enter visitor) old
EntersFree old visitor (Some request) new =
    (state : State) × (read : ReadState) × (run old.desk.uploads old.desk.shown ≡ Some state) × IsBegun request (look_count old.desk visitor) state read
    × (new ≡ wanting visitor (wanted read.content) (record (at_desk (desk.Enter visitor) old) { reads = change_at visitor (λ reads. reads ++ read ∷ []) old.reads }))

-- one that has a read in hand doesn't look
abbrev pub EntersUnless : Option ReadState → WorldState → ℕ → Option FileRequest → WorldState → Type 0
EntersUnless None old visitor request new = EntersFree old visitor request new
EntersUnless (Some read) old visitor request new = new ≡ old

-- nor is there a visitor of another number
abbrev pub Enters : Option (List ReadState) → WorldState → ℕ → Option FileRequest → WorldState → Type 0
Enters None old visitor request new = new ≡ old
Enters (Some reads) old visitor request new = EntersUnless (in_hand reads) old visitor request new

-- ---- chunks

-- the last read of a visitor goes on with this reading, and the visitor has taken what there was for it
abbrev pub went_on : ℕ → FileReading → WorldState → WorldState
went_on visitor reading w =
    wanting visitor (wanted_at reading.stage) (record (at_node visitor (node.Take visitor) w) { reads = change_at visitor (with_reading reading) w.reads })

-- the read in hand goes on with what there is for its visitor
abbrev pub GoesOn : ℕ → FileRequest → Result FileReading Answer → Landing → WorldState → WorldState → Type 0
GoesOn visitor request (Ok reading) landing old new =
    (next : FileReading) × GoesOnWith request reading landing next × (new ≡ went_on visitor next old)
GoesOn visitor request content landing old new = new ≡ old

-- it does so where there is something, and there is a read in hand
abbrev pub TakesAt : ℕ → Option (Digest × Option ℕ × Landing) → Option ReadState → WorldState → WorldState → Type 0
TakesAt visitor (Some it) (Some read) old new = GoesOn visitor read.request read.content it.2 old new
TakesAt visitor it read old new = new ≡ old

abbrev pub Takes : Option (List ReadState) → ℕ → WorldState → WorldState → Type 0
Takes None visitor old new = new ≡ old
Takes (Some reads) visitor old new = TakesAt visitor (ready old visitor) (in_hand reads) old new

-- ---- all steps

-- a request as the step has it
abbrev pub Happens : WorldState → Step → WorldState → Type 0
Happens old (Commit command) new = new ≡ at_desk (desk.Ask (entry.Change command)) old
Happens old (Undo site change) new = new ≡ at_desk (desk.Ask (entry.Undo site change)) old
Happens old Publish new = new ≡ at_desk desk.Publish old
Happens old (Enter visitor request) new = Enters (slice_get old.reads visitor) old visitor (option_map (λ it. it.value) request) new
Happens old (Learn visitor) new = new ≡ at_desk (desk.Learn visitor) old
Happens old (Upload bytes) new = new ≡ at_desk (desk.Upload bytes.items) old
Happens old (Call visitor call) new = new ≡ at_node visitor (called visitor call) old
Happens old (Take visitor) new = Takes (slice_get old.reads visitor) visitor old new

-- these steps happen in their order
abbrev pub Runs : WorldState → List Step → WorldState → Type 0
Runs old [] new = new ≡ old
Runs old (step ∷ steps) new = (mid : WorldState) × Happens old step mid × Runs mid steps new
