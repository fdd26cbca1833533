-- What holds of a world after every list of steps.
use Rattle.std.specs.Prelude.{◌≡◌, ℕ, List, slice_get, Some, true}
use Rattle.std.specs.List.{AllByRecursion}
use Rattle.site_state.specs.States.{State}
use Rattle.change_undo.specs.Histories.{IsLegal, run}
use Rattle.change_log.specs.Logs.{Log}
use Rattle.world_desk.specs.Desks.{DeskState, is_published, look_at}
use Rattle.world_node.specs.Lawful.{OpenOnce, ReadersAgree}
use Rattle.world_node.specs.Nodes.{NodeState}
use Rattle.world_read.specs.Reads.{IsRight, ReadState}
use Rattle.world_read.specs.Requests.{file_asked}
use Rattle.host_world.specs.declared.steps.Step.{Step}
use Rattle.host_world.specs.Steps.{Runs}
use Rattle.host_world.specs.Worlds.{WorldState, start}

-- a world that some list of steps leads to, from the one in which nothing has happened
pub record IsReached (w : WorldState) : Type 0 where
  pub entries : ℕ
  pub cache : ℕ
  pub nodes : ℕ
  pub visitors : ℕ
  pub steps : List Step
  pub runs : Runs (start entries cache nodes visitors) steps w

-- some list of steps leads to it, and all that its desk has is shown
abbrev pub IsSettled : WorldState → Type 0
IsSettled w = IsReached w × (is_published w.desk ≡ true)

-- the log that a visitor saw at the read's look is legal; and where no chunk differs from a piece of the file that has its name, the answer is the reply
-- over the whole file that the state of that log has for the request, or its refusal
pub record IsRightRead (d : DeskState) (visitor : ℕ) (read : ReadState) : Type 0 where
  pub log : Log
  pub looked : look_at d visitor read.look ≡ Some log
  pub legal : IsLegal d.uploads log
  pub state : State
  pub ran : run d.uploads log ≡ Some state
  pub right : IsRight read.request (file_asked state read.request) read.content

-- so it is with each read of each visitor
abbrev pub AreRight : WorldState → Type 0
AreRight w = (visitor : ℕ) (reads : List ReadState) → slice_get w.reads visitor ≡ Some reads → AllByRecursion (IsRightRead w.desk visitor) reads

-- at a node at most one flight of a key is open, whoever led or joined a flight has got what that came to, and each chunk has the name that was wanted
abbrev pub SharesFlights : NodeState → Type 0
SharesFlights n = OpenOnce n.flights × ReadersAgree n

-- so it is at each node
abbrev pub ShareFlights : WorldState → Type 0
ShareFlights w = AllByRecursion SharesFlights w.nodes
