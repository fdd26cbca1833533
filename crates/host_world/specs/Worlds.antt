-- The whole host as its steps see it: a desk, its nodes, and the reads of its visitors.
use Rattle.std.specs.Prelude.{ℕ, ◌%◌, List, [], length, replicate, slice_get, Option, Some, None, refl}
use Rattle.std.specs.Coded.{Coded, code_by, coded×, coded_list}
use Rattle.host_names.specs.declared.digests.Digest.{Digest}
use Rattle.world_desk.specs.Desks as desk
use Rattle.world_desk.specs.Desks.{DeskState, DeskStep, change_at}
use Rattle.world_node.specs.Nodes as node
use Rattle.world_node.specs.Nodes.{Landing, NodeState, NodeStep}
use Rattle.world_read.specs.Reads.{ReadState}

-- the desk with what its visitors have seen, the nodes, and of each visitor the reads in the order in which they began: where the last one waits for a
-- chunk, that is the one in hand
pub record WorldState : Type 0 where
  pub desk : DeskState
  pub nodes : List NodeState
  pub reads : List (List ReadState)

-- how they are stored
abbrev pub coded_world : Coded DeskState → Coded NodeState → Coded ReadState → Coded WorldState
coded_world desk node read =
    code_by (DeskState × (List NodeState × List (List ReadState))) (coded× desk (coded× (coded_list node) (coded_list (coded_list read))))
    (λ w. (w.desk, (w.nodes, w.reads))) (λ t. record { desk = t.0; nodes = t.1.0; reads = t.1.1 }) (λ _. refl)

-- nothing has happened yet: the log may have so many entries, and the caches of each of the nodes so many bytes
abbrev pub start : (entries cache nodes visitors : ℕ) → WorldState
start entries cache nodes visitors =
    record { desk = desk.start entries visitors; nodes = replicate nodes (node.start cache visitors); reads = replicate visitors [] }

-- a step of the desk
abbrev pub at_desk : DeskStep → WorldState → WorldState
at_desk step w = record w { desk = desk.happens w.desk step }

-- the place, among these nodes, of the one that a visitor stands on
abbrev pub place_in : List NodeState → ℕ → ℕ
place_in nodes visitor = visitor % length nodes

-- a step of the node that a visitor stands on
abbrev pub stepped : ℕ → NodeStep → List NodeState → List NodeState
stepped visitor step nodes = change_at (place_in nodes visitor) (λ n. node.happens n step) nodes

abbrev pub at_node : ℕ → NodeStep → WorldState → WorldState
at_node visitor step w = record w { nodes = stepped visitor step w.nodes }

-- what there is for a visitor at its node: the key of a chunk, the flight that it is of, if it is of one, and what was found or what the flight came to
abbrev pub ready_in : Option NodeState → ℕ → Option (Digest × Option ℕ × Landing)
ready_in None visitor = None
ready_in (Some n) visitor = node.ready n visitor

abbrev pub ready : WorldState → ℕ → Option (Digest × Option ℕ × Landing)
ready w visitor = ready_in (slice_get w.nodes (place_in w.nodes visitor)) visitor
