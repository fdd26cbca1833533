-- What a reader does by itself, in each phase.
use Rattle.std.specs.Prelude.{ℕ, List, Option, Some, None}
use Rattle.host_names.specs.declared.digests.Digest.{Digest}
use Rattle.world_node.specs.declared.readers.Phase.{Phase}
use Rattle.world_node.specs.declared.readers.Phase.TheVariants.{Idle, Wants, Missed, Looks, Loads, Holds, Sets, Ends, Joins, Has}
use Rattle.world_node.specs.Nodes.{Landing, ReaderState, with_phase}

abbrev pub wants : Digest → ReaderState → Phase → ReaderState
wants key v Idle = with_phase (Wants key) v
wants key v phase = v

abbrev pub missed_key : Phase → Option Digest
missed_key (Missed key) = Some key
missed_key phase = None

abbrev pub asked_key : Phase → Option (Option ℕ × Digest)
asked_key (Wants key) = Some (None, key)
asked_key (Looks n key) = Some (Some n, key)
asked_key phase = None

abbrev pub ended_flight : Phase → Option (ℕ × Digest)
ended_flight (Ends n key) = Some (n, key)
ended_flight phase = None

abbrev pub after_look : Option ℕ → Digest → Option (List ℕ) → Phase
after_look None key (Some chunk) = Has key (Some chunk)
after_look None key None = Missed key
after_look (Some n) key (Some chunk) = Sets n key (Some chunk)
after_look (Some n) key None = Loads n key

abbrev pub loaded_chunk : Phase → Option (ℕ × Digest × List ℕ)
loaded_chunk (Holds n key (Some chunk)) = Some (n, key, chunk)
loaded_chunk phase = None

abbrev pub outcome_to_set : Phase → Option (ℕ × Digest × Landing)
outcome_to_set (Holds n key o) = Some (n, key, o)
outcome_to_set (Sets n key o) = Some (n, key, o)
outcome_to_set phase = None

abbrev pub loading : Phase → Option (ℕ × Digest)
loading (Loads n key) = Some (n, key)
loading (Holds n key None) = Some (n, key)
loading phase = None
