-- A node: its caches, its flights, and those who read chunks through them; and its steps.
use Rattle.std.specs.Prelude.{ℕ, zero, suc, ◌+◌, ◌&&◌, Bool, true, false, List, [], ◌∷◌, ◌++◌, length, replicate, slice_get, slice_set, Option, Some, None, option_map, unwrap_or, if◌then◌else◌}
use Rattle.std.specs.Str.{bytes_eq}
use Rattle.host_names.specs.Digests.{digest_of}
use Rattle.host_names.specs.declared.digests.Digest.{Digest}
use Rattle.chunk_lru.specs.Caches.{Cache, empty}
use Rattle.chunk_lru.specs.Rules.{added, held, looked_up}
use Rattle.chunk_lru.specs.declared.caches.Which.{Which}
use Rattle.world_node.specs.declared.calls.Call.{Call}
use Rattle.world_node.specs.declared.calls.Call.TheVariants as call
use Rattle.world_node.specs.declared.flights.Flight.{Flight}
use Rattle.world_node.specs.declared.readers.Phase.{Phase}
use Rattle.world_node.specs.declared.readers.Phase.TheVariants.{Idle, Wants, Missed, Looks, Loads, Holds, Sets, Ends, Joins, Has}
use Rattle.world_node.specs.declared.readers.Got.{Got}

-- what a flight comes to: the bytes of the chunk, or a fault
abbrev pub Landing : Type 0
Landing = Option (List ℕ)

-- a reader: how far it is with a chunk, and what it has got so far
pub record ReaderState : Type 0 where
  pub phase : Phase
  pub got : List Got

-- a node: its caches, all flights that ever began there, each at the place of its number, and its readers
pub record NodeState : Type 0 where
  pub cache : Cache
  pub flights : List Flight
  pub readers : List ReaderState

-- it wants nothing, and has got nothing
abbrev pub idle : ReaderState
idle = record { phase = Idle; got = [] }

-- nothing has happened yet; the caches may have so much
abbrev pub start : ℕ → ℕ → NodeState
start limit readers = record { cache = empty limit; flights = []; readers = replicate readers idle }

-- ---- readers

-- the reader is in this phase
abbrev pub with_phase : Phase → ReaderState → ReaderState
with_phase phase v = record v { phase = phase }

-- the reader has got this, and wants nothing more
abbrev pub gets : Digest → Option ℕ → Landing → ReaderState → ReaderState
gets key flight outcome v = record { phase = Idle; got = v.got ++ record { key = key; flight = flight; outcome = outcome } ∷ [] }

-- ---- flights

-- a flight of the key that has just begun
abbrev pub fresh : Digest → Flight
fresh key = record { key = key; outcome = None; is_open = true }

-- a flight of the key is open
abbrev pub is_open_of : Digest → Flight → Bool
is_open_of key f = f.is_open && bytes_eq key.0 f.key.0

-- the number of the open flight of a key
abbrev pub open_flight : Digest → List Flight → Option ℕ
open_flight key [] = None
open_flight key (f ∷ flights) = if is_open_of key f then Some 0 else option_map (λ n. n + 1) (open_flight key flights)

-- the flight of this number, changed
abbrev pub flight_changed : ℕ → (Flight → Flight) → List Flight → List Flight
flight_changed n change [] = []
flight_changed zero change (f ∷ flights) = change f ∷ flights
flight_changed (suc n) change (f ∷ flights) = f ∷ flight_changed n change flights

-- its outcome is this, unless one was set before
abbrev pub settled : Landing → Flight → Flight
settled outcome f = record f { outcome = Some (unwrap_or f.outcome outcome) }

-- it has ended
abbrev pub ended : Flight → Flight
ended f = record f { is_open = false }

-- what it came to, once that is set
abbrev pub outcome_in : Option Flight → Option Landing
outcome_in None = None
outcome_in (Some f) = f.outcome

-- what the flight of this number came to
abbrev pub outcome_at : List Flight → ℕ → Option Landing
outcome_at flights n = outcome_in (slice_get flights n)

-- ---- the steps of the reader r, which is v: one that doesn't fit its phase changes nothing

-- who wants nothing wants this chunk now
abbrev pub wanted : NodeState → ℕ → ReaderState → Digest → Phase → NodeState
wanted w r v key Idle = record w { readers = slice_set w.readers r (with_phase (Wants key) v) }
wanted w r v key phase = w

-- a first look: what is found is there to be taken
abbrev pub found_first : Digest → Option (List ℕ) → ReaderState → ReaderState
found_first key (Some chunk) v = with_phase (Has key (Some chunk)) v
found_first key None v = with_phase (Missed key) v

-- a leader's look: what is found is the outcome
abbrev pub found_again : ℕ → Digest → Option (List ℕ) → ReaderState → ReaderState
found_again n key (Some chunk) v = with_phase (Sets n key (Some chunk)) v
found_again n key None v = with_phase (Loads n key) v

-- a look into the caches
abbrev pub looked : NodeState → ℕ → ReaderState → Phase → NodeState
looked w r v (Wants key) = record w { cache = looked_up key w.cache; readers = slice_set w.readers r (found_first key (held key w.cache) v) }
looked w r v (Looks n key) = record w { cache = looked_up key w.cache; readers = slice_set w.readers r (found_again n key (held key w.cache) v) }
looked w r v phase = w

-- a flight is led where none of the key is open, and else that one is joined
abbrev pub led_or_joined : NodeState → ℕ → ReaderState → Digest → Option ℕ → NodeState
led_or_joined w r v key None =
    record w { flights = w.flights ++ fresh key ∷ []; readers = slice_set w.readers r (with_phase (Looks (length w.flights) key) v) }
led_or_joined w r v key (Some n) = record w { readers = slice_set w.readers r (with_phase (Joins n key) v) }

-- after a miss
abbrev pub begun : NodeState → ℕ → ReaderState → Phase → NodeState
begun w r v (Missed key) = led_or_joined w r v key (open_flight key w.flights)
begun w r v phase = w

-- bytes of another name are a fault
abbrev pub checked : Digest → Option (List ℕ) → Landing
checked key None = None
checked key (Some bytes) = if bytes_eq key.0 (digest_of bytes).0 then Some bytes else None

-- a leader that loads, or has met a fault, takes the answer
abbrev pub answered : NodeState → ℕ → ReaderState → Option (List ℕ) → Phase → NodeState
answered w r v answer (Loads n key) = record w { readers = slice_set w.readers r (with_phase (Holds n key (checked key answer)) v) }
answered w r v answer (Holds n key None) = record w { readers = slice_set w.readers r (with_phase (Holds n key (checked key answer)) v) }
answered w r v answer phase = w

-- a leader puts the chunk that it has loaded into one of the caches
abbrev pub put : NodeState → ℕ → ReaderState → Which → Phase → NodeState
put w r v which (Holds n key (Some chunk)) =
    record w { cache = added which chunk w.cache; readers = slice_set w.readers r (with_phase (Sets n key (Some chunk)) v) }
put w r v which phase = w

-- the flight has its outcome, which those who wait for it can take from then on
abbrev pub told : NodeState → ℕ → ReaderState → ℕ → Digest → Landing → NodeState
told w r v n key outcome = record w { flights = flight_changed n (settled outcome) w.flights; readers = slice_set w.readers r (with_phase (Ends n key) v) }

-- a leader sets the outcome of its flight: what it has found or loaded, or the fault that it met last
abbrev pub set_outcome : NodeState → ℕ → ReaderState → Phase → NodeState
set_outcome w r v (Holds n key outcome) = told w r v n key outcome
set_outcome w r v (Sets n key outcome) = told w r v n key outcome
set_outcome w r v phase = w

-- the flight has ended, and its leader can take its outcome, as those who joined it
abbrev pub finished : NodeState → ℕ → ReaderState → Phase → NodeState
finished w r v (Ends n key) = record w { flights = flight_changed n ended w.flights; readers = slice_set w.readers r (with_phase (Joins n key) v) }
finished w r v phase = w

-- what is there for a reader in this phase, with the flight that it is of: what its look found; or what the flight that it led or joined came to
abbrev pub ready_for : List Flight → Phase → Option (Digest × Option ℕ × Landing)
ready_for flights (Has key outcome) = Some (key, None, outcome)
ready_for flights (Joins n key) = option_map (λ outcome. (key, Some n, outcome)) (outcome_at flights n)
ready_for flights phase = None

abbrev pub got_of : NodeState → ℕ → ReaderState → Option (Digest × Option ℕ × Landing) → NodeState
got_of w r v None = w
got_of w r v (Some it) = record w { readers = slice_set w.readers r (gets it.0 it.1 it.2 v) }

-- what is there is got
abbrev pub took : NodeState → ℕ → ReaderState → Phase → NodeState
took w r v phase = got_of w r v (ready_for w.flights phase)

-- ---- all steps

-- The reader of this number wants a chunk; looks into the caches; leads a flight or joins one; is answered, as a leader, by a peer or the source,
-- with any bytes or a fault; puts its chunk into one of the caches; sets the outcome of its flight; ends its flight; takes what is there for it.
pub data NodeStep : Type 0 where
  Want : (reader : ℕ) (key : Digest) → NodeStep
  Look : (reader : ℕ) → NodeStep
  Begin : (reader : ℕ) → NodeStep
  Answer : (reader : ℕ) (answer : Option (List ℕ)) → NodeStep
  Add : (reader : ℕ) (which : Which) → NodeStep
  Settle : (reader : ℕ) → NodeStep
  Finish : (reader : ℕ) → NodeStep
  Take : (reader : ℕ) → NodeStep

-- the step that is a reader's call
abbrev pub called : ℕ → Call → NodeStep
called r call.Look = Look r
called r call.Begin = Begin r
called r (call.Answer answer) = Answer r (option_map (λ bytes. bytes.items) answer)
called r (call.Add which) = Add r which
called r call.Settle = Settle r
called r call.Finish = Finish r

-- what the reader does, if there is one of this number
abbrev pub by_reader : NodeState → Option ReaderState → (ReaderState → Phase → NodeState) → NodeState
by_reader w None does = w
by_reader w (Some v) does = does v v.phase

-- what a step leaves
abbrev pub happens : NodeState → NodeStep → NodeState
happens w (Want r key) = by_reader w (slice_get w.readers r) (λ v phase. wanted w r v key phase)
happens w (Look r) = by_reader w (slice_get w.readers r) (looked w r)
happens w (Begin r) = by_reader w (slice_get w.readers r) (begun w r)
happens w (Answer r answer) = by_reader w (slice_get w.readers r) (λ v phase. answered w r v answer phase)
happens w (Add r which) = by_reader w (slice_get w.readers r) (λ v phase. put w r v which phase)
happens w (Settle r) = by_reader w (slice_get w.readers r) (set_outcome w r)
happens w (Finish r) = by_reader w (slice_get w.readers r) (finished w r)
happens w (Take r) = by_reader w (slice_get w.readers r) (took w r)

-- what steps leave, one after another
abbrev pub after_all : List NodeStep → NodeState → NodeState
after_all [] w = w
after_all (step ∷ steps) w = after_all steps (happens w step)

-- ---- what is there to be taken

abbrev pub ready_of : List Flight → Option ReaderState → Option (Digest × Option ℕ × Landing)
ready_of flights None = None
ready_of flights (Some v) = ready_for flights v.phase

-- what is there for the reader of this number
abbrev pub ready : NodeState → ℕ → Option (Digest × Option ℕ × Landing)
ready w r = ready_of w.flights (slice_get w.readers r)
