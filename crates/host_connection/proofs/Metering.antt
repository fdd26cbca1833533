-- A connection on a metered stream, as one on the stream itself.
use Rattle.std.proofs.Common.{◌≡◌, ℕ, ◌+◌, List, [], ◌∷◌, length, refl, sym, ap, ◌∙◌, subst, arith}
use Rattle.std.proofs.lemmas.List.{length-append}
use Rattle.http_wire.specs.Timing.{Event, Got, AtEnd, ReadFails, Put, WriteFails, Steps, all_got, all_put, read_of}
use Rattle.host_connection.specs.declared.meters.Metered.{Metered}
use Rattle.host_connection.specs.Metering.{Meters, read_by, written_by}
use Rattle.host_connection.proofs.Simulated.{Simulates, steps_back}

-- ---- how many bytes

-- a read reads the bytes that it gave, and writes none
pub read_reads : (bytes : List ℕ) → read_by (read_of bytes) ≡ length bytes
read_reads [] = refl
read_reads (b ∷ bytes) = refl

pub read_writes : (bytes : List ℕ) → written_by (read_of bytes) ≡ 0
read_writes [] = refl
read_writes (b ∷ bytes) = refl

-- one event more
got_more : (event : Event) (past : List Event) → length (all_got (event ∷ past)) ≡ length (all_got past) + read_by event
got_more (Got bytes) past = length-append (all_got past) bytes
got_more AtEnd past = omega arith
got_more ReadFails past = omega arith
got_more (Put bytes) past = omega arith
got_more WriteFails past = omega arith

put_more : (event : Event) (past : List Event) → length (all_put (event ∷ past)) ≡ length (all_put past) + written_by event
put_more (Got bytes) past = omega arith
put_more AtEnd past = omega arith
put_more ReadFails past = omega arith
put_more (Put bytes) past = length-append (all_put past) bytes
put_more WriteFails past = omega arith

-- ---- a stream, and how many bytes of it may be read and written

-- what a metered stream sees
abbrev pub Sees : {S : Type 0} → (saw : S → Event → S → Type 0) → Metered S → Event → Metered S → Type 0
Sees saw old event new = Meters saw old.stream old.reads old.writes event new.stream new.reads new.writes

pub reads_after : {S : Type 0} (saw : S → Event → S → Type 0) (old new : Metered S) (events : List Event) → Steps (Sees saw) old events new
    → new.reads + length (all_got events) ≡ old.reads
reads_after saw old new [] steps = ap (λ (m : Metered _). m.reads + 0) steps ∙ omega arith
reads_after saw old new (event ∷ past) steps =
    omega (arith, reads_after saw old steps.0 past steps.1, steps.2.1, got_more event past)

pub writes_after : {S : Type 0} (saw : S → Event → S → Type 0) (old new : Metered S) (events : List Event) → Steps (Sees saw) old events new
    → new.writes + length (all_put events) ≡ old.writes
writes_after saw old new [] steps = ap (λ (m : Metered _). m.writes + 0) steps ∙ omega arith
writes_after saw old new (event ∷ past) steps =
    omega (arith, writes_after saw old steps.0 past steps.1, steps.2.2, put_more event past)

-- it is a metered one of this stream
abbrev pub IsMetered : {S : Type 0} → S → Metered S → Type 0
IsMetered stream metered = metered.stream ≡ stream

abbrev pub IsStream : {S : Type 0} → Metered S → S → Type 0
IsStream metered stream = stream ≡ metered.stream

pub to_meter : {S : Type 0} (saw : S → Event → S → Type 0) → Simulates saw (Sees saw) IsMetered
to_meter {S} saw a b event d seen is =
    (record { stream = a; reads = d.reads + read_by event; writes = d.writes + written_by event }, refl, (subst (λ (s : S). saw a event s) (sym is) seen, refl, refl))

pub from_meter : {S : Type 0} (saw : S → Event → S → Type 0) → Simulates (Sees saw) saw IsStream
from_meter {S} saw a b event d seen is = (a.stream, refl, subst (λ (s : S). saw a.stream event s) (sym is) seen.0)

-- the steps of the stream
pub streams : {S : Type 0} (saw : S → Event → S → Type 0) (old new : Metered S) (events : List Event) → Steps (Sees saw) old events new → Steps saw old.stream events new.stream
streams {S} saw old new events steps =
    let back = steps_back (Sees saw) saw IsStream (from_meter saw) old new new.stream events steps refl in
    subst (λ (s : S). Steps saw s events new.stream) back.1 back.2
