-- What a shelf in a folder was called for, and what it has as long as its answers are true.
use Rattle.std.specs.Prelude.{ℕ, suc, List, [], ◌∷◌, Bool, true, false, ◌&&◌, if◌then◌else◌, Option, Some, None, Result, Ok, Err, option_map}
use Rattle.std.specs.Ordering.{eq_by_cmp}
use Rattle.std.specs.Str.{bytes_eq}
use Rattle.std.specs.declared.vec.Vec.{Vec}
use Rattle.host_names.specs.Digests.{digest_cmp}
use Rattle.blob_store.specs.declared.call_logs.CallLog.{CallLog, Empty, AfterPut', AfterGet'}
use Rattle.blob_store.specs.declared.shelves.ShelfName.{ShelfName}
use Rattle.blob_store.specs.declared.shelves.ShelfName.TheVariants.{Part, Table}
use Rattle.blob_store.specs.declared.shelves.ShelfFault.{ShelfFault}
use Rattle.blob_store.specs.declared.shelves.ShelfFault.TheVariants.{Device}
use Rattle.blob_store.specs.Calls.{Call, Put, PutFails, Got, GetFails}

-- a put with its outcome
abbrev pub put_call : ShelfName → List ℕ → Result (Unit {0}) ShelfFault → Call
put_call name bytes (Ok done) = Put name bytes
put_call name bytes (Err fault) = PutFails name bytes fault

-- a get with its answer
abbrev pub get_call : ShelfName → Result (Option (List ℕ)) ShelfFault → Call
get_call name (Ok answer) = Got name answer
get_call name (Err fault) = GetFails name fault

-- the bytes that an answer gives
abbrev pub answered : {A : Type 0} → Result (Option (Vec ℕ A)) ShelfFault → Result (Option (List ℕ)) ShelfFault
answered (Ok bytes) = Ok (option_map (λ b. b.items) bytes)
answered (Err fault) = Err fault

-- its calls, the last one first
abbrev pub calls_of : CallLog → List Call
calls_of Empty = []
calls_of (AfterPut' shape before name bytes outcome) = put_call name.value bytes.numbers outcome.value ∷ calls_of before
calls_of (AfterGet' shape before name outcome) = get_call name.value (answered outcome.value) ∷ calls_of before

-- at how many of them its device failed
abbrev pub failures_in : List Call → ℕ
failures_in [] = 0
failures_in (PutFails name bytes Device ∷ calls) = suc (failures_in calls)
failures_in (GetFails name Device ∷ calls) = suc (failures_in calls)
failures_in (call ∷ calls) = failures_in calls

-- ---- what it has as long as its answers are true

-- whether two names are one
abbrev pub is_name : ShelfName → ShelfName → Bool
is_name (Part digest) (Part other) = eq_by_cmp digest_cmp digest other
is_name (Table digest) (Table other) = eq_by_cmp digest_cmp digest other
is_name name other = false

-- what is under a name after these calls: the bytes that were put there last, or what was there at first. A put that failed after some calls
-- gave its name the bytes or not
abbrev pub there_after : (first : ShelfName → Option (List ℕ)) → (gave : List Call → Bool) → List Call → ShelfName → Option (List ℕ)
there_after first gave [] name = first name
there_after first gave (Put at bytes ∷ calls) name = if is_name at name then Some bytes else there_after first gave calls name
there_after first gave (PutFails at bytes fault ∷ calls) name = if gave calls && is_name at name then Some bytes else there_after first gave calls name
there_after first gave (call ∷ calls) name = there_after first gave calls name

-- whether two answers are one
abbrev pub is_answer : Option (List ℕ) → Option (List ℕ) → Bool
is_answer None None = true
is_answer (Some bytes) (Some other) = bytes_eq bytes other
is_answer answer other = false

-- whether each get that was answered was answered what was there
abbrev pub are_true : (first : ShelfName → Option (List ℕ)) → (gave : List Call → Bool) → List Call → Bool
are_true first gave [] = true
are_true first gave (Got name answer ∷ calls) = is_answer answer (there_after first gave calls name) && are_true first gave calls
are_true first gave (call ∷ calls) = are_true first gave calls
