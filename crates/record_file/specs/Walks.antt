-- What a walk over a file of records finds, and which files are none.
use Rattle.std.specs.Prelude.{◌≡◌, ◌≢◌, ◌⊎◌, ◌+◌, ◌-◌, ◌^◌, ◌<◌, ◌≤◌, min, ℕ, List, [], ◌∷◌, ◌++◌, length, get_or, take, drop, Result, MatchResult}
use Rattle.host_disk.specs.Crashes.{LeavesOnly}
use Rattle.record_file.specs.declared.faults.OpenFault.{OpenFault}
use Rattle.record_file.specs.declared.faults.OpenFault.TheVariants.{Device}
use Rattle.record_file.specs.Frames.{framed, opened}

-- as of calls that write nothing, be they reads or syncs: the disk reads as before, and a crash leaves what it might have left before them
pub record IsOnlyRead {D : Type 0} (seen : D → List ℕ) (may_leave : D → List ℕ → Type 0) (moment : D → ℕ) (left_since : D → ℕ → List ℕ → Type 0) (old new : D) : Type 0 where
  pub same : seen new ≡ seen old
  pub crash : (c : List ℕ) → may_leave new c → may_leave old c
  pub time : LeavesOnly moment left_since old new (may_leave old)

-- the count of failed calls rises by one where a failure of the device is told, unless it is at the top of a u64; else it stays
abbrev pub TellsStop : OpenFault → ℕ → ℕ → Type 0
TellsStop fault old new = (fault ≡ Device → new ≡ min (old + 1) (2 ^ 64 - 1)) × ((fault ≡ Device → ⊥) → new ≡ old)

-- the same, and it stays at Ok
abbrev pub TellsDevice : {T : Type 0} → Result T OpenFault → ℕ → ℕ → Type 0
TellsDevice result old new = MatchResult result (λ _. new ≡ old) (λ fault. TellsStop fault old new)

-- of two disks the one count is told so, and the other stays
abbrev pub TellsEither : {T : Type 0} → Result T OpenFault → ℕ → ℕ → ℕ → ℕ → Type 0
TellsEither result one other new_one new_other = ((new_other ≡ other) × TellsDevice result one new_one) ⊎ ((new_one ≡ one) × TellsDevice result other new_other)

-- as long as a body may be
abbrev pub IsShort : List ℕ → Type 0
IsShort body = length body ≤ 10470070

-- a file whose header is there, with an open gate
pub record IsOpened (header file : List ℕ) : Type 0 where
  pub rest : List ℕ
  pub is : file ≡ opened header [] ++ rest

-- such a file, with an open gate behind its header: it has a record there, or is bad
pub record HasRecord (header file : List ℕ) : Type 0 where
  pub rest : List ℕ
  pub is : file ≡ opened header [] ++ 1 ∷ rest

-- These bytes begin with no whole record: its length, its body or the gate of the next one isn't there, or it is too long.
abbrev pub IsNotWhole : List ℕ → Type 0
IsNotWhole bytes = (body : List ℕ) (gate : ℕ) (rest : List ℕ) → bytes ≡ framed body ++ gate ∷ rest → IsShort body → ⊥

-- they begin with no whole record that has a lawful body
abbrev pub IsNoRecord : (List ℕ → Type 0) → List ℕ → Type 0
IsNoRecord IsLawful bytes = (body : List ℕ) (gate : ℕ) (rest : List ℕ) → bytes ≡ framed body ++ gate ∷ rest → IsShort body → IsLawful body → ⊥

-- a file has these bodies behind open gates, then a gate that isn't open, and any bytes
pub record EndsAt (header : List ℕ) (bodies : List (List ℕ)) (gate : ℕ) (file : List ℕ) : Type 0 where
  pub rest : List ℕ
  pub closed : gate ≢ 1
  pub is : file ≡ opened header bodies ++ gate ∷ rest

-- A file has these bodies behind open gates, then an open gate and no record whose body is lawful after them, or 1,000,000 bodies or more are
-- before that gate.
pub record BreaksAfter (header : List ℕ) (IsLawful : List (List ℕ) → List ℕ → Type 0) (bodies : List (List ℕ)) (file : List ℕ) : Type 0 where
  pub rest : List ℕ
  pub is : file ≡ opened header bodies ++ 1 ∷ rest
  pub broken : IsNoRecord (IsLawful bodies) rest ⊎ (1000000 ≤ length bodies)

-- bodies that a file may have: each is short, and lawful after those before it
abbrev pub AreLawful : (List (List ℕ) → List ℕ → Type 0) → List (List ℕ) → Type 0
AreLawful IsLawful bodies = (k : ℕ) (d : List ℕ) → k < length bodies → IsShort (get_or bodies k d) × IsLawful (take k bodies) (get_or bodies k d)

-- A walk has come to a gate: what is before it are the records of the bodies that were handed on.
pub record HasWalked (header : List ℕ) (Has : List (List ℕ) → Type 0) (IsLawful : List (List ℕ) → List ℕ → Type 0) (gate count : ℕ) (file : List ℕ) : Type 0 where
  pub taken : List (List ℕ)
  pub has : Has taken
  pub lawful : AreLawful IsLawful taken
  pub gate_is : gate ≡ length (opened header taken)
  pub count_is : count ≡ length taken
  pub is : file ≡ opened header taken ++ drop gate file

-- so many bodies were handed on
pub record HasCounted (Has : List (List ℕ) → Type 0) (count : ℕ) : Type 0 where
  pub taken : List (List ℕ)
  pub has : Has taken
  pub count_is : count ≡ length taken

-- where a walk ended: the gate there isn't open
pub record HasEnded (header : List ℕ) (Has : List (List ℕ) → Type 0) (IsLawful : List (List ℕ) → List ℕ → Type 0) (at count gate : ℕ) (file : List ℕ) : Type 0 where
  pub walked : HasWalked header Has IsLawful at count file
  pub closed : gate ≢ 1
  pub is : drop at file ≡ gate ∷ drop (at + 1) file

-- the record with this number, behind an open gate, is the first that is none, or is the 1,000,001st
pub record IsBadRecord (header : List ℕ) (IsLawful : List (List ℕ) → List ℕ → Type 0) (number : ℕ) (file : List ℕ) : Type 0 where
  pub bodies : List (List ℕ)
  pub number_is : number ≡ length bodies + 1
  pub few : length bodies ≤ 1000000
  pub lawful : AreLawful IsLawful bodies
  pub breaks : BreaksAfter header IsLawful bodies file
