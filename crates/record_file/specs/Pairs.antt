-- Two slots, of which at most one is read.
use Rattle.std.specs.Prelude.{◌≡◌, ◌⊎◌, ℕ, ◌+◌, ◌<◌, ⊤, Bool, true, false, not, cond, List, [], ◌∷◌, ◌++◌, length, Option, None, Some, MatchOption}
use Rattle.host_disk.specs.Crashes.{LeavesOnly, Only}
use Rattle.record_file.specs.declared.headers.Version.{Version}
use Rattle.record_file.specs.declared.headers.Version.TheVariants.{Old, Current}
use Rattle.record_file.specs.declared.leaders.Leader.{Leader}
use Rattle.record_file.specs.declared.leaders.Leader.TheVariants.{First, Second, Neither}
use Rattle.record_file.specs.declared.slots.Slots.{Slots}
use Rattle.record_file.specs.declared.surveys.Found.{Found}
use Rattle.record_file.specs.Frames.{Holds, IsShut, MayHold, opened}
use Rattle.record_file.specs.Openings.{IsExactly}
use Rattle.record_file.specs.Settled.{IsSettled}
use Rattle.record_file.specs.Slots.{AllStale, HasFront, IsBelow, IsForeign, IsHeader, IsInUse, IsShown, IsSurveyed, generation_of, header_of, new_header, old_header}
use Rattle.record_file.specs.Walks.{AreLawful, EndsAt, HasRecord, IsBadRecord, IsOnlyRead}

-- One of two files is read: it has a header of some generation, and the other isn't in use, or has a lesser one. P is so of that header and of it.
pub data Reads (P : List ℕ → List ℕ → Type 0) (one other : List ℕ) : Type 0 where
  first : (generation : ℕ) (header : List ℕ) → IsHeader header generation → P header one → IsBelow generation other → Reads P one other
  second : (generation : ℕ) (header : List ℕ) → IsHeader header generation → P header other → IsBelow generation one → Reads P one other

-- P is so of the file that is read; or none is read, and there are no bodies
pub data ReadsOrNone (P : List ℕ → List ℕ → Type 0) (bodies : List (List ℕ)) (one other : List ℕ) : Type 0 where
  read : Reads P one other → ReadsOrNone P bodies one other
  none : bodies ≡ [] → (IsInUse one → ⊥) → (IsInUse other → ⊥) → ReadsOrNone P bodies one other

-- two slots hold these bodies
abbrev pub HoldBoth : List (List ℕ) → List ℕ → List ℕ → Type 0
HoldBoth bodies one other = ReadsOrNone (λ header file. Holds header bodies file) bodies one other

-- two slots were found to hold these bodies, before the first gate that isn't open
abbrev pub FoundBoth : List (List ℕ) → List ℕ → List ℕ → Type 0
FoundBoth bodies one other = ReadsOrNone (λ header file. (gate : ℕ) × EndsAt header bodies gate file) bodies one other

-- and all of them are lawful in a file with the header that it has
abbrev pub FoundLawful : (List ℕ → List (List ℕ) → List ℕ → Type 0) → List (List ℕ) → List ℕ → List ℕ → Type 0
FoundLawful IsLawful bodies one other = ReadsOrNone (λ header file. AreLawful (IsLawful header) bodies × ((gate : ℕ) × EndsAt header bodies gate file)) bodies one other

-- these bodies are read, with a gate of 0 behind them
abbrev pub ReadsShut : List (List ℕ) → List ℕ → List ℕ → Type 0
ReadsShut bodies one other = Reads (λ header file. IsShut header bodies file) one other

-- one of two slots is in use without a header, or both are in use and have one generation: neither is a file to read
abbrev pub AreForeign : List ℕ → List ℕ → Type 0
AreForeign one other = IsForeign one ⊎ (IsForeign other ⊎ ((generation : ℕ) × IsShown generation one × IsShown generation other))

-- the record with this number of the file that is read is its first bad one
abbrev pub ReadsBad : (List ℕ → List (List ℕ) → List ℕ → Type 0) → ℕ → List ℕ → List ℕ → Type 0
ReadsBad IsLawful number one other = Reads (λ header file. IsBadRecord header (IsLawful header) number file) one other

-- two slots must not be opened
abbrev pub AreRefused : (List ℕ → List (List ℕ) → List ℕ → Type 0) → List ℕ → List ℕ → Type 0
AreRefused IsLawful one other = AreForeign one other ⊎ ((number : ℕ) × ReadsBad IsLawful number one other)

-- the file that is read is of version 1
abbrev pub ReadsOld : List ℕ → List ℕ → Type 0
ReadsOld one other = Reads (λ header file. (header ≡ old_header) × HasFront header file) one other

-- the file that is read has an open gate behind its header
abbrev pub ReadsRecord : List ℕ → List ℕ → Type 0
ReadsRecord one other = Reads (λ header file. HasRecord header file) one other

-- ---- what stops leave

-- which of two slots is read until another file is shown in the other one, and its generation; or neither
pub data Order : Type 0 where
  first : ℕ → Order
  second : ℕ → Order
  neither : Order

-- the file that is read until then is of version 1, whose generation is 0
abbrev pub IsOldOrder : Order → Type 0
IsOldOrder (first generation) = generation ≡ 0
IsOldOrder (second generation) = generation ≡ 0
IsOldOrder neither = ⊥

-- a file of this generation, while one more body is put behind these, or while it is opened
pub record MayLead (generation : ℕ) (bodies : List (List ℕ)) (body file : List ℕ) : Type 0 where
  pub header : List ℕ
  pub is_header : IsHeader header generation
  pub holds : MayHold header bodies body file

-- the slot beside it: it isn't read; or it has the file of the next generation, and is read
abbrev pub MayFollow : ℕ → List (List ℕ) → List ℕ → List ℕ → Type 0
MayFollow generation bodies body file = IsBelow generation file ⊎ MayLead (generation + 1) bodies body file

-- What stops may leave of the first of two slots while one more body is put behind these, or while both are opened. Whatever is left of it,
-- and whatever of the other one, the two give these bodies, or these and that one.
abbrev pub LeftOfFirst : Order → List (List ℕ) → List ℕ → List ℕ → Type 0
LeftOfFirst (first generation) bodies body file = MayLead generation bodies body file
LeftOfFirst (second generation) bodies body file = MayFollow generation bodies body file
LeftOfFirst neither bodies body file = (bodies ≡ []) × (IsInUse file → ⊥)

-- and of the second one
abbrev pub LeftOfSecond : Order → List (List ℕ) → List ℕ → List ℕ → Type 0
LeftOfSecond (first generation) bodies body file = MayFollow generation bodies body file
LeftOfSecond (second generation) bodies body file = MayLead generation bodies body file
LeftOfSecond neither bodies body file = MayFollow 0 bodies body file

-- one slot leaves only what its order allows, whatever stops there; and so does the other
pub record BothLeave {D : Type 0} (moment : D → ℕ) (left_since : D → ℕ → List ℕ → Type 0) (order : Order) (bodies : List (List ℕ)) (body : List ℕ) (first second new_first new_second : D) : Type 0 where
  pub one : LeavesOnly moment left_since first new_first (LeftOfFirst order bodies body)
  pub other : LeavesOnly moment left_since second new_second (LeftOfSecond order bodies body)

-- nothing was written to either of two slots
pub record BothOnlyRead {D : Type 0} (seen : D → List ℕ) (may_leave : D → List ℕ → Type 0) (moment : D → ℕ) (left_since : D → ℕ → List ℕ → Type 0) (first second new_first new_second : D) : Type 0 where
  pub one : IsOnlyRead seen may_leave moment left_since first new_first
  pub other : IsOnlyRead seen may_leave moment left_since second new_second

-- ---- slots that are open

-- the slots in their order
abbrev pub first_of : {D : Type 0} → Slots D → D
first_of slots = cond slots.turned slots.other slots.records.disk

abbrev pub second_of : {D : Type 0} → Slots D → D
second_of slots = cond slots.turned slots.records.disk slots.other

-- their order, by whether the second one is read
abbrev pub order_of : Bool → Order
order_of turned = cond turned (second 1) (first 1)

-- Two slots are open: these bodies are read in one of them, and the other one isn't read, whatever its first byte becomes.
pub record ArePaired {D : Type 0} (may_leave : D → List ℕ → Type 0) (slots : Slots D) (bodies : List (List ℕ)) : Type 0 where
  pub settled : IsSettled new_header may_leave slots.records bodies
  pub stale : AllStale 1 (may_leave slots.other)

-- One slot has these bodies behind the header of version 2, then a gate of 0, and a crash leaves nothing else; the next record goes there.
-- Whatever a crash leaves of the other slot isn't read.
pub record IsMade (bodies : List (List ℕ)) (gate count : ℕ) (seen : List ℕ) (images beside : List ℕ → Type 0) : Type 0 where
  pub gate_is : gate ≡ length (opened new_header bodies)
  pub count_is : count ≡ length bodies
  pub exactly : IsExactly (opened new_header bodies ++ 0 ∷ []) seen images
  pub stale : AllStale 1 beside

-- two slots were opened: the bodies that were found, all of them lawful, were handed on, and one slot has them
pub record HasOpened (Has : List (List ℕ) → Type 0) (IsLawful : List ℕ → List (List ℕ) → List ℕ → Type 0) (gate count : ℕ) (one other seen : List ℕ) (images beside : List ℕ → Type 0) : Type 0 where
  pub bodies : List (List ℕ)
  pub has : Has bodies
  pub found : FoundLawful IsLawful bodies one other
  pub made : IsMade bodies gate count seen images beside

-- ---- what private functions say

-- which of two slots is read, by what was found of them: the one in use that has the greater generation
abbrev pub Leads : Leader → Option Version → Option Version → Type 0
Leads (First version) one other = (one ≡ Some version) × MatchOption other ⊤ (λ v. generation_of v < generation_of version)
Leads (Second version) one other = (other ≡ Some version) × MatchOption one ⊤ (λ v. generation_of v < generation_of version)
Leads Neither one other = (one ≡ None) × (other ≡ None)

-- whether a file of this version is brought over into the other slot
abbrev pub is_moved : Version → Bool
is_moved Old = true
is_moved Current = false

-- whether the second slot is read once both are open
abbrev pub is_turned : Leader → Bool
is_turned (First version) = is_moved version
is_turned (Second version) = not (is_moved version)
is_turned Neither = true

-- What a crash may leave beside a slot of this version while both are opened: what was there; or, of what wasn't in use, what isn't either; or,
-- there, a file that is brought over.
pub data IsBeside (version : Version) (IsBrought : List ℕ → Type 0) (old file : List ℕ) : Type 0 where
  kept : file ≡ old → IsBeside version IsBrought old file
  unused : (IsInUse old → ⊥) → (IsInUse file → ⊥) → IsBeside version IsBrought old file
  brought : (IsInUse old → ⊥) → version ≡ Old → IsBrought file → IsBeside version IsBrought old file

-- both slots were synced and surveyed: one has a file of this version, and the other isn't read beside it
pub record IsReady {D : Type 0} (seen : D → List ℕ) (may_leave : D → List ℕ → Type 0) (version : Version) (size : ℕ) (found : Found) (read beside : D) : Type 0 where
  pub size_is : size ≡ length (seen read)
  pub front : HasFront (header_of version) (seen read)
  pub only : Only (seen read) (may_leave read)
  pub surveyed : IsSurveyed found.size found.version (seen beside)
  pub only_beside : Only (seen beside) (may_leave beside)
  pub below : IsBelow (generation_of version) (seen beside)

-- the records of a file end there: so many bodies before a gate, which isn't open
pub record IsEnd (header : List ℕ) (bodies : List (List ℕ)) (at count gate : ℕ) (file : List ℕ) : Type 0 where
  pub at_is : at ≡ length (opened header bodies)
  pub count_is : count ≡ length bodies
  pub ends : EndsAt header bodies gate file

-- a file must not be opened: it has a bad record
abbrev pub IsBadFile : List ℕ → (List (List ℕ) → List ℕ → Type 0) → List ℕ → Type 0
IsBadFile header IsLawful file = (number : ℕ) × IsBadRecord header IsLawful number file

-- both slots were synced, and this was found of them
pub record AreSurveyed {D : Type 0} (seen : D → List ℕ) (may_leave : D → List ℕ → Type 0) (one other : Found) (first second : D) : Type 0 where
  pub one_is : IsSurveyed one.size one.version (seen first)
  pub other_is : IsSurveyed other.size other.version (seen second)
  pub one_only : Only (seen first) (may_leave first)
  pub other_only : Only (seen second) (may_leave second)
