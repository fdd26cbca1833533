-- A slot: a disk that may have a file of records, beside another one.
use Rattle.std.specs.Prelude.{◌≡◌, ◌⊎◌, ℕ, ◌<◌, ◌≤◌, List, [], ◌∷◌, ◌++◌, length, Option, MatchOption}
use Rattle.record_file.specs.declared.headers.Version.{Version}
use Rattle.record_file.specs.declared.headers.Version.TheVariants.{Old, Current}
use Rattle.record_file.specs.Frames.{opened}

-- `FHJRNL` and the version: the header of a file of version 1, which is older than slots
abbrev pub old_header : List ℕ
old_header = 70 ∷ 72 ∷ 74 ∷ 82 ∷ 78 ∷ 76 ∷ 1 ∷ []

-- `FHJRNL`, the version, and the generation in 8 bytes, which is 1: the header of a file of version 2
abbrev pub new_header : List ℕ
new_header = 70 ∷ 72 ∷ 74 ∷ 82 ∷ 78 ∷ 76 ∷ 2 ∷ 0 ∷ 0 ∷ 0 ∷ 0 ∷ 0 ∷ 0 ∷ 0 ∷ 1 ∷ []

abbrev pub header_of : Version → List ℕ
header_of Old = old_header
header_of Current = new_header

abbrev pub generation_of : Version → ℕ
generation_of Old = 0
generation_of Current = 1

-- a header, and the generation of a file that has it, which is 0 where the header writes none
pub data IsHeader (header : List ℕ) (generation : ℕ) : Type 0 where
  version_1 : header ≡ old_header → generation ≡ 0 → IsHeader header generation
  version_2 : header ≡ new_header → generation ≡ 1 → IsHeader header generation

-- a file's own gate is open, this header stands behind it, and a gate behind that
pub record HasFront (header file : List ℕ) : Type 0 where
  pub gate : ℕ
  pub rest : List ℕ
  pub is : file ≡ opened header [] ++ gate ∷ rest

-- such a file, with the header of this generation
pub record IsShown (generation : ℕ) (file : List ℕ) : Type 0 where
  pub header : List ℕ
  pub is_header : IsHeader header generation
  pub front : HasFront header file

-- a slot is in use: it has at least two bytes, and the first is 1
pub record IsInUse (file : List ℕ) : Type 0 where
  pub second : ℕ
  pub rest : List ℕ
  pub is : file ≡ 1 ∷ (second ∷ rest)

-- one that is in use has no header of a file of records
pub record IsForeign (file : List ℕ) : Type 0 where
  pub used : IsInUse file
  pub none : (generation : ℕ) → IsShown generation file → ⊥

-- a slot isn't read beside one of this generation: it isn't in use, or has a lesser one
abbrev pub IsBelow : ℕ → List ℕ → Type 0
IsBelow generation file = (IsInUse file → ⊥) ⊎ ((less : ℕ) × (less < generation) × IsShown less file)

-- it isn't, whatever its first byte becomes
pub data IsStale (generation : ℕ) (file : List ℕ) : Type 0 where
  short : length file ≤ 1 → IsStale generation file
  older : (gate less : ℕ) (behind : List ℕ) → less < generation → IsShown less (1 ∷ behind) → file ≡ gate ∷ behind → IsStale generation file

-- whatever a crash leaves, it isn't
abbrev pub AllStale : ℕ → (List ℕ → Type 0) → Type 0
AllStale generation images = (c : List ℕ) → images c → IsStale generation c

-- a file whose first byte is 0
pub record IsClosed (file : List ℕ) : Type 0 where
  pub rest : List ℕ
  pub is : file ≡ 0 ∷ rest

-- whatever a crash leaves, the first byte is 0
abbrev pub AllClosed : (List ℕ → Type 0) → Type 0
AllClosed images = (c : List ℕ) → images c → IsClosed c

-- these bytes are there behind some gate, and nothing else
pub record HasGate (behind file : List ℕ) : Type 0 where
  pub gate : ℕ
  pub is : file ≡ gate ∷ behind

-- What a crash may leave while these bytes are written behind the gate of a slot: it wasn't read, and isn't; it is closed; or all of them are
-- there.
pub data IsWriting (generation : ℕ) (behind file : List ℕ) : Type 0 where
  still : IsStale generation file → IsWriting generation behind file
  closed : IsClosed file → IsWriting generation behind file
  whole : HasGate behind file → IsWriting generation behind file

-- what a crash may leave while this file is written into a slot that wasn't in use: it still isn't, or it has all of the file
abbrev pub IsReplacing : List ℕ → List ℕ → Type 0
IsReplacing filled file = (IsInUse file → ⊥) ⊎ (file ≡ filled)

-- a slot was found with so many bytes, and with a file of this version if it is in use
pub record IsSurveyed (size : ℕ) (version : Option Version) (file : List ℕ) : Type 0 where
  pub size_is : size ≡ length file
  pub use_is : MatchOption version (IsInUse file → ⊥) (λ v. HasFront (header_of v) file)
