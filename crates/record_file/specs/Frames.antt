-- The text of a file of records, without a loop: a header, by which its kind is told, and records with bodies, each behind a gate.
use Rattle.std.specs.Prelude.{◌≡◌, ◌⊎◌, ◌≤◌, ℕ, List, [], ◌∷◌, ◌++◌, length}
use Rattle.std.specs.Int.{w32, to_be_bytes}

-- a body behind its length in 4 bytes
unfoldable pub framed : List ℕ → List ℕ
framed body = to_be_bytes w32 (length body) ++ body

-- bodies in records with open gates
unfoldable pub records : List (List ℕ) → List ℕ
records [] = []
records (body ∷ bodies) = 1 ∷ (framed body ++ records bodies)

-- a file up to the gate that follows these bodies: the file's own gate is open, and so is each of theirs
unfoldable pub opened : List ℕ → List (List ℕ) → List ℕ
opened header bodies = 1 ∷ (header ++ records bodies)

-- the gate behind these bodies is shut by a 0, and any bytes stand behind it
pub record IsShut (header : List ℕ) (bodies : List (List ℕ)) (file : List ℕ) : Type 0 where
  pub rest : List ℕ
  pub is : file ≡ opened header bodies ++ 0 ∷ rest

-- The gate behind these bodies is neither shut by a 0 nor open, a whole record with one more body stands behind it, then a 0,
-- and then any bytes.
pub record IsHalfOpen (header : List ℕ) (bodies : List (List ℕ)) (body file : List ℕ) : Type 0 where
  pub gate : ℕ
  pub rest : List ℕ
  pub neither : 2 ≤ gate
  pub is : file ≡ opened header bodies ++ gate ∷ (framed body ++ 0 ∷ rest)

-- a file holds these bodies: they are behind open gates, and then comes a 0, or a gate that is neither with one whole record of any body and a
-- 0 behind it
pub data Holds (header : List ℕ) (bodies : List (List ℕ)) (file : List ℕ) : Type 0 where
  shut : IsShut header bodies file → Holds header bodies file
  half_open : (body : List ℕ) → IsHalfOpen header bodies body file → Holds header bodies file

-- While one more body is put behind these, a file holds these, with a 0 and any bytes behind them; or with that record whole behind a gate
-- that is neither 0 nor open; or it holds these and that one.
pub data MayHold (header : List ℕ) (bodies : List (List ℕ)) (body file : List ℕ) : Type 0 where
  before : IsShut header bodies file → MayHold header bodies body file
  between : IsHalfOpen header bodies body file → MayHold header bodies body file
  after : IsShut header (bodies ++ body ∷ []) file → MayHold header bodies body file

-- what a crash may have left has these bodies behind open gates, and then a 0
abbrev pub AllShut : List ℕ → (List ℕ → Type 0) → List (List ℕ) → Type 0
AllShut header images bodies = (c : List ℕ) → images c → IsShut header bodies c

-- what a step that a crash may cut short leaves of one of these images
abbrev pub MayLeave : (List ℕ → List ℕ → Type 0) → (List ℕ → Type 0) → List ℕ → Type 0
MayLeave step images c = images c ⊎ ((d : List ℕ) × images d × step d c)
