-- What the opening of a file of records finds and leaves.
use Rattle.std.specs.Prelude.{◌≡◌, ◌⊎◌, ℕ, List, ◌∷◌, ◌++◌, All}
use Rattle.host_disk.specs.Crashes.{Only}
use Rattle.record_file.specs.Walks.{IsShort}

-- the disk reads as this file, and a crash leaves nothing else
pub record IsExactly (file seen : List ℕ) (images : List ℕ → Type 0) : Type 0 where
  pub is : seen ≡ file
  pub only : Only file images

-- A write of the gate behind these bytes was cut short: it has any value, but one of 0 was not written. The same stands behind it.
pub record HasSomeGate (front : List ℕ) (gate : ℕ) (rest file : List ℕ) : Type 0 where
  pub some : ℕ
  pub shut : gate ≡ 0 → some ≡ 0
  pub is : file ≡ front ++ some ∷ rest

-- a gate of 0 behind these bytes, and any bytes behind it
pub record HasShut (front file : List ℕ) : Type 0 where
  pub rest : List ℕ
  pub is : file ≡ front ++ 0 ∷ rest

-- what a crash may leave while the gate behind these bytes is shut, and then what follows is cut
abbrev pub IsMending : List ℕ → ℕ → List ℕ → List ℕ → Type 0
IsMending front gate rest file = HasSomeGate front gate rest file ⊎ HasShut front file

-- bodies that are as short as those of records, and one more
pub record MayBePut (bodies : List (List ℕ)) (body : List ℕ) : Type 0 where
  pub all : All IsShort bodies
  pub short : IsShort body
