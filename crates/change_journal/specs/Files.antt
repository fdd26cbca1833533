-- The file of a journal: a file of records with the header of version 2.
use Rattle.std.specs.Prelude.{ℕ, List}
use Rattle.record_file.specs.Frames as frames
use Rattle.record_file.specs.Slots.{new_header}

-- `FHJRNL`, the version and the generation
abbrev pub header : List ℕ
header = new_header

-- a file up to the gate that follows these bodies: the file's own gate is open, and so is each of theirs
abbrev pub opened : List (List ℕ) → List ℕ
opened bodies = frames.opened header bodies
