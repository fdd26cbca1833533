use Rattle.std.proofs.Common.{◌≡◌, ◌⊎◌, ◌<◌, ℕ, length, take, slice_index}
use Rattle.host_disk.specs.Contents.{IsInside, IsOutside}
use Rattle.host_disk.proofs.contents.overwrite.Given as goal

abbrev pub invariant-loop-stretch : goal.invariant-loop-stretch
invariant-loop-stretch l =
    ((i : ℕ) → IsOutside l.stretches i → slice_index l.file i ≡ slice_index l.initial.file i)
    × ((i : ℕ) → i < length l.initial.file → IsInside (take l.stretch-index l.stretches) i → slice_index l.file i ≡ l.byte)
    × ((i : ℕ) → i < length l.initial.file → (slice_index l.file i ≡ l.byte) ⊎ (slice_index l.file i ≡ slice_index l.initial.file i))
