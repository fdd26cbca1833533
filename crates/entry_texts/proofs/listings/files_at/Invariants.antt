use Rattle.std.proofs.Common.{◌≡◌, ◌-◌, ◌<◌}
use Rattle.std.specs.Option.{IsSome}
use Rattle.entry_texts.specs.Reading.{path_at, files_at}
use Rattle.entry_texts.proofs.FileLoop.{with_front}
use Rattle.entry_texts.proofs.listings.files_at.Given as goal

abbrev pub invariant-loop : goal.invariant-loop
invariant-loop l =
    (with_front l.files.items (files_at (l.count - l.counter) l.rest) ≡ files_at l.count l.bytes)
    × ((l.counter ≡ 0 → l.rest ≡ l.bytes) × (0 < l.counter → IsSome (path_at l.bytes)))
