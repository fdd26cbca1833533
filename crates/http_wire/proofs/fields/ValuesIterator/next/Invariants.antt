use Rattle.std.proofs.Common.{◌≡◌, map, length}
use Rattle.std.specs.Prelude.{All}
use Rattle.httparse.specs.Spans.{header_bytes, IsHeaderWithin}
use Rattle.http_wire.specs.Fields.{values_of}
use Rattle.http_wire.proofs.fields.ValuesIterator.next.Given as goal

abbrev pub invariant-loop-first : goal.invariant-loop-first
invariant-loop-first l = All (IsHeaderWithin (length l.self-inside.text.now)) l.self-inside.fields.now
    × (values_of l.self-inside.name.now (map (header_bytes l.self-inside.text.now) l.self-inside.fields.now) ≡ l.fn.self)

abbrev pub decreases-loop-first : goal.decreases-loop-first
decreases-loop-first l = length l.self-inside.fields.now
