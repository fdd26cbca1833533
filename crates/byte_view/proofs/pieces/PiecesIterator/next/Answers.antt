use Rattle.std.proofs.Common.{◌≡◌, ◌-◌, ◌<◌, ap, arith, length, map}
use Rattle.std.proofs.lemmas.List.Elements.{All-rest}
use Rattle.std.specs.Prelude.{slice_range}
use Rattle.byte_view.specs.Parts.{parts}
use Rattle.byte_view.proofs.pieces.PiecesIterator.next.Goals as goal

pub invariant_of-self : goal.invariant_of-self
invariant_of-self c =
    let from : 0 ≡ c.self.inside.from - 65536 = omega (arith, c.self.invariant.0) in
    let rest = map (λ chunk. chunk.value) c.in_ok-chunk.rest.now in (
      omega arith,
      rw (c.saturating_sub-self-inside.ensures, from)
          (All-rest (λ piece. 0 < length piece) (slice_range c.in_ok-chunk.chunk.now.value c.self.inside.from c.self.inside.to)
          (parts rest (c.self.inside.from - 65536) (c.self.inside.to - 65536)) _
          (ap (λ chunks. parts (map (λ chunk. chunk.value) chunks) c.self.inside.from c.self.inside.to) c.in_ok-chunk.ensures.cases.0)
          c.self.invariant.1),
    )
