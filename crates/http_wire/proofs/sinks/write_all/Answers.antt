use Rattle.std.proofs.Common.{◌≡◌, ◌-◌, arith, drop, length, slice_range, sym, ap, take, ◌∙◌}
use Rattle.std.proofs.lemmas.List.{length-drop, take-append-drop}
use Rattle.std.proofs.lemmas.Slice.{between_to_end}
use Rattle.std.proofs.KnownBytes.{Appends-kept}
use Rattle.http_wire.proofs.SentParts.{writes_further}
use Rattle.http_wire.proofs.sinks.write_all.Goals as goal

pub writes-preserved : goal.writes-preserved
writes-preserved g c =
    let bytes = c.args.bytes.now in
    let at = c.writes.at in
    let size : length (slice_range bytes at (length bytes)) ≡ length bytes - at =
    ap length (between_to_end bytes at (length bytes) (omega (arith, c.writes-test.true))) ∙ length-drop at bytes in (
      omega (arith, c.in-Ok.ensures.bound, size, c.writes-test.true),
      writes_further _ _ _ bytes at c.in-Ok.count c.writes.invariant.0 c.writes.invariant.1 c.in-Ok.ensures.bytes,
    )

pub returns-in_default-clause-cut : goal.returns-in_default-clause-cut
returns-in_default-clause-cut g c =
    let bytes = c.args.bytes.now in
    let at = c.writes.at in (
      take at bytes,
      drop at bytes,
      omega (arith, length-drop at bytes, c.writes-test.true),
      sym (take-append-drop at bytes),
      Appends-kept _ _ _ _ c.writes.invariant.1 c.in_default.ensures.bytes,
    )
