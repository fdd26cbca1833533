use Rattle.std.proofs.Common.{length, slice_range, subst, sym, []}
use Rattle.memchr.specs.Find.{IsFirstByte, is_byte}
use Rattle.http_wire.specs.Scanning.{ScansTo}
use Rattle.http_wire.proofs.LineEnds.{scans_all_text, scans_text}
use Rattle.http_wire.proofs.scans.after_text.Goals as goal

pub returns-in-Some : goal.returns-in-Some
returns-in-Some c =
    let bytes = c.args.bytes.now in
    subst (λ s. ScansTo s bytes s (slice_range bytes c.in-Some.end (length bytes))) (sym c.in-Text.is)
    (scans_text bytes c.in-Some.end (subst (IsFirstByte (is_byte 10) bytes) c.in-Some.is c.memchr.ensures))

pub returns-in-None : goal.returns-in-None
returns-in-None c =
    let bytes = c.args.bytes.now in
    subst (λ s. ScansTo s bytes s []) (sym c.in-Text.is)
    (scans_all_text bytes (subst (IsFirstByte (is_byte 10) bytes) c.in-None.is c.memchr.ensures))
