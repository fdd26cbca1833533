use Rattle.std.proofs.Common.{length}
use Rattle.std.proofs.lemmas.List.Elements.{All-rest}
use Rattle.httparse.specs.Spans.{IsHeaderWithin}
use Rattle.http_wire.proofs.fields.FieldsIterator.next.Goals as goal

pub invariant_of-self : goal.invariant_of-self
invariant_of-self c =
    let at = c.self.inside in
    All-rest (IsHeaderWithin (length at.text.now)) c.in_ok-first.first.now c.in_ok-first.others.now at.fields.now c.in_ok-first.ensures.cases.0 c.self.invariant
