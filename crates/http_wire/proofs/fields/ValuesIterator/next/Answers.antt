use Rattle.std.proofs.Common.{◌∙◌, sym, ap, length, map}
use Rattle.std.proofs.lemmas.List.Elements.{All-rest}
use Rattle.httparse.specs.Spans.{header_bytes, IsHeaderWithin}
use Rattle.http_wire.specs.Fields.{values_of}
use Rattle.http_wire.proofs.FieldLists.{other_name, values_of-other}
use Rattle.http_wire.proofs.fields.ValuesIterator.next.Goals as goal

pub invariant_of-self : goal.invariant_of-self
invariant_of-self c =
    let at = c.loop-first.self-inside in
    let split = c.in-Some.ensures.cases in
    All-rest (IsHeaderWithin (length at.text.now)) c.in-Some.first.now c.in-Some.others.now at.fields.now split.0 c.loop-first.invariant.0

pub loop-first-preserved : goal.loop-first-preserved
loop-first-preserved c =
    let at = c.loop-first.self-inside in
    let name = at.name.now in
    let first = c.in-Some.first.now in
    let others = c.in-Some.others.now in
    let split = c.in-Some.ensures.cases in
    let test = rw (c.of.ensures, c.as_bytes.ensures.value) at c.eq_ignore_ascii_case.ensures.test in
    let differs = other_name name (header_bytes at.text.now first) c.eq_ignore_ascii_case.result test c.if-eq_ignore_ascii_case.false in (
      All-rest (IsHeaderWithin (length at.text.now)) first others at.fields.now split.0 c.loop-first.invariant.0,
      sym (values_of-other name (header_bytes at.text.now first) (map (header_bytes at.text.now) others) differs)
          ∙ ap (λ fields. values_of name (map (header_bytes at.text.now) fields)) (sym split.0)
          ∙ c.loop-first.invariant.1,
    )
