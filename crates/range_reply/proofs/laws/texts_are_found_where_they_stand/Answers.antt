use Rattle.std.proofs.Common.{◌≡◌, ◌+◌, ◌-◌, ◌∙◌, ap, arith, drop, length, sym, take}
use Rattle.byte_view.proofs.Occurrences.{from_place, place_of}
use Rattle.range_reply.proofs.laws.texts_are_found_where_they_stand.Goals as goal

pub returns : goal.returns
returns c = λ bytes text. (
  (λ o.
      let p = place_of bytes text o in
      let e : p.0 + length bytes - p.0 ≡ length bytes = omega arith in
      (p.0, p.1.fits, ap (λ n. take n (drop p.0 text)) e ∙ p.1.reads)),
  (λ p.
      let e : p.0 + length bytes - p.0 ≡ length bytes = omega arith in
      from_place bytes text p.0 (ap (λ n. take n (drop p.0 text)) (sym e) ∙ p.2)),
)
