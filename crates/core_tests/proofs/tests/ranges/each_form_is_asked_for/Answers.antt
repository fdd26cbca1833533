use Rattle.std.proofs.Common.{Some, None, List, [], ◌∷◌, inl, refl, lit<, arith}
use Rattle.std.specs.Prelude.{codes}
use Rattle.std.proofs.lemmas.List.Elements.{All-from_recursion}
use Rattle.range_spec.specs.declared.grammar.Spec.{Spec}
use Rattle.range_spec.specs.declared.grammar.Spec.TheVariants.{From, Suffix}
use Rattle.range_spec.specs.Asks.{IsInOrder, IsPosition, IsElement}
use Rattle.core_tests.proofs.tests.ranges.each_form_is_asked_for.Goals as goal

from : IsElement (codes "20-") (From 20 None ∷ [])
from = ([], codes "20-", [], tt, (codes "20", record { numeral = (omega arith, (lit< tt, (lit< tt, tt))); value = refl }, refl), tt, refl)

zero : IsPosition (codes "0") 0
zero = record { numeral = (omega arith, (lit< tt, tt)); value = refl }

range : IsElement (codes " 0-0 ") (From 0 (Some 0) ∷ [])
range = (codes " ", codes "0-0", codes " ", (inl refl, tt), (codes "0", codes "0", zero, zero, refl), (inl refl, tt), refl)

suffix : IsElement (codes "-5") (Suffix 5 ∷ [])
suffix = ([], codes "-5", [], tt, (codes "5", record { numeral = (omega arith, (lit< tt, tt)); value = refl }, refl), tt, refl)

pub returns : goal.returns
returns c =
    let one : List Spec = From 20 None ∷ [] in
    let two : List Spec = From 0 (Some 0) ∷ [] in
    let three : List Spec = Suffix 5 ∷ [] in
    record {
      unit = codes "Bytes";
      elements = codes "20-" ∷ [] ∷ codes " 0-0 " ∷ codes "-5" ∷ [];
      parts = refl;
      bytes_unit = refl;
      asked = (one, From 0 (Some 0) ∷ three, from, ([], From 0 (Some 0) ∷ three, tt, (two, three, range, (three, [], suffix, refl, refl), refl), refl), refl);
      askable = record {
        some = omega arith;
        few = omega arith;
        in_order = All-from_recursion IsInOrder (From 20 None ∷ From 0 (Some 0) ∷ three) (tt, (omega arith, (tt, tt)));
      };
    }
