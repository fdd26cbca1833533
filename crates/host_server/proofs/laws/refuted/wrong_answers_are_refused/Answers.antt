use Rattle.std.proofs.Common.{◌≡◌, inl, inr, ℕ, List, [], ◌∷◌, Bool, true, false, refl, sym, ◌∙◌, codes, arith}
use Rattle.std.specs.Str.{bytes_eq}
use Rattle.range_spec.specs.Understood.{IsUnderstoodAs}
use Rattle.range_spec.specs.declared.grammar.Asked.{Asked}
use Rattle.range_spec.specs.declared.grammar.Asked.TheVariants.{Ignore, Specs}
use Rattle.http_wire.specs.Fields.{values_of}
use Rattle.host_replies.specs.FileAsks.{AskedBy}
use Rattle.host_server.proofs.Refuted.{not_damaged, not_missing, not_uploaded, refusal_is}
use Rattle.host_server.proofs.laws.refuted.wrong_answers_are_refused.Goals as goal

pub returns-clause-missing : goal.returns-clause-missing
returns-clause-missing g c parts path file is = not_missing parts path file is

pub returns-clause-damaged : goal.returns-clause-damaged
returns-clause-damaged g c parts path file is = not_damaged parts path file is

one_answer : (text : List ℕ) (one another : Asked) → IsUnderstoodAs text one → IsUnderstoodAs text another → one ≡ another
one_answer text one (Specs specs) p q = (p specs).1 ((q specs).0 refl)
one_answer text (Specs specs) Ignore p q = sym ((q specs).1 ((p specs).0 refl))
one_answer text Ignore Ignore p q = refl

one_asked : (get : Bool) (values : List (List ℕ)) (one another : Asked) → AskedBy get values one → AskedBy get values another → one ≡ another
one_asked true (value ∷ []) one another p q = one_answer value one another p q
one_asked true (value ∷ other ∷ values) one another p q = p ∙ sym q
one_asked true [] one another p q = p ∙ sym q
one_asked false values one another p q = p ∙ sym q

pub returns-clause-range : goal.returns-clause-range
returns-clause-range g c parts one another p q = one_asked (bytes_eq parts.method (codes "GET")) (values_of (codes "range") parts.fields) one another p q

pub returns-clause-refused : goal.returns-clause-refused
returns-clause-refused g c old new parts body answer why asks is =
    (refusal_is g.S.Shelf.did g.S.Shelf.failures old new parts body answer why asks is).0

pub returns-clause-refusal : goal.returns-clause-refusal
returns-clause-refusal g c old new parts body answer why asks is =
    (refusal_is g.S.Shelf.did g.S.Shelf.failures old new parts body answer why asks is).1

pub returns-clause-stored : goal.returns-clause-stored
returns-clause-stored g c uploads old new bytes is = is.0

pub returns-clause-large : goal.returns-clause-large
returns-clause-large g c uploads old new bytes short is = let long = is.large.0 refl in omega (arith, long, short)

pub returns-clause-device : goal.returns-clause-device
returns-clause-device g c uploads old new bytes is = is.failed refl

pub returns-clause-upload : goal.returns-clause-upload
returns-clause-upload g c old new judged n bytes done long (inl (up, kept)) =
    not_uploaded g.S.Shelf.did old.house n bytes judged old.house.uploads old.files.shelf new.files.shelf done.published done.digest long up.stored up.told_is
returns-clause-upload g c old new judged n bytes done long (inr (inl (why, refused, is, kept))) = absurd (cc is)
returns-clause-upload g c old new judged n bytes done long (inr (inr (missed, alone, stops))) = let short = alone.stored.0 in omega (arith, long, short)
