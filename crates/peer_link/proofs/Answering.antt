-- What is written where requests are answered one after another.
use Rattle.std.proofs.Common.{◌≡◌, ℕ, List, [], ◌∷◌, ◌++◌, Option, subst, append-nil, sym, ap, ◌∙◌}
use Rattle.std.specs.Io.KnownBytes.{Appends}
use Rattle.std.specs.List.{flat_map}
use Rattle.std.proofs.KnownBytes.{Appends-nil, Appends-trans}
use Rattle.std.proofs.lemmas.List.Concat.{flat_map-append}
use Rattle.peer_link.specs.Answers.{HasAnswered, answer_text}

pub none_answered : (held : Option (List ℕ)) → HasAnswered held held
none_answered held = ([], Appends-nil held)

pub read_after : (held mid new : Option (List ℕ)) → HasAnswered held mid → Appends mid new [] → HasAnswered held new
read_after held mid new (answers, wrote) kept =
    (answers, subst (Appends held new) (append-nil (flat_map answer_text answers)) (Appends-trans held mid new (flat_map answer_text answers) [] wrote kept))

pub one_answered : (held mid new : Option (List ℕ)) (answer : Option (List ℕ)) → HasAnswered held mid → Appends mid new (answer_text answer) → HasAnswered held new
one_answered held mid new answer (answers, wrote) more =
    let before = flat_map answer_text answers in
    let same : before ++ answer_text answer ≡ flat_map answer_text (answers ++ answer ∷ []) =
    ap (λ u. before ++ u) (sym (append-nil (answer_text answer))) ∙ sym (flat_map-append answer_text answers (answer ∷ [])) in
    (answers ++ answer ∷ [], subst (Appends held new) same (Appends-trans held mid new before (answer_text answer) wrote more))
