-- Requests that are taken from a stream and answered, one after another.
use Rattle.std.proofs.Common.{◌≡◌, ◌∙◌, ℕ, List, [], ◌∷◌, ◌++◌, Option, Some, None, ap, append_assoc, append-nil, subst, sym}
use Rattle.std.specs.Io.KnownBytes.{Appends, Consumes, Keeps, prepend_known}
use Rattle.std.specs.List.{flat_map}
use Rattle.std.proofs.KnownBytes.{Appends-nil, Appends-trans, Consumes-kept, Keeps-refl, Keeps-trans}
use Rattle.std.proofs.lemmas.List.Concat.{flat_map-append}
use Rattle.http_wire.specs.Requests.{RequestParts}
use Rattle.http_wire.specs.Wires.{ServesHead}
use Rattle.peer_link.specs.Answers.{Answers, AreAnswered, HasServed, Known, answer_text}

-- ---- a stream that is as it was

serves_after : (old mid new : Option (List ℕ)) (parts : RequestParts) → Keeps old mid → ServesHead mid new parts → ServesHead old new parts
serves_after None mid new parts keeps (text, taken, says) = (text, record { taken = tt; head = taken.head; short = taken.short }, says)
serves_after (Some xs) None new parts keeps serves = absurd keeps
serves_after (Some xs) (Some ys) new parts keeps serves = subst (λ (zs : List ℕ). ServesHead (Some zs) new parts) keeps serves

pub serves_before : (old mid new : Option (List ℕ)) (parts : RequestParts) → ServesHead old mid parts → Keeps mid new → ServesHead old new parts
serves_before old mid new parts (text, taken, says) keeps =
    (text, record { taken = Consumes-kept old mid new text taken.taken keeps; head = taken.head; short = taken.short }, says)

-- what came is behind what was there
pub came : (before got : List ℕ) (left new : Option (List ℕ)) → Consumes left new got → Keeps (prepend_known before left) (prepend_known (before ++ got) new)
came before got None new taken = tt
came before got (Some xs) None taken = absurd taken
came before got (Some xs) (Some ys) taken = append_assoc before got ys ∙ ap (λ u. before ++ u) (sym taken)

-- nothing came
pub unread : (before : List ℕ) (left new : Option (List ℕ)) → Consumes left new [] → Keeps (prepend_known before left) (prepend_known before new)
unread before left new taken =
    subst (λ (b : List ℕ). Keeps (prepend_known before left) (prepend_known b new)) (append-nil before) (came before [] left new taken)

-- ---- answers

answered_before : (old mid new : Option (List ℕ)) (answers : List (Option (List ℕ))) → AreAnswered old mid answers → Keeps mid new → AreAnswered old new answers
answered_before old mid new [] are keeps = Keeps-trans old mid new are keeps
answered_before old mid new (answer ∷ answers) are keeps = (are.0, are.1, are.2, are.3, answered_before are.0 mid new answers are.4 keeps)

answered_more : (old mid new : Option (List ℕ)) (answers : List (Option (List ℕ))) (answer : Option (List ℕ)) (parts : RequestParts) → AreAnswered old mid answers
    → ServesHead mid new parts → Answers parts answer → AreAnswered old new (answers ++ answer ∷ [])
answered_more old mid new [] answer parts are serves to = (new, parts, serves_after old mid new parts are serves, to, Keeps-refl new)
answered_more old mid new (one ∷ answers) answer parts are serves to =
    (are.0, are.1, are.2, are.3, answered_more are.0 mid new answers answer parts are.4 serves to)

pub none_served : (first : Known) → HasServed first first
none_served first = ([], Keeps-refl first.left, Appends-nil first.held)

pub served_before : (first mid now : Known) → HasServed first mid → Keeps mid.left now.left → Appends mid.held now.held [] → HasServed first now
served_before first mid now (answers, are, wrote) keeps kept =
    let text = flat_map answer_text answers in (
      answers,
      answered_before first.left mid.left now.left answers are keeps,
      subst (Appends first.held now.held) (append-nil text) (Appends-trans first.held mid.held now.held text [] wrote kept),
    )

pub one_served : (first mid now : Known) (answer : Option (List ℕ)) (parts : RequestParts) → HasServed first mid → ServesHead mid.left now.left parts → Answers parts answer
    → Appends mid.held now.held (answer_text answer) → HasServed first now
one_served first mid now answer parts (answers, are, wrote) serves to more =
    let before = flat_map answer_text answers in
    let same : before ++ answer_text answer ≡ flat_map answer_text (answers ++ answer ∷ []) =
    ap (λ u. before ++ u) (sym (append-nil (answer_text answer))) ∙ sym (flat_map-append answer_text answers (answer ∷ [])) in (
      answers ++ answer ∷ [],
      answered_more first.left mid.left now.left answers answer parts are serves to,
      subst (Appends first.held now.held) same (Appends-trans first.held mid.held now.held before (answer_text answer) wrote more),
    )
