use Rattle.std.proofs.Common.{◌≡◌, ◌∙◌, List, [], ◌∷◌, ◌++◌, Result, Ok, Err, true, ap, sym}
use Rattle.std.specs.Prelude.{MatchResult, OnOk, fold, is_ok}
use Rattle.left_right.specs.Handles.{pending, published}
use Rattle.change_log.specs.Logs.{Log}
use Rattle.shared_desk.proofs.showing.make_room.Goals as goal

where_ok : {X E : Type 0} (r : Result X E) (P : Type 0) (Q : E → Type 0) → is_ok r ≡ true → MatchResult r (λ _. P) Q → P
where_ok (Ok x) P Q ok is = is
where_ok (Err e) P Q ok is = absurd (cc ok)

-- once the one log that waited is published, it is shown
last_shown : {X E : Type 0} (r : Result X E) (old new last : Log) (waiting : List Log) (P Q : Type 0) → waiting ≡ last ∷ []
    → MatchResult r (λ _. (new ≡ fold (λ (before next : Log). next) old waiting) × P) (λ _. Q) → OnOk r (new ≡ last)
last_shown (Ok x) old new last waiting P Q is values = values.0 ∙ ap (fold (λ (before next : Log). next) old) is
last_shown (Err e) old new last waiting P Q is values = tt

pub returns-clause-shown : goal.returns-clause-shown
returns-clause-shown g c =
    let again : Log = c.in_ok-again.again in
    let ok : is_ok c.append.result ≡ true = sym c.map_err.ensures.variant ∙ ap is_ok c.in_ok-map_err.was in
    let appended = where_ok c.append.result (pending c.append.new.self ≡ pending c.args.shown.now ++ again ∷ []) _ ok c.append.ensures.pending in
    let waits = appended ∙ ap (λ (l : List Log). l ++ again ∷ []) c.requires.none ∙ ap (λ (l : Log). l ∷ []) c.in_ok-again.ensures in
    last_shown c.publish.result (published c.append.new.self) (published c.publish.new.self) c.args.last.now (pending c.append.new.self) _ _ waits c.publish.ensures.values
