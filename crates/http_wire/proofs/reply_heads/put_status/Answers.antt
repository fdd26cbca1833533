use Rattle.std.proofs.Common.{◌≡◌, [], ◌++◌, ◌∙◌, List, ℕ, Bor, refl, rules, ap, subst, append-nil}
use Rattle.std.specs.Prelude.{codes}
use Rattle.httparse.specs.Ascii.{crlf_bytes}
use Rattle.http_wire.specs.Gathering.{Puts}
use Rattle.http_wire.specs.Timing.{NoRead, Ran}
use Rattle.http_wire.proofs.ReplyPieces.{ok_is, partial_is, phrase_is, status_is}
use Rattle.http_wire.proofs.reply_heads.put_status.Goals as goal

pub returns-in-200-clause-ran : goal.returns-in-200-clause-ran
returns-in-200-clause-ran g c =
    let is : c.args.status ≡ 200 = search rules in
    subst (λ (t : List ℕ). Ran g.D.Duplex.saw NoRead c.args.duplex.now c.put.new.duplex (Puts c.put.result t c.args.out.now c.put.new.self)) (ok_is c.args.status is) c.put.ensures.ran

pub returns-in-206-clause-ran : goal.returns-in-206-clause-ran
returns-in-206-clause-ran g c =
    let is : c.args.status ≡ 206 = search rules in
    subst (λ (t : List ℕ). Ran g.D.Duplex.saw NoRead c.args.duplex.now c.put-in-206.new.duplex (Puts c.put-in-206.result t c.args.out.now c.put-in-206.new.self)) (partial_is c.args.status is) c.put-in-206.ensures.ran

pub returns-clause-ran : goal.returns-clause-ran
returns-clause-ran g c =
    let now : Bor (List ℕ) → List ℕ = λ p. p.now in
    let phrase = c.as_bytes-2.ensures.value ∙ ap now c.unwrap_or-phrase.ensures ∙ phrase_is c.canonical_reason.result _ _ c.canonical_reason.ensures.value refl in
    let code : List ℕ = c.as_bytes.result.now in
    let said : List ℕ = c.as_bytes-2.result.now in
    let P : List ℕ → Type 0 = λ t. Ran g.D.Duplex.saw NoRead c.args.duplex.now c.put_pieces.new.duplex (Puts c.put_pieces.result t c.args.out.now c.put_pieces.new.out) in
    let ended : codes "HTTP/1.1 " ++ (code ++ (codes " " ++ (said ++ (crlf_bytes ++ [])))) ≡ codes "HTTP/1.1 " ++ (code ++ (codes " " ++ (said ++ crlf_bytes))) =
    ap (λ u. codes "HTTP/1.1 " ++ (code ++ (codes " " ++ (said ++ u)))) (append-nil crlf_bytes) in
    subst P (ended ∙ status_is c.args.status _ _ (c.as_bytes.ensures.value ∙ c.as_str-code.ensures) phrase) c.put_pieces.ensures.ran
