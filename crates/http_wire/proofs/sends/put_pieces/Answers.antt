use Rattle.std.proofs.Common.{◌≡◌, ◌+◌, ◌∙◌, ◌++◌, take, drop, [], ◌∷◌, List, ℕ, Bor, Result, Ok, Err, rules, sym, ap, subst, append-nil}
use Rattle.std.specs.List.{flat_map}
use Rattle.std.proofs.lemmas.List.{take_all, take_more}
use Rattle.std.proofs.lemmas.List.Concat.{flat_map-append}
use Rattle.http_wire.specs.declared.halts.Halt.{Halt}
use Rattle.http_wire.specs.declared.sinks.WriteFailed.{WriteFailed}
use Rattle.http_wire.specs.Gathering.{Puts}
use Rattle.http_wire.specs.Timing.{NoRead, Ran}
use Rattle.http_wire.proofs.SentParts.{texts_split}
use Rattle.http_wire.proofs.Writes.{puts_cut, puts_none, puts_then}
use Rattle.http_wire.proofs.sends.put_pieces.Goals as goal

pub loop-piece-init : goal.loop-piece-init
loop-piece-init g c = puts_none g.D.Duplex.saw c.args.duplex.now c.args.out.now

pub returns-in_err-put-clause-ran : goal.returns-in_err-put-clause-ran
returns-in_err-put-clause-ran g c =
    let now : Bor (List ℕ) → List ℕ = λ p. p.now in
    let saw = g.D.Duplex.saw in
    let why = c.in_err-put.field-0.0 in
    let pieces = c.args.pieces.now in
    let i = c.loop-piece.piece-index in
    let start = c.args.out.now in
    let after = c.put.new.self in
    let new = c.put.new.duplex in
    let P : Result (Unit {0}) (Halt WriteFailed) → List ℕ → Type 0 = λ r t. Ran saw NoRead c.args.duplex.now new (Puts r t start after) in
    let is : c.from_residual.result ≡ Err why = search rules in
    let cut = puts_then saw c.args.duplex.now c.loop-piece.duplex new (Err why) (flat_map now (take i pieces)) _ start c.loop-piece.out after c.loop-piece.invariant c.in_err-put.ensures.ran in
    subst (λ r. P r (flat_map now pieces)) (sym is) (subst (P (Err why)) (sym (texts_split now pieces i _ c.loop-piece-test.true))
    (puts_cut saw c.args.duplex.now new why _ (flat_map now (drop (i + 1) pieces)) start after cut))

pub loop-piece-preserved : goal.loop-piece-preserved
loop-piece-preserved g c =
    let now : Bor (List ℕ) → List ℕ = λ p. p.now in
    let saw = g.D.Duplex.saw in
    let pieces = c.args.pieces.now in
    let i = c.loop-piece.piece-index in
    let start = c.args.out.now in
    let after = c.put.new.self in
    let new = c.put.new.duplex in
    let P : List ℕ → Type 0 = λ t. Ran saw NoRead c.args.duplex.now new (Puts (Ok tt) t start after) in
    subst P (sym (ap (flat_map now) (take_more pieces i _ c.loop-piece-test.true) ∙ flat_map-append now (take i pieces) (_ ∷ []) ∙ ap (λ u. flat_map now (take i pieces) ++ u) (append-nil _)))
    (puts_then saw c.args.duplex.now c.loop-piece.duplex new (Ok tt) (flat_map now (take i pieces)) _ start c.loop-piece.out after c.loop-piece.invariant c.in_ok-put.ensures.ran)

pub returns-clause-ran : goal.returns-clause-ran
returns-clause-ran g c =
    let now : Bor (List ℕ) → List ℕ = λ p. p.now in
    let pieces = c.args.pieces.now in
    subst (λ l. Ran g.D.Duplex.saw NoRead c.args.duplex.now c.loop-piece.duplex (Puts (Ok tt) (flat_map now l) c.args.out.now c.loop-piece.out))
    (take_all c.loop-piece.piece-index pieces c.loop-piece-test.false) c.loop-piece.invariant
