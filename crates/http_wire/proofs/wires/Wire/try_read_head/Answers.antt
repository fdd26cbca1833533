use Rattle.std.proofs.Common.{◌≡◌, ◌≤◌, List, ℕ, Result, Ok, Err, rules, length, take, drop, ◌∙◌, ap, sym, subst}
use Rattle.http_wire.specs.declared.faults.HeadFault.{HeadFault}
use Rattle.http_wire.specs.declared.faults.HeadFault.TheVariants as head_fault
use Rattle.http_wire.specs.declared.halts.Halt.{Halt}
use Rattle.http_wire.specs.declared.halts.Halt.TheVariants.{Failed}
use Rattle.http_wire.specs.Halting.{TriesHead, TriesToFind}
use Rattle.http_wire.specs.Requests.{RequestParts, Says, IsParsedAs}
use Rattle.http_wire.specs.Timing.{Ran}
use Rattle.http_wire.specs.Wires.{AwaitsHead, ReadsHead}
use Rattle.http_wire.proofs.HeadReads.{ran_as, head_tried, head_judged, head_without_memory}
use Rattle.http_wire.proofs.wires.Wire.try_read_head.Goals as goal

pub returns-in_err-count-clause-ran : goal.returns-in_err-count-clause-ran
returns-in_err-count-clause-ran g c =
    let why = c.in_err-count.field-0.0 in
    let old : List ℕ = c.args.self.now in
    let new : List ℕ = c.try_find_head.new.self in
    let P : Result RequestParts (Halt HeadFault) → Type 0 = λ r. Ran g.D.Duplex.saw (AwaitsHead old) c.args.duplex.now c.try_find_head.new.duplex (TriesHead r old new) in
    let is : c.from_residual.result ≡ Err why = search rules in
    subst P (sym is) (ran_as g.D.Duplex.saw (AwaitsHead old) c.args.duplex.now c.try_find_head.new.duplex (TriesToFind (Err why) old new) (TriesHead (Err why) old new)
    (head_tried why old new) c.in_err-count.ensures.ran)

pub returns-in_err-parsed-clause-ran : goal.returns-in_err-parsed-clause-ran
returns-in_err-parsed-clause-ran g c =
    let old : List ℕ = c.args.self.now in
    let new : List ℕ = c.try_find_head.new.self in
    let count = c.in_ok-count.count in
    let fits : length new ≤ 16384 = subst (λ (b : List ℕ). length b ≤ 16384) c.self.view_is c.as_slice.ensures.fits in
    let says = c.in_err-parsed.ensures.memory in
    let said : Says (take count new) says.0 = subst (λ (t : List ℕ). Says (take count t) says.0) (c.as_slice.ensures.value ∙ c.self.view_is) says.1 in
    let P : Result RequestParts (Halt HeadFault) → Type 0 = λ r. Ran g.D.Duplex.saw (AwaitsHead old) c.args.duplex.now c.try_find_head.new.duplex (TriesHead r old new) in
    let is : c.from_residual-in_err-parsed.result ≡ Err (Failed head_fault.OutOfMemory) = search rules in
    let R : List ℕ → Type 0 = λ b. Ran g.D.Duplex.saw (AwaitsHead old) c.args.duplex.now c.try_find_head.new.duplex (TriesHead c.from_residual-in_err-parsed.result old b) in
    subst R (sym c.self.view_is) (subst P (sym is) (ran_as g.D.Duplex.saw (AwaitsHead old) c.args.duplex.now c.try_find_head.new.duplex _ (ReadsHead (Err head_fault.OutOfMemory) old new)
    (λ events finds. head_without_memory says.0 count old new events finds fits said) c.in_ok-count.ensures.ran))

pub returns-in-Ok-clause-ran : goal.returns-in-Ok-clause-ran
returns-in-Ok-clause-ran g c =
    let old : List ℕ = c.args.self.now in
    let new : List ℕ = c.try_find_head.new.self in
    let count = c.in_ok-count.count in
    let parsed : Result RequestParts HeadFault = Ok c.in-Ok.head in
    let fits : length new ≤ 16384 = subst (λ (b : List ℕ). length b ≤ 16384) c.self.view_is c.as_slice.ensures.fits in
    let said : IsParsedAs parsed (take count new) = subst (λ (t : List ℕ). IsParsedAs parsed (take count t)) (c.as_slice.ensures.value ∙ c.self.view_is)
    (subst (λ (r : Result RequestParts HeadFault). IsParsedAs r (take count c.as_slice.result.now)) c.in-Ok.is c.in_ok-parsed.ensures.ok) in
    ran_as g.D.Duplex.saw (AwaitsHead old) c.args.duplex.now c.try_find_head.new.duplex _ _
    (λ events finds. subst (λ r. ReadsHead parsed old r events) (sym (c.skip.ensures ∙ ap (λ (b : List ℕ). drop count b) c.self.view_is)) (head_judged parsed count old new events finds fits said)) c.in_ok-count.ensures.ran

pub returns-in-Err-clause-ran : goal.returns-in-Err-clause-ran
returns-in-Err-clause-ran g c =
    let old : List ℕ = c.args.self.now in
    let new : List ℕ = c.try_find_head.new.self in
    let count = c.in_ok-count.count in
    let parsed : Result RequestParts HeadFault = Err c.in-Err.fault in
    let fits : length new ≤ 16384 = subst (λ (b : List ℕ). length b ≤ 16384) c.self.view_is c.as_slice.ensures.fits in
    let said : IsParsedAs parsed (take count new) = subst (λ (t : List ℕ). IsParsedAs parsed (take count t)) (c.as_slice.ensures.value ∙ c.self.view_is)
    (subst (λ (r : Result RequestParts HeadFault). IsParsedAs r (take count c.as_slice.result.now)) c.in-Err.is c.in_ok-parsed.ensures.ok) in
    ran_as g.D.Duplex.saw (AwaitsHead old) c.args.duplex.now c.try_find_head.new.duplex _ _
    (λ events finds. subst (λ r. ReadsHead parsed old r events) (sym (c.skip.ensures ∙ ap (λ (b : List ℕ). drop count b) c.self.view_is)) (head_judged parsed count old new events finds fits said)) c.in_ok-count.ensures.ran
