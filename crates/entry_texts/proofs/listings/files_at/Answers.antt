use Rattle.std.proofs.Common.{◌≡◌, ◌-◌, ◌+◌, List, Err, refl, sym, ap, subst, ◌∙◌, arith}
use Rattle.std.proofs.lemmas.Result.{err_from_is_err_and}
use Rattle.entry_texts.specs.declared.decode_faults.DecodeFault.{DecodeFault}
use Rattle.entry_texts.specs.declared.decode_faults.DecodeFault.TheVariants as faults
use Rattle.entry_texts.specs.Reading.{files_at}
use Rattle.entry_texts.proofs.FileLoop.{with_front, goes_on, ends, is_done, listed_has_path, first_path, starts, err_is}
use Rattle.entry_texts.proofs.Listed.{Entry}
use Rattle.entry_texts.proofs.listings.files_at.Goals as goal

pub loop-init : goal.loop-init
loop-init c = (starts c.new-files.result.items c.args.count c.args.bytes.now c.new-files.ensures.items, ((λ none. refl), (λ some. absurd (omega (arith, some)))))

pub returns-in_err-file-clause-value : goal.returns-in_err-file-clause-value
returns-in_err-file-clause-value c =
    let p = err_from_is_err_and c.from_residual.result c.from_residual.ensures.1 in
    rw (p.1, p.2) (ends c.in_err-file.field-0.0 c.loop.files.items c.args.count c.loop.counter c.loop.rest.now (files_at c.args.count c.args.bytes.now) c.loop-test.true c.in_err-file.ensures.value c.loop.invariant.0)

pub returns-in_err-file-clause-memory : goal.returns-in_err-file-clause-memory
returns-in_err-file-clause-memory c = λ out.
    let p = err_from_is_err_and c.from_residual.result c.from_residual.ensures.1 in
    first_path c.args.bytes.now c.loop.rest.now c.loop.counter c.loop.invariant.1.0 c.loop.invariant.1.1 (c.in_err-file.ensures.memory (ap (λ (f : DecodeFault). Err f) (sym p.2 ∙ err_is c.from_residual.result p.0 faults.OutOfMemory p.1 out)))

pub returns-in_err-push-clause-memory : goal.returns-in_err-push-clause-memory
returns-in_err-push-clause-memory c = λ out.
    first_path c.args.bytes.now c.loop.rest.now c.loop.counter c.loop.invariant.1.0 c.loop.invariant.1.1 (listed_has_path c.loop.rest.now (c.in_ok-file.file, c.in_ok-file.after.now) c.in_ok-file.ensures.value)

pub loop-preserved : goal.loop-preserved
loop-preserved c =
    let more = goes_on c.loop.files.items c.args.count c.loop.counter c.loop.rest.now c.in_ok-file.file c.in_ok-file.after.now (files_at c.args.count c.args.bytes.now) c.loop-test.true c.in_ok-file.ensures.value c.loop.invariant.0 in
    let first = first_path c.args.bytes.now c.loop.rest.now c.loop.counter c.loop.invariant.1.0 c.loop.invariant.1.1 (listed_has_path c.loop.rest.now (c.in_ok-file.file, c.in_ok-file.after.now) c.in_ok-file.ensures.value) in
    (subst (λ (es : List Entry). with_front es (files_at (c.args.count - (c.loop.counter + 1)) c.in_ok-file.after.now) ≡ files_at c.args.count c.args.bytes.now) (sym c.in_ok-push.ensures.items) more, ((λ none. absurd (omega (arith, none))), (λ some. first)))

pub returns-clause-value : goal.returns-clause-value
returns-clause-value c = is_done c.loop.files.items c.args.count c.loop.counter c.loop.rest.now (files_at c.args.count c.args.bytes.now) c.loop-test.false c.loop.invariant.0
