use Rattle.std.proofs.Common.{sym, ap, [], ◌∙◌}
use Rattle.std.proofs.lemmas.Result.{IfOk-weaker}
use Rattle.change_log.specs.Founding.{all_once}
use Rattle.change_log.proofs.BaseNames.{base-from, fits-base, once-base}
use Rattle.change_log.proofs.founding.may_be_base.Goals as goal

pub returns-then-not-all_fit-clause-all : goal.returns-then-not-all_fit-clause-all
returns-then-not-all_fit-clause-all g c =
    λ is. let fit = fits-base (g.U.Uploads.contents c.args.uploads.now) c.args.base c.args.names.now is in cc (c.if-not-all_fit.true, c.all_fit.ensures, fit)

pub returns-clause-may : goal.returns-clause-may
returns-clause-may g c =
    let numbers = ap (all_once []) (c.as_slice.ensures.value ∙ c.in_ok-numbers.ensures) in
    IfOk-weaker c.all_once.result _ _
    (λ once is may.
    base-from (g.U.Uploads.contents c.args.uploads.now) c.args.base c.args.names.now c.are_lawful.ensures (cc (c.if-not-all_fit.false, c.all_fit.ensures))
    (sym numbers ∙ sym is ∙ may))
    c.all_once.ensures

pub returns-clause-all : goal.returns-clause-all
returns-clause-all g c =
    let numbers = ap (all_once []) (c.as_slice.ensures.value ∙ c.in_ok-numbers.ensures) in
    IfOk-weaker c.all_once.result _ _
    (λ once is may. is ∙ numbers ∙ once-base (g.U.Uploads.contents c.args.uploads.now) c.args.base c.args.names.now may) c.all_once.ensures
