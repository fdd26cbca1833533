use Rattle.std.proofs.Common.{sym, subst}
use Rattle.std.specs.List.Sorted.{IsStrictlySortedBy}
use Rattle.std.proofs.lemmas.Result.{IfOk-weaker}
use Rattle.host_names.specs.Digests.{digest_cmp}
use Rattle.core_tests.proofs.tests.stores.in_order.Goals as goal

pub returns : goal.returns
returns c =
    IfOk-weaker c.listed.result _ _ (λ order is. subst (IsStrictlySortedBy digest_cmp) (sym is) c.listed.ensures.rising) c.listed.ensures.wanted
