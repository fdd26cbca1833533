use Rattle.std.proofs.Common.{◌≡◌, ℕ, [], true, refl, ap, subst, sym, ◌∙◌}
use Rattle.site_state.specs.States.{State}
use Rattle.change_log.specs.Bases.{IsBase, Names, resolved}
use Rattle.change_log.specs.Logs.{Log, with_only}
use Rattle.change_undo.specs.Histories.{base_state}
use Rattle.change_undo.specs.PlannedEntries.{PlannedLog, marked_log}
use Rattle.change_undo.specs.Past.{IsSound}
use Rattle.change_undo.proofs.Sound.{sound-base}
use Rattle.change_undo.proofs.histories.History.over.Goals as goal

pub invariant_of-result : goal.invariant_of-result
invariant_of-result g c =
    let uploads = g.U.Uploads.contents c.args.uploads.now in
    let log = c.args.log.now in
    let may : c.in_ok-may_be_base.field-0 ≡ true = cc c.if-not-branch.false in
    let named = subst (λ (names : Names). IsBase uploads c.base-base.result names) c.base_state.ensures (c.in_ok-may_be_base.ensures.may may) in
    let is_base = subst (λ (b : ℕ). IsBase uploads b log.names) c.base-base.ensures.base named in
    let P : PlannedLog → Type 0 = λ planned. IsSound c.args.limit planned c.in_ok-state.state in
    let Q : State → Type 0 = λ state. IsSound c.args.limit (marked_log c.in_ok-without_entries.field-0 []) state in
    let L : Log → Type 0 = λ l. IsSound c.args.limit (marked_log l []) (base_state uploads log) in
    subst P (sym c.new-records.ensures) (
    subst Q (sym (c.in_ok-state.ensures ∙ ap (resolved uploads) c.base_state-2.ensures)) (
    subst L (sym c.in_ok-without_entries.ensures) (
    sound-base c.args.limit uploads (with_only log []) c.requires.some c.requires.bounded c.requires.within refl is_base)))
