use Rattle.std.proofs.Common.{rules, ◌≡◌, ◌∙◌, ℕ, ◌+◌, None, ap, arith, suc, sym}
use Rattle.std.specs.BTreeMap.{get}
use Rattle.host_names.specs.Digests.{digest_cmp}
use Rattle.change_undo.specs.Histories.{entry_at}
use Rattle.host_opening.specs.Needs.{more, need_at, need_up_to}
use Rattle.host_opening.proofs.Wanting.{need_none}
use Rattle.host_opening.proofs.wanted_files.needs_of.Goals as goal

pub loop-place-preserved : goal.loop-place-preserved
loop-place-preserved c = (
  omega (arith, c.loop-place.invariant.0),
  λ q.
      let log = c.args.log.now in
      let place = c.loop-place.place in
      let next : suc place ≡ place + 1 = omega arith in
      c.in_ok-add_entry.ensures q ∙ ap (more (need_at log (place + 1) (entry_at log (place + 1)) q)) (c.loop-place.invariant.1 q)
      ∙ ap (λ k. need_up_to log k q) next,
)

pub loop-place-init : goal.loop-place-init
loop-place-init c =
    let log = c.args.log.now in
    let at = c.base-place.ensures.base in (
      omega (arith, at),
      λ q.
          let empty : get digest_cmp c.new-needs.result q ≡ None = search rules in
          empty ∙ sym (ap (λ (n : ℕ). need_up_to log n q) at ∙ need_none log log.base q (omega arith)),
    )
