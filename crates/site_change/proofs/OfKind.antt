-- What follows of a decision, of the kinds of what it writes and of what aliases name.
use Rattle.std.proofs.Common.{ℕ, inl, inr, IsTrue, List, [], ◌∷◌, Result, Ok, Err, IfOk, OnOk, sym, ap, ◌∙◌}
use Rattle.std.specs.List.{AllByRecursion}
use Rattle.std.proofs.lemmas.List.Elements.{All-from_recursion}
use Rattle.byte_view.specs.Contents.{Contents}
use Rattle.host_names.specs.declared.cells.Cell.{Cell}
use Rattle.site_state.specs.Changes.{AreOfKindOn}
use Rattle.site_state.specs.declared.changes.Side.TheVariants.{Before, After}
use Rattle.site_state.specs.States.{State, AreOfKind, may_stand}
use Rattle.site_change.specs.declared.commands.Command.{Command}
use Rattle.site_change.specs.declared.refusals.ChangeError.{ChangeError}
use Rattle.site_state.specs.declared.changes.Change.{Change}
use Rattle.site_change.specs.declared.plans.Plan.{Plan}
use Rattle.site_change.specs.Decisions.{IsDecision}
use Rattle.site_change.specs.Changes.{refusal, site_of_command, touches, applied}
use Rattle.site_change.specs.Plans.{IsChange, IsDifference}
use Rattle.site_state.specs.Named.{AliasesNamed}
use Rattle.site_change.proofs.Named.{named_applied}
use Rattle.site_change.proofs.Fitting.{IsLeftOrFits}
use Rattle.site_change.proofs.CommandLaws.{command_laws}

change_fits : (state next : State) (change : Change) → IsLeftOrFits state next change.cell → IsChange state next change → IsTrue (may_stand change.cell change.after)
change_fits state next change (inl left) is = absurd (is.2 (is.0 ∙ sym left ∙ sym is.1))
change_fits state next change (inr of_kind) is = ap (may_stand change.cell) is.1 ∙ of_kind

changes_fit : (state next : State) → ((c : Cell) → IsLeftOrFits state next c) → (changes : List Change) → AllByRecursion (IsChange state next) changes → AllByRecursion (λ change. IsTrue (may_stand change.cell change.after)) changes
changes_fit state next each [] h = tt
changes_fit state next each (d ∷ changes) h = (change_fits state next d (each d.cell) h.0, changes_fit state next each changes h.1)

replaced_fit : (state next : State) → AreOfKind state → (changes : List Change) → AllByRecursion (IsChange state next) changes → AllByRecursion (λ change. IsTrue (may_stand change.cell change.before)) changes
replaced_fit state next kinds [] h = tt
replaced_fit state next kinds (d ∷ changes) h = (ap (may_stand d.cell) h.0.0 ∙ kinds d.cell, replaced_fit state next kinds changes h.1)

-- what follows of the definition's decision
module _ (command : Command) (n : ℕ) (state : State) (uploads : Contents) where
  abbrev pub IsDecided : Result Plan ChangeError → Type 0
  IsDecided = IsDecision (refusal command n state uploads) (site_of_command command) (touches command n state) state (applied command n state uploads)

  pub writes_of_kind : (changes : List Change) → IsDifference state (applied command n state uploads) changes → AreOfKindOn After changes
  writes_of_kind changes is =
      All-from_recursion (λ (change : Change). IsTrue (may_stand change.cell change.after)) changes
      (changes_fit state (applied command n state uploads) (command_laws command n state uploads).fits changes is.each)

  pub decided_of_kind : (result : Result Plan ChangeError) → IsDecided result → IfOk result (λ plan. AreOfKindOn After plan.changes.items)
  decided_of_kind (Ok plan) is = writes_of_kind plan.changes.items is.1
  decided_of_kind (Err e) is = tt

  pub decided_of_kind_before : AreOfKind state → (result : Result Plan ChangeError) → IsDecided result → IfOk result (λ plan. AreOfKindOn Before plan.changes.items)
  decided_of_kind_before kinds (Ok plan) is =
      All-from_recursion (λ (change : Change). IsTrue (may_stand change.cell change.before)) plan.changes.items
      (replaced_fit state (applied command n state uploads) kinds plan.changes.items is.1.each)
  decided_of_kind_before kinds (Err e) is = tt

  pub decided_named : AliasesNamed state → (result : Result Plan ChangeError) → IsDecided result → OnOk result (AliasesNamed (applied command n state uploads))
  decided_named named (Ok plan) is = named_applied command n state uploads named is.0
  decided_named named (Err e) is = tt
