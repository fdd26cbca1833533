-- Commands that are accepted in a row leave only files that were uploaded.
use Rattle.std.proofs.Common.{◌≡◌, ℕ, List, [], ◌∷◌, Option, Some, None, unwrap_or, sym, ap, subst}
use Rattle.std.specs.FinMap as map
use Rattle.byte_view.specs.Contents.{Contents, AreDigested}
use Rattle.host_names.specs.Cells.{cell_cmp}
use Rattle.site_state.specs.States.{State}
use Rattle.site_change.specs.declared.commands.Command.{Command}
use Rattle.site_change.specs.Changes.{refusal, applied, run_from}
use Rattle.site_change.specs.Uploaded.{HoldsUploaded, AreUploaded}
use Rattle.site_change.proofs.LeftOut.{accepted}
use Rattle.site_change.proofs.CommandLaws.{command_laws}

module _ (uploads : Contents) (digested : AreDigested uploads) where
  pub command_uploaded : (command : Command) (n : ℕ) (state : State) → AreUploaded uploads state → refusal command n state uploads ≡ None
      → AreUploaded uploads (applied command n state uploads)
  command_uploaded command n state = (command_laws command n state uploads).uploaded digested

  pub run_uploaded : (state : State) (commands : List (ℕ × Command)) (after : State) → AreUploaded uploads state → run_from uploads state commands ≡ Some after
      → AreUploaded uploads after
  run_uploaded state [] after all ran =
      subst (AreUploaded uploads) (ap (λ (o : Option State). unwrap_or o state) ran) all
  run_uploaded state (c ∷ commands) after all ran =
      let parts = accepted (refusal c.1 c.0 state uploads) _ after ran in
      run_uploaded (applied c.1 c.0 state uploads) commands after (command_uploaded c.1 c.0 state all parts.0) parts.1

-- nothing is in the empty state
pub none_uploaded : (uploads : Contents) → AreUploaded uploads map.empty
none_uploaded uploads c = subst (HoldsUploaded uploads) (sym (map.get-empty cell_cmp c)) tt
