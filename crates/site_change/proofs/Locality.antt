-- All that a command reads or writes is what it touches.
use Rattle.std.proofs.Common.{◌≡◌, ℕ, true, false, not, Option, refl, sym, ap, ◌∙◌}
use Rattle.std.specs.FinMap as map
use Rattle.std.specs.Option.{option_eq}
use Rattle.byte_view.specs.Contents.{Contents}
use Rattle.host_names.specs.declared.cells.Cell.{Cell}
use Rattle.site_state.specs.States.{State}
use Rattle.site_state.specs.Values.{value_eq}
use Rattle.site_state.specs.SameValues.{option_eq-decides, value_eq-decides}
use Rattle.site_state.specs.declared.values.Value.{Value}
use Rattle.site_change.specs.declared.commands.Command.{Command}
use Rattle.site_change.specs.Changes.{touches, changes}
use Rattle.site_change.specs.Laws.{IsLocal}
use Rattle.site_change.proofs.CommandLaws.{command_laws}

pub same_value-itself : (v : Option Value) → option_eq value_eq v v ≡ true
same_value-itself v = (option_eq-decides {eq = value_eq} value_eq-decides v v).1 refl

pub same_value-same : (v w : Option Value) → option_eq value_eq v w ≡ true → v ≡ w
same_value-same v w e = (option_eq-decides {eq = value_eq} value_eq-decides v w).0 e

command_changes : (command : Command) (n : ℕ) (state : State) (uploads : Contents) (c : Cell) → changes command n state uploads c ≡ true → touches command n state c ≡ true
command_changes command n state uploads c changed =
    elim (touches command n state c) as (λ t. touches command n state c ≡ t → t ≡ true) [
      | true ↦ λ e. refl
      | false ↦ λ e.
          let stays = (command_laws command n state uploads).writes c e in
          let same : changes command n state uploads c ≡ false = rw stays (ap not (same_value-itself (map.get state c))) in
          cc (sym changed ∙ same)
    ] refl

pub is_local : (command : Command) (n : ℕ) (state : State) (uploads : Contents) → IsLocal command n state uploads
is_local command n state uploads = record {
  reads = (command_laws command n state uploads).reads;
  writes = (command_laws command n state uploads).writes;
  changed = command_changes command n state uploads;
}
