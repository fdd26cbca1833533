use Rattle.world_desk.proofs.Undoing.{free_of_reasons, is_refused, leaves_out, no_reason, undoes_or_refuses}
use Rattle.world_desk.proofs.laws.an_undo_leaves_its_change_out.Goals as goal

pub returns : goal.returns
returns c =
    let allowed = c.an_allowed_undo_leaves_a_legal_history.ensures in
    record {
      undone = λ desk site k lawful published free. leaves_out allowed desk site k lawful published free;
      refused = λ desk site k lawful published not_free. is_refused desk site k published not_free;
      free = λ desk site k lawful. (no_reason desk site k lawful, free_of_reasons desk site k);
      every = λ desk site k lawful. undoes_or_refuses allowed desk site k lawful;
    }
