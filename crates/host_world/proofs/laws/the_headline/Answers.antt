use Rattle.std.proofs.Common.{◌∙◌, ap, subst, sym}
use Rattle.world_desk.specs.Desks.{DeskState}
use Rattle.world_desk.specs.Undoing.{IsUndoRefused, IsUndone, LeavesOut, after_undo}
use Rattle.world_desk.proofs.Undoing.{is_refused, leaves_out, undoes_or_refuses}
use Rattle.host_world.specs.Worlds.{WorldState}
use Rattle.host_world.proofs.laws.the_headline.Goals as goal

pub returns : goal.returns
returns c =
    let allowed = c.an_allowed_undo_leaves_a_legal_history.ensures in
    let stay = c.worlds_stay_lawful.ensures in
    record {
      undone = λ world new site k settled free is.
          subst (λ (w : WorldState). LeavesOut site k world.desk w.desk) (sym is) (leaves_out allowed world.desk site k (stay.lawful world settled.0) settled.1 free);
      refused = λ world new site k settled not_free is.
          let refused = is_refused world.desk site k settled.1 not_free in
          (subst (λ (w : WorldState). IsUndoRefused site k world.desk w.desk) (sym is) refused, is ∙ ap (λ (d : DeskState). record world { desk = d }) refused.same);
      reason = λ world new site k reason settled refused is.
          let lawful = stay.lawful world settled.0 in
          let same = subst (λ r. IsUndone r site k world.desk (after_undo world.desk site k)) refused (undoes_or_refuses allowed world.desk site k lawful settled.1) in
          is ∙ ap (λ (d : DeskState). record world { desk = d }) same;
      answered = stay.right;
      no_older = stay.lawful;
    }
