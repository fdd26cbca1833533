-- What is written into a state while an entry is appended.
use Rattle.std.specs.Prelude.{List}
use Rattle.site_state.specs.Changes.{AreOfKindOn, writes}
use Rattle.site_state.specs.Named.{AliasesNamed}
use Rattle.site_state.specs.States.{State, with_cells}
use Rattle.site_state.specs.declared.changes.Change.{Change}
use Rattle.site_state.specs.declared.changes.Side.{Side}

-- What the changes have on that side can be written into the state: each value is of its cell's kind, and each alias then names a kept
-- deploy.
pub record AreWritable (state : State) (side : Side) (changes : List Change) : Type 0 where
  pub of_kind : AreOfKindOn side changes
  pub named : AliasesNamed (with_cells state (writes side changes))
