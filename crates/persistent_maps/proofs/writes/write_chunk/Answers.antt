use Rattle.std.proofs.Common.{◌≡◌, ◌++◌, OnOk, option_copied, ap, subst, sym, ◌∙◌}
use Rattle.shared_blocks.specs.Blocks.{joined}
use Rattle.persistent_maps.specs.Edits.{edited_by}
use Rattle.persistent_maps.proofs.Below.{Rise-below}
use Rattle.persistent_maps.proofs.Parts.{Rise}
use Rattle.persistent_maps.proofs.writes.write_chunk.Goals as goal

pub push_written-requires-clause-edits_rise : goal.push_written-requires-clause-edits_rise
push_written-requires-clause-edits_rise g c =
    subst (Rise g.K.Ord.cmp) (sym c.in_ok-own.ensures.taken) (Rise-below g.K.Ord.cmp (option_copied c.args.limit) c.args.edits.now.items c.requires.edits_rise)

pub returns-clause-pairs : goal.returns-clause-pairs
returns-clause-pairs g c =
    let cmp = g.K.Ord.cmp in
    subst (λ l. OnOk c.push_written.result (joined (joined c.push_written.new.rows.items) ≡ joined (joined c.args.rows.now.items) ++ l))
    (ap (λ l. edited_by cmp l c.in_ok-own.own.items) c.as_slice.ensures.pairs ∙ ap (edited_by cmp c.args.chunk.now) c.in_ok-own.ensures.taken)
    c.push_written.ensures.pairs
