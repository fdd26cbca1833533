use Rattle.std.proofs.Common.{Some, sym, ◌∙◌}
use Rattle.site_state.specs.declared.values.Value.TheVariants as value
use Rattle.site_change.proofs.Comparing.{changed_at, unchanged_at}
use Rattle.site_change.proofs.live.rewritten.Goals as goal

pub returns-then-is_file : goal.returns-then-is_file
returns-then-is_file c =
    unchanged_at c.args.entry.now.0 (Some c.args.entry.now.1) (Some (value.Live c.args.file.now)) c.requires (sym c.is_file.ensures ∙ c.if-is_file.true)

pub returns : goal.returns
returns c =
    changed_at c.args.entry.now.0 (Some c.args.entry.now.1) (Some (value.Live c.args.file.now)) _ c.requires (sym c.is_file.ensures ∙ c.if-is_file.false) c.in_ok-replaced.ensures
