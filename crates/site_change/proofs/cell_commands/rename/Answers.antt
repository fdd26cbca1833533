use Rattle.std.proofs.Common.{Bor, ◌≡◌, false, Option, Some, None, is_some, option_copied, refl, sym, ◌∙◌}
use Rattle.site_change.proofs.Effects.{apart_paths}
use Rattle.site_change.proofs.cell_commands.rename.Goals as goal

copied_none : {T : Type 0} (r : Option (Bor T)) → is_some r ≡ false → option_copied r ≡ None
copied_none None e = refl
copied_none (Some x) e = cc e

pub change_paths-requires : goal.change_paths-requires
change_paths-requires c = record {
  apart = apart_paths c.args.site.now c.args.source.now c.args.target.now (sym c.eq.ensures ∙ c.if-eq.false);
  free = sym c.file-2.ensures ∙ copied_none c.file-2.result (sym c.is_some.ensures ∙ c.if-is_some.false);
}
