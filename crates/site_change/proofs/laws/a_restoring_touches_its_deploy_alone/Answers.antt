use Rattle.std.proofs.Common.{option_map, ap}
use Rattle.site_state.specs.declared.values.Draft.{Draft}
use Rattle.site_change.proofs.Touching.{by_restore, by_restored_draft, by_restored_patch, by_unknown_restore}
use Rattle.site_change.proofs.laws.a_restoring_touches_its_deploy_alone.Goals as goal

pub returns-clause-kept : goal.returns-clause-kept
returns-clause-kept c site m number state tree at = by_restore site m at number state tree

pub returns-clause-opened : goal.returns-clause-opened
returns-clause-opened c site m number state draft at none found = by_restored_draft site m at number state draft.files none (ap (option_map (λ (d : Draft). d.files)) found)

pub returns-clause-patched : goal.returns-clause-patched
returns-clause-patched c site m number state draft at none found = by_restored_patch site m at number state draft.files none (ap (option_map (λ (d : Draft). d.files)) found)

pub returns-clause-unknown : goal.returns-clause-unknown
returns-clause-unknown c site m number state at = by_unknown_restore site m at number state
