use Rattle.std.proofs.Common.{option_map, ap}
use Rattle.site_state.specs.declared.values.Draft.{Draft}
use Rattle.site_change.proofs.Touching.{by_publish, by_patch, by_unknown}
use Rattle.site_change.proofs.laws.a_publish_touches_its_deploy_alone.Goals as goal

pub returns-clause-opened : goal.returns-clause-opened
returns-clause-opened c site m number state draft at found = by_publish site m at number state draft.files (ap (option_map (λ (d : Draft). d.files)) found)

pub returns-clause-patched : goal.returns-clause-patched
returns-clause-patched c site m number state draft at found = by_patch site m at number state draft.files (ap (option_map (λ (d : Draft). d.files)) found)

pub returns-clause-unknown : goal.returns-clause-unknown
returns-clause-unknown c site m number state at = by_unknown site m at number state
