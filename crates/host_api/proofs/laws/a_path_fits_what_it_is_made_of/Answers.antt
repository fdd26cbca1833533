use Rattle.host_api.proofs.Fitting.{fit_is_fits}
use Rattle.host_api.proofs.laws.a_path_fits_what_it_is_made_of.Goals as goal

pub returns : goal.returns
returns c = fit_is_fits
