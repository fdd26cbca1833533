use Rattle.std.proofs.Common.{[], inl, refl}
use Rattle.host_connection.proofs.steps.Connection.recall.Goals as goal

pub returns-then-self-ge-MOST_REQUESTS : goal.returns-then-self-ge-MOST_REQUESTS
returns-then-self-ge-MOST_REQUESTS g c = record {
  leads = λ start first so. so;
  led = ([], refl);
  advances = inl (refl, refl);
  asks = inl refl;
  none = refl;
  at_once = tt;
  grows = g.met.S.Service.stays c.args.service.now;
}

pub returns-in_default : goal.returns-in_default
returns-in_default g c = record {
  leads = λ start first so. so;
  led = ([], refl);
  advances = inl (refl, refl);
  asks = inl refl;
  none = refl;
  at_once = tt;
  grows = g.met.S.Service.stays c.args.service.now;
}
