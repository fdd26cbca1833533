use Rattle.std.proofs.Common.{subst}
use Rattle.byte_view.specs.Contents.{AreDigested}
use Rattle.blob_store.specs.Files.{Store}
use Rattle.shared_desk.proofs.openings.open.Goals as goal

pub prepare-requires-clause-uploads : goal.prepare-requires-clause-uploads
prepare-requires-clause-uploads g c = (
  c.args.found.store.known,
  subst (λ (store : Store g.row.S.Denot). AreDigested store.known) c.into_parts-history.ensures.store c.uploads_are_digested.ensures,
  c.into_parts-history.ensures.over,
)
