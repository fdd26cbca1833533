use Rattle.std.proofs.Common.{List, subst, sym}
use Rattle.host_names.specs.declared.digests.Digest.{Digest}
use Rattle.site_state.specs.Missing.{AreMissing}
use Rattle.desk_seats.proofs.seated_desks.SeatedDeskDeskAccess.missing.Goals as goal

pub returns-clause-answer : goal.returns-clause-answer
returns-clause-answer g c =
    subst (λ (digests : List Digest). AreMissing c.missing.new.known c.args.files.now.1 digests) (sym c.from.ensures) c.in_ok-digests.ensures.lacking
