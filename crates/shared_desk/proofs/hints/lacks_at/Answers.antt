use Rattle.std.proofs.Common.{◌≡◌, ◌∙◌, ◌<◌, Option, get_or, length, sym, subst}
use Rattle.host_names.specs.declared.digests.Digest.{Digest}
use Rattle.site_state.specs.Files.{Paths}
use Rattle.site_state.proofs.LackingDigests.{lacking_at}
use Rattle.shared_desk.proofs.hints.lacks_at.Goals as goal

pub returns-in-Some : goal.returns-in-Some
returns-in-Some g c = λ lacks.
    let contents = g.U.Uploads.contents c.args.uploads.now in
    let files : Paths (Option Digest) = c.args.draft.now.files.1 in
    let entry = c.in-Some.field-0.now in
    let found = c.in-Some.ensures.lookup in
    let same : c.entries.result.now ≡ files = c.entries.ensures.pairs in
    lacking_at contents files c.args.place entry
    (subst (λ (l : Paths (Option Digest)). c.args.place < length l) same found.3.0)
    (subst (λ (l : Paths (Option Digest)). entry ≡ get_or l c.args.place entry) same found.1)
    (sym c.is_missing.ensures ∙ lacks)
