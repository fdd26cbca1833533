use Rattle.std.proofs.Common.{ap}
use Rattle.host_names.specs.Digests.{digest_of}
use Rattle.site_change.proofs.Uploading.{one_file}
use Rattle.site_change.proofs.laws.uploaded_files_are_told_by_their_digests.Goals as goal

pub returns : goal.returns
returns c uploads a b at_a at_b = (one_file uploads a b at_a at_b, ap digest_of)
