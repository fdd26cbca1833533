use Rattle.std.proofs.Common.{sym}
use Rattle.std.proofs.lemmas.Bool.{false≢true}
use Rattle.host_api.proofs.ListedFiles.{no_digest}
use Rattle.host_api.proofs.listings.digest_in.Goals as goal

pub returns-in-Err : goal.returns-in-Err
returns-in-Err c =
    sym (no_digest c.args.value.now c.in-String.text c.as_str.result.now c.in-String.is c.as_str.ensures.value
    (λ text. false≢true (c.in-Err.ensures.lawful.1 text)))
