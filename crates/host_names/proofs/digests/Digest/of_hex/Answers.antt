use Rattle.std.proofs.Common.{sym, ◌∙◌, refl}
use Rattle.hex.proofs.HexLemmas.{IsOk-decode_sized}
use Rattle.host_names.proofs.HexText.{decode_sized-again}
use Rattle.host_names.proofs.digests.Digest.of_hex.Goals as goal

pub returns-in-Ok-clause-lawful : goal.returns-in-Ok-clause-lawful
returns-in-Ok-clause-lawful c =
    let digits = IsOk-decode_sized c.args.text.now 20 in
    (λ _. digits.0 (rw (sym c.from_hex.ensures ∙ c.in-Ok.is) refl), λ _. refl)

pub returns-in-Ok-clause-undone : goal.returns-in-Ok-clause-undone
returns-in-Ok-clause-undone c = decode_sized-again _ 20 _ (sym c.from_hex.ensures ∙ c.in-Ok.is)

pub returns-in-Err-clause-lawful : goal.returns-in-Err-clause-lawful
returns-in-Err-clause-lawful c =
    let digits = IsOk-decode_sized c.args.text.now 20 in
    (λ h. cc h, λ h. rw (sym c.from_hex.ensures ∙ c.in-Err.is) at (digits.1 h))
