use Rattle.std.proofs.Common.{ℕ, List, arith}
use Rattle.std.proofs.lemmas.Str.{IsUtf8-from_ascii}
use Rattle.std.specs.Prelude.{IsUtf8}
use Rattle.hex.proofs.HexLemmas.{IsAscii-encode_with, decode_sized-encode_lower}
use Rattle.hex.specs.Hex.{lower_digits}
use Rattle.host_names.proofs.HexText.{IsAscii-lower_digits}
use Rattle.host_names.proofs.digests.hex_digits.Goals as goal

pub returns-clause-ascii : goal.returns-clause-ascii
returns-clause-ascii c =
    let written = rw c.unwrap.ensures at c.encode_to_slice.ensures.written in
    let P : List ℕ → Type 0 = IsUtf8 in
    rw written (IsUtf8-from_ascii _ (IsAscii-encode_with lower_digits c.args.bytes.now IsAscii-lower_digits))

pub returns-clause-undone : goal.returns-clause-undone
returns-clause-undone c =
    let written = rw c.unwrap.ensures at c.encode_to_slice.ensures.written in
    rw written (decode_sized-encode_lower c.args.bytes.now 20 c.requires (λ i. omega (arith, c.type_inv.bytes i)))
