use Rattle.std.proofs.Common.{◌≡◌, ◌++◌, codes, take}
use Rattle.std.specs.List.{flat_map}
use Rattle.hex.specs.Hex.{encode_lower}
use Rattle.std.specs.String.{string_bytes}
use Rattle.host_api.specs.Texts.{quoted}
use Rattle.host_api.proofs.digest_texts.push_others.Given as goal

abbrev pub invariant-loop-digest : goal.invariant-loop-digest
invariant-loop-digest l =
    string_bytes l.text ≡ string_bytes l.initial.text ++ flat_map (λ d. codes "," ++ quoted (encode_lower d.0)) (take l.digest-index l.digests)
