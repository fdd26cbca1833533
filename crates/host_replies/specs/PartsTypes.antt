-- The type of several parts of a file.
use Rattle.std.specs.Prelude.{◌≡◌, ℕ, ◌<◌, List, ◌++◌, codes}
use Rattle.host_names.specs.declared.digests.Digest.{Digest}
use Rattle.range_reply.specs.Multipart.{candidate}

-- the type of parts with this boundary between them (RFC 9110, section 14.6)
abbrev pub parts_type : List ℕ → List ℕ
parts_type boundary = codes "multipart/byteranges; boundary=" ++ boundary

-- the text is one of the eight boundaries for ranges of the file with this digest
abbrev pub IsOfEight : Digest → List ℕ → Type 0
IsOfEight digest text = (number : ℕ) × (number < 8) × (text ≡ candidate digest number)
