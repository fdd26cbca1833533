-- Several ranges of a file in one body: `multipart/byteranges` (RFC 9110, section 14.6; RFC 2046, section 5.1.1).
use Rattle.std.specs.Prelude.{◌≡◌, ◌≤◌, ◌^◌, ℕ, List, ◌++◌, Option, MatchOption, codes, decimal}
use Rattle.hex.specs.Hex.{encode_lower}
use Rattle.host_names.specs.declared.digests.Digest.{Digest}
use Rattle.http_wire.specs.Replies.{range_text}
use Rattle.http_wire.specs.declared.replies.ContentRange.TheVariants.{Of}
use Rattle.range_reply.specs.declared.boundaries.Boundary.{Boundary}

-- the candidate with this number for the boundary of ranges of the file with this digest; those from 0 to 7 are tried
abbrev pub candidate : Digest → ℕ → List ℕ
candidate digest i = codes "fh" ++ (decimal i ++ (codes "-" ++ encode_lower digest.0))

-- the text of a boundary
abbrev pub text_of : Boundary → List ℕ
text_of boundary = candidate boundary.digest boundary.number

-- A part of a body sends the bytes of an interval of a file of this many bytes: the boundary's line, two fields, an empty line, the bytes,
-- and the end of a line, which belongs to the next boundary.
abbrev pub part_text : List ℕ → List ℕ → ℕ → (ℕ × ℕ) × List ℕ → List ℕ
part_text boundary content_type size (interval, bytes) =
    codes "--" ++ (boundary ++ (codes "\r\nContent-Type: " ++ (content_type ++ (codes "\r\nContent-Range: "
    ++ (range_text (Of interval.0 interval.1 size) ++ (codes "\r\n\r\n" ++ (bytes ++ codes "\r\n")))))))

-- the last boundary's line
abbrev pub last_line : List ℕ → List ℕ
last_line boundary = codes "--" ++ (boundary ++ codes "--\r\n")

-- a count, if a `u64` holds it
abbrev pub IsCount : Option ℕ → ℕ → Type 0
IsCount found count = MatchOption found (2 ^ 64 ≤ count) (λ sum. sum ≡ count)
