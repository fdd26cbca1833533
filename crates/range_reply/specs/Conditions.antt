-- What an If-Range field says of a file (RFC 9110, section 13.1.5).
use Rattle.std.specs.Prelude.{ℕ, Bool, true, false, List, [], ◌∷◌, ◌++◌, codes, if◌then◌else◌}
use Rattle.std.specs.Str.{bytes_eq}
use Rattle.hex.specs.Hex.{encode_lower}
use Rattle.host_names.specs.declared.digests.Digest.{Digest}
use Rattle.range_reply.specs.declared.conditions.IfRange.{IfRange}
use Rattle.range_reply.specs.declared.conditions.IfRange.TheVariants.{Absent, True, False}

-- the strong entity tag of the file with this digest: its digits in quotes (section 8.8.3)
abbrev pub strong_tag : Digest → List ℕ
strong_tag digest = codes "\"" ++ (encode_lower digest.0 ++ codes "\"")

-- the values of all If-Range fields of a request allow a range of the file: there is no value, or there is one and it is exactly
-- the strong tag; a weak tag, a date, any other text and several fields don't
abbrev pub allows_range : Digest → List (List ℕ) → Bool
allows_range digest [] = true
allows_range digest (value ∷ []) = bytes_eq value (strong_tag digest)
allows_range digest (value ∷ other ∷ more) = false

-- these values as the code keeps them: no value, one that is exactly the strong tag, or anything else
abbrev pub condition_of : Digest → List (List ℕ) → IfRange
condition_of digest [] = Absent
condition_of digest (value ∷ []) = if bytes_eq value (strong_tag digest) then True else False
condition_of digest (value ∷ other ∷ more) = False
