-- The paths under which peers ask each other for chunks.
use Rattle.std.specs.Prelude.{◌≡◌, ℕ, List, ◌++◌, Ok, codes}
use Rattle.hex.specs.Hex.{decode_sized, encode_lower}
use Rattle.host_names.specs.declared.digests.Digest.{Digest}
use Rattle.host_names.specs.Hex.{IsDigestText}

-- what each such path begins with
abbrev pub path_start : List ℕ
path_start = codes "/_groupcache/chunks/"

-- the path of a chunk: its name has 40 digits in lower case
abbrev pub chunk_path : Digest → List ℕ
chunk_path key = path_start ++ encode_lower key.0

-- the path is one of that chunk: its name has 40 digits of either case
pub record IsPathOf (path : List ℕ) (key : Digest) : Type 0 where
  pub digits : List ℕ
  pub path_is : path ≡ path_start ++ digits
  pub forty : IsDigestText digits
  pub value : decode_sized digits 20 ≡ Ok key.0
