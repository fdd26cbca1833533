-- Which files of a deploy have not been uploaded.
use Rattle.std.specs.Prelude.{◌≡◌, ◌↔◌, ℕ, List, filter, filter_map, Bool, true, false, not, Option, Some, None, is_none, Contains, if◌then◌else◌}
use Rattle.std.specs.FinMap.{contains_key}
use Rattle.std.specs.List.{prefix_len, reduce}
use Rattle.std.specs.List.Sorted.{IsStrictlySortedBy}
use Rattle.std.specs.Ordering.{is_gt, ord_min}
use Rattle.byte_view.specs.Contents.{Contents}
use Rattle.host_names.specs.Digests.{digest_cmp}
use Rattle.host_names.specs.declared.digests.Digest.{Digest}
use Rattle.site_state.specs.Files.{Paths}

-- the digests that are listed
abbrev pub digests_of : Paths (Option Digest) → List Digest
digests_of files = filter_map (λ e. e.1) files

-- whether no file of the digest was uploaded
abbrev pub is_lacking : Contents → Digest → Bool
is_lacking contents digest = not (contains_key contents digest)

-- the digests that are listed and lacking, in their order, each once
pub record AreMissing (contents : Contents) (files : Paths (Option Digest)) (digests : List Digest) : Type 0 where
  pub rising : IsStrictlySortedBy digest_cmp digests
  pub exactly : (digest : Digest) → Contains digests digest ↔ (Contains (digests_of files) digest × (is_lacking contents digest ≡ true))

-- the least digest that is listed and lacking
abbrev pub least_missing_of : Contents → Paths (Option Digest) → Option Digest
least_missing_of contents files = reduce (ord_min digest_cmp) (filter (is_lacking contents) (digests_of files))

-- what the least of them is: one that is listed and lacking, and above no other such; none only where there is none
abbrev pub IsLeastMissing : Contents → Paths (Option Digest) → Option Digest → Type 0
IsLeastMissing contents files None = (digest : Digest) → Contains (digests_of files) digest → is_lacking contents digest ≡ true → ⊥
IsLeastMissing contents files (Some least) =
    Contains (digests_of files) least × (is_lacking contents least ≡ true)
    × ((digest : Digest) → Contains (digests_of files) digest → is_lacking contents digest ≡ true → is_gt (digest_cmp least digest) ≡ false)

-- ---- what private functions say, file by file

-- the digest that is listed, if it is lacking
abbrev pub if_lacking : Contents → Option Digest → Option Digest
if_lacking contents None = None
if_lacking contents (Some digest) = if is_lacking contents digest then Some digest else None

-- the lesser of two digests, where there are two
abbrev pub lesser : Option Digest → Option Digest → Option Digest
lesser None b = b
lesser (Some a) None = Some a
lesser (Some a) (Some b) = if is_gt (digest_cmp a b) then Some b else Some a

-- how many files are listed, from the first on, before one is lacking: its place, or the number of all where none is; a
-- removal lacks nothing
abbrev pub first_lacking_of : Contents → Paths (Option Digest) → ℕ
first_lacking_of contents files = prefix_len (λ f. is_none (if_lacking contents f.1)) files
