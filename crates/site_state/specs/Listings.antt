-- What a deploy lists.
use Rattle.std.specs.Prelude.{Bool, ◌||◌, Option, is_some}
use Rattle.std.specs.List.{list_all}
use Rattle.host_names.specs.declared.digests.Digest.{Digest}
use Rattle.site_state.specs.Files.{Paths}

-- whether it is a patch, and at each path the digest of a file, or that there is to be none
abbrev pub Listed : Type 0
Listed = Bool × Paths (Option Digest)

-- files are removed by a patch alone
abbrev pub is_lawful : Bool → Paths (Option Digest) → Bool
is_lawful is_patch files = is_patch || list_all (λ f. is_some f.1) files
