-- Which files were uploaded.
use Rattle.std.specs.Prelude.{◌≡◌, ℕ, List, Option, Some, None}
use Rattle.std.specs.FinMap as map
use Rattle.std.specs.List.{AllByRecursion}
use Rattle.host_names.specs.Digests.{digest_of}
use Rattle.byte_view.specs.Contents.{Contents}
use Rattle.host_names.specs.declared.cells.Cell.{Cell}
use Rattle.site_state.specs.Files.{Paths}
use Rattle.site_state.specs.States.{State}
use Rattle.site_state.specs.declared.values.Value.{Value}
use Rattle.site_state.specs.declared.values.Value.TheVariants as value

-- the file was uploaded: it is there under its own digest
abbrev pub IsUploaded : Contents → List ℕ → Type 0
IsUploaded uploads file = map.get uploads (digest_of file) ≡ Some file

-- each file of the tree was
abbrev pub IsUploadedTree : Contents → Paths (List ℕ) → Type 0
IsUploadedTree uploads tree = AllByRecursion (λ f. IsUploaded uploads f.1) tree

-- each file that is in the value was
abbrev pub HasUploaded : Contents → Value → Type 0
HasUploaded uploads (value.Live file) = IsUploaded uploads file
HasUploaded uploads (value.Kept tree) = IsUploadedTree uploads tree
HasUploaded uploads (value.Alias n) = Unit {0}
HasUploaded uploads (value.Draft draft) = Unit {0}

-- of a cell's content: it is nothing, or such a value
abbrev pub HoldsUploaded : Contents → Option Value → Type 0
HoldsUploaded uploads None = Unit {0}
HoldsUploaded uploads (Some v) = HasUploaded uploads v

-- each file that is served or kept was uploaded
abbrev pub AreUploaded : Contents → State → Type 0
AreUploaded uploads state = (c : Cell) → HoldsUploaded uploads (map.get state c)
