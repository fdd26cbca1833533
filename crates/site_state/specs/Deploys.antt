-- What a deploy lists at a path, and whether it waits for nothing more than its publishing.
use Rattle.std.specs.Prelude.{List, ℕ, Bool, false, ◌&&◌, Option, Some, None, is_none, option_map}
use Rattle.std.specs.Option.{option_flatten}
use Rattle.byte_view.specs.Contents.{Contents}
use Rattle.host_names.specs.Digests.{digest_of}
use Rattle.host_names.specs.declared.digests.Digest.{Digest}
use Rattle.site_state.specs.Files.{Paths, at_path}
use Rattle.site_state.specs.Missing.{least_missing_of}
use Rattle.site_state.specs.declared.values.Draft.{Draft}

-- the digest at the path, where the deploy is open or kept and lists a file there
abbrev pub listed_at : Option Draft → Option (Paths (List ℕ)) → List ℕ → Option (Option Digest)
listed_at (Some draft) tree path = Some (option_flatten (at_path draft.files.1 path))
listed_at None (Some tree) path = Some (option_map digest_of (at_path tree path))
listed_at None None path = None

-- such a deploy is open, is to publish itself, and nothing that it lists is missing
abbrev pub is_ready_draft : Contents → Option Draft → Bool
is_ready_draft uploads None = false
is_ready_draft uploads (Some draft) = draft.auto && is_none (least_missing_of uploads draft.files.1)
