-- Paths that are none of a chunk.
use Rattle.std.proofs.Common.{List, ℕ, None}
use Rattle.host_names.specs.declared.digests.Digest.{Digest}
use Rattle.std.specs.Str.Pattern.{FindsTextPrefix}
use Rattle.peer_link.specs.Paths.{IsPathOf, path_start}

pub without_start : (path : List ℕ) (key : Digest) → FindsTextPrefix path_start path None → IsPathOf path key → ⊥
without_start path key lacks is = lacks is.digits is.path_is
