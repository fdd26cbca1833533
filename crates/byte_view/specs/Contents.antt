-- What has been uploaded.
use Rattle.std.specs.Prelude.{◌≡◌, ℕ, List, Some, if◌then◌else◌}
use Rattle.std.specs.FinMap.{FinMap, get, contains_key, insert}
use Rattle.sha1.specs.Sha1 as sha
use Rattle.host_names.specs.declared.digests.Digest.{Digest}
use Rattle.host_names.specs.Digests.{digest_cmp, digest_of}

-- the bytes of each file that was uploaded, under its digest
abbrev pub Contents : Type 0
Contents = FinMap digest_cmp (List ℕ)

-- each file is under its own digest
abbrev pub AreDigested : Contents → Type 0
AreDigested files = (digest : Digest) (bytes : List ℕ) → get files digest ≡ Some bytes → digest.0 ≡ sha.sha1 bytes

-- the files with one more; a digest that names a file already keeps that file
abbrev pub with_file : Contents → List ℕ → Contents
with_file files bytes = if contains_key files (digest_of bytes) then files else insert files (digest_of bytes) bytes
