-- What is known once a file is added.
use Rattle.std.proofs.Common.{◌≡◌, ◌∙◌, inl, inr, ℕ, true, List, Option, Some, None, cond, is_some, IsSome, ap, refl, subst, sym}
use Rattle.std.specs.FinMap as map
use Rattle.std.specs.FinMap.{get-empty}
use Rattle.std.specs.Ordering.{eq_by_cmp}
use Rattle.std.proofs.lemmas.Cmp.{eq_by_cmp_equiv}
use Rattle.host_names.specs.Digests.{digest_cmp, digest_cmp_total, digest_of}
use Rattle.byte_view.specs.Contents.{AreDigested, Contents, with_file}
use Rattle.growing.specs.Orders.{IsLaterOf, IsNewer}
use Rattle.site_change.specs.Changes.{IsWithin}
use Rattle.site_change.proofs.MoreUploads.{kept-with_file}

-- under a digest that wasn't known
there_then : (files : Contents) (bytes : List ℕ) → map.get files (digest_of bytes) ≡ None → map.get (with_file files bytes) (digest_of bytes) ≡ Some bytes
there_then files bytes none =
    let d = digest_of bytes in
    let tied = (eq_by_cmp_equiv digest_cmp_total).refl d in
    ap (λ (o : Option (List ℕ)). map.get (cond (is_some o) files (map.insert files d bytes)) d) none
    ∙ (map.get-insert digest_cmp_total files d bytes d ∙ ap (λ b. cond b (Some bytes) (map.get files d)) tied)

-- that is more than was known
pub one_file_more : (files : Contents) (bytes : List ℕ) → map.get files (digest_of bytes) ≡ None → IsNewer IsWithin files (with_file files bytes)
one_file_more files bytes none =
    (kept-with_file files bytes, λ back. absurd (cc (sym none ∙ back (digest_of bytes) bytes (there_then files bytes none))))

-- a file that was added is known
pub added_is_known : (files : Contents) (bytes : List ℕ) → IsSome (map.get (with_file files bytes) (digest_of bytes))
added_is_known files bytes =
    let d = digest_of bytes in
    elim (map.get files d) as (λ (o : Option (List ℕ)). map.get files d ≡ o → IsSome (map.get (with_file files bytes) d)) [
      | Some there ↦ λ is. ap is_some (kept-with_file files bytes d there is)
      | None ↦ λ is. ap is_some (there_then files bytes is)
    ] refl

-- the later of two that are under their own digests is, too
pub later_digested : (one other found : Contents) → AreDigested one → AreDigested other → IsLaterOf IsWithin one other found → AreDigested found
later_digested one other found mine theirs (inl (later, is)) = subst AreDigested (sym is) theirs
later_digested one other found mine theirs (inr (newer, is)) = subst AreDigested (sym is) mine

-- what holds no file is within any others
pub nothing_within : (none files : Contents) → none ≡ map.empty → IsWithin none files
nothing_within none files is digest bytes at =
    absurd (let no : None ≡ Some bytes = sym (get-empty {X = List ℕ} digest_cmp digest) ∙ ap (λ (m : Contents). map.get m digest) (sym is) ∙ at in cc)
