-- A file that was added to those that are known.
use Rattle.std.proofs.Common.{◌≡◌, ℕ, List, cond, Some, None, ap, ◌∙◌}
use Rattle.std.specs.FinMap.{get, insert, get-insert}
use Rattle.std.proofs.lemmas.Cmp.{eq_by_cmp_equiv}
use Rattle.host_names.specs.Digests.{digest_cmp_total, digest_of}
use Rattle.byte_view.specs.Contents.{Contents, with_file}

pub get_added : (files new : Contents) (text kept : List ℕ) → new ≡ with_file files text → kept ≡ text → get files (digest_of text) ≡ None → get new (digest_of text) ≡ Some kept
get_added files new text kept is same none =
    let d = digest_of text in
    let here : get (insert files d text) d ≡ Some text =
    get-insert digest_cmp_total files d text d ∙ ap (λ b. cond b (Some text) (get files d)) ((eq_by_cmp_equiv digest_cmp_total).refl d) in
    let there : get (with_file files text) d ≡ Some text = rw none here in
    rw (is, same) there
