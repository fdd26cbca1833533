-- A host stays as it is kept: through undos and uploads.
use Rattle.std.proofs.Common.{◌≡◌, ℕ, List, Result, Ok, Err, OnOk, OnErr, sym, subst}
use Rattle.byte_view.specs.Contents.{Contents, with_file}
use Rattle.change_undo.specs.Histories.{Past}
use Rattle.site_change.proofs.MoreUploads.{kept-with_file}
use Rattle.change_undo.proofs.Sound.{over-grows}
use Rattle.host_server.specs.Hosts.{IsKept}

pub kept_by_undo : {A E : Type 0} (r : Result A E) (old new : Past) (uploads : Contents) → IsKept old uploads
    → OnOk r ((u : Contents) → IsKept old u → IsKept new u) → OnErr r (new ≡ old) → IsKept new uploads
kept_by_undo (Ok x) old new uploads kept stays err = stays uploads kept
kept_by_undo (Err e) old new uploads kept stays err = subst (λ past. IsKept past uploads) (sym err) kept

pub kept_by_upload : {A E : Type 0} (r : Result A E) (past : Past) (uploads more : Contents) (bytes : List ℕ) → IsKept past uploads
    → OnOk r (more ≡ with_file uploads bytes) → OnErr r (more ≡ uploads) → IsKept past more
kept_by_upload (Ok x) past uploads more bytes kept is err =
    subst (IsKept past) (sym is) (over-grows uploads (with_file uploads bytes) past (kept-with_file uploads bytes) kept)
kept_by_upload (Err e) past uploads more bytes kept is err = subst (IsKept past) (sym err) kept
