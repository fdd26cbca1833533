-- What a look-up in one of the two lists leaves.
use Rattle.std.proofs.Common.{◌≡◌, ℕ, List, Option, Some, None, is_some, Result, Ok, Err, IfOk, IfSome, OnErr, OnOk, option_map, sym, ap, subst, ◌∙◌}
use Rattle.std.specs.Prelude.{if◌then◌else◌}
use Rattle.host_names.specs.declared.digests.Digest.{Digest}
use Rattle.host_names.specs.Digests.{digest_of}
use Rattle.chunk_lru.specs.declared.caches.Which.TheVariants.{Main, Hot}
use Rattle.chunk_lru.specs.Caches.{Cache, together}
use Rattle.chunk_lru.specs.Recent.{HaveOwnNames, Recent, found, recent, size_of, to_front}
use Rattle.chunk_lru.specs.Rules.{chunks_in, looked_up, with_chunks}
use Rattle.chunk_lru.proofs.OwnNames.{own-to_front}
use Rattle.chunk_lru.proofs.Sizes.{found-name, looked-absent, size_of-to_front}

pub on_ok : {A E P Q : Type 0} (r : Result A E) → (P → Q) → OnOk r P → OnOk r Q
on_ok (Ok x) f p = f p
on_ok (Err e) f p = tt

pub on_err : {A E P Q : Type 0} (r : Result A E) → (P → Q) → OnErr r P → OnErr r Q
on_err (Ok x) f p = tt
on_err (Err e) f p = f p

-- whether it answers or not, a look-up keeps the room and what is counted
pub looked-keeps : {A E : Type 0} (r : Result A E) (name : Digest) (old new : Recent) → OnOk r (new ≡ recent (to_front name old.chunks) old.room) → OnErr r (new ≡ old) → (new.room ≡ old.room) × (size_of new.chunks ≡ size_of old.chunks)
looked-keeps (Ok x) name old new moved same = (ap (λ (l : Recent). l.room) moved, ap (λ (l : Recent). size_of l.chunks) moved ∙ size_of-to_front name old.chunks)
looked-keeps (Err e) name old new moved same = (ap (λ (l : Recent). l.room) same, ap (λ (l : Recent). size_of l.chunks) same)

-- nor does a name come twice into the list
pub looked-own : {A E : Type 0} (r : Result A E) (name : Digest) (old new : Recent) → OnOk r (new ≡ recent (to_front name old.chunks) old.room) → OnErr r (new ≡ old) → HaveOwnNames old.chunks → HaveOwnNames new.chunks
looked-own (Ok x) name old new moved same own = subst (λ (l : Recent). HaveOwnNames l.chunks) (sym moved) (own-to_front name old.chunks own)
looked-own (Err e) name old new moved same own = subst (λ (l : Recent). HaveOwnNames l.chunks) (sym same) own

-- what is answered has the name
pub answers-name : {Share E : Type 0} (bytes : Share → List ℕ) (r : Result (Option Share) E) (name : Digest) (chunks : List (List ℕ)) → IfOk r (λ share. option_map bytes share ≡ found name chunks) → IfOk r (λ share. IfSome share (λ s. digest_of (bytes s) ≡ name))
answers-name bytes (Ok (Some s)) name chunks is = found-name name chunks (bytes s) (sym is)
answers-name bytes (Ok None) name chunks is = tt
answers-name bytes (Err e) name chunks is = tt

-- main hasn't the name, and hot is looked through
pub looked_up-hot : (name : Digest) (limit : ℕ) (main hot main_after hot_after : Recent) (old : Cache) → together limit main hot ≡ old → found name main.chunks ≡ None
    → main_after ≡ recent (to_front name main.chunks) main.room → hot_after ≡ recent (to_front name hot.chunks) hot.room → together limit main_after hot_after ≡ looked_up name old
looked_up-hot name limit main hot main_after hot_after old view none looked moved =
    ap (λ (l : Recent). together limit l hot_after) (looked-absent name main main_after looked none)
    ∙ ap (λ (l : Recent). together limit main l) moved
    ∙ sym (ap (λ (o : Option (List ℕ)). let which = if is_some o then Main else Hot in with_chunks which (to_front name (chunks_in which (together limit main hot))) (together limit main hot)) none)
    ∙ ap (looked_up name) view
