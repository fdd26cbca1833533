use Rattle.std.proofs.Common.{◌≡◌, Option, Some, None, option_map, option_copied, refl, sym, ap, ◌∙◌}
use Rattle.std.specs.FinMap as map
use denote.Ref.{Bor}
use Rattle.blob_store.proofs.Stored.{get-stored}
use Rattle.blob_store.proofs.blob_indexes.BlobIndex.find.Goals as goal

-- what a reference that was found refers to
behind : {A B : Type 0} (f : A → B) (r : Option (Bor A)) → option_map (λ x. f x.now) r ≡ option_map f (option_copied r)
behind f None = refl
behind f (Some x) = refl

pub returns-clause-found : goal.returns-clause-found
returns-clause-found c =
    behind (λ file. file.value) c.get.result ∙ ap (option_map (λ file. file.value)) c.get.ensures.value
    ∙ sym (get-stored (λ file. file.value) c.self.inside.files.entries c.args.digest.now)
    ∙ ap (λ files. map.get files c.args.digest.now) c.self.view_is
