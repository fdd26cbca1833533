use Rattle.std.proofs.Common.{◌≡◌, ◌++◌, ◌∷◌, [], ℕ, List, sym, ap, ◌∙◌}
use Rattle.host_names.specs.Folders.{begins_with, is_below, slash_after}
use Rattle.host_names.proofs.Folders.{begins-append, below-is, not-below}
use Rattle.host_names.proofs.paths.FilePath.is_below.Goals as goal

pub returns-in-Some : goal.returns-in-Some
returns-in-Some c =
    let text : c.args.self.now ≡ c.args.folder.now ++ c.in-Some.rest.now =
    sym c.as_str.ensures.value ∙ c.in-Some.ensures.cases.1.1
    ∙ (λ i. c.as_str-2.ensures.value i ++ sym c.in-Some.ensures.cases.2 i) in
    c.begins_with_slash.ensures ∙ ap (λ (t : List ℕ). begins_with t (47 ∷ [])) c.as_bytes.ensures.value
    ∙ sym (ap (is_below c.args.folder.now) text ∙ begins-append c.args.folder.now c.in-Some.rest.now (47 ∷ []))

pub returns-in-None : goal.returns-in-None
returns-in-None c =
    sym (not-below c.args.folder.now c.args.self.now (λ rest is. c.in-None.ensures.cases rest
    (c.as_str.ensures.value ∙ is ∙ ap (λ (t : List ℕ). t ++ rest) (sym c.as_str-2.ensures.value))))
