use Rattle.std.proofs.Common.{◌≡◌, ◌++◌, ◌∷◌, [], ℕ, List, Ordering, is_lt, sym, ap, ◌∙◌}
use Rattle.host_names.specs.Folders.{begins_with, is_below, slash_after}
use Rattle.host_names.proofs.Folders.{texts, common-front, before-more, not-begun}
use Rattle.host_names.proofs.paths.FilePath.is_before_folder.Goals as goal

pub returns-in-Some : goal.returns-in-Some
returns-in-Some c =
    let folder = c.args.folder.now in
    let rest = c.in-Some.rest.now in
    let text : c.args.self.now ≡ folder ++ rest =
    sym c.as_str.ensures.value ∙ c.in-Some.ensures.cases.1.1
    ∙ (λ i. c.as_str-2.ensures.value i ++ sym c.in-Some.ensures.cases.2 i) in
    c.comes_before_slash.ensures ∙ ap (λ (t : List ℕ). is_lt (texts t (47 ∷ []))) c.as_bytes.ensures.value
    ∙ sym (ap (λ (t : List ℕ). is_lt (texts t (slash_after folder))) text ∙ ap is_lt (common-front folder rest (47 ∷ [])))

pub returns-in-None : goal.returns-in-None
returns-in-None c =
    let folder = c.args.folder.now in
    let path = c.args.self.now in
    c.is_lt.ensures ∙ ap is_lt c.cmp.ensures
    ∙ sym (ap is_lt (before-more folder path (47 ∷ []) (not-begun folder path (λ rest is. c.in-None.ensures.cases rest
    (c.as_str.ensures.value ∙ is ∙ ap (λ (t : List ℕ). t ++ rest) (sym c.as_str-2.ensures.value))))))
