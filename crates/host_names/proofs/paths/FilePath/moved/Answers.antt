use Rattle.std.proofs.Common.{◌≡◌, ◌++◌, ◌≤◌, ℕ, ◌∷◌, List, length, drop, string_bytes, sym, ap, subst, ◌∙◌}
use Rattle.host_names.specs.Folders.{slash_after, moved}
use Rattle.host_names.proofs.Folders.{below-is, moved-is, moved_is_path}
use Rattle.host_names.specs.Path.{is_path}
use Rattle.host_names.proofs.paths.FilePath.moved.Goals as goal

pub unreachable-requires : goal.unreachable-requires
unreachable-requires c =
    let source = c.args.source.now in
    let path = c.args.self.now in
    c.in_default.ensures.cases (47 ∷ drop (length (slash_after source)) path)
    (c.as_str.ensures.value ∙ below-is source path c.requires.below ∙ ap (λ (t : List ℕ). t ++ 47 ∷ drop (length (slash_after source)) path) (sym c.as_str-2.ensures.value))

-- the new text is that of the moved path
told : (source target path text rest before old : List ℕ) → text ≡ before ++ rest → before ≡ target → path ≡ old ++ rest → old ≡ source → text ≡ moved source target path
told source target path text rest before old is at was from =
    is ∙ ap (λ t. t ++ rest) at ∙ sym (ap (moved source target) (was ∙ ap (λ t. t ++ rest) from) ∙ moved-is source target rest)

pub returns : goal.returns
returns c =
    ap string_bytes c.in_ok-text-2.ensures.ok
    ∙ told c.args.source.now c.args.target.now c.args.self.now _ c.in-Some.rest.now _ _ c.in_ok-text.ensures c.as_str-3.ensures.value (sym c.as_str.ensures.value ∙ c.in-Some.ensures.cases.1.1 ∙ ap (λ (t : List ℕ). c.as_str-2.result.now ++ t) (sym c.in-Some.ensures.cases.2)) c.as_str-2.ensures.value

pub invariant_of-result : goal.invariant_of-result
invariant_of-result c =
    let is = ap string_bytes c.in_ok-text-2.ensures.ok
    ∙ told c.args.source.now c.args.target.now c.args.self.now _ c.in-Some.rest.now _ _ c.in_ok-text.ensures c.as_str-3.ensures.value (sym c.as_str.ensures.value ∙ c.in-Some.ensures.cases.1.1 ∙ ap (λ (t : List ℕ). c.as_str-2.result.now ++ t) (sym c.in-Some.ensures.cases.2)) c.as_str-2.ensures.value in
    ap is_path is ∙ moved_is_path c.args.source.now c.args.target.now c.args.self.now c.as_str-3.ensures.lawful c.as_str.ensures.lawful c.requires.below c.requires.short
