use Rattle.std.proofs.Common.{◌≡◌, ◌∷◌, [], ℕ, List, nat_lt, Option, Some, unwrap_or, is_lt, slice_get, sym, ap, ◌∙◌}
use Rattle.host_names.proofs.Folders.{texts, before-slash}
use Rattle.host_names.proofs.paths.comes_before_slash.Goals as goal

by_first : (text : List ℕ) (byte : ℕ) → Some byte ≡ slice_get text 0 → nat_lt byte 47 ≡ is_lt (texts text (47 ∷ []))
by_first [] byte e = cc e
by_first (b ∷ text) byte e = ap (λ (o : Option ℕ). nat_lt (unwrap_or o 0) 47) e ∙ sym (before-slash b text)

pub returns-in-Some : goal.returns-in-Some
returns-in-Some c = by_first c.args.text.now c.in-Some.byte.now c.in-Some.ensures.value
