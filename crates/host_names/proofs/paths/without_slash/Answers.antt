use Rattle.std.proofs.Common.{◌≡◌, ◌≢◌, ℕ, ◌==◌, List, [], ◌∷◌, None, cond, true, false, lit<, ap, refl}
use Rattle.std.proofs.lemmas.Bool.{eqb-true}
use Rattle.std.proofs.lemmas.Str.Pattern.{strip_prefix_char}
use Rattle.host_names.specs.Path.{with_slash}
use Rattle.host_names.proofs.paths.without_slash.Goals as goal

-- a text that begins with no slash gets one
slash_first : (text : List ℕ) → ((rest : List ℕ) → text ≢ 47 ∷ rest) → 47 ∷ text ≡ with_slash text
slash_first [] h = refl
slash_first (b ∷ text) h =
    elim (b == 47) as (λ t. (b == 47) ≡ t → 47 ∷ b ∷ text ≡ cond t (b ∷ text) (47 ∷ b ∷ text)) [
      | true ↦ λ e. absurd (h text (ap (λ (n : ℕ). n ∷ text) (eqb-true b 47 e)))
      | false ↦ λ e. refl
    ] refl

pub returns-in-None : goal.returns-in-None
returns-in-None c = slash_first _ (strip_prefix_char 47 c.args.text.now None c.in-None.ensures.cases (lit< tt))
