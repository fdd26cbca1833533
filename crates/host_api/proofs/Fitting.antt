-- A path fits a pattern exactly where it is the pattern with segments put in.
use Rattle.std.proofs.Common.{◌≡◌, ◌↔◌, ℕ, ◌+◌, Bool, true, false, not, cond, eqb, ◌&&◌, List, [], ◌∷◌, ◌++◌, Option, Some, None, option_map, take, refl, sym, ap, ◌∙◌, append_assoc, arith}
use Rattle.std.proofs.lemmas.Grind.{common_steps}
use Rattle.std.proofs.lemmas.Bool.{and_parts, eqb-true}
use Rattle.std.proofs.lemmas.List.{take-append-drop}
use Rattle.std.proofs.lemmas.Slice.Eq.{bytes_eq-Decides}
use Rattle.std.specs.List.{list_all, prefix_len, before_first}
use Rattle.std.specs.Str.{bytes_eq}
use Rattle.host_api.specs.Fits.{slashed, HasNoSlash, IsFor, AreFor, MayFollow, said, Fits}
use Rattle.host_api.specs.Patterns.{is_rest}
use Rattle.host_api.specs.Targets.{Part, word, site, alias, number, Bindings, rest_alone, with_part, bound, from_first, fit}
use Rattle.host_api.proofs.Cuts.{cut}

-- ---- cuts

-- the text before the first slash
abbrev segment_of : List ℕ → List ℕ
segment_of text = before_first (λ c. eqb c 47) text

whole : (text : List ℕ) → segment_of text ++ from_first 47 text ≡ text
whole text =
    let n = prefix_len (λ c. not (eqb c 47)) text in
    let parts = cut 47 text n refl in
    ap (λ back. take n text ++ back) (sym parts.1) ∙ take-append-drop n text

taken : (c : ℕ) (text : List ℕ) (n : ℕ) → take (1 + n) (c ∷ text) ≡ c ∷ take n text
taken c text n = grind (arith, common_steps)

free_front : (c : ℕ) (text : List ℕ) (n : ℕ) (t : Bool) → not (eqb c 47) ≡ t → HasNoSlash (take n text)
    → HasNoSlash (take (cond t (1 + n) 0) (c ∷ text))
free_front c text n true is more = ap (list_all (λ b. not (eqb b 47))) (taken c text n) ∙ ap (λ t. t && list_all (λ b. not (eqb b 47)) (take n text)) is ∙ more
free_front c text n false is more = refl

segment_of-free : (text : List ℕ) → HasNoSlash (segment_of text)
segment_of-free [] = refl
segment_of-free (c ∷ text) = free_front c text _ (not (eqb c 47)) refl (segment_of-free text)

-- a segment is what is before the next slash
segment_cut : (segment back : List ℕ) → HasNoSlash segment → is_rest back ≡ true
    → (segment_of (segment ++ back) ≡ segment) × (from_first 47 (segment ++ back) ≡ back)
segment_cut [] [] free led = (refl, refl)
segment_cut [] (c ∷ back) free led = (rw led refl, rw led refl)
segment_cut (c ∷ segment) back free led =
    let parts = and_parts (not (eqb c 47)) (list_all (λ b. not (eqb b 47)) segment) free in
    let other : eqb c 47 ≡ false = is_not (eqb c 47) parts.0 in
    let more = segment_cut segment back parts.1 led in
    (rw other (taken c (segment ++ back) _ ∙ ap (λ t. c ∷ t) more.0), rw other more.1)
  where
    is_not : (t : Bool) → not t ≡ true → t ≡ false
    is_not true e = absurd (cc e)
    is_not false e = refl

-- ---- one part

if_some : {X : Type 0} (t : Bool) (o : Option X) (x : X) → cond t o None ≡ Some x → (t ≡ true) × (o ≡ Some x)
if_some true o x e = (refl, e)
if_some false o x e = absurd (cc e)

mapped : (f : Bindings → Bindings) (found : Option Bindings) (b : Bindings) → option_map f found ≡ Some b → (inner : Bindings) × (found ≡ Some inner) × (b ≡ f inner)
mapped f None b e = absurd (cc e)
mapped f (Some inner) b e = (inner, refl, cc e)

put_in : (part : Part) (segment : List ℕ) (found : Option Bindings) (b : Bindings) → bound part segment found ≡ Some b
    → (inner : Bindings) × (found ≡ Some inner) × IsFor part segment × (b ≡ with_part part segment inner)
put_in (word w) segment found b e =
    let both = if_some (bytes_eq segment w) found b e in
    (b, both.1, (bytes_eq-Decides segment w).0 both.0, refl)
put_in site segment found b e = let m = mapped (λ (inner : Bindings). record inner { site_text = segment }) found b e in (m.0, m.1, tt, m.2)
put_in alias segment found b e = let m = mapped (λ (inner : Bindings). record inner { alias_text = segment }) found b e in (m.0, m.1, tt, m.2)
put_in number segment found b e = let m = mapped (λ (inner : Bindings). record inner { number_text = segment }) found b e in (m.0, m.1, tt, m.2)

bound_so : (part : Part) (segment : List ℕ) (inner : Bindings) → IsFor part segment → bound part segment (Some inner) ≡ Some (with_part part segment inner)
bound_so (word w) segment inner is = ap (λ t. cond t (Some inner) None) ((bytes_eq-Decides segment w).1 is)
bound_so site segment inner is = refl
bound_so alias segment inner is = refl
bound_so number segment inner is = refl

-- ---- all parts

fits : (parts : List Part) (has_rest : Bool) (path : List ℕ) (b : Bindings) → fit parts has_rest path ≡ Some b → Fits parts has_rest path b
fits [] false [] b e = ([], [], refl, tt, refl, cc e)
fits [] false (c ∷ path) b e = absurd (cc e)
fits [] true [] b e = absurd (cc e)
fits [] true (c ∷ path) b e =
    let both = if_some (eqb c 47) (Some (rest_alone (c ∷ path))) b e in
    ([], c ∷ path, refl, tt, (path, ap (λ d. d ∷ path) (eqb-true c 47 both.0)), cc (both.1))
fits (part ∷ parts) has_rest [] b e = absurd (cc e)
fits (part ∷ parts) has_rest (c ∷ path) b e =
    let both = if_some (eqb c 47) (bound part (segment_of path) (fit parts has_rest (from_first 47 path))) b e in
    let found = put_in part (segment_of path) (fit parts has_rest (from_first 47 path)) b both.1 in
    let more = fits parts has_rest (from_first 47 path) found.0 found.1 in
    let segments = more.0 in
    let rest = more.1 in
    let is : c ∷ path ≡ slashed (segment_of path ∷ segments) ++ rest =
    ap (λ d. d ∷ path) (eqb-true c 47 both.0) ∙ ap (λ t. 47 ∷ t) (sym (whole path))
    ∙ ap (λ t. 47 ∷ (segment_of path ++ t)) more.2 ∙ ap (λ t. 47 ∷ t) (sym (append_assoc (segment_of path) (slashed segments) rest)) in
    (segment_of path ∷ segments, rest, is, (segment_of-free path, found.2, more.3), more.4, found.3 ∙ ap (with_part part (segment_of path)) more.5)

led_rest : (has_rest : Bool) (segments : List (List ℕ)) (rest : List ℕ) → MayFollow has_rest rest → is_rest (slashed segments ++ rest) ≡ true
led_rest false [] rest may = ap is_rest may
led_rest true [] rest may = ap is_rest may.1
led_rest has_rest (segment ∷ segments) rest may = refl

fitted : (parts : List Part) (has_rest : Bool) (segments : List (List ℕ)) (rest : List ℕ) → AreFor parts segments → MayFollow has_rest rest
    → fit parts has_rest (slashed segments ++ rest) ≡ Some (said parts segments rest)
fitted [] false [] rest for may = rw may refl
fitted [] true [] rest for may = rw may.1 refl
fitted [] has_rest (segment ∷ segments) rest for may = absurd for
fitted (part ∷ parts) has_rest [] rest for may = absurd for
fitted (part ∷ parts) has_rest (segment ∷ segments) rest for may =
    let back = slashed segments ++ rest in
    let cuts = segment_cut segment back for.0 (led_rest has_rest segments rest may) in
    let path : List ℕ = segment ++ back in
    let same : slashed (segment ∷ segments) ++ rest ≡ 47 ∷ path = ap (λ t. 47 ∷ t) (append_assoc segment (slashed segments) rest) in
    ap (fit (part ∷ parts) has_rest) same
    ∙ ap (λ s. bound part s (fit parts has_rest (from_first 47 path))) cuts.0
    ∙ ap (λ t. bound part segment (fit parts has_rest t)) cuts.1
    ∙ ap (bound part segment) (fitted parts has_rest segments rest for.2 may)
    ∙ bound_so part segment (said parts segments rest) for.1

pub fit_is_fits : (parts : List Part) (has_rest : Bool) (path : List ℕ) (b : Bindings) → (fit parts has_rest path ≡ Some b) ↔ Fits parts has_rest path b
fit_is_fits parts has_rest path b = (
  fits parts has_rest path b,
  λ f. ap (fit parts has_rest) f.2 ∙ fitted parts has_rest f.0 f.1 f.3 f.4 ∙ ap Some (sym f.5),
)
