-- The texts of paths.
use Rattle.std.proofs.Common.{◌≡◌, ◌≢◌, ℕ, ◌-◌, Bool, true, false, cond, ◌&&◌, ◌||◌, eqb, eq-eqb, ltb, inl, inr, ◌<◌, length-append, List, [], ◌∷◌, ◌++◌, Option, Some, None, Result, Ok, Err, IsTrue, codes, length, take, drop, refl, sym, ap, subst, ◌∙◌, arith}
use Rattle.std.proofs.lemmas.Bool.{and_parts, eqb-true, ltb-true}
use Rattle.std.proofs.lemmas.Bool.Decides.{nat_tests, Decides-eqb}
use Rattle.std.proofs.lemmas.List.{take_at}
use Rattle.std.proofs.lemmas.Str.{IsUtf8-append, IsUtf8-from_ascii, IsUtf8-take, IsUtf8-past_char, IsUtf8-from_is_utf8, is_utf8-from_IsUtf8, IsCharBoundary-at_seam, encode_ascii}
use Rattle.std.proofs.lemmas.Slice.Eq.{ends_is}
use Rattle.std.proofs.lemmas.Str.Ascii.{IsAscii-nil, IsAscii-cons}
use Rattle.std.specs.Borrow.{Bor}
use Rattle.std.specs.List.{list_all, ends_with}
use Rattle.std.specs.Option.{MatchOption, unwrap_or}
use Rattle.std.specs.Result.{IfOk, IsErrOf}
use Rattle.std.specs.Str.{IsUtf8, IsAscii, is_utf8}
use Rattle.percent_encoding.specs.Percent.{percent_decode}
use Rattle.percent_encoding.proofs.PercentLemmas.{percent_decode-nil, percent_decode_not_percent}
use Rattle.host_names.specs.Path.{is_path, with_slash}
use Rattle.host_names.specs.declared.paths.PathError.{PathError}
use Rattle.host_names.specs.declared.paths.PathError.TheVariants as path_error
use Rattle.host_api.specs.Targets.{if_path, with_index}
use Rattle.host_api.specs.Patterns.{is_rest, has_percent, KeepsPath}

-- ---- ends in a slash

abbrev ends_with_slash : List ℕ → Bool
ends_with_slash text = ends_with eqb text (47 ∷ [])

slash_behind : (text front : List ℕ) → text ≡ front ++ (47 ∷ []) → ends_with_slash text ≡ true
slash_behind text = (ends_is Decides-eqb text (47 ∷ []) (ends_with_slash text) refl).1

before_slash : (text : List ℕ) → ends_with_slash text ≡ true → text ≡ take (length text - 1) text ++ (47 ∷ [])
before_slash text = (ends_is Decides-eqb text (47 ∷ []) (ends_with_slash text) refl).0

not_true : (t : Bool) → (t ≡ true → ⊥) → false ≡ t
not_true true h = absurd (h refl)
not_true false h = refl

-- a test of whether a text ends in a slash
pub ends : (text : List ℕ) (r : Bool) → (r ≡ true → text ≡ take (length text - 1) text ++ (47 ∷ []))
    → ((front : List ℕ) → text ≡ front ++ (47 ∷ []) → r ≡ true) → r ≡ ends_with_slash text
ends text true told found = sym (slash_behind text (take (length text - 1) text) (told refl))
ends text false told found = not_true _ (λ h. absurd (cc (found (take (length text - 1) text) (before_slash text h))))

-- ---- UTF-8

all_ascii : (text : List ℕ) → list_all (λ b. ltb b 128) text ≡ true → IsAscii text
all_ascii [] h = IsAscii-nil
all_ascii (b ∷ text) h =
    let parts = and_parts (ltb b 128) (list_all (λ c. ltb c 128) text) h in
    IsAscii-cons b text (ltb-true b 128 parts.0) (all_ascii text parts.1)

slash_utf8 : IsUtf8 (47 ∷ [])
slash_utf8 = IsUtf8-from_ascii _ (all_ascii (47 ∷ []) refl)

page_utf8 : IsUtf8 (codes "index.html")
page_utf8 = IsUtf8-from_ascii _ (all_ascii (codes "index.html") refl)

unslashed_utf8 : (text : List ℕ) → IsUtf8 (47 ∷ text) → IsUtf8 text
unslashed_utf8 text h = IsUtf8-past_char (47 ∷ text) text 47 h (ap (λ e. e ++ text) (sym (encode_ascii 47 (omega arith))))

-- two tests that hold together
same_tests : (s t : Bool) → (s ≡ true → t ≡ true) → (t ≡ true → s ≡ true) → s ≡ t
same_tests true t there back = sym (there refl)
same_tests false t there back = not_true t (λ h. let same = back h in absurd (cc same))

same_utf8 : (s t : List ℕ) → (IsUtf8 s → IsUtf8 t) → (IsUtf8 t → IsUtf8 s) → is_utf8 s ≡ is_utf8 t
same_utf8 s t there back =
    same_tests _ _ (λ h. is_utf8-from_IsUtf8 t (there (IsUtf8-from_is_utf8 s h))) (λ h. is_utf8-from_IsUtf8 s (back (IsUtf8-from_is_utf8 t h)))

-- a text before one that is UTF-8
front_utf8 : (front back : List ℕ) → IsUtf8 back → IsUtf8 (front ++ back) → IsUtf8 front
front_utf8 front back h whole =
    let cut = IsUtf8-take (front ++ back) (length front) whole (IsCharBoundary-at_seam _ front back refl h) in
    subst IsUtf8 (take_at front back (length front) refl) cut

with_index-utf8 : (text : List ℕ) (t : Bool) → is_utf8 (cond t (text ++ codes "index.html") text) ≡ is_utf8 text
with_index-utf8 text true = same_utf8 _ _ (front_utf8 text _ page_utf8) (λ h. IsUtf8-append text _ h page_utf8)
with_index-utf8 text false = refl

slashed-utf8 : (text : List ℕ) → is_utf8 (47 ∷ text) ≡ is_utf8 text
slashed-utf8 text = same_utf8 _ _ (unslashed_utf8 text) (IsUtf8-append (47 ∷ []) text slash_utf8)

slash_cases : (t : Bool) (text : List ℕ) → is_utf8 (cond t text (47 ∷ text)) ≡ is_utf8 text
slash_cases true text = refl
slash_cases false text = slashed-utf8 text

with_slash-utf8 : (text : List ℕ) → is_utf8 (with_slash text) ≡ is_utf8 text
with_slash-utf8 [] = same_utf8 _ _ (unslashed_utf8 []) (λ h. slash_utf8)
with_slash-utf8 (b ∷ text) = slash_cases (eqb b 47) (b ∷ text)

-- ---- paths

if_true : {X : Type 0} (s t : Bool) (x y : X) → s ≡ true → t ≡ true → cond (s && t) x y ≡ x
if_true true true x y e f = refl
if_true true false x y e f = absurd (cc f)
if_true false t x y e f = absurd (cc e)

if_left : {X : Type 0} (s t : Bool) (x y : X) → s ≡ false → cond (s && t) x y ≡ y
if_left true t x y e = absurd (cc e)
if_left false t x y e = refl

if_right : {X : Type 0} (s t : Bool) (x y : X) → t ≡ false → cond (s && t) x y ≡ y
if_right true true x y e = absurd (cc e)
if_right true false x y e = refl
if_right false t x y e = refl

-- decoding keeps the slash
pub decoded_rest : (rest : List ℕ) → is_rest rest ≡ true → is_rest (percent_decode rest) ≡ true
decoded_rest [] h = rw percent_decode-nil refl
decoded_rest (b ∷ rest) h =
    let e = eqb-true b 47 h in
    rw (percent_decode_not_percent b rest (omega arith)) h

-- ---- what no path is

-- a text that is longer than a path
too_long : (text : List ℕ) → 1024 < length text → is_path text ≡ false
too_long [] h = absurd (omega arith)
too_long (b ∷ text) h = grind (arith, nat_tests)

long_index : (t : Bool) (text : List ℕ) → 1024 < length text → is_path (cond t (text ++ codes "index.html") text) ≡ false
long_index true text h = too_long (text ++ codes "index.html") (omega (arith, length-append text (codes "index.html")))
long_index false text h = too_long text h

unlawful : (text : List ℕ) → is_path text ≡ false → if_path text ≡ None
unlawful text h = if_right _ _ (Some text) None h

-- a text that is longer than a path, of a page or of a file
pub long_page : (text : List ℕ) → 1024 < length text → if_path (with_index text) ≡ None
long_page text h = unlawful _ (long_index (ends_with_slash text) text h)

-- bytes that are no text
pub raw_page : (text : List ℕ) → is_utf8 text ≡ false → if_path (with_index text) ≡ None
raw_page text h = if_left _ _ (Some (with_index text)) None (with_index-utf8 text _ ∙ h)

pub raw_file : (text : List ℕ) → is_utf8 text ≡ false → if_path (with_slash text) ≡ None
raw_file text h = if_left _ _ (Some (with_slash text)) None (with_slash-utf8 text ∙ h)

-- ---- what is kept

known : (o : Option (List ℕ)) (result : Result (List ℕ) PathError) (p : Option (List ℕ)) → o ≡ p → KeepsPath p result → KeepsPath o result
known o result p e h = subst (λ x. KeepsPath x result) (sym e) h

not_false : (t : Bool) → (t ≡ false → ⊥) → t ≡ true
not_false true h = refl
not_false false h = absurd (h refl)

-- the outcomes of reading the text of a path
pub keeps : (text : List ℕ) (result : Result (List ℕ) PathError) → IsUtf8 text
    → (is_path (with_slash text) ≡ false → IsErrOf result path_error.BadPath) → (IsErrOf result path_error.BadPath → is_path (with_slash text) ≡ false)
    → IfOk result (λ path. path ≡ with_slash text) → IfOk result (λ path. IsTrue (is_path path)) → KeepsPath (if_path (with_slash text)) result
keeps text (Ok path) utf8 bad is_bad same lawful =
    let text_is = with_slash-utf8 text ∙ is_utf8-from_IsUtf8 text utf8 in
    known _ (Ok path) (Some (with_slash text)) (if_true _ _ (Some (with_slash text)) None text_is (ap is_path (sym same) ∙ lawful)) (inl (ap Ok same))
keeps text (Err path_error.BadPath) utf8 bad is_bad same lawful = known _ (Err path_error.BadPath) None (unlawful _ (is_bad refl)) refl
keeps text (Err path_error.OutOfMemory) utf8 bad is_bad same lawful =
    let text_is = with_slash-utf8 text ∙ is_utf8-from_IsUtf8 text utf8 in
    let path_is = not_false (is_path (with_slash text)) (λ h. cc (bad h)) in
    known _ (Err path_error.OutOfMemory) (Some (with_slash text)) (if_true _ _ (Some (with_slash text)) None text_is path_is) (inr refl)

pub folder : (text : List ℕ) → ends_with_slash text ≡ true → with_index text ≡ text ++ codes "index.html"
folder text h = rw h refl

-- nothing is kept where there is no path
pub none_kept : (o : Option (List ℕ)) → o ≡ None → KeepsPath o (Err path_error.BadPath)
none_kept o e = known o (Err path_error.BadPath) None e refl

-- a folder's page that is longer than a path
pub long_folder : (text : List ℕ) → ends_with_slash text ≡ true → 1024 < length (text ++ codes "index.html") → KeepsPath (if_path (with_index text)) (Err path_error.BadPath)
long_folder text h long = none_kept _ (ap if_path (folder text h) ∙ unlawful _ (too_long _ long))

-- a text without `%` is decoded already
either_false : (s t : Bool) → (s || t) ≡ false → (s ≡ false) × (t ≡ false)
either_false true t h = absurd (cc h)
either_false false t h = (refl, h)

pub undecoded : (text : List ℕ) → has_percent text ≡ false → percent_decode text ≡ text
undecoded [] h = percent_decode-nil
undecoded (b ∷ text) h =
    let parts = either_false (eqb b 37) (has_percent text) h in
    percent_decode_not_percent b text (λ e. absurd (cc (sym parts.0 ∙ eq-eqb b 37 e))) ∙ ap (λ t. b ∷ t) (undecoded text parts.1)

-- what was decoded, but for its being text
pub not_utf8 : (text : List ℕ) → (IsUtf8 text → ⊥) → is_utf8 text ≡ false
not_utf8 text h = sym (not_true (is_utf8 text) (λ e. h (IsUtf8-from_is_utf8 text e)))

-- what follows the slash of a rest, or all of one without a slash, which is empty
pub behind : (rest : List ℕ) (found : Option (Bor (List ℕ))) (whole : Bor (List ℕ)) → is_rest rest ≡ true → whole.now ≡ rest
    → MatchOption found ((more : List ℕ) → rest ≢ 47 ∷ more) (λ x. rest ≡ 47 ∷ x.now) → (unwrap_or found whole).now ≡ drop 1 rest
behind rest (Some x) whole led same h = sym (ap (drop 1) h)
behind [] None whole led same h = same
behind (b ∷ rest) None whole led same h = absurd (h rest (ap (λ c. c ∷ rest) (eqb-true b 47 led)))
