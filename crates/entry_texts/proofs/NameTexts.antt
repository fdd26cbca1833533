-- Names and paths that are read are those that were written, and what was written is read again.
use Rattle.std.proofs.Common.{◌≡◌, ℕ, ◌^◌, ◌<◌, ◌≤◌, true, false, cond, ◌&&◌, ◌||◌, eqb, leb, List, [], ◌∷◌, ◌++◌, length, Some, None, IsTrue, refl, sym, ap, subst, ◌∙◌, append_assoc, arith, inl, inr}
use Rattle.std.specs.Int.{w16, to_be_bytes}
use Rattle.std.specs.List.{list_all}
use Rattle.std.specs.Str.{IsUtf8, IsAscii, is_utf8}
use Rattle.std.proofs.lemmas.Bool.{and_parts, leb-true, eqb-true, or_cases, false_from_ne_true}
use Rattle.std.proofs.lemmas.Option.{none-some, cond_some}
use Rattle.std.proofs.lemmas.Str.{IsUtf8-from_ascii, IsUtf8-from_is_utf8, is_utf8-from_IsUtf8}
use Rattle.std.proofs.lemmas.Str.Ascii.{IsAscii-nil, IsAscii-cons}
use Rattle.host_names.specs.Name.{is_name, is_name_byte}
use Rattle.host_names.specs.Path.{is_path, is_path_byte, is_segment, segments}
use Rattle.host_names.specs.declared.names.SiteName.{SiteName}
use Rattle.host_names.specs.declared.names.AliasName.{AliasName}
use Rattle.entry_texts.specs.Spells.{name_text, path_text, IsName, IsPath}
use Rattle.entry_texts.specs.Reading.{◌>>=◌, big_number_at, field_at, name_of, name_at, site_named, alias_named, site_at, alias_at, text_at, path_of, path_at}
use Rattle.entry_texts.proofs.Taking.{IsBytes, IsBytes-rest, bind_some, some_is, Takes, Takes-then, Takes-after, field_takes, field_again}
use Rattle.entry_texts.proofs.Numbers.{wide16, number_takes, number_again}

-- ---- names are ASCII

name_byte_ascii : (b : ℕ) → is_name_byte b ≡ true → b < 128
name_byte_ascii b h =
    elim (or_cases ((leb 97 b && leb b 122) || (leb 48 b && leb b 57)) (eqb b 45) h) [
      | inl g ↦ elim (or_cases (leb 97 b && leb b 122) (leb 48 b && leb b 57) g) [
        | inl letter ↦ omega (arith, leb-true b 122 (and_parts (leb 97 b) (leb b 122) letter).1)
        | inr digit ↦ omega (arith, leb-true b 57 (and_parts (leb 48 b) (leb b 57) digit).1)
      ]
      | inr hyphen ↦ omega (arith, eqb-true b 45 hyphen)
    ]

bytes_ascii : (text : List ℕ) → list_all is_name_byte text ≡ true → IsAscii text
bytes_ascii [] h = IsAscii-nil
bytes_ascii (b ∷ text) h =
    let parts = and_parts (is_name_byte b) (list_all is_name_byte text) h in
    IsAscii-cons b text (name_byte_ascii b parts.0) (bytes_ascii text parts.1)

-- what is not UTF-8 is no name
pub no_name : (text : List ℕ) → (IsUtf8 text → ⊥) → name_of text ≡ None
no_name text h =
    let not_so : is_name text ≡ false = false_from_ne_true _ (λ name. h (IsUtf8-from_ascii text (bytes_ascii text (and_parts _ _ name).1))) in
    ap (λ b. cond b (Some text) None) not_so

-- ---- texts and paths

pub text_found : (bytes : List ℕ) (n : ℕ) (after text rest : List ℕ) → big_number_at w16 bytes ≡ Some (n, after) → field_at n after ≡ Some (text, rest) → IsUtf8 text → text_at bytes ≡ Some (text, rest)
unfolding text_at
text_found bytes n after text rest e f u = rw (e, f, is_utf8-from_IsUtf8 text u) refl

pub no_text : (bytes : List ℕ) (n : ℕ) (after text rest : List ℕ) → big_number_at w16 bytes ≡ Some (n, after) → field_at n after ≡ Some (text, rest) → (IsUtf8 text → ⊥) → text_at bytes ≡ None
unfolding text_at
no_text bytes n after text rest e f u =
    let not_so : is_utf8 text ≡ false = false_from_ne_true _ (λ h. u (IsUtf8-from_is_utf8 text h)) in
    rw (e, f, not_so) refl

pub path_short : (path : List ℕ) → is_path path ≡ true → length path ≤ 1024
path_short [] h = absurd (cc h)
path_short (b ∷ text) h =
    let relative : (leb 1 (length text) && leb (length text) 1023 && list_all is_path_byte text && list_all is_segment (segments text)) ≡ true = (and_parts (eqb b 47) (leb 1 (length text) && leb (length text) 1023 && list_all is_path_byte text && list_all is_segment (segments text)) h).1 in
    let three : (leb 1 (length text) && leb (length text) 1023 && list_all is_path_byte text) ≡ true = (and_parts (leb 1 (length text) && leb (length text) 1023 && list_all is_path_byte text) (list_all is_segment (segments text)) relative).0 in
    let two : (leb 1 (length text) && leb (length text) 1023) ≡ true = (and_parts (leb 1 (length text) && leb (length text) 1023) (list_all is_path_byte text) three).0 in
    omega (arith, leb-true (length text) 1023 (and_parts (leb 1 (length text)) (leb (length text) 1023) two).1)

-- ---- names

pub name_takes : (bytes name rest : List ℕ) → IsBytes bytes → name_at bytes ≡ Some (name, rest) → Takes bytes (name_text name) rest × IsName name
unfolding name_at
name_takes [] name rest fits e = absurd (none-some (name, rest) e)
name_takes (n ∷ bytes) name rest fits e =
    let a = bind_some (field_at n bytes) (λ f. name_of f.0 >>= λ name. Some (name, f.1)) (name, rest) e in
    let b = bind_some (name_of a.0.0) (λ name. Some (name, a.0.1)) (name, rest) a.2 in
    let g = cond_some (is_name a.0.0) a.0.0 b.0 b.1 in
    let t = field_takes n bytes a.0.0 a.0.1 (IsBytes-rest n bytes fits) a.1 in
    let whole : Takes (n ∷ bytes) (name_text a.0.0) a.0.1 = subst (λ (k : ℕ). Takes (n ∷ bytes) (k ∷ a.0.0) a.0.1) (sym t.1) (Takes-after n bytes a.0.0 a.0.1 t.0) in
    let named : Takes (n ∷ bytes) (name_text b.0) a.0.1 × IsName b.0 = subst (λ (x : List ℕ). Takes (n ∷ bytes) (name_text x) a.0.1 × IsName x) g.1 (whole, g.0) in
    subst (λ (p : List ℕ × List ℕ). Takes (n ∷ bytes) (name_text p.0) p.1 × IsName p.0) (some_is (b.0, a.0.1) (name, rest) b.2) named

pub name_again : (name rest : List ℕ) → IsName name → name_at (name_text name ++ rest) ≡ Some (name, rest)
unfolding name_at
name_again name rest lawful = rw (field_again name rest (length name) refl, lawful) refl

pub site_takes : (bytes : List ℕ) (site : SiteName) (rest : List ℕ) → IsBytes bytes → site_at bytes ≡ Some (site, rest) → Takes bytes (name_text site.0) rest × IsName site.0
unfolding site_at
site_takes bytes site rest fits e =
    let a = bind_some (name_at bytes) (λ f. Some (site_named f.0, f.1)) (site, rest) e in
    subst (λ (p : SiteName × List ℕ). Takes bytes (name_text p.0.0) p.1 × IsName p.0.0) (some_is (site_named a.0.0, a.0.1) (site, rest) a.2) (name_takes bytes a.0.0 a.0.1 fits a.1)

pub site_again : (site : SiteName) (rest : List ℕ) → IsName site.0 → site_at (name_text site.0 ++ rest) ≡ Some (site, rest)
unfolding site_at
site_again site rest lawful = rw (name_again site.0 rest lawful) refl

pub alias_takes : (bytes : List ℕ) (alias : AliasName) (rest : List ℕ) → IsBytes bytes → alias_at bytes ≡ Some (alias, rest) → Takes bytes (name_text alias.0) rest × IsName alias.0
unfolding alias_at
alias_takes bytes alias rest fits e =
    let a = bind_some (name_at bytes) (λ f. Some (alias_named f.0, f.1)) (alias, rest) e in
    subst (λ (p : AliasName × List ℕ). Takes bytes (name_text p.0.0) p.1 × IsName p.0.0) (some_is (alias_named a.0.0, a.0.1) (alias, rest) a.2) (name_takes bytes a.0.0 a.0.1 fits a.1)

pub alias_again : (alias : AliasName) (rest : List ℕ) → IsName alias.0 → alias_at (name_text alias.0 ++ rest) ≡ Some (alias, rest)
unfolding alias_at
alias_again alias rest lawful = rw (name_again alias.0 rest lawful) refl

-- ---- paths

text_takes : (bytes text rest : List ℕ) → IsBytes bytes → text_at bytes ≡ Some (text, rest) → Takes bytes (path_text text) rest × IsTrue (is_utf8 text)
unfolding text_at
text_takes bytes text rest fits e =
    let a = bind_some (big_number_at w16 bytes) (λ n. field_at n.0 n.1 >>= λ f. cond (is_utf8 f.0) (Some f) None) (text, rest) e in
    let b = bind_some (field_at a.0.0 a.0.1) (λ f. cond (is_utf8 f.0) (Some f) None) (text, rest) a.2 in
    let g = cond_some (is_utf8 b.0.0) b.0 (text, rest) b.2 in
    let t = number_takes w16 (2 ^ 16) wide16 bytes a.0.0 a.0.1 fits a.1 in
    let u = field_takes a.0.0 a.0.1 b.0.0 b.0.1 t.rest_fits b.1 in
    let both = Takes-then bytes (to_be_bytes w16 a.0.0) a.0.1 b.0.0 b.0.1 t u.0 in
    let whole : Takes bytes (path_text b.0.0) b.0.1 = subst (λ (k : ℕ). Takes bytes (to_be_bytes w16 k ++ b.0.0) b.0.1) (sym u.1) both in
    subst (λ (p : List ℕ × List ℕ). Takes bytes (path_text p.0) p.1 × IsTrue (is_utf8 p.0)) g.1 (whole, g.0)

text_again : (text rest : List ℕ) → length text < 2 ^ 16 → IsTrue (is_utf8 text) → text_at (path_text text ++ rest) ≡ Some (text, rest)
unfolding text_at
text_again text rest short lawful =
    let regrouped : path_text text ++ rest ≡ to_be_bytes w16 (length text) ++ (text ++ rest) = append_assoc (to_be_bytes w16 (length text)) text rest in
    ap text_at regrouped ∙ rw (number_again w16 (2 ^ 16) wide16 (length text) (text ++ rest) short, field_again text rest (length text) refl, lawful) refl

pub path_takes : (bytes path rest : List ℕ) → IsBytes bytes → path_at bytes ≡ Some (path, rest) → Takes bytes (path_text path) rest × IsPath path
unfolding path_at
path_takes bytes path rest fits e =
    let a = bind_some (text_at bytes) (λ f. path_of f.0 >>= λ path. Some (path, f.1)) (path, rest) e in
    let b = bind_some (path_of a.0.0) (λ path. Some (path, a.0.1)) (path, rest) a.2 in
    let g = cond_some (is_path a.0.0) a.0.0 b.0 b.1 in
    let t = text_takes bytes a.0.0 a.0.1 fits a.1 in
    let named : Takes bytes (path_text b.0) a.0.1 × IsPath b.0 = subst (λ (x : List ℕ). Takes bytes (path_text x) a.0.1 × IsPath x) g.1 (t.0, (t.1, g.0)) in
    subst (λ (p : List ℕ × List ℕ). Takes bytes (path_text p.0) p.1 × IsPath p.0) (some_is (b.0, a.0.1) (path, rest) b.2) named

pub path_again : (path rest : List ℕ) → IsPath path → path_at (path_text path ++ rest) ≡ Some (path, rest)
unfolding path_at
path_again path rest lawful = rw (text_again path rest (omega (arith, path_short path lawful.1)) lawful.0, lawful.1) refl
