-- What is read to the end of the bytes is all of them.
use Rattle.std.proofs.Common.{◌≡◌, ℕ, ◌^◌, true, cond, ◌&&◌, eqb, leb, List, [], ◌++◌, length, Some, None, refl, sym, ap, subst, ◌∙◌, append-nil, arith}
use Rattle.std.specs.Int.{w64}
use Rattle.std.specs.List.{flat_map, AllByRecursion}
use Rattle.std.proofs.lemmas.Bool.{and_parts, eqb-true, leb-true, le-leb}
use Rattle.std.proofs.lemmas.List.{nil_from_length}
use Rattle.std.proofs.lemmas.Option.{cond_some}
use Rattle.host_names.specs.declared.names.AliasName.{AliasName}
use Rattle.site_state.specs.Files.{IsByPath}
use Rattle.entry_texts.specs.Spells.{number_text, name_text, path_text, listed_text, IsNumber, IsName, IsPath, IsListed}
use Rattle.entry_texts.specs.Reading.{big_number_at, path_at, alias_at, files_at, whole_number, whole_path, whole_alias, is_rising, whole_files}
use Rattle.entry_texts.proofs.Taking.{IsBytes, bind_some, Takes}
use Rattle.entry_texts.proofs.Numbers.{wide64, number_takes, number_again}
use Rattle.entry_texts.proofs.NameTexts.{path_takes, path_again, alias_takes, alias_again}
use Rattle.entry_texts.proofs.Rising.{by_path, rises}
use Rattle.entry_texts.proofs.Listed.{Entry, files_take, files_again}

-- nothing is left
all_taken : (bytes text rest : List ℕ) → Takes bytes text rest → eqb (length rest) 0 ≡ true → bytes ≡ text
all_taken bytes text rest t none = t.parts ∙ ap (λ (r : List ℕ). text ++ r) (nil_from_length rest (eqb-true _ _ none)) ∙ append-nil text

pub number_whole : (bytes : List ℕ) (n : ℕ) → IsBytes bytes → whole_number bytes ≡ Some n → (bytes ≡ number_text n) × IsNumber n
unfolding whole_number
number_whole bytes n fits e =
    let a = bind_some (big_number_at w64 bytes) (λ n. cond (eqb (length n.1) 0 && (leb 1 n.0 && leb n.0 1000000)) (Some n.0) None) n e in
    let g = cond_some (eqb (length a.0.1) 0 && (leb 1 a.0.0 && leb a.0.0 1000000)) a.0.0 n a.2 in
    let p = and_parts (eqb (length a.0.1) 0) (leb 1 a.0.0 && leb a.0.0 1000000) g.0 in
    let q = and_parts (leb 1 a.0.0) (leb a.0.0 1000000) p.1 in
    let t = number_takes w64 (2 ^ 64) wide64 bytes a.0.0 a.0.1 fits a.1 in
    subst (λ (m : ℕ). (bytes ≡ number_text m) × IsNumber m) g.1 (all_taken bytes _ _ t p.0, (leb-true 1 a.0.0 q.0, leb-true a.0.0 1000000 q.1))

number_found : (bytes : List ℕ) (n : ℕ) → big_number_at w64 bytes ≡ Some (n, []) → IsNumber n → whole_number bytes ≡ Some n
unfolding whole_number
number_found bytes n e lawful = rw (e, le-leb 1 n lawful.0, le-leb n 1000000 lawful.1) refl

pub number_whole_again : (n : ℕ) → IsNumber n → whole_number (number_text n) ≡ Some n
number_whole_again n lawful =
    number_found (number_text n) n (ap (big_number_at w64) (sym (append-nil (number_text n))) ∙ number_again w64 (2 ^ 64) wide64 n [] (omega (arith, lawful.1))) lawful

pub path_whole : (bytes path : List ℕ) → IsBytes bytes → whole_path bytes ≡ Some path → (bytes ≡ path_text path) × IsPath path
unfolding whole_path
path_whole bytes path fits e =
    let a = bind_some (path_at bytes) (λ p. cond (eqb (length p.1) 0) (Some p.0) None) path e in
    let g = cond_some (eqb (length a.0.1) 0) a.0.0 path a.2 in
    let t = path_takes bytes a.0.0 a.0.1 fits a.1 in
    subst (λ (p : List ℕ). (bytes ≡ path_text p) × IsPath p) g.1 (all_taken bytes _ _ t.0 g.0, t.1)

pub path_whole_again : (path : List ℕ) → IsPath path → whole_path (path_text path) ≡ Some path
unfolding whole_path
path_whole_again path lawful = ap whole_path (sym (append-nil (path_text path))) ∙ rw (path_again path [] lawful) refl

pub alias_whole : (bytes : List ℕ) (alias : AliasName) → IsBytes bytes → whole_alias bytes ≡ Some alias → (bytes ≡ name_text alias.0) × IsName alias.0
unfolding whole_alias
alias_whole bytes alias fits e =
    let a = bind_some (alias_at bytes) (λ p. cond (eqb (length p.1) 0) (Some p.0) None) alias e in
    let g = cond_some (eqb (length a.0.1) 0) a.0.0 alias a.2 in
    let t = alias_takes bytes a.0.0 a.0.1 fits a.1 in
    subst (λ (p : AliasName). (bytes ≡ name_text p.0) × IsName p.0) g.1 (all_taken bytes _ _ t.0 g.0, t.1)

pub alias_whole_again : (alias : AliasName) → IsName alias.0 → whole_alias (name_text alias.0) ≡ Some alias
unfolding whole_alias
alias_whole_again alias lawful = ap whole_alias (sym (append-nil (name_text alias.0))) ∙ rw (alias_again alias [] lawful) refl

pub files_whole : (n : ℕ) (bytes : List ℕ) (files : List Entry) → IsBytes bytes → whole_files n bytes ≡ Some files
    → (bytes ≡ flat_map listed_text files) × (length files ≡ n) × AllByRecursion IsListed files × IsByPath files
unfolding whole_files
files_whole n bytes files fits e =
    let a = bind_some (files_at n bytes) (λ l. cond (eqb (length l.1) 0 && is_rising l.0) (Some l.0) None) files e in
    let g = cond_some (eqb (length a.0.1) 0 && is_rising a.0.0) a.0.0 files a.2 in
    let p = and_parts (eqb (length a.0.1) 0) (is_rising a.0.0) g.0 in
    let t = files_take n bytes a.0 fits a.1 in
    subst (λ (l : List Entry). (bytes ≡ flat_map listed_text l) × (length l ≡ n) × AllByRecursion IsListed l × IsByPath l) g.1 (all_taken bytes _ _ t.0 p.0, t.1, t.2, by_path a.0.0 p.1)

pub files_whole_again : (files : List Entry) → AllByRecursion IsListed files → IsByPath files → whole_files (length files) (flat_map listed_text files) ≡ Some files
unfolding whole_files
files_whole_again files lawful sorted =
    let read : files_at (length files) (flat_map listed_text files) ≡ Some (files, []) = ap (files_at (length files)) (sym (append-nil (flat_map listed_text files))) ∙ files_again files [] lawful in
    rw (read, rises files sorted) refl
