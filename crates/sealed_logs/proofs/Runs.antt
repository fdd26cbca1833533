-- Legal logs in parts, and which numbers their undos name.
use Rattle.std.proofs.Common.{◌≡◌, ℕ, ◌+◌, ◌≤◌, Bool, true, false, ◌==◌, ◌||◌, List, [], ◌∷◌, ◌++◌, length, refl, sym, ap, subst, ◌∙◌, arith}
use Rattle.std.proofs.lemmas.List.{append-nil, append_assoc}
use Rattle.std.proofs.lemmas.List.Folds.{list_any-append}
use Rattle.byte_view.specs.Contents.{Contents}
use Rattle.site_change.specs.declared.entries.Entry.{Entry}
use Rattle.change_log.specs.Logs.{Log, last_number, with_entries, with_entry, with_only}
use Rattle.change_undo.specs.Histories.{IsLegal, IsLegalAfter, is_among, undone}
use Rattle.change_undo.proofs.Runs.{undone-within}

pub among-append : (xs ys : List ℕ) (n : ℕ) → is_among (xs ++ ys) n ≡ (is_among xs n || is_among ys n)
among-append xs ys n = list_any-append (λ k. k == n) xs ys

pub either_false : (a b : Bool) → (a || b) ≡ false → (a ≡ false) × (b ≡ false)
either_false true b e = cc e
either_false false b e = (refl, e)

-- each number that an undo names is that of an entry, or of the base
abbrev pub NamesWithin : Log → Type 0
NamesWithin log = (i : ℕ) → is_among (undone log.entries) i ≡ true → i ≤ last_number log

pub names-legal : (uploads : Contents) (log : Log) → IsLegal uploads log → NamesWithin log
names-legal uploads log legal i among = omega (arith, undone-within uploads (with_only log []) log.entries i legal.1 among)

-- ---- parts of legal entries

pub legal-parts : (uploads : Contents) (before : Log) (xs ys : List Entry) → IsLegalAfter uploads before (xs ++ ys)
    → IsLegalAfter uploads before xs × IsLegalAfter uploads (with_entries before xs) ys
legal-parts uploads before [] ys legal =
    let P : List Entry → Type 0 = λ es. IsLegalAfter uploads (with_only before es) ys in
    (tt, subst P (sym (append-nil before.entries)) legal)
legal-parts uploads before (x ∷ xs) ys legal =
    let rest = legal-parts uploads (with_entry before x) xs ys legal.1 in
    let P : List Entry → Type 0 = λ es. IsLegalAfter uploads (with_only before es) ys in
    ((legal.0, rest.0), subst P (append_assoc before.entries (x ∷ []) xs) rest.1)

pub legal-joined : (uploads : Contents) (before : Log) (xs ys : List Entry) → IsLegalAfter uploads before xs
    → IsLegalAfter uploads (with_entries before xs) ys → IsLegalAfter uploads before (xs ++ ys)
legal-joined uploads before [] ys first second =
    let P : List Entry → Type 0 = λ es. IsLegalAfter uploads (with_only before es) ys in
    subst P (append-nil before.entries) second
legal-joined uploads before (x ∷ xs) ys first second =
    let P : List Entry → Type 0 = λ es. IsLegalAfter uploads (with_only before es) ys in
    (first.0, legal-joined uploads (with_entry before x) xs ys first.1 (subst P (sym (append_assoc before.entries (x ∷ []) xs)) second))
