-- A listing that is read is the one that was written, and what was written is read again.
use Rattle.std.proofs.Common.{◌≡◌, ℕ, zero, suc, ◌^◌, ◌≤◌, Bool, true, false, cond, leb, List, [], ◌∷◌, ◌++◌, length, Option, Some, None, refl, ap, subst, ◌∙◌, append_assoc, arith}
use Rattle.std.specs.Int.{w32, to_be_bytes}
use Rattle.std.specs.List.{flat_map, AllByRecursion}
use Rattle.std.specs.Option.{IfSome}
use Rattle.std.proofs.lemmas.Bool.{leb-true, le-leb}
use Rattle.std.proofs.lemmas.List.Concat.{flat_map-cons}
use Rattle.std.proofs.lemmas.Option.{none-some, cond_some}
use Rattle.host_names.specs.declared.digests.Digest.{Digest}
use Rattle.entry_texts.specs.Spells.{path_text, digest_text, listed_text, flags, IsListed}
use Rattle.entry_texts.specs.Reading.{◌>>=◌, big_number_at, field_at, path_at, digest_of, digest_at, listed_at, files_at, flags_at, count_at}
use Rattle.entry_texts.proofs.Taking.{IsBytes, IsBytes-rest, bind_some, some_is, Takes, Takes-then, Takes-after, field_takes, field_again}
use Rattle.entry_texts.proofs.Numbers.{wide32, number_takes, number_again}
use Rattle.entry_texts.proofs.NameTexts.{path_takes, path_again}

abbrev pub Entry : Type 0
Entry = List ℕ × Option Digest

abbrev HasLength : Option Digest → Type 0
HasLength listed = IfSome listed (λ digest. length digest.0 ≡ 20)

digest_takes : (bytes : List ℕ) (listed : Option Digest) (rest : List ℕ) → IsBytes bytes → digest_at bytes ≡ Some (listed, rest) → Takes bytes (digest_text listed) rest × HasLength listed
unfolding digest_at
digest_takes [] listed rest fits e = absurd (none-some (listed, rest) e)
digest_takes (zero ∷ bytes) listed rest fits e =
    subst (λ (p : Option Digest × List ℕ). Takes (0 ∷ bytes) (digest_text p.0) p.1 × HasLength p.0) (some_is (None, bytes) (listed, rest) e) (record { parts = refl; rest_fits = IsBytes-rest 0 bytes fits }, tt)
digest_takes (suc zero ∷ bytes) listed rest fits e =
    let a = bind_some (field_at 20 bytes) (λ f. Some (Some (digest_of f.0), f.1)) (listed, rest) e in
    let t = field_takes 20 bytes a.0.0 a.0.1 (IsBytes-rest 1 bytes fits) a.1 in
    subst (λ (p : Option Digest × List ℕ). Takes (1 ∷ bytes) (digest_text p.0) p.1 × HasLength p.0) (some_is (Some (digest_of a.0.0), a.0.1) (listed, rest) a.2) (Takes-after 1 bytes a.0.0 a.0.1 t.0, t.1)
digest_takes (suc (suc b) ∷ bytes) listed rest fits e = absurd (none-some (listed, rest) e)

digest_again : (listed : Option Digest) (rest : List ℕ) → HasLength listed → digest_at (digest_text listed ++ rest) ≡ Some (listed, rest)
unfolding digest_at
digest_again None rest h = refl
digest_again (Some digest) rest h = rw (field_again digest.0 rest 20 h) refl

listed_takes : (bytes : List ℕ) (x : Entry × List ℕ) → IsBytes bytes → listed_at bytes ≡ Some x → Takes bytes (listed_text x.0) x.1 × IsListed x.0
unfolding listed_at
listed_takes bytes x fits e =
    let a = bind_some (path_at bytes) (λ p. digest_at p.1 >>= λ d. Some ((p.0, d.0), d.1)) x e in
    let b = bind_some (digest_at a.0.1) (λ d. Some ((a.0.0, d.0), d.1)) x a.2 in
    let t = path_takes bytes a.0.0 a.0.1 fits a.1 in
    let u = digest_takes a.0.1 b.0.0 b.0.1 t.0.rest_fits b.1 in
    let both = Takes-then bytes (path_text a.0.0) a.0.1 (digest_text b.0.0) b.0.1 t.0 u.0 in
    let made : Entry × List ℕ = ((a.0.0, b.0.0), b.0.1) in
    subst (λ (y : Entry × List ℕ). Takes bytes (listed_text y.0) y.1 × IsListed y.0) (some_is made x b.2) (both, (t.1, u.1))

listed_again : (listed : Entry) (rest : List ℕ) → IsListed listed → listed_at (listed_text listed ++ rest) ≡ Some (listed, rest)
unfolding listed_at
listed_again listed rest lawful =
    let regrouped : listed_text listed ++ rest ≡ path_text listed.0 ++ (digest_text listed.1 ++ rest) = append_assoc (path_text listed.0) (digest_text listed.1) rest in
    ap listed_at regrouped ∙ rw (path_again listed.0 (digest_text listed.1 ++ rest) lawful.0, digest_again listed.1 rest lawful.1) refl

pub files_take : (n : ℕ) (bytes : List ℕ) (x : List Entry × List ℕ) → IsBytes bytes → files_at n bytes ≡ Some x → Takes bytes (flat_map listed_text x.0) x.1 × (length x.0 ≡ n) × AllByRecursion IsListed x.0
unfolding files_at
files_take zero bytes x fits e =
    subst (λ (y : List Entry × List ℕ). Takes bytes (flat_map listed_text y.0) y.1 × (length y.0 ≡ 0) × AllByRecursion IsListed y.0) (some_is ([], bytes) x e) (record { parts = refl; rest_fits = fits }, refl, tt)
files_take (suc n) bytes x fits e =
    let a = bind_some (listed_at bytes) (λ first. files_at n first.1 >>= λ others. Some (first.0 ∷ others.0, others.1)) x e in
    let b = bind_some (files_at n a.0.1) (λ others. Some (a.0.0 ∷ others.0, others.1)) x a.2 in
    let first = listed_takes bytes a.0 fits a.1 in
    let second = files_take n a.0.1 b.0 first.0.rest_fits b.1 in
    let both = Takes-then bytes (listed_text a.0.0) a.0.1 (flat_map listed_text b.0.0) b.0.1 first.0 second.0 in
    let made : List Entry × List ℕ = (a.0.0 ∷ b.0.0, b.0.1) in
    subst (λ (y : List Entry × List ℕ). Takes bytes (flat_map listed_text y.0) y.1 × (length y.0 ≡ suc n) × AllByRecursion IsListed y.0) (some_is made x b.2) (rw flat_map-cons both, ap suc second.1, (first.1, second.2))

pub files_again : (files : List Entry) (rest : List ℕ) → AllByRecursion IsListed files → files_at (length files) (flat_map listed_text files ++ rest) ≡ Some (files, rest)
unfolding files_at
files_again [] rest lawful = refl
files_again (e ∷ files) rest lawful =
    let regrouped : flat_map listed_text (e ∷ files) ++ rest ≡ listed_text e ++ (flat_map listed_text files ++ rest) = ap (λ (x : List ℕ). x ++ rest) (flat_map-cons listed_text e files) ∙ append_assoc (listed_text e) (flat_map listed_text files) rest in
    ap (files_at (suc (length files))) regrouped ∙ rw (listed_again e (flat_map listed_text files ++ rest) lawful.0, files_again files rest lawful.1) refl

-- ---- the kind of the listing, and its length

pub flags_take : (bytes : List ℕ) (f : Bool × Bool) (rest : List ℕ) → IsBytes bytes → flags_at bytes ≡ Some (f, rest) → Takes bytes (flags f.0 f.1 ∷ []) rest
unfolding flags_at
flags_take [] f rest fits e = absurd (none-some (f, rest) e)
flags_take (zero ∷ bytes) f rest fits e =
    subst (λ (p : (Bool × Bool) × List ℕ). Takes (0 ∷ bytes) (flags p.0.0 p.0.1 ∷ []) p.1) (some_is ((false, false), bytes) (f, rest) e) (record { parts = refl; rest_fits = IsBytes-rest 0 bytes fits })
flags_take (suc zero ∷ bytes) f rest fits e =
    subst (λ (p : (Bool × Bool) × List ℕ). Takes (1 ∷ bytes) (flags p.0.0 p.0.1 ∷ []) p.1) (some_is ((true, false), bytes) (f, rest) e) (record { parts = refl; rest_fits = IsBytes-rest 1 bytes fits })
flags_take (suc (suc zero) ∷ bytes) f rest fits e =
    subst (λ (p : (Bool × Bool) × List ℕ). Takes (2 ∷ bytes) (flags p.0.0 p.0.1 ∷ []) p.1) (some_is ((false, true), bytes) (f, rest) e) (record { parts = refl; rest_fits = IsBytes-rest 2 bytes fits })
flags_take (suc (suc (suc zero)) ∷ bytes) f rest fits e =
    subst (λ (p : (Bool × Bool) × List ℕ). Takes (3 ∷ bytes) (flags p.0.0 p.0.1 ∷ []) p.1) (some_is ((true, true), bytes) (f, rest) e) (record { parts = refl; rest_fits = IsBytes-rest 3 bytes fits })
flags_take (suc (suc (suc (suc b))) ∷ bytes) f rest fits e = absurd (none-some (f, rest) e)

pub flags_again : (patch auto : Bool) (rest : List ℕ) → flags_at (flags patch auto ∷ rest) ≡ Some ((patch, auto), rest)
unfolding flags_at
flags_again false false rest = refl
flags_again true false rest = refl
flags_again false true rest = refl
flags_again true true rest = refl

pub count_takes : (bytes : List ℕ) (n : ℕ) (rest : List ℕ) → IsBytes bytes → count_at bytes ≡ Some (n, rest) → Takes bytes (to_be_bytes w32 n) rest × (n ≤ 10000)
unfolding count_at
count_takes bytes n rest fits e =
    let a = bind_some (big_number_at w32 bytes) (λ n. cond (leb n.0 10000) (Some n) None) (n, rest) e in
    let g = cond_some (leb a.0.0 10000) a.0 (n, rest) a.2 in
    let t = number_takes w32 (2 ^ 32) wide32 bytes a.0.0 a.0.1 fits a.1 in
    subst (λ (p : ℕ × List ℕ). Takes bytes (to_be_bytes w32 p.0) p.1 × (p.0 ≤ 10000)) g.1 (t, leb-true a.0.0 10000 g.0)

pub count_again : (n : ℕ) (rest : List ℕ) → n ≤ 10000 → count_at (to_be_bytes w32 n ++ rest) ≡ Some (n, rest)
unfolding count_at
count_again n rest few = rw (number_again w32 (2 ^ 32) wide32 n rest (omega (arith, few)), le-leb n 10000 few) refl
