-- An entry that is read is the one that was written, and what was written is read again.
use Rattle.std.proofs.Common.{◌≡◌, ◌≢◌, ◌⊎◌, ℕ, ◌≤◌, zero, suc, Bool, true, false, cond, eqb, List, [], ◌∷◌, ◌++◌, length, Option, Some, Result, Ok, Err, refl, sym, ap, subst, ◌∙◌, inl, inr, arith}
use Rattle.std.specs.Int.{w32, to_be_bytes}
use Rattle.std.specs.List.{flat_map}
use Rattle.std.specs.Result.{IfOk, IsErrOf, MatchResult}
use Rattle.std.proofs.lemmas.Bool.{eqb-true}
use Rattle.std.proofs.lemmas.Option.{none-some, cond_some}
use Rattle.host_names.specs.declared.digests.Digest.{Digest}
use Rattle.host_names.specs.declared.names.SiteName.{SiteName}
use Rattle.site_state.specs.Listings.{Listed, is_lawful}
use Rattle.site_change.specs.declared.commands.Command.TheVariants.{Open, Publish, Cancel, Remove, Rename, RenameFolder, MoveAlias, RemoveAlias, Restore, RemoveDeploy}
use Rattle.site_change.specs.declared.entries.Entry.{Entry}
use Rattle.site_change.specs.declared.entries.Entry.TheVariants.{Change, Undo}
use Rattle.entry_texts.specs.declared.decode_faults.DecodeFault.{DecodeFault}
use Rattle.entry_texts.specs.declared.decode_faults.DecodeFault.TheVariants as faults
use Rattle.entry_texts.specs.Spells.{name_text, number_text, path_text, listed_text, flags, listing_text, entry_text, IsInRange, IsName, IsNumber, IsPath, IsListing, IsWritable, Spells}
use Rattle.entry_texts.specs.Versions.{IsOfVersion}
use Rattle.entry_texts.specs.declared.versions.Version.TheVariants.{First}
use Rattle.entry_texts.specs.Reading.{◌>>=◌, Gives, site_at, alias_at, path_at, flags_at, count_at, whole_number, whole_alias, whole_path, whole_files, moved, unaliased, paths_at, renamed, folder_renamed, removed, listing_of, listing_at, opened, of_kind, numbered_entry, plain_entry, entry_of}
use Rattle.entry_texts.proofs.Taking.{IsBytes, IsBytes-rest, bind_some, some_is, Takes}
use Rattle.entry_texts.proofs.NameTexts.{site_takes, site_again, alias_takes, alias_again, path_takes, path_again}
use Rattle.entry_texts.proofs.Listed.{flags_take, flags_again, count_takes, count_again}
use Rattle.entry_texts.proofs.Lengths.{name_length, path_length, listing_length, two_lengths}
use Rattle.entry_texts.proofs.Wholes.{number_whole, number_whole_again, path_whole, path_whole_again, alias_whole, alias_whole_again, files_whole, files_whole_again}

-- ---- what is read was written

-- a byte of its kind before the rest of an entry
abbrev After : ℕ → List ℕ → Entry → Type 0
After kind bytes entry = IsWritable entry × (entry_text entry ≡ kind ∷ bytes)

kind_is : (kind : ℕ) (site : SiteName) (n : ℕ) (entry : Entry) → IsName site.0 → IsNumber n → of_kind kind site n ≡ Some entry → After kind (name_text site.0 ++ number_text n) entry
unfolding of_kind
kind_is zero site n entry name number e = subst (After 0 (name_text site.0 ++ number_text n)) (some_is (Undo site n) entry e) ((name, number), refl)
kind_is (suc zero) site n entry name number e = absurd (none-some entry e)
kind_is (suc (suc zero)) site n entry name number e = subst (After 2 (name_text site.0 ++ number_text n)) (some_is (Change (Publish site n)) entry e) ((name, number), refl)
kind_is (suc (suc (suc zero))) site n entry name number e = subst (After 3 (name_text site.0 ++ number_text n)) (some_is (Change (Cancel site n)) entry e) ((name, number), refl)
kind_is (suc (suc (suc (suc zero)))) site n entry name number e = absurd (none-some entry e)
kind_is (suc (suc (suc (suc (suc zero))))) site n entry name number e = absurd (none-some entry e)
kind_is (suc (suc (suc (suc (suc (suc zero)))))) site n entry name number e = absurd (none-some entry e)
kind_is (suc (suc (suc (suc (suc (suc (suc zero))))))) site n entry name number e = absurd (none-some entry e)
kind_is (suc (suc (suc (suc (suc (suc (suc (suc zero)))))))) site n entry name number e = subst (After 8 (name_text site.0 ++ number_text n)) (some_is (Change (Restore site n)) entry e) ((name, number), refl)
kind_is (suc (suc (suc (suc (suc (suc (suc (suc (suc zero))))))))) site n entry name number e = subst (After 9 (name_text site.0 ++ number_text n)) (some_is (Change (RemoveDeploy site n)) entry e) ((name, number), refl)
kind_is (suc (suc (suc (suc (suc (suc (suc (suc (suc (suc k)))))))))) site n entry name number e = absurd (none-some entry e)

-- what follows the site
with_site : (bytes text rest : List ℕ) (site : List ℕ) → Takes bytes (name_text site) rest → rest ≡ text → name_text site ++ text ≡ bytes
with_site bytes text rest site t e = ap (λ (r : List ℕ). name_text site ++ r) (sym e) ∙ sym t.parts

numbered_is : (kind : ℕ) (bytes : List ℕ) (entry : Entry) → IsBytes bytes → numbered_entry kind bytes ≡ Some entry → After kind bytes entry
unfolding numbered_entry
numbered_is kind bytes entry fits e =
    let a = bind_some (site_at bytes) (λ s. whole_number s.1 >>= λ n. of_kind kind s.0 n) entry e in
    let b = bind_some (whole_number a.0.1) (λ n. of_kind kind a.0.0 n) entry a.2 in
    let s = site_takes bytes a.0.0 a.0.1 fits a.1 in
    let n = number_whole a.0.1 b.0 s.0.rest_fits b.1 in
    let after = kind_is kind a.0.0 b.0 entry s.1 n.1 b.2 in
    (after.0, after.1 ∙ ap (λ (x : List ℕ). kind ∷ x) (with_site bytes (number_text b.0) a.0.1 a.0.0.0 s.0 n.0))

moved_is : (bytes : List ℕ) (entry : Entry) → IsBytes bytes → moved bytes ≡ Some entry → After 4 bytes entry
unfolding moved
moved_is bytes entry fits e =
    let a = bind_some (site_at bytes) (λ s. alias_at s.1 >>= λ a. whole_number a.1 >>= λ n. Some (Change (MoveAlias s.0 a.0 n))) entry e in
    let b = bind_some (alias_at a.0.1) (λ b. whole_number b.1 >>= λ n. Some (Change (MoveAlias a.0.0 b.0 n))) entry a.2 in
    let d = bind_some (whole_number b.0.1) (λ n. Some (Change (MoveAlias a.0.0 b.0.0 n))) entry b.2 in
    let s = site_takes bytes a.0.0 a.0.1 fits a.1 in
    let t = alias_takes a.0.1 b.0.0 b.0.1 s.0.rest_fits b.1 in
    let n = number_whole b.0.1 d.0 t.0.rest_fits d.1 in
    let rest : a.0.1 ≡ name_text b.0.0.0 ++ number_text d.0 = t.0.parts ∙ ap (λ (r : List ℕ). name_text b.0.0.0 ++ r) n.0 in
    let text : 4 ∷ (name_text a.0.0.0 ++ (name_text b.0.0.0 ++ number_text d.0)) ≡ 4 ∷ bytes = ap (λ (x : List ℕ). 4 ∷ x) (with_site bytes (name_text b.0.0.0 ++ number_text d.0) a.0.1 a.0.0.0 s.0 rest) in
    subst (After 4 bytes) (some_is (Change (MoveAlias a.0.0 b.0.0 d.0)) entry d.2) ((s.1, (t.1, n.1)), text)

unaliased_is : (bytes : List ℕ) (entry : Entry) → IsBytes bytes → unaliased bytes ≡ Some entry → After 5 bytes entry
unfolding unaliased
unaliased_is bytes entry fits e =
    let a = bind_some (site_at bytes) (λ s. whole_alias s.1 >>= λ a. Some (Change (RemoveAlias s.0 a))) entry e in
    let b = bind_some (whole_alias a.0.1) (λ b. Some (Change (RemoveAlias a.0.0 b))) entry a.2 in
    let s = site_takes bytes a.0.0 a.0.1 fits a.1 in
    let t = alias_whole a.0.1 b.0 s.0.rest_fits b.1 in
    let text : 5 ∷ (name_text a.0.0.0 ++ name_text b.0.0) ≡ 5 ∷ bytes = ap (λ (x : List ℕ). 5 ∷ x) (with_site bytes (name_text b.0.0) a.0.1 a.0.0.0 s.0 t.0) in
    subst (After 5 bytes) (some_is (Change (RemoveAlias a.0.0 b.0)) entry b.2) ((s.1, t.1), text)

-- the bytes are those of a site and two paths
abbrev ArePaths : List ℕ → SiteName × (List ℕ × List ℕ) → Type 0
ArePaths bytes r = (IsName r.0.0 × (IsPath r.1.0 × IsPath r.1.1)) × (name_text r.0.0 ++ (path_text r.1.0 ++ path_text r.1.1) ≡ bytes)

paths_are : (bytes : List ℕ) (r : SiteName × (List ℕ × List ℕ)) → IsBytes bytes → paths_at bytes ≡ Some r → ArePaths bytes r
unfolding paths_at
paths_are bytes r fits e =
    let a = bind_some (site_at bytes) (λ s. path_at s.1 >>= λ p. whole_path p.1 >>= λ q. Some (s.0, (p.0, q))) r e in
    let b = bind_some (path_at a.0.1) (λ p. whole_path p.1 >>= λ q. Some (a.0.0, (p.0, q))) r a.2 in
    let d = bind_some (whole_path b.0.1) (λ q. Some (a.0.0, (b.0.0, q))) r b.2 in
    let s = site_takes bytes a.0.0 a.0.1 fits a.1 in
    let t = path_takes a.0.1 b.0.0 b.0.1 s.0.rest_fits b.1 in
    let q = path_whole b.0.1 d.0 t.0.rest_fits d.1 in
    let rest : a.0.1 ≡ path_text b.0.0 ++ path_text d.0 = t.0.parts ∙ ap (λ (x : List ℕ). path_text b.0.0 ++ x) q.0 in
    subst (ArePaths bytes) (some_is (a.0.0, (b.0.0, d.0)) r d.2)
    ((s.1, (t.1, q.1)), with_site bytes (path_text b.0.0 ++ path_text d.0) a.0.1 a.0.0.0 s.0 rest)

renamed_is : (bytes : List ℕ) (entry : Entry) → IsBytes bytes → renamed bytes ≡ Some entry → After 6 bytes entry
unfolding renamed
renamed_is bytes entry fits e =
    let a = bind_some (paths_at bytes) (λ r. Some (Change (Rename r.0 r.1.0 r.1.1))) entry e in
    let are = paths_are bytes a.0 fits a.1 in
    subst (After 6 bytes) (some_is (Change (Rename a.0.0 a.0.1.0 a.0.1.1)) entry a.2) (are.0, ap (λ (x : List ℕ). 6 ∷ x) are.1)

folder_renamed_is : (bytes : List ℕ) (entry : Entry) → IsBytes bytes → folder_renamed bytes ≡ Some entry → After 10 bytes entry
unfolding folder_renamed
folder_renamed_is bytes entry fits e =
    let a = bind_some (paths_at bytes) (λ r. Some (Change (RenameFolder r.0 r.1.0 r.1.1))) entry e in
    let are = paths_are bytes a.0 fits a.1 in
    subst (After 10 bytes) (some_is (Change (RenameFolder a.0.0 a.0.1.0 a.0.1.1)) entry a.2) (are.0, ap (λ (x : List ℕ). 10 ∷ x) are.1)

removed_is : (bytes : List ℕ) (entry : Entry) → IsBytes bytes → removed bytes ≡ Some entry → After 7 bytes entry
unfolding removed
removed_is bytes entry fits e =
    let a = bind_some (site_at bytes) (λ s. whole_path s.1 >>= λ p. Some (Change (Remove s.0 p))) entry e in
    let b = bind_some (whole_path a.0.1) (λ p. Some (Change (Remove a.0.0 p))) entry a.2 in
    let s = site_takes bytes a.0.0 a.0.1 fits a.1 in
    let t = path_whole a.0.1 b.0 s.0.rest_fits b.1 in
    let text : 7 ∷ (name_text a.0.0.0 ++ path_text b.0) ≡ 7 ∷ bytes = ap (λ (x : List ℕ). 7 ∷ x) (with_site bytes (path_text b.0) a.0.1 a.0.0.0 s.0 t.0) in
    subst (After 7 bytes) (some_is (Change (Remove a.0.0 b.0)) entry b.2) ((s.1, t.1), text)

abbrev Files : Type 0
Files = List (List ℕ × Option Digest)

-- the parts of the text of a listing
listing_parts : (bytes after rest text : List ℕ) (patch auto : Bool) (n k : ℕ) → Takes bytes (flags patch auto ∷ []) after → Takes after (to_be_bytes w32 n) rest → rest ≡ text → k ≡ n
    → bytes ≡ flags patch auto ∷ (to_be_bytes w32 k ++ text)
listing_parts bytes after rest text patch auto n k f c e same =
    f.parts ∙ ap (λ (r : List ℕ). flags patch auto ∷ r) (c.parts ∙ ap (λ (r : List ℕ). to_be_bytes w32 n ++ r) e ∙ ap (λ (m : ℕ). to_be_bytes w32 m ++ text) (sym same))

listing_is : (bytes : List ℕ) (x : Listed × Bool) → IsBytes bytes → listing_at bytes ≡ Some x → (bytes ≡ listing_text x.0 x.1) × IsListing x.0
unfolding listing_at
listing_is bytes x fits e =
    let a = bind_some (flags_at bytes) (λ f. count_at f.1 >>= λ n. whole_files n.0 n.1 >>= λ l. listing_of f.0.0 l >>= λ files. Some (files, f.0.1)) x e in
    let b = bind_some (count_at a.0.1) (λ n. whole_files n.0 n.1 >>= λ l. listing_of a.0.0.0 l >>= λ files. Some (files, a.0.0.1)) x a.2 in
    let d = bind_some (whole_files b.0.0 b.0.1) (λ l. listing_of a.0.0.0 l >>= λ files. Some (files, a.0.0.1)) x b.2 in
    let g = bind_some (listing_of a.0.0.0 d.0) (λ files. Some (files, a.0.0.1)) x d.2 in
    let lawful = cond_some (is_lawful a.0.0.0 d.0) (a.0.0.0, d.0) g.0 g.1 in
    let f = flags_take bytes a.0.0 a.0.1 fits a.1 in
    let c = count_takes a.0.1 b.0.0 b.0.1 f.rest_fits b.1 in
    let l = files_whole b.0.0 b.0.1 d.0 c.0.rest_fits d.1 in
    let text : bytes ≡ listing_text (a.0.0.0, d.0) a.0.0.1 = listing_parts bytes a.0.1 b.0.1 (flat_map listed_text d.0) a.0.0.0 a.0.0.1 b.0.0 (length d.0) f c.0 l.0 l.1 in
    let few = subst (λ (k : ℕ). k ≤ 10000) (sym l.1) c.1 in
    let same : ((a.0.0.0, d.0), a.0.0.1) ≡ x = ap (λ (files : Listed). (files, a.0.0.1)) lawful.1 ∙ some_is (g.0, a.0.0.1) x g.2 in
    subst (λ (y : Listed × Bool). (bytes ≡ listing_text y.0 y.1) × IsListing y.0) same (text, record { few = few; listed = l.2; rising = l.3; lawful = lawful.0 })

opened_is : (bytes : List ℕ) (entry : Entry) → IsBytes bytes → opened bytes ≡ Some entry → After 1 bytes entry
unfolding opened
opened_is bytes entry fits e =
    let a = bind_some (site_at bytes) (λ s. listing_at s.1 >>= λ l. Some (Change (Open s.0 l.0 l.1))) entry e in
    let b = bind_some (listing_at a.0.1) (λ l. Some (Change (Open a.0.0 l.0 l.1))) entry a.2 in
    let s = site_takes bytes a.0.0 a.0.1 fits a.1 in
    let l = listing_is a.0.1 b.0 s.0.rest_fits b.1 in
    let text : 1 ∷ (name_text a.0.0.0 ++ listing_text b.0.0 b.0.1) ≡ 1 ∷ bytes = ap (λ (x : List ℕ). 1 ∷ x) (with_site bytes (listing_text b.0.0 b.0.1) a.0.1 a.0.0.0 s.0 l.0) in
    subst (After 1 bytes) (some_is (Change (Open a.0.0 b.0.0 b.0.1)) entry b.2) ((s.1, l.1), text)

-- which way a test went
chosen : {A : Type 0} (b : Bool) (x y z : A) → cond b x y ≡ z → ((b ≡ true) × (x ≡ z)) ⊎ (y ≡ z)
chosen true x y z e = inl (refl, e)
chosen false x y z e = inr e

of_its_kind : (kind k : ℕ) (bytes : List ℕ) (entry : Entry) → eqb kind k ≡ true → After k bytes entry → After kind bytes entry
of_its_kind kind k bytes entry e after = subst (λ (m : ℕ). After m bytes entry) (sym (eqb-true kind k e)) after

plain_is : (kind : ℕ) (bytes : List ℕ) (entry : Entry) → IsBytes bytes → plain_entry kind bytes ≡ Some entry → After kind bytes entry
unfolding plain_entry
plain_is kind bytes entry fits e =
    elim (chosen (eqb kind 4) (moved bytes) (cond (eqb kind 5) (unaliased bytes) (numbered_entry kind bytes)) (Some entry) e) [
      | inl here ↦ of_its_kind kind 4 bytes entry here.0 (moved_is bytes entry fits here.1)
      | inr on ↦ elim (chosen (eqb kind 5) (unaliased bytes) (numbered_entry kind bytes) (Some entry) on) [
        | inl here ↦ of_its_kind kind 5 bytes entry here.0 (unaliased_is bytes entry fits here.1)
        | inr last ↦ numbered_is kind bytes entry fits last
      ]
    ]

entry_is : (kind : ℕ) (bytes : List ℕ) (entry : Entry) → IsBytes bytes → entry_of (kind ∷ bytes) ≡ Some entry → After kind bytes entry
unfolding entry_of
entry_is kind bytes entry fits e =
    let after_last = cond (eqb kind 10) (folder_renamed bytes) (plain_entry kind bytes) in
    let after_third = cond (eqb kind 7) (removed bytes) after_last in
    elim (chosen (eqb kind 1) (opened bytes) (cond (eqb kind 6) (renamed bytes) after_third) (Some entry) e) [
      | inl here ↦ of_its_kind kind 1 bytes entry here.0 (opened_is bytes entry fits here.1)
      | inr on ↦ elim (chosen (eqb kind 6) (renamed bytes) after_third (Some entry) on) [
        | inl here ↦ of_its_kind kind 6 bytes entry here.0 (renamed_is bytes entry fits here.1)
        | inr further ↦ elim (chosen (eqb kind 7) (removed bytes) after_last (Some entry) further) [
          | inl here ↦ of_its_kind kind 7 bytes entry here.0 (removed_is bytes entry fits here.1)
          | inr last ↦ elim (chosen (eqb kind 10) (folder_renamed bytes) (plain_entry kind bytes) (Some entry) last) [
            | inl here ↦ of_its_kind kind 10 bytes entry here.0 (folder_renamed_is bytes entry fits here.1)
            | inr plain ↦ plain_is kind bytes entry fits plain
          ]
        ]
      ]
    ]

nothing : (entry : Entry) → entry_of [] ≡ Some entry → ⊥
unfolding entry_of
nothing entry e = none-some entry e

pub entry_spelled : (bytes : List ℕ) (entry : Entry) → IsBytes bytes → entry_of bytes ≡ Some entry → Spells bytes entry
entry_spelled [] entry fits e = absurd (nothing entry e)
entry_spelled (kind ∷ bytes) entry fits e =
    let after = entry_is kind bytes entry (IsBytes-rest kind bytes fits) e in
    (after.0, sym after.1)

-- ---- what was written is read again

numbered_again : (kind : ℕ) (site : SiteName) (n : ℕ) (entry : Entry) → IsName site.0 → IsNumber n → of_kind kind site n ≡ Some entry
    → numbered_entry kind (name_text site.0 ++ number_text n) ≡ Some entry
unfolding numbered_entry
numbered_again kind site n entry name number e = rw (site_again site (number_text n) name, number_whole_again n number) e

listing_again : (files : Listed) (auto : Bool) → IsListing files → listing_at (listing_text files auto) ≡ Some (files, auto)
unfolding listing_at
listing_again files auto lawful =
    rw (flags_again files.0 auto (to_be_bytes w32 (length files.1) ++ flat_map listed_text files.1), count_again (length files.1) (flat_map listed_text files.1) lawful.few, files_whole_again files.1 lawful.listed lawful.rising, lawful.lawful) refl

pub entry_again : (entry : Entry) → IsWritable entry → entry_of (entry_text entry) ≡ Some entry
unfolding entry_of plain_entry opened paths_at renamed folder_renamed removed moved unaliased of_kind
entry_again (Undo site k) h = numbered_again 0 site k (Undo site k) h.0 h.1 refl
entry_again (Change (Publish site n)) h = numbered_again 2 site n (Change (Publish site n)) h.0 h.1 refl
entry_again (Change (Cancel site n)) h = numbered_again 3 site n (Change (Cancel site n)) h.0 h.1 refl
entry_again (Change (Restore site n)) h = numbered_again 8 site n (Change (Restore site n)) h.0 h.1 refl
entry_again (Change (RemoveDeploy site n)) h = numbered_again 9 site n (Change (RemoveDeploy site n)) h.0 h.1 refl
entry_again (Change (Open site files auto)) h = rw (site_again site (listing_text files auto) h.0, listing_again files auto h.1) refl
entry_again (Change (MoveAlias site alias n)) h = rw (site_again site (name_text alias.0 ++ number_text n) h.0, alias_again alias (number_text n) h.1.0, number_whole_again n h.1.1) refl
entry_again (Change (RemoveAlias site alias)) h = rw (site_again site (name_text alias.0) h.0, alias_whole_again alias h.1) refl
entry_again (Change (Rename site source target)) h = rw (site_again site (path_text source ++ path_text target) h.0, path_again source (path_text target) h.1.0, path_whole_again target h.1.1) refl
entry_again (Change (RenameFolder site source target)) h = rw (site_again site (path_text source ++ path_text target) h.0, path_again source (path_text target) h.1.0, path_whole_again target h.1.1) refl
entry_again (Change (Remove site path)) h = rw (site_again site (path_text path) h.0, path_whole_again path h.1) refl

pub spelled_again : (bytes : List ℕ) (entry : Entry) → Spells bytes entry → entry_of bytes ≡ Some entry
spelled_again bytes entry h = ap entry_of h.1 ∙ entry_again entry h.0

pub one_entry : (bytes : List ℕ) (a b : Entry) → Spells bytes a → Spells bytes b → a ≡ b
one_entry bytes a b h k = some_is a b (sym (spelled_again bytes a h) ∙ spelled_again bytes b k)

-- ---- what has a text

-- how long it is
pub entry_length : (entry : Entry) → IsWritable entry → length (entry_text entry) ≤ 10470070
entry_length (Undo site k) h = omega (arith, two_lengths (name_text site.0) (number_text k) 64 8 (name_length site.0 h.0) (omega arith))
entry_length (Change (Publish site n)) h = omega (arith, two_lengths (name_text site.0) (number_text n) 64 8 (name_length site.0 h.0) (omega arith))
entry_length (Change (Cancel site n)) h = omega (arith, two_lengths (name_text site.0) (number_text n) 64 8 (name_length site.0 h.0) (omega arith))
entry_length (Change (Restore site n)) h = omega (arith, two_lengths (name_text site.0) (number_text n) 64 8 (name_length site.0 h.0) (omega arith))
entry_length (Change (RemoveDeploy site n)) h = omega (arith, two_lengths (name_text site.0) (number_text n) 64 8 (name_length site.0 h.0) (omega arith))
entry_length (Change (Open site files auto)) h = omega (arith, two_lengths (name_text site.0) (listing_text files auto) 64 10470005 (name_length site.0 h.0) (listing_length files auto h.1))
entry_length (Change (MoveAlias site alias n)) h =
    omega (arith, two_lengths (name_text site.0) (name_text alias.0 ++ number_text n) 64 72 (name_length site.0 h.0) (two_lengths (name_text alias.0) (number_text n) 64 8 (name_length alias.0 h.1.0) (omega arith)))
entry_length (Change (RemoveAlias site alias)) h = omega (arith, two_lengths (name_text site.0) (name_text alias.0) 64 64 (name_length site.0 h.0) (name_length alias.0 h.1))
entry_length (Change (Rename site source target)) h =
    omega (arith, two_lengths (name_text site.0) (path_text source ++ path_text target) 64 2052 (name_length site.0 h.0) (two_lengths (path_text source) (path_text target) 1026 1026 (path_length source h.1.0) (path_length target h.1.1)))
entry_length (Change (RenameFolder site source target)) h =
    omega (arith, two_lengths (name_text site.0) (path_text source ++ path_text target) 64 2052 (name_length site.0 h.0) (two_lengths (path_text source) (path_text target) 1026 1026 (path_length source h.1.0) (path_length target h.1.1)))
entry_length (Change (Remove site path)) h = omega (arith, two_lengths (name_text site.0) (path_text path) 64 1026 (name_length site.0 h.0) (path_length path h.1))

pub spelling_length : (entry : Entry) (bytes : List ℕ) → Spells bytes entry → length bytes ≤ 10470070
spelling_length entry bytes h = subst (λ (b : List ℕ). length b ≤ 10470070) (sym h.1) (entry_length entry h.0)

-- it is in its range
pub in_range : (entry : Entry) → IsWritable entry → IsInRange entry
in_range (Undo site k) writable = writable.1
in_range (Change (Open site files auto)) writable = writable.1.few
in_range (Change (Publish site n)) writable = writable.1
in_range (Change (Cancel site n)) writable = writable.1
in_range (Change (MoveAlias site alias n)) writable = writable.1.1
in_range (Change (RemoveAlias site alias)) writable = tt
in_range (Change (Rename site source target)) writable = tt
in_range (Change (RenameFolder site source target)) writable = tt
in_range (Change (Remove site path)) writable = tt
in_range (Change (Restore site n)) writable = writable.1
in_range (Change (RemoveDeploy site n)) writable = writable.1

-- ---- which of them the first version has: those whose text doesn't begin with 10

pub not-first : (rest : List ℕ) (entry : Entry) → 10 ∷ rest ≡ entry_text entry → IsOfVersion First entry → ⊥
not-first rest (Undo site k) e is = cc e
not-first rest (Change (Open site files auto)) e is = cc e
not-first rest (Change (Publish site n)) e is = cc e
not-first rest (Change (Cancel site n)) e is = cc e
not-first rest (Change (MoveAlias site alias n)) e is = cc e
not-first rest (Change (RemoveAlias site alias)) e is = cc e
not-first rest (Change (Rename site source target)) e is = cc e
not-first rest (Change (RenameFolder site source target)) e is = is
not-first rest (Change (Remove site path)) e is = cc e
not-first rest (Change (Restore site n)) e is = cc e
not-first rest (Change (RemoveDeploy site n)) e is = cc e

pub is-first : (bytes : List ℕ) (entry : Entry) → ((rest : List ℕ) → bytes ≢ 10 ∷ rest) → bytes ≡ entry_text entry → IsOfVersion First entry
is-first bytes (Undo site k) other e = tt
is-first bytes (Change (Open site files auto)) other e = tt
is-first bytes (Change (Publish site n)) other e = tt
is-first bytes (Change (Cancel site n)) other e = tt
is-first bytes (Change (MoveAlias site alias n)) other e = tt
is-first bytes (Change (RemoveAlias site alias)) other e = tt
is-first bytes (Change (Rename site source target)) other e = tt
is-first bytes (Change (RenameFolder site source target)) other e = other _ e
is-first bytes (Change (Remove site path)) other e = tt
is-first bytes (Change (Restore site n)) other e = tt
is-first bytes (Change (RemoveDeploy site n)) other e = tt

-- ---- what a reader answers

pub read_spelled : (bytes : List ℕ) (r : Result Entry DecodeFault) → IsBytes bytes → Gives (λ entry. entry) r (entry_of bytes) → IfOk r (λ entry. Spells bytes entry)
read_spelled bytes (Ok entry) fits given = entry_spelled bytes entry fits given
read_spelled bytes (Err fault) fits given = tt

pub read_found : (bytes : List ℕ) (r : Result Entry DecodeFault) → Gives (λ entry. entry) r (entry_of bytes) → (entry : Entry) → Spells bytes entry
    → MatchResult r (λ read. read ≡ entry) (λ fault. fault ≡ faults.OutOfMemory)
read_found bytes (Ok read) given entry h = some_is read entry (sym given ∙ spelled_again bytes entry h)
read_found bytes (Err faults.OutOfMemory) given entry h = refl
read_found bytes (Err faults.BadEntry) given entry h = absurd (none-some entry (sym given ∙ spelled_again bytes entry h))

pub read_badly : (bytes : List ℕ) (r : Result Entry DecodeFault) → Gives (λ entry. entry) r (entry_of bytes) → IsErrOf r faults.BadEntry → (entry : Entry) → Spells bytes entry → ⊥
read_badly bytes (Ok read) given bad entry h = absurd (cc bad)
read_badly bytes (Err faults.OutOfMemory) given bad entry h = absurd (cc bad)
read_badly bytes (Err faults.BadEntry) given bad entry h = none-some entry (sym given ∙ spelled_again bytes entry h)
