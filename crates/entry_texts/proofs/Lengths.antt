-- How long the parts of an entry's text can be, and of the paths of a listing the first ones.
use Rattle.std.proofs.Common.{◌≡◌, ℕ, ◌+◌, ◌*◌, ◌≤◌, Bool, true, ◌&&◌, leb, List, [], ◌∷◌, ◌++◌, length, Option, Some, None, sym, ap, subst, ◌∙◌, arith, length-append}
use Rattle.std.specs.List.{flat_map, list_all, AllByRecursion}
use Rattle.std.proofs.lemmas.Bool.{and_parts, leb-true}
use Rattle.std.proofs.lemmas.List.Concat.{flat_map-cons}
use Rattle.host_names.specs.Name.{is_name_byte}
use Rattle.host_names.specs.declared.digests.Digest.{Digest}
use Rattle.site_state.specs.Listings.{Listed}
use Rattle.site_change.specs.declared.entries.Entry.{Entry}
use Rattle.entry_texts.specs.Spells.{name_text, number_text, path_text, digest_text, listed_text, listing_text, entry_text, IsName, IsPath, IsListed, IsListing, IsWritable, Spells}
use Rattle.entry_texts.proofs.NameTexts.{path_short}

pub name_length : (name : List ℕ) → IsName name → length (name_text name) ≤ 64
name_length name h =
    let two : (leb 1 (length name) && leb (length name) 63) ≡ true = (and_parts (leb 1 (length name) && leb (length name) 63) (list_all is_name_byte name) h).0 in
    omega (arith, leb-true (length name) 63 (and_parts (leb 1 (length name)) (leb (length name) 63) two).1)

pub path_length : (path : List ℕ) → IsPath path → length (path_text path) ≤ 1026
path_length path h = omega (arith, path_short path h.1)

digest_length : (path : List ℕ) (listed : Option Digest) → IsListed (path, listed) → length (digest_text listed) ≤ 21
digest_length path None h = omega arith
digest_length path (Some digest) h = omega (arith, h.1)

listed_length : (listed : List ℕ × Option Digest) → IsListed listed → length (listed_text listed) ≤ 1047
listed_length listed h = omega (arith, length-append (path_text listed.0) (digest_text listed.1), path_length listed.0 h.0, digest_length listed.0 listed.1 h)

files_length : (files : List (List ℕ × Option Digest)) → AllByRecursion IsListed files → length (flat_map listed_text files) ≤ 1047 * length files
files_length [] h = omega arith
files_length (e ∷ files) h =
    let cut : length (flat_map listed_text (e ∷ files)) ≡ length (listed_text e) + length (flat_map listed_text files) = ap length (flat_map-cons listed_text e files) ∙ length-append (listed_text e) (flat_map listed_text files) in
    omega (arith, cut, listed_length e h.0, files_length files h.1)

pub listing_length : (files : Listed) (auto : Bool) → IsListing files → length (listing_text files auto) ≤ 10470005
listing_length files auto h = omega (arith, files_length files.1 h.listed, h.few)

pub two_lengths : (a b : List ℕ) (m n : ℕ) → length a ≤ m → length b ≤ n → length (a ++ b) ≤ m + n
two_lengths a b m n p q = omega (arith, length-append a b, p, q)

-- one more is listed
pub one_more : {X : Type 0} (P : X → Type 0) (xs : List X) (x : X) → AllByRecursion P xs → P x → AllByRecursion P (xs ++ x ∷ [])
one_more P [] x h p = (p, tt)
one_more P (y ∷ xs) x h p = (h.0, one_more P xs x h.1 p)
