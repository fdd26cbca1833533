-- Postings: which changes are posted under which keys, as pairs in their order.
use Rattle.std.specs.Prelude.{◌≡◌, ◌⊎◌, ℕ, ◌==◌, nat_lt, nat_le, Bool, ◌&&◌, ◌||◌, List, map, take, Option, is_some, if◌then◌else◌}
use Rattle.std.specs.FinMap.{find}
use Rattle.std.specs.List.{list_any}
use Rattle.std.specs.List.Sorted.{IsStrictlySortedBy}
use Rattle.std.specs.Map.{keys_of}
use Rattle.std.specs.declared.cmp.Ordering.{Ordering}
use Rattle.std.specs.Ordering.{nat_cmp, on, then_cmp}
use Rattle.host_names.specs.declared.cells.Cell.{Cell}
use Rattle.host_names.specs.declared.cells.Cell.TheVariants as cell
use Rattle.site_state.specs.declared.changes.Change.{Change}
use Rattle.touch_index.specs.declared.postings.Posting.{Posting}
use Rattle.touch_index.specs.Keys.{covers, folder_marks, is_in_folder, is_in_folder_from, wildcards}

-- by key, then by number
abbrev pub posting_cmp : Posting → Posting → Ordering
posting_cmp = then_cmp (on (λ p. p.key) nat_cmp) (on (λ p. p.number) nat_cmp)

-- pairs of postings, each with nothing
abbrev pub Postings : Type 0
Postings = List (Posting × Unit {0})

abbrev pub Rises : Postings → Type 0
Rises postings = IsStrictlySortedBy posting_cmp (keys_of postings)

abbrev pub posting : ℕ → ℕ → Posting
posting key n = record { key = key; number = n }

-- whether the change of this number is posted under the key
abbrev pub is_posted : Postings → ℕ → ℕ → Bool
is_posted postings key n = is_some (find posting_cmp (posting key n) postings)

-- whether it is posted under one of these keys
abbrev pub is_under : Postings → List ℕ → ℕ → Bool
is_under postings keys n = list_any (λ key. is_posted postings key n) keys

-- whether it is posted under a wildcard that covers the cell
abbrev pub is_under_wildcards : Postings → Cell → ℕ → Bool
is_under_wildcards postings c n = is_under postings (wildcards c) n

-- whether it is posted under the mark of the cell's site
abbrev pub is_under_marks : Postings → Cell → ℕ → Bool
is_under_marks postings c n = is_under postings (folder_marks c) n

-- whether it is posted so that it may touch a folder that the cell is below
abbrev pub is_under_folders : Postings → Cell → ℕ → Bool
is_under_folders postings c n = is_in_folder (λ key. is_posted postings key n) c

-- the same of those folders alone that have at least so many bytes
abbrev pub is_under_folders_from : Postings → Cell → ℕ → ℕ → Bool
is_under_folders_from postings c first n = is_in_folder_from (λ key. is_posted postings key n) c first

-- so many bytes at the front of the cell's path are at the front of the other's too, which is of the same site; or they are none
abbrev pub SharesFront : ℕ → Cell → Cell → Type 0
SharesFront n (cell.Live site path) (cell.Live other longer) = (n ≡ 0) ⊎ ((site ≡ other) × (take n path ≡ take n longer))
SharesFront n c d = n ≡ 0

-- whether it is posted so that it may touch the cell of one of these changes
abbrev pub may_touch_any : Postings → List Change → ℕ → Bool
may_touch_any postings changes n = list_any (λ change. covers (λ key. is_posted postings key n) change.cell) changes

-- whether a key is one of these
abbrev pub is_among : ℕ → List ℕ → Bool
is_among key keys = list_any (λ k. key == k) keys

-- a key is one of the first exactly where it is one of the others
abbrev pub AreSameKeys : List ℕ → List ℕ → Type 0
AreSameKeys keys others = (key : ℕ) → is_among key keys ≡ is_among key others

-- writes of a number under each of these keys
abbrev pub edits : List ℕ → ℕ → Option (Unit {0}) → List (Posting × Option (Unit {0}))
edits keys n posted = map (λ key. (posting key n, posted)) keys

-- under these keys the change of the number is posted in the new ones or it isn't, as is told; all else is posted as in the old ones
abbrev pub IsPostedAs : Bool → ℕ → List ℕ → Postings → Postings → Type 0
IsPostedAs posted n keys old new =
    (key i : ℕ) → is_posted new key i ≡ (if i == n && is_among key keys then posted else is_posted old key i)

-- the postings that come before those under the key of the numbers above this one, and these
abbrev pub is_up_to : ℕ → ℕ → Posting → Bool
is_up_to key n p = nat_lt p.key key || (p.key == key && nat_le p.number n)

abbrev pub is_above : ℕ → ℕ → Posting → Bool
is_above key n p = p.key == key && nat_lt n p.number
