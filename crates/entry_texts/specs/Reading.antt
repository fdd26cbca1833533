-- Reading from left to right: what the functions that read the parts of a text answer.
use Rattle.std.specs.Prelude.{◌≡◌, ℕ, zero, suc, List, [], ◌∷◌, length, take, drop, Bool, true, false, ◌&&◌, ◌||◌, is_some, Option, Some, None, Result, Ok, Err, nat_lt, nat_le, ◌==◌, if◌then◌else◌}
use Rattle.std.specs.Cmp.Lexicographic.{slice_cmp}
use Rattle.std.specs.Int.{Width, w16, w32, w64, byte_len, from_be_bytes}
use Rattle.std.specs.Ordering.{nat_cmp, is_lt}
use Rattle.std.specs.Str.{is_utf8}
use Rattle.host_names.specs.Name.{is_name}
use Rattle.host_names.specs.Path.{is_path}
use Rattle.host_names.specs.declared.digests.Digest.{Digest}
use Rattle.host_names.specs.declared.names.SiteName.{SiteName}
use Rattle.host_names.specs.declared.names.AliasName.{AliasName}
use Rattle.site_state.specs.Files.{Paths}
use Rattle.site_state.specs.Listings.{Listed, is_lawful}
use Rattle.site_change.specs.declared.commands.Command.TheVariants.{Open, Publish, Cancel, Remove, Rename, RenameFolder, MoveAlias, RemoveAlias, Restore, RemoveDeploy}
use Rattle.site_change.specs.declared.entries.Entry.{Entry}
use Rattle.site_change.specs.declared.entries.Entry.TheVariants.{Change, Undo}
use Rattle.entry_texts.specs.declared.decode_faults.DecodeFault.{DecodeFault}
use Rattle.entry_texts.specs.declared.decode_faults.DecodeFault.TheVariants as faults

infixl 10 ◌>>=◌
abbrev pub ◌>>=◌ : {A B : Type 0} → Option A → (A → Option B) → Option B
None >>= f = None
(Some x) >>= f = f x

-- what a function returned, seen by view, is what reading gives
abbrev pub Finds : {X Y : Type 0} → (X → Y) → Option X → Option Y → Type 0
Finds view None read = read ≡ None
Finds view (Some x) read = read ≡ Some (view x)

abbrev pub Fails : {Y : Type 0} → DecodeFault → Option Y → Type 0
Fails faults.BadEntry read = read ≡ None
Fails faults.OutOfMemory read = Unit {0}

-- the same, unless memory ran out
abbrev pub Gives : {X Y : Type 0} → (X → Y) → Result X DecodeFault → Option Y → Type 0
Gives view (Ok x) read = read ≡ Some (view x)
Gives view (Err fault) read = Fails fault read

-- ---- the parts: a value, and the bytes after it

abbrev pub field_at : ℕ → List ℕ → Option (List ℕ × List ℕ)
field_at n bytes = if nat_lt (length bytes) n then None else Some (take n bytes, drop n bytes)

abbrev pub big_number_at : Width → List ℕ → Option (ℕ × List ℕ)
big_number_at w bytes = if nat_lt (length bytes) (byte_len w) then None else Some (from_be_bytes w (take (byte_len w) bytes), drop (byte_len w) bytes)

-- the bytes, where they are a name
abbrev pub name_of : List ℕ → Option (List ℕ)
name_of bytes = if is_name bytes then Some bytes else None

-- the length comes first, in one byte
unfoldable pub name_at : List ℕ → Option (List ℕ × List ℕ)
name_at [] = None
name_at (n ∷ bytes) = do
  f ← field_at n bytes
  name ← name_of f.0
  Some (name, f.1)

abbrev pub site_named : List ℕ → SiteName
site_named name = record { 0 = name }

abbrev pub alias_named : List ℕ → AliasName
alias_named name = record { 0 = name }

abbrev pub digest_of : List ℕ → Digest
digest_of bytes = record { 0 = bytes }

unfoldable pub site_at : List ℕ → Option (SiteName × List ℕ)
site_at bytes = do
  f ← name_at bytes
  Some (site_named f.0, f.1)

unfoldable pub alias_at : List ℕ → Option (AliasName × List ℕ)
alias_at bytes = do
  f ← name_at bytes
  Some (alias_named f.0, f.1)

unfoldable pub text_at : List ℕ → Option (List ℕ × List ℕ)
text_at bytes = do
  n ← big_number_at w16 bytes
  f ← field_at n.0 n.1
  if is_utf8 f.0 then Some f else None

-- the bytes, where they are a path
abbrev pub path_of : List ℕ → Option (List ℕ)
path_of bytes = if is_path bytes then Some bytes else None

unfoldable pub path_at : List ℕ → Option (List ℕ × List ℕ)
path_at bytes = do
  f ← text_at bytes
  path ← path_of f.0
  Some (path, f.1)

unfoldable pub digest_at : List ℕ → Option (Option Digest × List ℕ)
digest_at [] = None
digest_at (zero ∷ rest) = Some (None, rest)
digest_at (suc zero ∷ rest) = do
  f ← field_at 20 rest
  Some (Some (digest_of f.0), f.1)
digest_at (suc (suc b) ∷ rest) = None

unfoldable pub listed_at : List ℕ → Option ((List ℕ × Option Digest) × List ℕ)
listed_at bytes = do
  p ← path_at bytes
  d ← digest_at p.1
  Some ((p.0, d.0), d.1)

unfoldable pub files_at : ℕ → List ℕ → Option (Paths (Option Digest) × List ℕ)
files_at zero bytes = Some ([], bytes)
files_at (suc n) bytes = do
  first ← listed_at bytes
  others ← files_at n first.1
  Some (first.0 ∷ others.0, others.1)

unfoldable pub flags_at : List ℕ → Option ((Bool × Bool) × List ℕ)
flags_at [] = None
flags_at (zero ∷ rest) = Some ((false, false), rest)
flags_at (suc zero ∷ rest) = Some ((true, false), rest)
flags_at (suc (suc zero) ∷ rest) = Some ((false, true), rest)
flags_at (suc (suc (suc zero)) ∷ rest) = Some ((true, true), rest)
flags_at (suc (suc (suc (suc b))) ∷ rest) = None

unfoldable pub count_at : List ℕ → Option (ℕ × List ℕ)
count_at bytes = do
  n ← big_number_at w32 bytes
  if nat_le n.0 10000 then Some n else None

-- ---- to the end of the bytes

-- the bytes are a number in its range
unfoldable pub whole_number : List ℕ → Option ℕ
whole_number bytes = do
  n ← big_number_at w64 bytes
  if (length n.1 == 0) && (nat_le 1 n.0 && nat_le n.0 1000000) then Some n.0 else None

unfoldable pub whole_path : List ℕ → Option (List ℕ)
whole_path bytes = do
  p ← path_at bytes
  if length p.1 == 0 then Some p.0 else None

unfoldable pub whole_alias : List ℕ → Option AliasName
whole_alias bytes = do
  a ← alias_at bytes
  if length a.1 == 0 then Some a.0 else None

-- each path is below the next
unfoldable pub is_rising : Paths (Option Digest) → Bool
is_rising [] = true
is_rising (e ∷ []) = true
is_rising (e ∷ f ∷ es) = is_lt (slice_cmp nat_cmp e.0 f.0) && is_rising (f ∷ es)

unfoldable pub whole_files : ℕ → List ℕ → Option (Paths (Option Digest))
whole_files n bytes = do
  l ← files_at n bytes
  if (length l.1 == 0) && is_rising l.0 then Some l.0 else None

-- ---- after the first byte of an entry

unfoldable pub moved : List ℕ → Option Entry
moved bytes = do
  s ← site_at bytes
  a ← alias_at s.1
  n ← whole_number a.1
  Some (Change (MoveAlias s.0 a.0 n))

unfoldable pub unaliased : List ℕ → Option Entry
unaliased bytes = do
  s ← site_at bytes
  a ← whole_alias s.1
  Some (Change (RemoveAlias s.0 a))

-- the site and the two paths of a renaming
unfoldable pub paths_at : List ℕ → Option (SiteName × (List ℕ × List ℕ))
paths_at bytes = do
  s ← site_at bytes
  p ← path_at s.1
  q ← whole_path p.1
  Some (s.0, (p.0, q))

unfoldable pub renamed : List ℕ → Option Entry
renamed bytes = do
  r ← paths_at bytes
  Some (Change (Rename r.0 r.1.0 r.1.1))

unfoldable pub folder_renamed : List ℕ → Option Entry
folder_renamed bytes = do
  r ← paths_at bytes
  Some (Change (RenameFolder r.0 r.1.0 r.1.1))

unfoldable pub removed : List ℕ → Option Entry
removed bytes = do
  s ← site_at bytes
  p ← whole_path s.1
  Some (Change (Remove s.0 p))

-- the listing of these paths, if no file is removed but by a patch
abbrev pub listing_of : Bool → Paths (Option Digest) → Option Listed
listing_of is_patch files = if is_lawful is_patch files then Some (is_patch, files) else None

unfoldable pub listing_at : List ℕ → Option (Listed × Bool)
listing_at bytes = do
  f ← flags_at bytes
  n ← count_at f.1
  l ← whole_files n.0 n.1
  files ← listing_of f.0.0 l
  Some (files, f.0.1)

unfoldable pub opened : List ℕ → Option Entry
opened bytes = do
  s ← site_at bytes
  l ← listing_at s.1
  Some (Change (Open s.0 l.0 l.1))

-- the entry of this kind that says a site and a number alone, if it is one
unfoldable pub of_kind : ℕ → SiteName → ℕ → Option Entry
of_kind zero site n = Some (Undo site n)
of_kind (suc zero) site n = None
of_kind (suc (suc zero)) site n = Some (Change (Publish site n))
of_kind (suc (suc (suc zero))) site n = Some (Change (Cancel site n))
of_kind (suc (suc (suc (suc zero)))) site n = None
of_kind (suc (suc (suc (suc (suc zero))))) site n = None
of_kind (suc (suc (suc (suc (suc (suc zero)))))) site n = None
of_kind (suc (suc (suc (suc (suc (suc (suc zero))))))) site n = None
of_kind (suc (suc (suc (suc (suc (suc (suc (suc zero)))))))) site n = Some (Change (Restore site n))
of_kind (suc (suc (suc (suc (suc (suc (suc (suc (suc zero))))))))) site n = Some (Change (RemoveDeploy site n))
of_kind (suc (suc (suc (suc (suc (suc (suc (suc (suc (suc k)))))))))) site n = None

unfoldable pub numbered_entry : ℕ → List ℕ → Option Entry
numbered_entry kind bytes = do
  s ← site_at bytes
  n ← whole_number s.1
  of_kind kind s.0 n

-- an entry of a kind without paths
unfoldable pub plain_entry : ℕ → List ℕ → Option Entry
plain_entry kind bytes = if kind == 4 then moved bytes else if kind == 5 then unaliased bytes else numbered_entry kind bytes

-- all of the bytes
unfoldable pub entry_of : List ℕ → Option Entry
entry_of [] = None
entry_of (kind ∷ bytes) =
    if kind == 1 then opened bytes
    else if kind == 6 then renamed bytes
    else if kind == 7 then removed bytes
    else if kind == 10 then folder_renamed bytes
    else plain_entry kind bytes

-- ---- what is read before memory is taken

-- what follows the site and the first path
unfoldable pub after_path : List ℕ → Option (List ℕ)
after_path bytes = do
  s ← site_at bytes
  p ← path_at s.1
  Some p.1

-- what follows the kind of a listing and the number of its paths, where there are paths and it begins with one, or it is all of them
unfoldable pub listing_front : List ℕ → Option (List ℕ)
listing_front bytes = do
  f ← flags_at bytes
  n ← count_at f.1
  if (nat_le 1 n.0 && is_some (path_at n.1)) || is_some (whole_files n.0 n.1) then Some n.1 else None

-- the same after the site
unfoldable pub after_flags : List ℕ → Option (List ℕ)
after_flags bytes = do
  s ← site_at bytes
  listing_front s.1

-- what follows that in an entry with paths
unfoldable pub before_memory : List ℕ → Option (List ℕ)
before_memory [] = None
before_memory (kind ∷ bytes) =
    if kind == 1 then after_flags bytes
    else if kind == 6 then after_path bytes
    else if kind == 7 then after_path bytes
    else if kind == 10 then after_path bytes
    else None
