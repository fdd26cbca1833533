-- The text of an entry in a journal. Each number in it has its highest byte first.
use Rattle.std.specs.Prelude.{◌≡◌, ℕ, ◌+◌, ◌≤◌, List, [], ◌∷◌, ◌++◌, length, Bool, Option, Some, None, IfSome, IsTrue, ◌⊎◌, if◌then◌else◌}
use Rattle.std.specs.List.{flat_map, AllByRecursion}
use Rattle.std.specs.Int.{w16, w32, w64, to_be_bytes}
use Rattle.std.specs.Str.{is_utf8}
use Rattle.host_names.specs.Name.{is_name}
use Rattle.host_names.specs.Path.{is_path}
use Rattle.host_names.specs.declared.digests.Digest.{Digest}
use Rattle.site_state.specs.Files.{IsByPath}
use Rattle.site_state.specs.Listings.{Listed, is_lawful}
pub use Rattle.site_change.specs.Changes.{IsCommandInRange, IsNumber}
use Rattle.site_change.specs.declared.commands.Command.{Command}
use Rattle.site_change.specs.declared.commands.Command.TheVariants.{Open, Publish, Cancel, Remove, Rename, RenameFolder, MoveAlias, RemoveAlias, Restore, RemoveDeploy}
use Rattle.site_change.specs.declared.entries.Entry.{Entry}
use Rattle.site_change.specs.declared.entries.Entry.TheVariants.{Change, Undo}

-- ---- the parts

-- a name of a site or of an alias: its length in one byte, and its bytes
abbrev pub name_text : List ℕ → List ℕ
name_text name = length name ∷ name

-- a path: its length in two bytes, and its bytes
abbrev pub path_text : List ℕ → List ℕ
path_text path = to_be_bytes w16 (length path) ++ path

-- the number of a change or of a deploy: eight bytes
abbrev pub number_text : ℕ → List ℕ
number_text n = to_be_bytes w64 n

-- what is listed at a path: 1 and the 20 bytes of a digest, or 0 where no file is to be there
abbrev pub digest_text : Option Digest → List ℕ
digest_text (Some digest) = 1 ∷ digest.0
digest_text None = 0 ∷ []

-- a path, and what is listed there
abbrev pub listed_text : List ℕ × Option Digest → List ℕ
listed_text listed = path_text listed.0 ++ digest_text listed.1

-- the sum of 1 for a patch and of 2 for a deploy that is published by itself
abbrev pub flags : Bool → Bool → ℕ
flags is_patch auto = (if is_patch then 1 else 0) + (if auto then 2 else 0)

-- the kind of the listing, how many paths it has in four bytes, and the paths
abbrev pub listing_text : Listed → Bool → List ℕ
listing_text files auto = flags files.0 auto ∷ (to_be_bytes w32 (length files.1) ++ flat_map listed_text files.1)

-- ---- an entry

-- a byte for its kind, its site, and what else it says
abbrev pub command_text : Command → List ℕ
command_text (Open site files auto) = 1 ∷ (name_text site.0 ++ listing_text files auto)
command_text (Publish site n) = 2 ∷ (name_text site.0 ++ number_text n)
command_text (Cancel site n) = 3 ∷ (name_text site.0 ++ number_text n)
command_text (MoveAlias site alias n) = 4 ∷ (name_text site.0 ++ (name_text alias.0 ++ number_text n))
command_text (RemoveAlias site alias) = 5 ∷ (name_text site.0 ++ name_text alias.0)
command_text (Rename site source target) = 6 ∷ (name_text site.0 ++ (path_text source ++ path_text target))
command_text (Remove site path) = 7 ∷ (name_text site.0 ++ path_text path)
command_text (Restore site n) = 8 ∷ (name_text site.0 ++ number_text n)
command_text (RemoveDeploy site n) = 9 ∷ (name_text site.0 ++ number_text n)
command_text (RenameFolder site source target) = 10 ∷ (name_text site.0 ++ (path_text source ++ path_text target))

abbrev pub entry_text : Entry → List ℕ
entry_text (Undo site k) = 0 ∷ (name_text site.0 ++ number_text k)
entry_text (Change command) = command_text command

-- ---- which entries have a text

-- from 1 to 63 of the bytes of names
abbrev pub IsName : List ℕ → Type 0
IsName name = IsTrue (is_name name)

-- a path with its slash, in UTF-8
abbrev pub IsPath : List ℕ → Type 0
IsPath path = IsTrue (is_utf8 path) × IsTrue (is_path path)

-- a path, and where a file is listed there the 20 bytes of its digest
abbrev pub IsListed : List ℕ × Option Digest → Type 0
IsListed listed = IsPath listed.0 × IfSome listed.1 (λ digest. length digest.0 ≡ 20)

-- at most 10,000 paths, which strictly rise, and no removal but in a patch
pub record IsListing (files : Listed) : Type 0 where
  pub few : length files.1 ≤ 10000
  pub listed : AllByRecursion IsListed files.1
  pub rising : IsByPath files.1
  pub lawful : IsTrue (is_lawful files.0 files.1)

-- each name, path and number of a command is one
abbrev pub IsCommand : Command → Type 0
IsCommand (Open site files auto) = IsName site.0 × IsListing files
IsCommand (Publish site n) = IsName site.0 × IsNumber n
IsCommand (Cancel site n) = IsName site.0 × IsNumber n
IsCommand (MoveAlias site alias n) = IsName site.0 × (IsName alias.0 × IsNumber n)
IsCommand (RemoveAlias site alias) = IsName site.0 × IsName alias.0
IsCommand (Rename site source target) = IsName site.0 × (IsPath source × IsPath target)
IsCommand (RenameFolder site source target) = IsName site.0 × (IsPath source × IsPath target)
IsCommand (Remove site path) = IsName site.0 × IsPath path
IsCommand (Restore site n) = IsName site.0 × IsNumber n
IsCommand (RemoveDeploy site n) = IsName site.0 × IsNumber n

-- each name, path and number of an entry is one
abbrev pub IsWritable : Entry → Type 0
IsWritable (Undo site k) = IsName site.0 × IsNumber k
IsWritable (Change command) = IsCommand command

-- the bytes are the text of the entry
abbrev pub Spells : List ℕ → Entry → Type 0
Spells bytes entry = IsWritable entry × (bytes ≡ entry_text entry)

-- ---- what the types of an entry's parts leave open

-- the same of an entry
abbrev pub IsInRange : Entry → Type 0
IsInRange (Undo site k) = IsNumber k
IsInRange (Change command) = IsCommandInRange command

-- ---- which bytes take memory to be read

-- the bytes begin with a path
abbrev pub BeginsWithPath : List ℕ → Type 0
BeginsWithPath bytes = (path rest : List ℕ) × IsPath path × (bytes ≡ path_text path ++ rest)

-- The bytes begin with the kind of a listing and the number of its paths, at most 10,000. Where there are some, a path follows; else there is no more.
abbrev pub BeginsWithListing : List ℕ → Type 0
BeginsWithListing bytes = (patch auto : Bool) × (n : ℕ) × (rest : List ℕ) × (bytes ≡ flags patch auto ∷ (to_be_bytes w32 n ++ rest)) × (n ≤ 10000)
    × (((1 ≤ n) × BeginsWithPath rest) ⊎ ((n ≡ 0) × (rest ≡ [])))

-- The bytes are those of an opening, a renaming of a file or of a folder, or a removal of a file, up to its first path, with any bytes after that,
-- or of an opening without paths.
abbrev pub TakesMemory : List ℕ → Type 0
TakesMemory bytes = (site rest : List ℕ) × IsName site × (((bytes ≡ 1 ∷ (name_text site ++ rest)) × BeginsWithListing rest)
    ⊎ ((kind : ℕ) × ((kind ≡ 6) ⊎ ((kind ≡ 7) ⊎ (kind ≡ 10))) × (bytes ≡ kind ∷ (name_text site ++ rest)) × BeginsWithPath rest))
