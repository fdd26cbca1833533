-- Calls on the files of a folder: those that a put and a get make there.
use Rattle.std.specs.Prelude.{◌≡◌, ◌⊎◌, ℕ, List, [], ◌∷◌, ◌++◌, Bool, true, false, Option, Some, None, length, codes}
use Rattle.std.specs.Path.{path_join}
use Rattle.hex.specs.Hex.{encode_lower}
use Rattle.blob_store.specs.declared.shelves.ShelfName.{ShelfName}
use Rattle.blob_store.specs.declared.shelves.ShelfName.TheVariants.{Part, Table}
use Rattle.blob_store.specs.declared.file_calls.Looked.{Looked}
use Rattle.blob_store.specs.declared.file_calls.Looked.TheVariants as looked
use Rattle.blob_store.specs.declared.folder_files.FileFault.{FileFault}
use Rattle.blob_store.specs.declared.folder_files.FileFault.TheVariants as file_fault
use Rattle.blob_store.specs.declared.folder_files.Given.{Given}
use Rattle.blob_store.specs.declared.folder_files.Given.TheVariants as given
use Rattle.blob_store.specs.declared.system_calls.FileLog.{FileLog}
use Rattle.blob_store.specs.declared.system_calls.Logged.{Logged, Empty, Made', Wrote', Synced', Renamed', Removed', FolderSynced', Found', FindFailed', Read', ReadFailed'}

-- a call on the files of a folder
pub data FileCall : Type 0 where
  -- a file is made where nothing was, for its owner alone
  Made : (path : List ℕ) → FileCall
  -- all of these bytes are written into the file that was made last
  Wrote : (bytes : List ℕ) → FileCall
  -- the bytes of the file that was made last are synced
  Synced : FileCall
  -- a file gets another name, and replaces what had that name
  Renamed : (from to : List ℕ) → FileCall
  Removed : (path : List ℕ) → FileCall
  -- the names in a folder are synced
  FolderSynced : (path : List ℕ) → FileCall
  -- one of these that failed; it may have done a part of its work
  Fails : FileCall → FileCall
  -- this is at a path, or the look failed
  Found : (path : List ℕ) (what : Looked) → FileCall
  FindFails : (path : List ℕ) → FileCall
  -- these are the first bytes of the file at a path, or the read failed
  Read : (path bytes : List ℕ) → FileCall
  ReadFails : (path : List ℕ) → FileCall

-- a call that was done, or failed
abbrev pub ended : Bool → FileCall → FileCall
ended true call = call
ended false call = Fails call

-- the calls that were noted, the last one first
abbrev pub logged_calls : Logged → List FileCall
logged_calls Empty = []
logged_calls (Made' shape before path done) = ended done.value (Made path.numbers) ∷ logged_calls before
logged_calls (Wrote' shape before bytes done) = ended done.value (Wrote bytes.numbers) ∷ logged_calls before
logged_calls (Synced' shape before done) = ended done.value Synced ∷ logged_calls before
logged_calls (Renamed' shape before from to done) = ended done.value (Renamed from.numbers to.numbers) ∷ logged_calls before
logged_calls (Removed' shape before path done) = ended done.value (Removed path.numbers) ∷ logged_calls before
logged_calls (FolderSynced' shape before path done) = ended done.value (FolderSynced path.numbers) ∷ logged_calls before
logged_calls (Found' shape before path what) = Found path.numbers what.value ∷ logged_calls before
logged_calls (FindFailed' shape before path) = FindFails path.numbers ∷ logged_calls before
logged_calls (Read' shape before path bytes) = Read path.numbers bytes.numbers ∷ logged_calls before
logged_calls (ReadFailed' shape before path) = ReadFails path.numbers ∷ logged_calls before

abbrev pub calls_in : FileLog → List FileCall
calls_in log = logged_calls log.logged.value

-- ---- where the bytes of a name are

-- the path of the file under a name in a folder
abbrev pub path_of : (folder : List ℕ) → ShelfName → List ℕ
path_of folder (Part digest) = path_join folder (codes "c-" ++ encode_lower digest.0)
path_of folder (Table digest) = path_join folder (codes "t-" ++ encode_lower digest.0)

-- ---- a put

-- what was called when its file is to be made: nothing; or something that had the temporary name was removed
abbrev pub Begins : (temporary : List ℕ) → (old start : List FileCall) → Type 0
Begins temporary old start = (start ≡ old) ⊎ (start ≡ Removed temporary ∷ Fails (Made temporary) ∷ old)

-- its calls, the last one first: the bytes are written into a new file under the temporary name, and synced, and then the file gets its own name
abbrev pub moves : (temporary path bytes : List ℕ) → List FileCall
moves temporary path bytes = Renamed temporary path ∷ Synced ∷ Wrote bytes ∷ Made temporary ∷ []

-- after a table the names in the folder are synced too
abbrev pub puts : (folder temporary : List ℕ) → ShelfName → (bytes : List ℕ) → List FileCall
puts folder temporary (Part digest) bytes = moves temporary (path_of folder (Part digest)) bytes
puts folder temporary (Table digest) bytes = FolderSynced folder ∷ moves temporary (path_of folder (Table digest)) bytes

-- these calls were made after others
abbrev pub Makes : List FileCall → (temporary : List ℕ) → (old new : List FileCall) → Type 0
Makes calls temporary old new = (start : List FileCall) × Begins temporary old start × (new ≡ calls ++ start)

-- of these calls, the last one first, the first ones were made, up to one that failed
abbrev pub StopsIn : List FileCall → (start new : List FileCall) → Type 0
StopsIn [] start new = ⊥
StopsIn (call ∷ calls) start new = (new ≡ Fails call ∷ (calls ++ start)) ⊎ StopsIn calls start new

-- they were made so far; or what had the temporary name couldn't be removed
abbrev pub Stops : List FileCall → (temporary : List ℕ) → (old new : List FileCall) → Type 0
Stops calls temporary old new =
    ((start : List FileCall) × Begins temporary old start × StopsIn calls start new)
    ⊎ (new ≡ Fails (Removed temporary) ∷ Fails (Made temporary) ∷ old)

-- bytes are put under a name
abbrev pub IsPut : (folder temporary : List ℕ) → ShelfName → (bytes : List ℕ) → (old new : List FileCall) → Type 0
IsPut folder temporary name bytes old new = Makes (puts folder temporary name bytes) temporary old new

-- they aren't: nothing is called without memory for the path; and if a call fails, the file under the temporary name is removed, if that can be done
abbrev pub IsNotPut : (folder temporary : List ℕ) → ShelfName → (bytes : List ℕ) → FileFault → (old new : List FileCall) → Type 0
IsNotPut folder temporary name bytes file_fault.OutOfMemory old new = new ≡ old
IsNotPut folder temporary name bytes (file_fault.Failed path error) old new =
    (stopped : List FileCall) × Stops (puts folder temporary name bytes) temporary old stopped
    × ((new ≡ Removed temporary ∷ stopped) ⊎ (new ≡ Fails (Removed temporary) ∷ stopped))

-- ---- a get

-- what is under a name: nothing; or something that isn't read, since it is no file or too long; or a file with these bytes, which has as many
abbrev pub IsGiven : (folder : List ℕ) → ShelfName → Given → (old new : List FileCall) → Type 0
IsGiven folder name given.Nothing old new = new ≡ Found (path_of folder name) looked.Nothing ∷ old
IsGiven folder name given.Other old new = new ≡ Found (path_of folder name) looked.Other ∷ old
IsGiven folder name (given.Bytes bytes) old new =
    new ≡ Read (path_of folder name) bytes.items ∷ Found (path_of folder name) (looked.File (length bytes.items)) ∷ old

-- nothing is given: the look failed, or the read after it; or there was no memory for the path or for the bytes
abbrev pub IsNotGiven : (folder : List ℕ) → ShelfName → FileFault → (old new : List FileCall) → Type 0
IsNotGiven folder name (file_fault.Failed path error) old new =
    (new ≡ FindFails (path_of folder name) ∷ old)
    ⊎ ((size : ℕ) × (new ≡ ReadFails (path_of folder name) ∷ Found (path_of folder name) (looked.File size) ∷ old))
IsNotGiven folder name file_fault.OutOfMemory old new =
    (new ≡ old) ⊎ ((size : ℕ) × (new ≡ Found (path_of folder name) (looked.File size) ∷ old))
