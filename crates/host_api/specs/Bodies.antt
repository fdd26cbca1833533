-- What a body asks for (RFC 8259, as `serde_json` reads it).
use Rattle.std.specs.Prelude.{ℕ, Bool, true, false, ◌&&◌, List, Option, Some, None, Result, Ok, Err, is_some, option_map, option_and_then, ok_or, not, nat_le, if◌then◌else◌, codes}
use Rattle.std.specs.FinMap as map
use Rattle.std.specs.Cmp.Lexicographic.{slice_cmp}
use Rattle.std.specs.Ordering.{nat_cmp}
use Rattle.std.specs.Result.{result_ok}
use Rattle.std.specs.Str.{is_utf8}
use Rattle.hex.specs.Hex.{decode_sized}
use Rattle.serde_json.specs.Data.{Num, unsigned, Data, number, string, Members, no_members, member}
use Rattle.serde_json.specs.Find.{get_member, as_null, as_object, as_bool, as_str}
use Rattle.serde_json.specs.Read.{read}
use Rattle.host_names.specs.Path.{is_path, with_slash}
use Rattle.host_names.specs.declared.digests.Digest.{Digest}
use Rattle.host_names.specs.declared.names.AliasName.{AliasName}
use Rattle.host_names.specs.declared.names.SiteName.{SiteName}
use Rattle.site_change.specs.declared.commands.Command.TheVariants as command
use Rattle.host_api.specs.Numbers.{greatest_number, number_of}
use Rattle.host_api.specs.declared.routes.Route.{Route}
use Rattle.host_api.specs.declared.routes.Route.TheVariants as route
use Rattle.host_api.specs.declared.bodies.Ask.{Ask}
use Rattle.host_api.specs.declared.bodies.Ask.TheVariants as ask
use Rattle.host_api.specs.declared.refusals.Refusal.{Refusal}
use Rattle.host_api.specs.declared.refusals.Refusal.TheVariants.{BadPath, BadDigest, BadBody}

-- the members of the object that the body is
abbrev pub object_of : List ℕ → Option Members
object_of body = if is_utf8 body then option_and_then as_object (read body) else None

-- the second step with what the first gave
abbrev pub then_with : {A B : Type 0} → Result A Refusal → (A → Result B Refusal) → Result B Refusal
then_with (Ok a) f = f a
then_with (Err e) f = Err e

-- ---- opening a deploy

-- a flag, which is off where it is absent
abbrev pub flag_of : Option Data → Option Bool
flag_of None = Some false
flag_of (Some value) = as_bool value

-- what a body of the right form has: the files, whether the deploy is to stay open, and whether it is a patch
pub record Form : Type 0 where
  pub files : Members
  pub draft : Bool
  pub patch : Bool

abbrev pub form_with : Option Members → Option Bool → Option Bool → Option Form
form_with (Some files) (Some draft) (Some patch) = Some (record { files = files; draft = draft; patch = patch })
form_with files draft patch = None

-- the parts of an opening's body, if it has the right form
abbrev pub form_of : Members → Option Form
form_of ms =
    form_with (option_and_then as_object (get_member (codes "files") ms))
    (flag_of (get_member (codes "draft") ms)) (flag_of (get_member (codes "patch") ms))

-- the digest that 40 hexadecimal digits of either case spell
abbrev pub digest_from : List ℕ → Option Digest
digest_from text = option_map (λ (bytes : List ℕ). record { 0 = bytes }) (result_ok (decode_sized text 20))

-- the digest that a value spells
abbrev pub digest_in : Data → Result Digest Refusal
digest_in value = then_with (ok_or (as_str value) BadBody) (λ text. ok_or (digest_from text) BadDigest)

-- what is listed by a value: in a patch `null` lists a removal, and every other value lists a digest
abbrev pub listed_in : Bool → Data → Result (Option Digest) Refusal
listed_in patch value =
    if patch && is_some (as_null value) then Ok None else then_with (digest_in value) (λ digest. Ok (Some digest))

-- what a deploy lists, by path
abbrev pub Files : Type 0
Files = map.FinMap (slice_cmp nat_cmp) (Option Digest)

-- the files of a list that has each path once
abbrev pub files_in : List (List ℕ × Option Digest) → Files
files_in files = map.from_entries files

-- the files with one more: its path is judged first, then whether the path is listed already, then its value
abbrev pub with_one : Bool → Files → List ℕ → Data → Result Files Refusal
with_one patch files path value =
    if not (is_path path) then Err BadPath
    else if map.contains_key files path then Err BadBody
    else then_with (listed_in patch value) (λ listed. Ok (map.insert files path listed))

-- the files with those that the members list, in the order of the keys' bytes, or the first reason against one
abbrev pub with_all : Bool → Files → Members → Result Files Refusal
with_all patch files no_members = Ok files
with_all patch files (member key value ms) = then_with (with_one patch files (with_slash key) value) (λ more. with_all patch more ms)

-- the deploy that a body opens, or the first reason why it opens none
abbrev pub open_ask : SiteName → List ℕ → Result Ask Refusal
open_ask name body =
    then_with (ok_or (option_and_then form_of (object_of body)) BadBody) (λ form.
    then_with (with_all form.patch map.empty form.files) (λ files.
    Ok (ask.Command (command.Open name (form.patch, map.entries files) (not form.draft)))))

-- ---- naming an entry by its number

-- the number, or 0 where no entry can have it
abbrev pub entry_number : Num → ℕ
entry_number (unsigned n) = if nat_le n greatest_number then n else 0
entry_number other = 0

-- the number that a value writes, or 0, which no entry has
abbrev pub number_in : Data → Option ℕ
number_in (number n) = Some (entry_number n)
number_in (string text) = Some (number_of text)
number_in other = None

-- the number that a body has as its member of this name
abbrev pub number_at : List ℕ → List ℕ → Option ℕ
number_at name body = option_and_then number_in (option_and_then (get_member name) (object_of body))

-- ---- undoing a change

-- the change that a body undoes
abbrev pub undo_ask : SiteName → List ℕ → Result Ask Refusal
undo_ask site body = ok_or (option_map (ask.Undo site) (number_at (codes "change") body)) BadBody

-- ---- letting an alias name a deploy

-- the deploy that a body lets an alias name
abbrev pub alias_ask : SiteName → AliasName → List ℕ → Result Ask Refusal
alias_ask site name body =
    ok_or (option_map (λ n. ask.Command (command.MoveAlias site name n)) (number_at (codes "deploy") body)) BadBody

-- ---- renaming a file or a folder

-- the text that a body has as its member of this name
abbrev pub text_at : List ℕ → List ℕ → Option (List ℕ)
text_at name body = option_and_then as_str (option_and_then (get_member name) (object_of body))

-- the path that a text writes, with or without its slash
abbrev pub path_in : List ℕ → Result (List ℕ) Refusal
path_in text = if is_path (with_slash text) then Ok (with_slash text) else Err BadPath

-- the two paths, where both members are texts and both texts are paths
abbrev pub paths_with : Option (List ℕ) → Option (List ℕ) → Result (List ℕ × List ℕ) Refusal
paths_with (Some source) (Some target) = then_with (path_in source) (λ from. then_with (path_in target) (λ to. Ok (from, to)))
paths_with source target = Err BadBody

-- those of a body
abbrev pub paths_of : List ℕ → Result (List ℕ × List ℕ) Refusal
paths_of body = paths_with (text_at (codes "from") body) (text_at (codes "to") body)

-- the file that a body renames, from the one path to the other
abbrev pub rename_ask : SiteName → List ℕ → Result Ask Refusal
rename_ask site body = then_with (paths_of body) (λ paths. Ok (ask.Command (command.Rename site paths.0 paths.1)))

-- the folder that it renames
abbrev pub rename_folder_ask : SiteName → List ℕ → Result Ask Refusal
rename_folder_ask site body = then_with (paths_of body) (λ paths. Ok (ask.Command (command.RenameFolder site paths.0 paths.1)))

-- ---- any route

-- what the body asks for on this route, or the first reason why it asks for nothing
abbrev pub asked : Route → List ℕ → Result Ask Refusal
asked (route.Ready wanted) body = Ok wanted
asked (route.Open site) body = open_ask site body
asked (route.MoveAlias site name) body = alias_ask site name body
asked (route.Rename site) body = rename_ask site body
asked (route.RenameFolder site) body = rename_folder_ask site body
asked (route.Undo site) body = undo_ask site body

-- whether the body says what is asked for
abbrev pub has_document : Route → Bool
has_document (route.Ready wanted) = false
has_document other = true

-- whether the body is parsed, which takes memory: the route has one that says something, and it is text
abbrev pub is_parsed : Route → List ℕ → Bool
is_parsed route body = has_document route && is_utf8 body
