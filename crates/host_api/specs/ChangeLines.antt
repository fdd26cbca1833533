-- The list of the changes of a site, and its JSON text.
use Rattle.std.specs.Prelude.{ℕ, List, ◌++◌, map, if◌then◌else◌, codes, decimal}
use Rattle.std.specs.List.{join_with_byte}
use Rattle.std.specs.Str.{byte}
use Rattle.site_change.specs.declared.commands.Command.{Command}
use Rattle.site_change.specs.declared.commands.Command.TheVariants as command
use Rattle.host_api.specs.declared.change_lines.ChangeLine.{ChangeLine}
use Rattle.host_api.specs.declared.change_lines.ChangeLine.TheVariants.{Change, Undo}

-- the word that a list of changes has for a command
abbrev pub word_of : Command → List ℕ
word_of (command.Open site files auto) = codes "open"
word_of (command.Publish site m) = codes "publish"
word_of (command.Cancel site m) = codes "cancel"
word_of (command.Remove site path) = codes "remove"
word_of (command.Rename site source target) = codes "rename"
word_of (command.RenameFolder site source target) = codes "rename-folder"
word_of (command.MoveAlias site name m) = codes "alias"
word_of (command.RemoveAlias site name) = codes "unalias"
word_of (command.Restore site m) = codes "restore"
word_of (command.RemoveDeploy site m) = codes "delete"

-- the text of an entry
abbrev pub line_text : ChangeLine → List ℕ
line_text (Change entry kind is_live) =
    codes "{\"entry\":" ++ decimal entry ++ codes ",\"kind\":\"" ++ kind
    ++ codes "\",\"live\":" ++ (if is_live then codes "true" else codes "false") ++ codes "}"
line_text (Undo entry change) = codes "{\"entry\":" ++ decimal entry ++ codes ",\"kind\":\"undo\",\"of\":" ++ decimal change ++ codes "}"

-- the text of a list of changes, with a comma between each two lines
abbrev pub list_text : List ChangeLine → List ℕ
list_text lines = codes "{\"changes\":[" ++ join_with_byte (byte ",") (map line_text lines) ++ codes "]}"
