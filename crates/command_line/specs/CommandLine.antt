-- The commands of the program, and the words that ask for each.
use Rattle.std.specs.Prelude.{◌≡◌, ◌≢◌, true, List, [], Option, Some, option_map, Result, Ok, Err, codes}
use Rattle.std.specs.String.{string_bytes}
use Rattle.clap.specs.Words.{App, Row, Text, fault_of, first_of, new_app, subcommand_of, subcommand_rows_of, with_rule, with_subcommand}
use Rattle.clap.specs.declared.parser.matches.ArgMatches.{ArgMatches}
use Rattle.command_line.specs.declared.Refusal.{Refusal}
use Rattle.command_line.specs.declared.Refusal.TheVariants.{Shown, OutOfMemory}
use Rattle.command_line.specs.declared.Wanted.{Wanted}
use Rattle.command_line.specs.declared.Wanted.TheVariants.{Solo, Serve}
use Rattle.command_line.specs.declared.serve_options.ServeOptions.{ServeOptions}
use Rattle.command_line.specs.Options.{option_rule}
use Rattle.command_line.specs.Serving.{AreServeRows, serve}

-- what a parse reads of the program above its commands: it wants one of them, and answers no word at
-- all with help
abbrev pub wanting : App
wanting =
    let plain = new_app (codes "filehost") in
    record plain {
      top = record plain.top {
        no_binary_name = true;
        has_version = true;
        subcommand_required = true;
        arg_required_else_help = true;
      };
    }

-- the command `solo`, which has an option that names a folder
abbrev pub solo : App
solo = with_rule (new_app (codes "solo")) (option_rule (codes "store"))

-- what a parse reads of the program and its commands
abbrev pub filehost : App
filehost = with_subcommand (with_subcommand wanting solo.top) serve.top

-- The words ask for the command `solo`, with that folder or none: the commands take them, as `clap` reads them, and of its option `store`
-- the command reads that.
abbrev pub AskForSolo : List Text → Option Text → Type 0
AskForSolo words store =
    (fault_of filehost words ≡ []) × ((rows : List Row) × (subcommand_of filehost words ≡ Some (codes "solo", rows)) × (first_of (codes "store") rows ≡ store))

-- the words ask for the command `serve`, with these options
abbrev pub AskForServe : List Text → ServeOptions → Type 0
AskForServe words options =
    (fault_of filehost words ≡ []) × ((rows : List Row) × (subcommand_of filehost words ≡ Some (codes "serve", rows)) × AreServeRows rows options)

-- where a refusal has a text to show, the text is not empty
abbrev pub HasText : Refusal → Type 0
HasText (Shown text) = string_bytes text ≢ []
HasText OutOfMemory = Unit {0}

-- the words ask for nothing that the program does
pub record AskForNothing (words : List Text) : Type 0 where
  pub no_solo : (store : Option Text) → ¬ (AskForSolo words store)
  pub no_serve : (options : ServeOptions) → ¬ (AskForServe words options)

-- a parse found the command `solo`, with this folder or none
abbrev pub FindsSolo : ArgMatches → Option Text → Type 0
FindsSolo matches store = (rows : List Row) × (subcommand_rows_of matches ≡ Some (codes "solo", rows)) × (first_of (codes "store") rows ≡ store)

-- a parse found the command `serve`, with these options
abbrev pub FindsServe : ArgMatches → ServeOptions → Type 0
FindsServe matches options = (rows : List Row) × (subcommand_rows_of matches ≡ Some (codes "serve", rows)) × AreServeRows rows options

-- what is read of what a parse found
abbrev pub ReadsMatches : ArgMatches → Result Wanted Refusal → Type 0
ReadsMatches matches (Ok (Solo store)) = FindsSolo matches (option_map string_bytes store)
ReadsMatches matches (Ok (Serve options)) = FindsServe matches options
ReadsMatches matches (Err (Shown text)) =
    ((store : Option Text) → ¬ (FindsSolo matches store)) × ((options : ServeOptions) → ¬ (FindsServe matches options)) × (string_bytes text ≢ [])
ReadsMatches matches (Err OutOfMemory) = Unit {0}

-- What is read of the words: that they ask for `solo`, with that folder; or for `serve`, with these options; or for nothing that the program does, and a
-- text that isn't empty; or that memory ran out. This may come whatever the words are, since what `clap` says of itself excludes it for none.
abbrev pub Reads : List Text → Result Wanted Refusal → Type 0
Reads words (Ok (Solo store)) = AskForSolo words (option_map string_bytes store)
Reads words (Ok (Serve options)) = AskForServe words options
Reads words (Err (Shown text)) = AskForNothing words × (string_bytes text ≢ [])
Reads words (Err OutOfMemory) = Unit {0}
