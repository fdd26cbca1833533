-- What a parse that ends well, or doesn't, says of the words.
use Rattle.std.proofs.Common.{◌≡◌, ◌∙◌, List, [], Option, Some, None, Result, Ok, Err, ap, codes, inl, inr, refl, option_map, subst, sym}
use Rattle.std.specs.Prelude.{Box}
use Rattle.std.specs.Box.{box_value}
use Rattle.clap.specs.Kinds.{HasKind, IsAmong}
use Rattle.clap.specs.Words.{HasMatchesOf, Row, Text, fault_of, first_of, kind_of, subcommand_name_of, subcommand_rows, subcommand_rows_of}
use Rattle.clap.specs.declared.error.Error.{Error}
use Rattle.clap.specs.declared.error.kind.ErrorKind.TheVariants as kind
use Rattle.clap.specs.declared.parser.matches.ArgMatches.{ArgMatches}
use Rattle.clap.specs.declared.parser.matches.ArgMatches.TheViews.{out-ArgMatches, out-SubCommand}
use Rattle.clap.specs.declared.parser.matches.SubCommand.{SubCommand}
use Rattle.command_line.specs.CommandLine.{AskForServe, AskForSolo, FindsServe, FindsSolo, HasText, Reads, ReadsMatches, filehost}
use Rattle.command_line.proofs.Asking.{is_plain}
use Rattle.command_line.specs.declared.Refusal.{Refusal}
use Rattle.command_line.specs.declared.Refusal.TheVariants.{Shown, OutOfMemory}
use Rattle.command_line.specs.declared.serve_options.ServeOptions.{ServeOptions}
use Rattle.command_line.specs.declared.Wanted.{Wanted}
use Rattle.command_line.specs.declared.Wanted.TheVariants.{Solo, Serve}

-- the name of the command is that with its rows
pub named : (m : ArgMatches) → option_map (λ (p : Text × List Row). p.0) (subcommand_rows_of m) ≡ subcommand_name_of m
named m = go (out-ArgMatches m).subcommand
  where
    go : {Z : Type 0} (o : Option (Box SubCommand Z)) → option_map (λ (p : Text × List Row). p.0) (subcommand_rows o) ≡ option_map (λ b. (out-SubCommand (box_value b)).name.now) o
    go None = refl
    go (Some b) = refl

-- a command of that name with these rows
pub has_name : (o : Option (Text × List Row)) (name : Text) (rows : List Row) → option_map (λ (p : Text × List Row). p.0) o ≡ Some name → option_map (λ (p : Text × List Row). p.1) o ≡ Some rows
    → o ≡ Some (name, rows)
has_name None name rows n r = cc n
has_name (Some p) name rows n r = let first : p.0 ≡ name = cc n in let second : p.1 ≡ rows = cc r in λ i. Some (first i, second i)

-- where the words are taken, a refusal is for want of memory
pub refused : (words : List Text) (refusal : Refusal) → (fault_of filehost words ≡ [] → refusal ≡ OutOfMemory) → HasText refusal → Reads words (Err refusal)
refused words (Shown text) memory told = (
  record {
    no_solo = λ store asks. let other : Shown text ≡ OutOfMemory = memory asks.0 in cc;
    no_serve = λ options asks. let other : Shown text ≡ OutOfMemory = memory asks.0 in cc;
  },
  told,
)
refused words OutOfMemory memory told = tt

-- where they ask for it, the parse fails for want of memory alone
pub only_memory : (words : List Text) (e : Error) → HasKind (fault_of filehost words) e → fault_of filehost words ≡ [] → kind_of e ≡ kind.OutOfMemory
only_memory words e (inl memory) none = memory
only_memory words e (inr among) none = absurd (subst (λ k. IsAmong (kind_of e) k) none among)

-- where the parse ends well, what is read of it is what is read of the words
pub read_of : (words : List Text) (m : ArgMatches) (read : Result Wanted Refusal) → fault_of filehost words ≡ [] → HasMatchesOf filehost words m → ReadsMatches m read → Reads words read
read_of words m (Ok (Solo store)) none matches (rows, found, is) = (none, (rows, sym (matches is_plain).1 ∙ found, is))
read_of words m (Ok (Serve options)) none matches (rows, found, are) = (none, (rows, sym (matches is_plain).1 ∙ found, are))
read_of words m (Err (Shown text)) none matches (no_solo, no_serve, told) = (
  record {
    no_solo = λ store asks. no_solo store (finds_solo store asks);
    no_serve = λ options asks. no_serve options (finds_serve options asks);
  },
  told,
)
  where
    finds_solo : (store : Option Text) → AskForSolo words store → FindsSolo m store
    finds_solo store (ended, (rows, found, is)) = (rows, (matches is_plain).1 ∙ found, is)

    finds_serve : (options : ServeOptions) → AskForServe words options → FindsServe m options
    finds_serve options (ended, (rows, found, are)) = (rows, (matches is_plain).1 ∙ found, are)
read_of words m (Err OutOfMemory) none matches reads = tt

-- a command that was found by its name, with its rows
pub found_by_name : (m : ArgMatches) (name : Text) (rows : List Row) → subcommand_name_of m ≡ Some name → option_map (λ (p : Text × List Row). p.1) (subcommand_rows_of m) ≡ Some rows
    → subcommand_rows_of m ≡ Some (name, rows)
found_by_name m name rows is has = has_name (subcommand_rows_of m) name rows (named m ∙ is) has

-- a command that was not found by its name
pub not_found : (m : ArgMatches) (name : Text) (rows : List Row) → (subcommand_name_of m ≡ Some name → ⊥) → subcommand_rows_of m ≡ Some (name, rows) → ⊥
not_found m name rows other found = other (sym (named m) ∙ ap (option_map (λ (p : Text × List Row). p.0)) found)
