-- The command `serve`, and what its words ask for.
use Rattle.std.specs.Prelude.{◌≡◌, ℕ, List, Option, None, Some, IsSomeAnd, MatchOption, codes, option_map}
use Rattle.std.specs.String.{string_bytes}
use Rattle.std.specs.Str.Parse.{digits_value, without_leading_plus}
use Rattle.std.specs.Net.Grammar.{IsSocketText}
use Rattle.clap.specs.Values.{IsUnsignedIn}
use Rattle.clap.specs.Words.{App, Row, Rule, Text, first_of, new_app, with_rule}
use Rattle.command_line.specs.Options.{option_rule, number_rule, required, with_default}
use Rattle.command_line.specs.declared.serve_options.ServeOptions.{ServeOptions}

-- ---- the command

abbrev pub listen_rule : Rule
listen_rule = required (option_rule (codes "listen"))

abbrev pub nodes_rule : Rule
nodes_rule = with_default (number_rule (codes "nodes") 8) (codes "1")

abbrev pub workers_rule : Rule
workers_rule = with_default (number_rule (codes "workers") 8) (codes "2")

abbrev pub conns_rule : Rule
conns_rule = number_rule (codes "conns") 1000000

abbrev pub serve : App
serve = with_rule (with_rule (with_rule (with_rule (with_rule (new_app (codes "serve")) listen_rule) nodes_rule) workers_rule) (option_rule (codes "store"))) conns_rule

-- ---- what it is told

-- the option was given, or has a default, and its text writes this number from 1 to `most`
abbrev pub IsNumberAt : ℕ → Option Text → ℕ → Type 0
IsNumberAt most None n = ⊥
IsNumberAt most (Some text) n = IsUnsignedIn 1 most text × (n ≡ digits_value 10 (without_leading_plus text))

-- it was given with this number, or wasn't given
abbrev pub IsOptionalAt : ℕ → Option Text → Option ℕ → Type 0
IsOptionalAt most given n = MatchOption n (given ≡ None) (IsNumberAt most given)

-- the options that these rows tell
pub record AreServeRows (rows : List Row) (options : ServeOptions) : Type 0 where
  pub listen : IsSomeAnd (first_of (codes "listen") rows) (λ text. IsSocketText text options.listen)
  pub nodes : IsNumberAt 8 (first_of (codes "nodes") rows) options.nodes
  pub workers : IsNumberAt 8 (first_of (codes "workers") rows) options.workers
  pub store : option_map string_bytes options.store ≡ first_of (codes "store") rows
  pub conns : IsOptionalAt 1000000 (first_of (codes "conns") rows) options.conns
