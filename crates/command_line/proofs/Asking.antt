-- What the commands of the program are for a parse, and which words they take.
use Rattle.std.proofs.Common.{◌≡◌, ◌++◌, ◌∷◌, Option, Some, None, codes, refl, true, []}
use Rattle.clap.specs.Words.{Text, is_simple, is_simple_and_free}
use Rattle.clap.proofs.OnLiterals.{clap_on_literals}
use Rattle.command_line.specs.CommandLine.{AskForSolo, filehost}

pub is_exact : is_simple_and_free filehost ≡ true
unfolding clap_on_literals
is_exact = refl

pub is_plain : is_simple filehost ≡ true
unfolding clap_on_literals
is_plain = refl

pub alone : AskForSolo (codes "solo" ∷ []) None
unfolding clap_on_literals
alone = (refl, (_, refl, refl))

pub marked : AskForSolo (codes "solo" ∷ codes "--" ∷ []) None
unfolding clap_on_literals
marked = (refl, (_, refl, refl))

pub joined : (folder : Text) → AskForSolo (codes "solo" ∷ (codes "--store=" ++ folder) ∷ []) (Some folder)
unfolding clap_on_literals
joined folder = (refl, (_, refl, refl))

pub not_twice : (a b : Text) (store : Option Text) → AskForSolo (codes "solo" ∷ (codes "--store=" ++ a) ∷ (codes "--store=" ++ b) ∷ []) store → ⊥
unfolding clap_on_literals
not_twice a b store asks = cc asks.0

pub not_bare : (store : Option Text) → AskForSolo (codes "solo" ∷ codes "--store" ∷ []) store → ⊥
unfolding clap_on_literals
not_bare store asks = cc asks.0
