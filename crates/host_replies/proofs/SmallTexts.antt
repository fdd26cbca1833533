-- A text that is written at once, to what keeps all of it.
use Rattle.std.proofs.Common.{◌≡◌, ℕ, List, [], ◌++◌, take, length, Option, Some, Ok, sym, ap, subst, ◌∙◌, arith}
use Rattle.std.specs.Io.KnownBytes.{Appends}
use Rattle.std.proofs.lemmas.List.{take_all}
use Rattle.http_wire.specs.Gathering.{Gathered, nothing, SendsOn}
use Rattle.http_wire.specs.Timing.{Event, Moves, all_put}
use Rattle.http_wire.proofs.Amid.{amid_first}
use Rattle.http_wire.proofs.Trails.{all_told}

pub all_held : {S : Type 0} (saw : S → Event → S → Type 0) (left held : S → Option (List ℕ)) (read_fails write_fails : Type 0)
    → (told : (a b : S) (event : Event) → saw a event b → Moves read_fails write_fails event (left a) (held a) (left b) (held b))
    → (old new : S) (text before after : List ℕ) (out new_out : Gathered) → held old ≡ Some before → held new ≡ Some after → out ≡ nothing
    → SendsOn saw old new (Ok tt) text out new_out → after ≡ before ++ text
all_held saw left held read_fails write_fails told old new text before after out new_out first last fresh sends =
    let ran = sends 0 (amid_first text out fresh) in
    let all : all_put ran.events ≡ text = ran.claimed.1.put ∙ take_all ran.claimed.0 text (omega (arith, ran.claimed.1.ends.1)) in
    let there = (all_told saw left held read_fails write_fails told old new ran.events ran.steps).taken in
    let appended : Appends (Some before) (Some after) (all_put ran.events) =
    subst (λ o. Appends o (Some after) (all_put ran.events)) first (subst (λ o. Appends (held old) o (all_put ran.events)) last there) in
    appended ∙ ap (λ u. before ++ u) all
