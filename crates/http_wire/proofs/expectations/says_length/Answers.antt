use Rattle.std.proofs.Common.{◌≡◌, ◌≢◌, ◌∙◌, ap, IsTrue, ℕ, Bool, List, [], ◌∷◌, refl}
use Rattle.std.specs.Prelude.{◌↔◌, Option, Some, None, IfSome, IfNone, is_some}
use Rattle.http_wire.specs.Fields.{WritesLength, SayLength}
use Rattle.http_wire.proofs.expectations.says_length.Goals as goal

-- what is read of the only value tells whether the values say a length
one_read : (values : List (List ℕ)) (value : List ℕ) (read : Option ℕ) (b : Bool) → values ≡ value ∷ [] → IfSome read (WritesLength value)
    → IfNone read ((n : ℕ) → ¬ (WritesLength value n)) → b ≡ is_some read
    → IsTrue b ↔ ((values ≢ []) × ((n : ℕ) × SayLength values n))
one_read values value (Some n) b one writes none test = rw (one, test) ((λ yes. (λ is. cc is, (n, writes))), λ said. refl)
one_read values value None b one some writes test = rw (one, test) ((λ yes. absurd (cc yes)), λ said. absurd (writes said.1.0 said.1.1))

pub returns-in-Some-None : goal.returns-in-Some-None
returns-in-Some-None c =
    let value = c.in-Some-None.value.now in
    let read = c.read_length.ensures in
    one_read c.args.values value c.read_length.result c.is_some.result (c.in-Some-None.ensures.steps ∙ ap (λ more. value ∷ more) c.in-Some-None.ensures'.steps.0)
    read.some read.none c.is_some.ensures
