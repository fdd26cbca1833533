-- What is shown of a list.
use Rattle.std.specs.Prelude.{◌≡◌, List, []}

-- The last receipt and what is shown are of what the list is now, nothing waits to be shown, and what is appended is what will be shown
pub record IsShown {E O : Type 0} (now last shown : E) (waiting : List O) (applied : E → E → E) : Type 0 where
  pub last_is : last ≡ now
  pub shown_is : shown ≡ now
  pub none : waiting ≡ []
  pub shows_last : (before next : E) → applied before next ≡ next
