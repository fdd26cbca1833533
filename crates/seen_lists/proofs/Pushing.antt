-- A list as its owner has it.
use Rattle.std.proofs.Common.{◌≡◌, ℕ, ◌+◌, List, [], ◌∷◌, ◌++◌, length, Some, ap, sym, subst, ◌∙◌, arith, length-append}
use Rattle.logbook.specs.Pages.{Book, Named, Nib, may_write}
use Rattle.growing.specs.Orders.{IsNewer}
use Rattle.seen_lists.specs.Fronts.{Rises, latest}
use Rattle.seen_lists.specs.Rules.{IsOwned, Link, items_of, next_of}
use Rattle.seen_lists.proofs.Logs.{items_append, next_more}
use Rattle.seen_lists.proofs.Rising.{latest_more, rises_more}

items_pushed : {E : Type 0} (log new : List (Link E)) (x : E) (k : ℕ) (ask : Link E) → new ≡ log ++ ask ∷ [] → ask ≡ (Some x, k) → items_of new ≡ items_of log ++ x ∷ []
items_pushed log new x k ask is asked = ap items_of (is ∙ ap (λ e. log ++ e ∷ []) asked) ∙ items_append log ((Some x, k) ∷ [])

pub latest_pushed : {E : Type 0} (found : E) (log new : List (Link E)) (x : E) (k : ℕ) (ask : Link E) → new ≡ log ++ ask ∷ [] → ask ≡ (Some x, k) → latest found (items_of new) ≡ x
latest_pushed found log new x k ask is asked = ap (latest found) (items_pushed log new x k ask is asked) ∙ latest_more found (items_of log) x

-- it is one after a push too
pub list_pushed : {E : Type 0} (later : E → E → Type 0) (found : E) (book : Book) (entries count : ℕ) (head : Named) (pen_book : Book) (nib : Nib) (seen_book : Book) (log : List (Link E))
    (x : E) (next_book : Book) (next : Nib) (new_book : Book) (new : List (Link E)) (ask : Link E)
    → IsOwned book entries count head pen_book nib seen_book log × Rises later found (items_of log) → IsNewer later (latest found (items_of log)) x
    → next_book ≡ book → next.right ≡ may_write → new_book ≡ seen_book → new ≡ log ++ ask ∷ [] → ask ≡ (Some x, next.key)
    → IsOwned book (entries + 1) (count + 1) head next_book next new_book new × Rises later found (items_of new)
list_pushed later found book entries count head pen_book nib seen_book log x next_book next new_book new ask (l, rises) on next_is right seen_is pushed asked =
    let is : new ≡ log ++ (Some x, next.key) ∷ [] = pushed ∙ ap (λ e. log ++ e ∷ []) asked in
    let items : items_of new ≡ items_of log ++ x ∷ [] = items_pushed log new x next.key ask pushed asked in
    let more : length (items_of new) ≡ length (items_of log) + 1 = ap length items ∙ length-append (items_of log) (x ∷ []) in
    let entries_more : length new ≡ length log + 1 = ap length is ∙ length-append log ((Some x, next.key) ∷ []) in (
      record {
        counted = omega (arith, l.counted, more);
        entered = omega (arith, l.entered, entries_more);
        begun = omega (arith, l.begun, more, entries_more);
        head_is = l.head_is;
        pen_is = next_is;
        seen_is = seen_is ∙ l.seen_is;
        right = right;
        next = ap next_of is ∙ next_more log (Some x, next.key);
      },
      subst (Rises later found) (sym items) (rises_more later found (items_of log) x rises on),
    )
