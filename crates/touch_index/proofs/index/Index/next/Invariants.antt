use Rattle.std.proofs.Common.{◌≡◌, ℕ, true, take, IfSome}
use Rattle.touch_index.specs.Found.{IsFound}
use Rattle.touch_index.specs.Next.{IsNext}
use Rattle.touch_index.specs.Postings.{is_under_folders, may_touch_any}
use Rattle.touch_index.proofs.index.Index.next.Given as goal

-- what was found of the changes so far, of which the cell before is one
abbrev pub invariant-changes : goal.invariant-changes
invariant-changes l = record {
  least : IsNext (may_touch_any l.self (take l.change-index l.changes)) l.number l.least;
  found : IfSome l.before (IsFound l.self l.number);
  told : IfSome l.before (λ before. (i : ℕ) → is_under_folders l.self before.cell.now i ≡ true → may_touch_any l.self (take l.change-index l.changes) i ≡ true);
}
