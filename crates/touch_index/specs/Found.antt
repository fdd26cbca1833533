-- What is found for a cell above a number.
use Rattle.std.specs.Prelude.{ℕ}
use Rattle.touch_index.specs.declared.index.Found.{Found}
use Rattle.touch_index.specs.Next.{IsNext}
use Rattle.touch_index.specs.Postings.{Postings, is_under_marks, is_under_wildcards}

-- the least number under a wildcard that covers it, and the least under the mark of its site
pub record IsFound (postings : Postings) (number : ℕ) (found : Found) : Type 0 where
  pub wildcard : IsNext (is_under_wildcards postings found.cell.now) number found.wildcard
  pub mark : IsNext (is_under_marks postings found.cell.now) number found.mark
