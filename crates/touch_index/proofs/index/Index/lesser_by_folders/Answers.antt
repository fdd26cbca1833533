use Rattle.std.proofs.Common.{◌≡◌, ℕ, ◌<◌, ◌||◌, Bool, true, false, Option, Some, None, is_some, IfSome, MatchOption, refl, sym, ap, subst, ◌∙◌}
use Rattle.host_names.specs.declared.cells.Cell.{Cell}
use Rattle.touch_index.specs.declared.index.Found.{Found}
use Rattle.touch_index.specs.Next.{IsNext}
use Rattle.touch_index.specs.Postings.{Postings, SharesFront, is_under_folders, is_under_folders_from, is_under_marks}
use Rattle.touch_index.proofs.Folders.{all-tell, others-tell, unmarked-none}
use Rattle.touch_index.proofs.Next.{IsNext-above, IsNext-same}
use Rattle.touch_index.proofs.index.Index.lesser_by_folders.Goals as goal

-- the test and the folders that are left tell as much as the test and all folders
tells : (index : Postings) (test : ℕ → Bool) (n : ℕ) (before : Option Found) (c : Cell) → MatchOption before (n ≡ 0) (λ b. SharesFront n b.cell.now c)
    → IfSome before (λ b. (i : ℕ) → is_under_folders index b.cell.now i ≡ true → test i ≡ true)
    → (i : ℕ) → (test i || is_under_folders_from index c n i) ≡ (test i || is_under_folders index c i)
tells index test n None c none told i = all-tell index test i n c none
tells index test n (Some b) c shares told i = others-tell index test i n b.cell.now c shares (told i)

or_false : (a b : Bool) → b ≡ false → a ≡ (a || b)
or_false true b e = refl
or_false false b e = sym e

-- where nothing was found under the marks
no_mark : (index : Postings) (number : ℕ) (c : Cell) (mark : Option ℕ) → is_some mark ≡ false → IsNext (λ i. is_under_marks index c i) number mark
    → (i : ℕ) → number < i → is_under_folders index c i ≡ false
no_mark index number c None e is = unmarked-none index number c is
no_mark index number c (Some j) e is = cc e

pub returns-then-is_none : goal.returns-then-is_none
returns-then-is_none c test told is =
    let index = c.args.self.now in
    let n = c.args.number in
    let cell = c.args.found.cell.now in
    IsNext-above test (λ i. test i || is_under_folders index cell i) n c.args.least
    (λ i above. or_false (test i) (is_under_folders index cell i) (no_mark index n cell c.args.found.mark c.if-is_none.ensures c.requires.mark i above)) is

pub returns : goal.returns
returns c test told is =
    let index = c.args.self.now in
    let n = c.args.number in
    let cell = c.args.found.cell.now in
    let first = c.shared_len-first.result in
    IsNext-same (λ i. test i || is_under_folders_from index cell first i) (λ i. test i || is_under_folders index cell i) n c.lesser.result
    (tells index test first c.args.before cell c.shared_len-first.ensures.shared told)
    (c.lesser.ensures test (is_under_folders_from index cell first) n is c.next_under_folders.ensures)
