use Rattle.std.proofs.Common.{ℕ, List, ◌≤◌, length, ◌&&◌, sym, ap, subst, ◌∙◌}
use Rattle.host_names.specs.Cells.{text_of}
use Rattle.host_names.specs.declared.cells.Cell.{Cell}
use Rattle.touch_index.specs.Keys.{all_folders, has_folder_from}
use Rattle.touch_index.specs.Next.{IsNext}
use Rattle.touch_index.specs.Postings.{is_posted, is_under_folders_from}
use Rattle.touch_index.proofs.index.Index.next_under_folders.Goals as goal

pub next_by_folders-requires : goal.next_by_folders-requires
next_by_folders-requires c =
    let P : List ℕ → Type 0 = λ path. c.args.first ≤ length path in
    let Q : Cell → Type 0 = λ cell. c.args.first ≤ length (text_of cell) in
    subst P (sym (c.as_bytes.ensures.value ∙ c.as_str.ensures.value)) (subst Q c.in-Live.is c.requires)

pub returns-in-Live : goal.returns-in-Live
returns-in-Live c =
    let index = c.args.self.now in
    let n = c.args.number in
    let first = c.args.first in
    let site = c.in-Live.site in
    let P : List ℕ → Type 0 = λ path. IsNext (λ i. is_posted index (all_folders site) i && has_folder_from (λ key. is_posted index key i) site path first) n c.next_by_folders.result in
    let Q : Cell → Type 0 = λ cell. IsNext (is_under_folders_from index cell first) n c.next_by_folders.result in
    subst Q (sym c.in-Live.is) (subst P (c.as_bytes.ensures.value ∙ c.as_str.ensures.value) c.next_by_folders.ensures)
