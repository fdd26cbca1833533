use Rattle.std.proofs.Common.{◌≡◌, inl, inr, true, false, ℕ, cond, ◌&&◌, List, [], ◌∷◌, ◌++◌, Some, None, map, refl, sym, ap, ◌∙◌, arith}
use Rattle.std.specs.FinMap.{get, get-empty}
use Rattle.std.specs.FinMap as fin
use Rattle.std.proofs.lemmas.Cmp.{eq_by_cmp_equiv}
use Rattle.host_names.specs.Digests.{digest_of, digest_cmp, digest_cmp_total}
use Rattle.byte_view.specs.Contents.{with_file}
use Rattle.blob_store.specs.Calls.{PutsInTurn}
use Rattle.blob_store.specs.Folders.{is_answer, is_name}
use Rattle.blob_store.specs.Keeping.{Thing}
use Rattle.blob_store.specs.Openings.{Taken, known_of}
use Rattle.blob_store.specs.Shelves.{Does}
use Rattle.blob_store.specs.declared.openings.Wanted.{Wanted}
use Rattle.blob_store.specs.declared.mem_shelf.MemShelf.{MemShelf}
use Rattle.blob_store.specs.declared.shelves.ShelfFault.TheVariants.{Device, OutOfMemory}
use Rattle.blob_store.specs.declared.shelves.ShelfName.TheVariants.{Part}
use Rattle.blob_store.proofs.Additions.{get_added}
use Rattle.blob_store.proofs.Once.{contains_here, contains_none}
use Rattle.blob_store.proofs.laws.wrong_answers_are_refused.Goals as goal

-- of no wanted file nothing came
no_taken : (taken : List Taken) → map (λ (t : Taken). t.wanted) taken ≡ [] → taken ≡ []
no_taken [] e = refl
no_taken (t ∷ taken) e = absurd (cc e)

no_next : (taken : List Taken) (next : Wanted) (later : List Wanted) → map (λ (t : Taken). t.wanted) taken ++ next ∷ later ≡ [] → ⊥
no_next [] next later e = absurd (cc e)
no_next (t ∷ taken) next later e = absurd (cc e)

pub returns-clause-opened : goal.returns-clause-opened
returns-clause-opened g c old new file is =
    let none = get-empty {X = List ℕ} digest_cmp (digest_of file) in
    let known : with_file fin.empty file ≡ fin.empty = is.3 ∙ ap known_of (no_taken is.0 is.1) in
    let at : get (with_file fin.empty file) (digest_of file) ≡ Some file = get_added fin.empty (with_file fin.empty file) file file refl refl none in
    let wrong : None ≡ Some file = sym none ∙ ap (λ k. get k (digest_of file)) (sym known) ∙ at in
    absurd (cc wrong)

pub returns-clause-stopped : goal.returns-clause-stopped
returns-clause-stopped g c old new fault is = no_next is.0 is.1 is.2 is.4

pub returns-clause-keeps : goal.returns-clause-keeps
returns-clause-keeps g c has shelf name keeps =
    let put = keeps.kept.put in
    let same : Some [] ≡ Some (0 ∷ []) = sym (put shelf shelf name [] (tt, refl)) ∙ put shelf shelf name (0 ∷ []) (tt, refl) in
    absurd (cc same)

-- a shelf in memory never tells a failure of its device
no_device : (old new : MemShelf) (things : List Thing) → PutsInTurn Does old things (Some Device) new → ⊥
no_device old new [] puts = absurd (cc puts.0)
no_device old new (t ∷ things) (inl failed) =
    let is : Device ≡ failed.0 = cc failed.1 in
    let wrong : Device ≡ OutOfMemory = is ∙ failed.2.0 in
    absurd (cc wrong)
no_device old new (t ∷ things) (inr put) = no_device put.0 new things put.2

pub returns-clause-put_part : goal.returns-clause-put_part
returns-clause-put_part g c known old new file (stored, are, (pieces, once, puts)) = no_device old new _ puts

pub returns-clause-put_some : goal.returns-clause-put_some
returns-clause-put_some g c known old new file (inl (stored, are, (pieces, once, puts))) = no_device old new _ puts
returns-clause-put_some g c known old new file (inr whole) = absurd (cc whole.0)

pub returns-clause-missed : goal.returns-clause-missed
returns-clause-missed g c piece is = elim is.each.0 [
  | inl there ↦ contains_none (digest_of piece) there
  | inr there ↦ contains_none (digest_of piece) there
]

pub returns-clause-twice : goal.returns-clause-twice
returns-clause-twice g c piece is = is.apart 0 1 (digest_of piece) (omega arith) (omega arith) refl

pub returns-clause-again : goal.returns-clause-again
returns-clause-again g c piece is = is.fresh.0 (contains_here (digest_of piece) [])

pub returns-clause-known : goal.returns-clause-known
returns-clause-known g c name are =
    let (digest, file, at, named) = are name (contains_here name []) in
    let wrong : None ≡ Some file = sym (get-empty {X = List ℕ} digest_cmp digest) ∙ at in
    absurd (cc wrong)

pub returns-clause-told : goal.returns-clause-told
returns-clause-told g c first gave name is =
    let here : is_name (Part name) (Part name) ≡ true = (eq_by_cmp_equiv digest_cmp_total).refl name in
    let wrong : false ≡ true = ap (λ b. is_answer None (cond b (Some []) (first (Part name))) && true) (sym here) ∙ is in
    absurd (cc wrong)
