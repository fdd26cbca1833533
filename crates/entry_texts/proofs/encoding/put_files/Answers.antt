use Rattle.std.proofs.Common.{◌≡◌, ℕ, ◌+◌, List, [], ◌∷◌, ◌++◌, take, sym, ap, subst, ◌∙◌}
use Rattle.std.specs.List.{flat_map, AllByRecursion}
use Rattle.std.proofs.lemmas.List.{take_more, flat_map_more}
use Rattle.entry_texts.specs.Spells.{listed_text, IsListed}
use Rattle.entry_texts.proofs.Listed.{Entry}
use Rattle.entry_texts.proofs.Lengths.{one_more}
use Rattle.entry_texts.proofs.encoding.put_files.Goals as goal

-- one more path was written
written : (before now out : List ℕ) (files : List Entry) (i : ℕ) (item : Entry) → take (i + 1) files ≡ take i files ++ item ∷ [] → now ≡ before ++ flat_map listed_text (take i files)
    → AllByRecursion IsListed (take i files) → out ≡ now ++ listed_text item → IsListed item
    → (out ≡ before ++ flat_map listed_text (take (i + 1) files)) × AllByRecursion IsListed (take (i + 1) files)
written before now out files i item more so_far lawful step listed = (
  step ∙ ap (λ (b : List ℕ). b ++ listed_text item) so_far ∙ flat_map_more listed_text before (take i files) item ∙ ap (λ (xs : List Entry). before ++ flat_map listed_text xs) (sym more),
  subst (AllByRecursion IsListed) (sym more) (one_more IsListed (take i files) item lawful listed),
)

pub loop-listed-preserved : goal.loop-listed-preserved
loop-listed-preserved c =
    let more = take_more c.args.files.now c.loop-listed.listed-index c.listed-item.result c.loop-listed-test.true ∙ ap (λ (x : Entry). take c.loop-listed.listed-index c.args.files.now ++ x ∷ []) (sym c.listed-item.is) in
    written c.args.out.now.items c.loop-listed.out.items c.put_listed.new.out.items c.args.files.now c.loop-listed.listed-index c.listed-item.result more c.loop-listed.invariant.0 c.loop-listed.invariant.1 c.in_ok-put_listed.ensures.bytes c.in_ok-put_listed.ensures.lawful
