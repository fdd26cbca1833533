use Rattle.std.proofs.Common.{◌≡◌, ℕ, ◌<◌, List, length, drop, slice_index, sym, ◌∙◌, ap, subst, ⊎_elim, arith, rules}
use Rattle.std.proofs.lemmas.List.{take_at, places}
use Rattle.std.proofs.lemmas.Grind.{common_steps}
use Rattle.host_disk.specs.Contents.{Kept, IsInside, IsLongest, IsOutside}
use Rattle.host_disk.proofs.contents.Content.image.Goals as goal

pub returns-clause-longest : goal.returns-clause-longest
returns-clause-longest c =
    let file = c.overwrite.new.file in
    let size : length file ≡ c.resize.new.self.len = grind (arith, common_steps) in
    let whole = take_at file (drop (length file) c.resize.new.self.items) c.resize.new.self.len size in
    let long : length file ≡ c.args.self.now.greatest = grind (arith, common_steps) in
    let l = ap (λ (k : Kept). k.least) c.self.view_is in
    let g = ap (λ (k : Kept). k.greatest) c.self.view_is in
    subst (IsLongest c.args.self.now c.args.byte) (sym whole) (record {
      longest = long;
      same = λ i less outside.
          let there : IsOutside c.deref-2.result.now i = search rules in
          let kept : slice_index c.resize.new.self.items i ≡ slice_index c.args.self.now.bytes i = grind (arith, places) in
          let lent : c.deref_mut.result.now ≡ c.resize.new.self.items = search rules in
          c.overwrite.ensures.outside i there ∙ ap (λ (l : List ℕ). slice_index l i) lent ∙ kept;
      chosen = λ i low free.
          let lent : c.deref_mut.result.now ≡ c.resize.new.self.items = search rules in
          let size' : i < length c.deref_mut.result.now = omega (arith, low, long, ap (λ (l : List ℕ). length l) lent) in
          ⊎_elim (λ past.
          let filled : slice_index c.deref_mut.result.now i ≡ c.args.byte = grind (arith, places, lent) in
          ⊎_elim (λ byte. byte) (λ old. old ∙ filled) (c.overwrite.ensures.either i size'))
          (λ inside.
          let there : IsInside c.deref-2.result.now i = search rules in
          c.overwrite.ensures.inside i size' there)
          free;
    })
