-- Edits of blocks: those below the next block's first key fall into the first block, the others into the rest.
use Rattle.std.proofs.Common.{◌≡◌, suc, true, false, cond, List, [], ◌∷◌, ◌++◌, Option, Some, None, Ordering, Less, Equal, Greater, is_lt, append_assoc, refl, sym, ap, subst, ◌∙◌, arith}
use Rattle.std.specs.Cmp.{IsTotalOrder}
use Rattle.std.specs.List.{AllByRecursion}
use Rattle.std.specs.List.Sorted.{IsStrictlySortedBy}
use Rattle.std.specs.Map.{keys_of}
use Rattle.std.proofs.lemmas.Cmp.{alike_right}
use Rattle.std.proofs.lemmas.List.{append-nil}
use Rattle.std.proofs.lemmas.Map.Keys.{sorted_head, sorted_tail}
use Rattle.shared_blocks.specs.Blocks.{joined}
use Rattle.persistent_maps.specs.Edits.{listed, by_order, edited, edited_by}
use Rattle.persistent_maps.specs.Maps.{AreBlocks, HaveItems, first_key}
use Rattle.persistent_maps.specs.Merge.{before_key, from_key, below, not_below}
use Rattle.persistent_maps.proofs.Below.{below-append}
use Rattle.persistent_maps.proofs.Edits.{AllByRecursion-edited, Rises-edited, edited_by-front}
use Rattle.persistent_maps.proofs.Entries.{less_back}
use Rattle.persistent_maps.proofs.Parts.{Rise, Over, Under, Rise-left, Rise-right, Apart-append, Over-less, Under-first}

-- one write after those of a list
edited_by-append : {K X : Type 0} (R : K → K → Ordering) (es : List (K × X)) (fs gs : List (K × Option X)) → edited_by R es (fs ++ gs) ≡ edited_by R (edited_by R es fs) gs
edited_by-append R es [] gs = refl
edited_by-append R es (f ∷ fs) gs = edited_by-append R (edited R es f.0 f.1) fs gs

module _ {K X : Type 0} {R : K → K → Ordering} (o : IsTotalOrder R) where
  -- many writes keep the order
  pub Rise-edited_by : (es : List (K × X)) (fs : List (K × Option X)) → Rise R es → Rise R (edited_by R es fs)
  Rise-edited_by es [] rise = rise
  Rise-edited_by es (f ∷ fs) rise = Rise-edited_by (edited R es f.0 f.1) fs (Rises-edited o es f.0 f.1 rise)

  -- a write below all of the second part falls into the first
  edited-left : (es rest : List (K × X)) (key : K) (value : Option X) → Over R key rest → edited R (es ++ rest) key value ≡ edited R es key value ++ rest
  edited-left [] [] key value over = sym (append-nil (listed key value))
  edited-left [] (r ∷ rest) key value over = ap (λ c. by_order c (listed key value ++ r ∷ rest) (listed key value ++ rest) (r ∷ edited R rest key value)) over.0
  edited-left (e ∷ es) rest key value over =
      elim (R key e.0) as (λ c. by_order c (listed key value ++ e ∷ (es ++ rest)) (listed key value ++ (es ++ rest)) (e ∷ edited R (es ++ rest) key value)
      ≡ by_order c (listed key value ++ e ∷ es) (listed key value ++ es) (e ∷ edited R es key value) ++ rest) [
        | Less ↦ sym (append_assoc (listed key value) (e ∷ es) rest)
        | Equal ↦ sym (append_assoc (listed key value) es rest)
        | Greater ↦ ap (λ l. e ∷ l) (edited-left es rest key value over)
      ]

  edited_by-left : (es rest : List (K × X)) (fs : List (K × Option X)) → AllByRecursion (λ f. Over R f.0 rest) fs → edited_by R (es ++ rest) fs ≡ edited_by R es fs ++ rest
  edited_by-left es rest [] over = refl
  edited_by-left es rest (f ∷ fs) over = ap (λ l. edited_by R l fs) (edited-left es rest f.0 f.1 over.0) ∙ edited_by-left (edited R es f.0 f.1) rest fs over.1

  -- what is under a key stays so with writes under it
  Under-edited_by : (key : K) (es : List (K × X)) (fs : List (K × Option X)) → Under R es key → Under R fs key → Under R (edited_by R es fs) key
  Under-edited_by key es [] under writes = under
  Under-edited_by key es (f ∷ fs) under writes =
      Under-edited_by key (edited R es f.0 f.1) fs (AllByRecursion-edited o (λ e. R e.0 key ≡ Less) es f.0 f.1 (new f.0 f.1 writes.0) under) writes.1
    where
      new : (k : K) (v : Option X) → R k key ≡ Less → AllByRecursion (λ (e : K × X). R e.0 key ≡ Less) (listed k v)
      new k None less = tt
      new k (Some v) less = (less, tt)

  -- the edits before a key are under it, and the others are not
  Under-before_key : (key : K) (fs : List (K × Option X)) → Under R (before_key R key fs) key
  Under-before_key key [] = tt
  Under-before_key key (f ∷ fs) = elim (R f.0 key) as (λ c. R f.0 key ≡ c → Under R (cond (is_lt c) (f ∷ before_key R key fs) []) key) [
    | Less ↦ λ less. (less, Under-before_key key fs)
    | Equal ↦ λ _. tt
    | Greater ↦ λ _. tt
  ] refl

  -- what is less than a key is less than all edits that are not before the key
  Over-first : (x key : K) (f : K × Option X) (fs : List (K × Option X)) → R x key ≡ Less → is_lt (R f.0 key) ≡ false → Rise R (f ∷ fs) → Over R x (f ∷ fs)
  Over-first x key f fs less late rise =
      let first : R x f.0 ≡ Less = elim (R f.0 key) as (λ c. R f.0 key ≡ c → is_lt c ≡ false → R x f.0 ≡ Less) [
        | Less ↦ λ _ h. cc h
        | Equal ↦ λ tie _. alike_right o f.0 key x tie ∙ less
        | Greater ↦ λ greater _. o.trans x key f.0 less (less_back o f.0 key greater)
      ] refl late in
      (first, Over-less R o x f.0 fs first (sorted_head R f.0 (keys_of fs) rise))

  Over-from_key : (x key : K) (fs : List (K × Option X)) → R x key ≡ Less → Rise R fs → Over R x (from_key R key fs)
  Over-from_key x key [] less rise = tt
  Over-from_key x key (f ∷ fs) less rise =
      elim (is_lt (R f.0 key)) as (λ c. is_lt (R f.0 key) ≡ c → Over R x (cond c (from_key R key fs) (f ∷ fs))) [
        | true ↦ λ _. Over-from_key x key fs less (sorted_tail R f.0 (keys_of fs) rise)
        | false ↦ λ late. Over-first x key f fs less late rise
      ] refl

  Before-from_key : (key : K) (es : List (K × X)) (fs : List (K × Option X)) → Under R es key → Rise R fs → AllByRecursion (λ e. Over R e.0 (from_key R key fs)) es
  Before-from_key key [] fs under rise = tt
  Before-from_key key (e ∷ es) fs under rise = (Over-from_key e.0 key fs under.0 rise, Before-from_key key es fs under.1 rise)

  Over-each : (y : K × X) (ys : List (K × X)) (fs : List (K × Option X)) → Under R fs y.0 → Rise R (y ∷ ys) → AllByRecursion (λ f. Over R f.0 (y ∷ ys)) fs
  Over-each y ys [] under rise = tt
  Over-each y ys (f ∷ fs) under rise = ((under.0, Over-less R o f.0 y.0 ys under.0 (sorted_head R y.0 (keys_of ys) rise)), Over-each y ys fs under.1 rise)

  -- edits of a block and of those after it
  pub edited_by-block : (b : List (K × X)) (rest : List (List (K × X))) (fs : List (K × Option X)) → HaveItems rest → Rise R (b ++ joined rest) → Rise R fs
      → edited_by R (b ++ joined rest) fs ≡ edited_by R b (below R (first_key rest) fs) ++ edited_by R (joined rest) (not_below R (first_key rest) fs)
  edited_by-block b [] fs filled rise fs_rise = ap (λ l. edited_by R l fs) (append-nil b) ∙ sym (append-nil (edited_by R b fs))
  edited_by-block b ([] ∷ rest) fs filled rise fs_rise = absurd (filled 0 [] (omega arith) refl)
  edited_by-block b ((y ∷ ys) ∷ rest) fs filled rise fs_rise =
      let after = y ∷ (ys ++ joined rest) in
      let low = before_key R y.0 fs in
      let high = from_key R y.0 fs in
      let under_b = Under-first R b y (ys ++ joined rest) (Apart-append R b after rise) in
      let under_low = Under-before_key y.0 fs in
      let over = Over-each y (ys ++ joined rest) low under_low (Rise-right R b after rise) in
      let apart = Before-from_key y.0 (edited_by R b low) fs (Under-edited_by y.0 b low under_b under_low) fs_rise in
      ap (edited_by R (b ++ after)) (sym (below-append R (Some y.0) fs))
      ∙ edited_by-append R (b ++ after) low high
      ∙ ap (λ l. edited_by R l high) (edited_by-left b after low over)
      ∙ edited_by-front o (edited_by R b low) after high apart

  -- one step along the blocks
  pub written_step : (written more : List (K × X)) (b : List (K × X)) (rest : List (List (K × X))) (fs left : List (K × Option X)) (whole : List (K × X)) → HaveItems rest → Rise R (b ++ joined rest) → Rise R fs
      → more ≡ written ++ edited_by R b (below R (first_key rest) fs) → left ≡ not_below R (first_key rest) fs
      → written ++ edited_by R (b ++ joined rest) fs ≡ whole → more ++ edited_by R (joined rest) left ≡ whole
  written_step written more b rest fs left whole filled rise fs_rise is_more is_left is_whole =
      let low = edited_by R b (below R (first_key rest) fs) in
      ap (λ l. l ++ edited_by R (joined rest) left) is_more ∙ append_assoc written low (edited_by R (joined rest) left)
      ∙ ap (λ l. written ++ (low ++ edited_by R (joined rest) l)) is_left
      ∙ sym (ap (λ l. written ++ l) (edited_by-block b rest fs filled rise fs_rise)) ∙ is_whole

  -- the first of some blocks, and the others
  pub parts_of : (blocks : List (List (K × X))) (b : List (K × X)) (rest : List (List (K × X))) → blocks ≡ b ∷ rest → AreBlocks R blocks
      → record { rises : Rise R b; whole : Rise R (b ++ joined rest); rest : AreBlocks R rest }
  parts_of blocks b rest at are =
      let first : AreBlocks R (b ∷ rest) = subst (AreBlocks R) at are in
      record {
        rises = Rise-left R b (joined rest) first.sorted;
        whole = first.sorted;
        rest = record { filled = λ k d lt. first.filled (suc k) d (omega (arith, lt)); sorted = Rise-right R b (joined rest) first.sorted };
      }

  pub Rise-none : (es : List (K × X)) → es ≡ [] → Rise R es
  unfolding IsStrictlySortedBy
  Rise-none es none = subst (Rise R) (sym none) tt

  -- one edit rises
  pub Rise-one : (es old : List (K × X)) (e : K × X) → es ≡ old ++ e ∷ [] → old ≡ [] → Rise R es
  unfolding IsStrictlySortedBy
  Rise-one es old e at none = subst (Rise R) (sym (at ∙ ap (λ l. l ++ e ∷ []) none)) (tt, tt)
