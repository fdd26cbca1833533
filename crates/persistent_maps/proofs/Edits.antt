-- What a write into pairs whose keys strictly rise does to them.
use Rattle.std.proofs.Common.{◌≡◌, Bool, true, false, cond, List, [], ◌∷◌, ◌++◌, Option, Some, None, Ordering, Less, Equal, Greater, is_eq, is_lt, append_assoc, refl, sym, ap, subst, ◌∙◌}
use Rattle.std.specs.FinMap.{find, IsAntisymmetric}
use Rattle.std.specs.Cmp.{IsTotalOrder}
use Rattle.std.specs.Ordering.{eq_by_cmp}
use Rattle.std.specs.List.{AllByRecursion}
use Rattle.std.specs.List.Sorted.{IsStrictlySortedBy}
use Rattle.std.specs.Map.{keys_of}
use Rattle.std.proofs.lemmas.Cmp.{tied_itself, tied_back, alike_right}
use Rattle.std.proofs.lemmas.Map.Keys.{sorted_head, sorted_tail}
use Rattle.persistent_maps.specs.Edits.{listed, by_order, edited, edited_by}
use Rattle.persistent_maps.specs.Merge.{before_key, from_key, past_key}
use Rattle.persistent_maps.proofs.Entries.{greater_back, less_back}

pub equal : (o : Ordering) → is_eq o ≡ true → o ≡ Equal
equal Less e = cc
equal Equal e = refl
equal Greater e = cc

-- a test that is repeated: the inner branch is never reached
shadowed : {A : Type 0} (b : Bool) (x y z : A) → cond b x z ≡ cond b x (cond b y z)
shadowed true x y z = refl
shadowed false x y z = refl

-- two tests that don't both pass may change places
swapped : {A : Type 0} (a b : Bool) (x y z : A) → (a ≡ true → b ≡ true → ⊥) → cond a x (cond b y z) ≡ cond b y (cond a x z)
swapped true true x y z apart = absurd (apart refl refl)
swapped true false x y z apart = refl
swapped false b x y z apart = refl

module _ {K X : Type 0} {R : K → K → Ordering} (o : IsTotalOrder R) where
  abbrev pub Above : K → List (K × X) → Type 0
  Above x es = AllByRecursion (λ y. R x y ≡ Less) (keys_of es)

  abbrev pub Rises : List (K × X) → Type 0
  Rises es = IsStrictlySortedBy R (keys_of es)

  Rises-cons : (e : K × X) (es : List (K × X)) → Above e.0 es → Rises es → Rises (e ∷ es)
  unfolding IsStrictlySortedBy
  Rises-cons e es above rises = (above, rises)

  above_less : (x y : K) (es : List (K × X)) → R x y ≡ Less → Above y es → Above x es
  above_less x y [] less above = tt
  above_less x y (e ∷ es) less above = (o.trans x y e.0 less above.0, above_less x y es less above.1)

  above_tied : (x y : K) (es : List (K × X)) → R x y ≡ Equal → Above y es → Above x es
  above_tied x y [] tie above = tt
  above_tied x y (e ∷ es) tie above = (o.congr x y e.0 tie ∙ above.0, above_tied x y es tie above.1)

  -- a key below all others is not found
  find_below : (q : K) (es : List (K × X)) → Above q es → find R q es ≡ None
  find_below q [] above = refl
  find_below q (e ∷ es) above = ap (λ r. cond (is_eq r) (Some e.1) (find R q es)) above.0 ∙ find_below q es above.1

  Above-listed : (x key : K) (value : Option X) (es : List (K × X)) → R x key ≡ Less → Above x es → Above x (listed key value ++ es)
  Above-listed x key None es less above = above
  Above-listed x key (Some v) es less above = (less, above)

  Above-edited : (x : K) (es : List (K × X)) (key : K) (value : Option X) → R x key ≡ Less → Above x es → Above x (edited R es key value)
  Above-edited x [] key None less above = tt
  Above-edited x [] key (Some v) less above = (less, tt)
  Above-edited x (e ∷ es) key value less above = elim (R key e.0) as (λ r. Above x (by_order r (listed key value ++ e ∷ es) (listed key value ++ es) (e ∷ edited R es key value))) [
    | Less ↦ Above-listed x key value (e ∷ es) less above
    | Equal ↦ Above-listed x key value es less above.1
    | Greater ↦ (above.0, Above-edited x es key value less above.1)
  ]

  Rises-listed : (key : K) (value : Option X) (es : List (K × X)) → Above key es → Rises es → Rises (listed key value ++ es)
  Rises-listed key None es above rises = rises
  Rises-listed key (Some v) es above rises = Rises-cons (key, v) es above rises

  -- a write keeps the order
  pub Rises-edited : (es : List (K × X)) (key : K) (value : Option X) → Rises es → Rises (edited R es key value)
  Rises-edited [] key None rises = rises
  Rises-edited [] key (Some v) rises = Rises-cons (key, v) [] tt rises
  Rises-edited (e ∷ es) key value rises =
      let above = sorted_head R e.0 (keys_of es) rises in
      let rest = sorted_tail R e.0 (keys_of es) rises in
      elim (R key e.0) as (λ r. R key e.0 ≡ r → Rises (by_order r (listed key value ++ e ∷ es) (listed key value ++ es) (e ∷ edited R es key value))) [
        | Less ↦ λ less. Rises-listed key value (e ∷ es) (less, above_less key e.0 es less above) rises
        | Equal ↦ λ tie. Rises-listed key value es (above_tied key e.0 es tie above) rest
        | Greater ↦ λ greater. Rises-cons e (edited R es key value) (Above-edited e.0 es key value (less_back o key e.0 greater) above) (Rises-edited es key value rest)
      ] refl

  find-listed : (q key : K) (value : Option X) (es : List (K × X)) → (eq_by_cmp R q key ≡ true → find R q es ≡ None) → find R q (listed key value ++ es) ≡ cond (eq_by_cmp R q key) value (find R q es)
  find-listed q key (Some v) es none = refl
  find-listed q key None es none = elim (eq_by_cmp R q key) as (λ b. eq_by_cmp R q key ≡ b → find R q es ≡ cond b None (find R q es)) [ true ↦ λ e. none e | false ↦ λ e. refl ] refl

  pub at_key : IsAntisymmetric R → (q key : K) (es : List (K × X)) → Above key es → eq_by_cmp R q key ≡ true → find R q es ≡ None
  at_key same q key es above tie = find_below q es (subst (λ k. Above k es) (sym (same q key (equal _ tie))) above)

  -- what is found after a write
  pub find-edited : IsAntisymmetric R → (q : K) (es : List (K × X)) (key : K) (value : Option X) → Rises es → find R q (edited R es key value) ≡ cond (eq_by_cmp R q key) value (find R q es)
  find-edited same q [] key None rises = find-listed q key None [] (λ _. refl)
  find-edited same q [] key (Some v) rises = refl
  find-edited same q (e ∷ es) key value rises =
      let above = sorted_head R e.0 (keys_of es) rises in
      let rest = sorted_tail R e.0 (keys_of es) rises in
      elim (R key e.0) as (λ r. R key e.0 ≡ r → find R q (by_order r (listed key value ++ e ∷ es) (listed key value ++ es) (e ∷ edited R es key value)) ≡ cond (eq_by_cmp R q key) value (find R q (e ∷ es))) [
        | Less ↦ λ less. find-listed q key value (e ∷ es) (at_key same q key (e ∷ es) (less, above_less key e.0 es less above))
        | Equal ↦ λ tie.
            find-listed q key value es (at_key same q key es (subst (λ k. Above k es) (sym (same key e.0 tie)) above))
            ∙ shadowed (eq_by_cmp R q key) value (Some e.1) (find R q es)
            ∙ ap (λ r. cond (eq_by_cmp R q key) value (cond (is_eq r) (Some e.1) (find R q es))) (alike_right o key e.0 q tie)
        | Greater ↦ λ greater.
            ap (cond (eq_by_cmp R q e.0) (Some e.1)) (find-edited same q es key value rest)
            ∙ swapped (eq_by_cmp R q e.0) (eq_by_cmp R q key) (Some e.1) value (find R q es) (λ a b.
            let both : key ≡ e.0 = sym (same q key (equal _ b)) ∙ same q e.0 (equal _ a) in
            let tie : Greater ≡ Equal = sym greater ∙ ap (R key) (sym both) ∙ tied_itself o key in
            cc)
      ] refl

  -- what holds of each pair and of the new one holds of each after a write
  pub AllByRecursion-edited : (P : K × X → Type 0) (es : List (K × X)) (key : K) (value : Option X) → AllByRecursion P (listed key value) → AllByRecursion P es → AllByRecursion P (edited R es key value)
  AllByRecursion-edited P [] key value new old = new
  AllByRecursion-edited P (e ∷ es) key value new old = elim (R key e.0) as (λ r. AllByRecursion P (by_order r (listed key value ++ e ∷ es) (listed key value ++ es) (e ∷ edited R es key value))) [
    | Less ↦ joined P key value (e ∷ es) new old
    | Equal ↦ joined P key value es new old.1
    | Greater ↦ (old.0, AllByRecursion-edited P es key value new old.1)
  ]
    where
      joined : (P : K × X → Type 0) (key : K) (value : Option X) (es : List (K × X)) → AllByRecursion P (listed key value) → AllByRecursion P es → AllByRecursion P (listed key value ++ es)
      joined P key None es new old = old
      joined P key (Some v) es new old = (new.0, old)

  -- ---- many writes whose keys strictly rise, by one pass over both lists

  -- each key of the first list is less than each of the second
  abbrev pub Before : List (K × X) → List (K × Option X) → Type 0
  Before front cs = AllByRecursion (λ e. AllByRecursion (λ y. R e.0 y ≡ Less) (keys_of cs)) front

  Before-tail : (front : List (K × X)) (c : K × Option X) (cs : List (K × Option X)) → Before front (c ∷ cs) → Before front cs
  Before-tail [] c cs h = tt
  Before-tail (e ∷ front) c cs h = (h.0.1, Before-tail front c cs h.1)

  -- a write above all of the front leaves it
  edited-front : (front es : List (K × X)) (c : K × Option X) (cs : List (K × Option X)) → Before front (c ∷ cs) → edited R (front ++ es) c.0 c.1 ≡ front ++ edited R es c.0 c.1
  edited-front [] es c cs h = refl
  edited-front (e ∷ front) es c cs h =
      ap (λ r. by_order r (listed c.0 c.1 ++ e ∷ (front ++ es)) (listed c.0 c.1 ++ (front ++ es)) (e ∷ edited R (front ++ es) c.0 c.1)) (greater_back o e.0 c.0 h.0.0)
      ∙ ap (λ l. e ∷ l) (edited-front front es c cs h.1)

  pub edited_by-front : (front es : List (K × X)) (cs : List (K × Option X)) → Before front cs → edited_by R (front ++ es) cs ≡ front ++ edited_by R es cs
  edited_by-front front es [] h = refl
  edited_by-front front es (c ∷ cs) h =
      ap (λ l. edited_by R l cs) (edited-front front es c cs h) ∙ edited_by-front front (edited R es c.0 c.1) cs (Before-tail front c cs h)

  -- the parts of a list around a key, by how the first key compares
  abbrev parts : K × X → List (K × X) → K → Option X → Ordering → List (K × X)
  parts e es key value r = cond (is_lt r) (e ∷ before_key R key es) [] ++ (listed key value ++ past_key R key (cond (is_lt r) (from_key R key es) (e ∷ es)))

  -- a write in parts: what is before the key, the key's own pair, and what is past it
  edited-parts : (es : List (K × X)) (key : K) (value : Option X) → Rises es → edited R es key value ≡ before_key R key es ++ (listed key value ++ past_key R key (from_key R key es))
  edited-parts [] key None rises = refl
  edited-parts [] key (Some v) rises = refl
  edited-parts (e ∷ es) key value rises =
      elim (R key e.0) as (λ r. R key e.0 ≡ r → by_order r (listed key value ++ e ∷ es) (listed key value ++ es) (e ∷ edited R es key value) ≡ parts e es key value (R e.0 key)) [
        | Less ↦ λ less.
            ap (λ r. listed key value ++ cond (is_eq r) es (e ∷ es)) (sym (greater_back o key e.0 less)) ∙ ap (parts e es key value) (sym (greater_back o key e.0 less))
        | Equal ↦ λ tie.
            ap (λ r. listed key value ++ cond (is_eq r) es (e ∷ es)) (sym (tied_back o key e.0 tie)) ∙ ap (parts e es key value) (sym (tied_back o key e.0 tie))
        | Greater ↦ λ greater. ap (λ l. e ∷ l) (edited-parts es key value (sorted_tail R e.0 (keys_of es) rises)) ∙ ap (parts e es key value) (sym (less_back o key e.0 greater))
      ] refl

  Before-before_key : (es : List (K × X)) (key : K) (cs : List (K × Option X)) → AllByRecursion (λ y. R key y ≡ Less) (keys_of cs) → Before (before_key R key es) cs
  Before-before_key [] key cs above = tt
  Before-before_key (e ∷ es) key cs above =
      elim (R e.0 key) as (λ r. R e.0 key ≡ r → Before (cond (is_lt r) (e ∷ before_key R key es) []) cs) [
        | Less ↦ λ less. (less_than_all e.0 key cs less above, Before-before_key es key cs above)
        | Equal ↦ λ _. tt
        | Greater ↦ λ _. tt
      ] refl
    where
      less_than_all : (x key : K) (cs : List (K × Option X)) → R x key ≡ Less → AllByRecursion (λ y. R key y ≡ Less) (keys_of cs) → AllByRecursion (λ y. R x y ≡ Less) (keys_of cs)
      less_than_all x key [] less above = tt
      less_than_all x key (c ∷ cs) less above = (o.trans x key c.0 less above.0, less_than_all x key cs less above.1)

  Before-listed : (key : K) (value : Option X) (cs : List (K × Option X)) → AllByRecursion (λ y. R key y ≡ Less) (keys_of cs) → Before (listed key value) cs
  Before-listed key None cs above = tt
  Before-listed key (Some v) cs above = (above, tt)

  -- one step of the pass
  pub edited_by-step : (es : List (K × X)) (key : K) (value : Option X) (cs : List (K × Option X)) → Rises es → IsStrictlySortedBy R (key ∷ keys_of cs)
      → edited_by R es ((key, value) ∷ cs) ≡ before_key R key es ++ (listed key value ++ edited_by R (past_key R key (from_key R key es)) cs)
  edited_by-step es key value cs rises cells =
      let above = sorted_head R key (keys_of cs) cells in
      let rest = past_key R key (from_key R key es) in
      ap (λ l. edited_by R l cs) (edited-parts es key value rises)
      ∙ edited_by-front (before_key R key es) (listed key value ++ rest) cs (Before-before_key es key cs above)
      ∙ ap (λ l. before_key R key es ++ l) (edited_by-front (listed key value) rest cs (Before-listed key value cs above))

  Rises-from_key : (es : List (K × X)) (key : K) → Rises es → Rises (from_key R key es)
  Rises-from_key [] key rises = rises
  Rises-from_key (e ∷ es) key rises = elim (is_lt (R e.0 key)) as (λ b. Rises (cond b (from_key R key es) (e ∷ es))) [ true ↦ Rises-from_key es key (sorted_tail R e.0 (keys_of es) rises) | false ↦ rises ]

  Rises-past_key : (es : List (K × X)) (key : K) → Rises es → Rises (past_key R key es)
  Rises-past_key [] key rises = rises
  Rises-past_key (e ∷ es) key rises = elim (is_eq (R e.0 key)) as (λ b. Rises (cond b es (e ∷ es))) [ true ↦ sorted_tail R e.0 (keys_of es) rises | false ↦ rises ]

  -- what is left after a step is in order too
  pub Rises-left : (es : List (K × X)) (key : K) → Rises es → Rises (past_key R key (from_key R key es))
  Rises-left es key rises = Rises-past_key (from_key R key es) key (Rises-from_key es key rises)

  pub merged_step : (merged es left more : List (K × X)) (cells cs : List (K × Option X)) (key : K) (value : Option X) → Rises es → IsStrictlySortedBy R (keys_of cells) → cells ≡ (key, value) ∷ cs
      → left ≡ past_key R key (from_key R key es) → more ≡ (merged ++ before_key R key es) ++ listed key value
      → record { items_rise : Rises left; cells_rise : IsStrictlySortedBy R (keys_of cs); whole : more ++ edited_by R left cs ≡ merged ++ edited_by R es cells }
  merged_step merged es left more cells cs key value rises cells_rise next is_left is_more =
      let P : List (K × Option X) → Type 0 = λ l. IsStrictlySortedBy R (keys_of l) in
      let sorted : P ((key, value) ∷ cs) = subst P next cells_rise in
      let front = before_key R key es in
      let rest = edited_by R left cs in
      record {
        items_rise = subst Rises (sym is_left) (Rises-left es key rises);
        cells_rise = sorted_tail R key (keys_of cs) sorted;
        whole =
            ap (λ l. l ++ rest) is_more ∙ append_assoc (merged ++ front) (listed key value) rest ∙ append_assoc merged front (listed key value ++ rest)
            ∙ sym (
            ap (λ l. merged ++ edited_by R es l) next
            ∙ ap (λ l. merged ++ l) (edited_by-step es key value cs rises sorted)
            ∙ ap (λ l. merged ++ (front ++ (listed key value ++ edited_by R l cs))) (sym is_left)
            );
      }
