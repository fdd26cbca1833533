-- Texts that begin with others, and where paths go when a folder is renamed.
use Rattle.std.proofs.Common.{length-append, length-drop, ◌≡◌, ◌≢◌, ◌⊎◌, inl, inr, ℕ, ◌+◌, ◌-◌, ◌≤◌, ◌==◌, nat_le, nat_lt, Bool, true, false, cond, not, ◌&&◌, List, [], ◌∷◌, ◌++◌, length, drop, refl, sym, ap, ◌∙◌, arith, Ordering, Less, Equal, Greater}
use Rattle.std.specs.List.{list_all, slice_split, onto_first}
use Rattle.std.specs.Ordering.{nat_cmp, ordering_then, is_lt}
use Rattle.std.specs.Cmp.Lexicographic.{slice_cmp}
use Rattle.std.proofs.lemmas.Bool.{eqb-true, and_parts}
use Rattle.std.proofs.lemmas.Bool.Decides.{nat_tests, Decides-eqb}
use Rattle.std.proofs.lemmas.List.Folds.{list_all-append}
use Rattle.std.proofs.lemmas.List.Splits.{slice_split-cons_yes, slice_split-cons_no}
use Rattle.host_names.specs.Path.{is_path, is_relative_path, is_path_byte, is_segment, segments}
use Rattle.host_names.specs.Folders.{begins_with, slash_after, is_below, moved}

itself : (n : ℕ) → (n == n) ≡ true
itself n = (Decides-eqb n n).1 refl

-- ---- what begins with what

-- a common front changes nothing
pub begins-append : (front text other : List ℕ) → begins_with (front ++ text) (front ++ other) ≡ begins_with text other
begins-append [] text other = refl
begins-append (b ∷ front) text other = ap (λ t. t && begins_with (front ++ text) (front ++ other)) (itself b) ∙ begins-append front text other

pub begins-itself : (front rest : List ℕ) → begins_with (front ++ rest) front ≡ true
begins-itself [] rest = refl
begins-itself (b ∷ front) rest = ap (λ t. t && begins_with (front ++ rest) front) (itself b) ∙ begins-itself front rest

pub begins-is : (front text : List ℕ) → begins_with text front ≡ true → text ≡ front ++ drop (length front) text
begins-is [] text e = refl
begins-is (b ∷ front) [] e = cc e
begins-is (b ∷ front) (a ∷ text) e =
    let parts = and_parts (a == b) (begins_with text front) e in
    let rest = begins-is front text parts.1 in
    λ i. eqb-true a b parts.0 i ∷ rest i

-- ---- the order of texts that begin alike

abbrev pub texts : List ℕ → List ℕ → Ordering
texts = slice_cmp nat_cmp

first_same : (a b : ℕ) → (a == b) ≡ true → nat_cmp a b ≡ Equal
first_same a b e = grind (arith, nat_tests)

-- what comes before a text doesn't begin with it
pub begins-late : (front text : List ℕ) → texts text front ≡ Less → begins_with text front ≡ false
begins-late [] [] less = cc less
begins-late [] (a ∷ text) less = cc less
begins-late (b ∷ front) [] less = refl
begins-late (b ∷ front) (a ∷ text) less = elim (a == b) as (λ t. (a == b) ≡ t → (t && begins_with text front) ≡ false) [
  | true ↦ λ e. begins-late front text (sym (ap (λ r. ordering_then r (texts text front)) (first_same a b e)) ∙ less)
  | false ↦ λ e. refl
] refl

-- what is between a text and another that begins with it begins with it too
pub begins-between : (front text later : List ℕ) → texts text later ≡ Less → is_lt (texts text front) ≡ false → begins_with later front ≡ true → begins_with text front ≡ true
begins-between [] text later less late begins = refl
begins-between (b ∷ front) text [] less late begins = cc begins
begins-between (b ∷ front) [] (c ∷ later) less late begins = cc late
begins-between (b ∷ front) (a ∷ text) (c ∷ later) less late begins =
    let parts = and_parts (c == b) (begins_with later front) begins in
    let same : c ≡ b = eqb-true c b parts.0 in
    elim (nat_cmp a b) as (λ r. nat_cmp a b ≡ r → ordering_then r (texts text later) ≡ Less → is_lt (ordering_then r (texts text front)) ≡ false → (a == b && begins_with text front) ≡ true) [
      | Less ↦ λ e l h. cc h
      | Equal ↦ λ e l h. ap (λ t. t && begins_with text front) (is_same a b e) ∙ begins-between front text later l h parts.1
      | Greater ↦ λ e l h. cc l
    ] refl (ap (λ n. ordering_then (nat_cmp a n) (texts text later)) (sym same) ∙ less) late
  where
    is_same : (a b : ℕ) → nat_cmp a b ≡ Equal → (a == b) ≡ true
    is_same a b e = grind (arith, nat_tests)

-- of two texts of which neither begins with the other, what begins with them is in their order
pub begins-order : (p q a b : List ℕ) → begins_with p q ≡ false → begins_with q p ≡ false → begins_with a p ≡ true → begins_with b q ≡ true → texts a b ≡ texts p q
begins-order p [] a b other apart at_a at_b = cc other
begins-order [] (y ∷ q) a b other apart at_a at_b = cc apart
begins-order (x ∷ p) (y ∷ q) [] b other apart at_a at_b = cc at_a
begins-order (x ∷ p) (y ∷ q) (m ∷ a) [] other apart at_a at_b = cc at_b
begins-order (x ∷ p) (y ∷ q) (m ∷ a) (n ∷ b) other apart at_a at_b =
    let of_a = and_parts (m == x) (begins_with a p) at_a in
    let of_b = and_parts (n == y) (begins_with b q) at_b in
    (λ i. ordering_then (nat_cmp (eqb-true m x of_a.0 i) (eqb-true n y of_b.0 i)) (texts a b))
    ∙ (elim (nat_cmp x y) as (λ r. nat_cmp x y ≡ r → ordering_then r (texts a b) ≡ ordering_then r (texts p q)) [
      | Less ↦ λ e. refl
      | Equal ↦ λ e.
          let same = is_same x y e in
          begins-order p q a b
          (sym (ap (λ t. t && begins_with p q) same) ∙ other)
          (sym (ap (λ t. t && begins_with q p) (is_same y x (turned x y e))) ∙ apart)
          of_a.1 of_b.1
      | Greater ↦ λ e. refl
    ] refl)
  where
    is_same : (a b : ℕ) → nat_cmp a b ≡ Equal → (a == b) ≡ true
    is_same a b e = grind (arith, nat_tests)

    turned : (a b : ℕ) → nat_cmp a b ≡ Equal → nat_cmp b a ≡ Equal
    turned a b e = grind (arith, nat_tests)

-- they are not the same
pub begins-apart : (p q : List ℕ) → begins_with p q ≡ false → texts p q ≢ Equal
begins-apart p [] other tie = cc other
begins-apart [] (y ∷ q) other tie = cc tie
begins-apart (x ∷ p) (y ∷ q) other tie = elim (nat_cmp x y) as (λ r. nat_cmp x y ≡ r → ordering_then r (texts p q) ≡ Equal → ⊥) [
  | Less ↦ λ e t. cc t
  | Equal ↦ λ e t. begins-apart p q (sym (ap (λ b. b && begins_with p q) (is_same x y e)) ∙ other) t
  | Greater ↦ λ e t. cc t
] refl tie
  where
    is_same : (a b : ℕ) → nat_cmp a b ≡ Equal → (a == b) ≡ true
    is_same a b e = grind (arith, nat_tests)

-- ---- folders

-- what is below a folder: the folder's text, a slash and more
pub below-is : (folder path : List ℕ) → is_below folder path ≡ true → path ≡ folder ++ 47 ∷ drop (length (slash_after folder)) path
below-is folder path below = begins-is (slash_after folder) path below ∙ again folder (drop (length (slash_after folder)) path)
  where
    again : (folder rest : List ℕ) → (folder ++ 47 ∷ []) ++ rest ≡ folder ++ 47 ∷ rest
    again [] rest = refl
    again (b ∷ folder) rest = ap (λ t. b ∷ t) (again folder rest)

pub below-of : (folder rest : List ℕ) → is_below folder (folder ++ 47 ∷ rest) ≡ true
below-of folder rest = begins-append folder (47 ∷ rest) (47 ∷ [])

drop-front : (front rest : List ℕ) → drop (length front) (front ++ rest) ≡ rest
drop-front [] rest = refl
drop-front (b ∷ front) rest = drop-front front rest

-- a path of the one folder is moved to the other
pub moved-is : (source target rest : List ℕ) → moved source target (source ++ rest) ≡ target ++ rest
moved-is source target rest = ap (λ t. target ++ t) (drop-front source rest)

pub moved-below : (source target path : List ℕ) → is_below source path ≡ true → is_below target (moved source target path) ≡ true
moved-below source target path below =
    let rest = drop (length (slash_after source)) path in
    ap (λ p. is_below target (moved source target p)) (below-is source path below)
    ∙ ap (is_below target) (moved-is source target (47 ∷ rest)) ∙ below-of target rest

-- and back
pub moved-back : (source target path : List ℕ) → is_below source path ≡ true → moved target source (moved source target path) ≡ path
moved-back source target path below =
    let rest = drop (length (slash_after source)) path in
    let is = below-is source path below in
    ap (λ p. moved target source (moved source target p)) is
    ∙ ap (moved target source) (moved-is source target (47 ∷ rest)) ∙ moved-is target source (47 ∷ rest) ∙ sym is

-- moved paths are in the order in which they were
common : (front a b : List ℕ) → texts (front ++ a) (front ++ b) ≡ texts a b
common [] a b = refl
common (x ∷ front) a b = ap (λ r. ordering_then r (texts (front ++ a) (front ++ b))) (first_same x x (itself x)) ∙ common front a b

pub moved-order : (source target p q : List ℕ) → is_below source p ≡ true → is_below source q ≡ true → texts (moved source target p) (moved source target q) ≡ texts p q
moved-order source target p q at_p at_q =
    let r = 47 ∷ drop (length (slash_after source)) p in
    let s = 47 ∷ drop (length (slash_after source)) q in
    (λ i. texts (moved source target (below-is source p at_p i)) (moved source target (below-is source q at_q i)))
    ∙ (λ i. texts (moved-is source target r i) (moved-is source target s i))
    ∙ common target r s ∙ sym (common source r s)
    ∙ (λ i. texts (sym (below-is source p at_p) i) (sym (below-is source q at_q) i))

and_false : (t : Bool) → (t && false) ≡ false
and_false true = refl
and_false false = refl

-- where neither of two folders is the other or below it, neither text with its slash begins with the other
pub folders-apart : (source target : List ℕ) → (source ≡ target → ⊥) → is_below source target ≡ false → begins_with (slash_after target) (slash_after source) ≡ false
folders-apart [] [] other below = absurd (other refl)
folders-apart [] (y ∷ target) other below = below_slash y target below
  where
    below_slash : (y : ℕ) (target : List ℕ) → (y == 47 && true) ≡ false → (y == 47 && true) ≡ false
    below_slash y target e = e
folders-apart (x ∷ source) [] other below = short x source
  where
    short : (x : ℕ) (source : List ℕ) → (47 == x && begins_with [] (source ++ 47 ∷ [])) ≡ false
    short x [] = and_false (47 == x)
    short x (s ∷ source) = and_false (47 == x)
folders-apart (x ∷ source) (y ∷ target) other below = elim (y == x) as (λ t. (y == x) ≡ t → (t && is_below source target) ≡ false → (t && begins_with (slash_after target) (slash_after source)) ≡ false) [
  | true ↦ λ e h. folders-apart source target (λ same. other (ap (λ n. n ∷ source) (sym (eqb-true y x e)) ∙ ap (λ t. y ∷ t) same)) h
  | false ↦ λ e h. refl
] refl below

-- ---- a moved path is a path

onto_some : (x : ℕ) (parts : List (List ℕ)) → onto_first x parts ≢ []
onto_some x [] e = cc e
onto_some x (part ∷ parts) e = cc e

split_some : (p : ℕ → Bool) (xs : List ℕ) → slice_split p xs ≢ []
split_some p [] e = cc e
split_some p (x ∷ xs) e = elim (p x) as (λ t. cond t ([] ∷ slice_split p xs) (onto_first x (slice_split p xs)) ≡ [] → ⊥) [
  | true ↦ λ h. cc h
  | false ↦ λ h. onto_some x (slice_split p xs) h
] e

onto_more : (x : ℕ) (parts others : List (List ℕ)) → (parts ≡ [] → ⊥) → onto_first x (parts ++ others) ≡ onto_first x parts ++ others
onto_more x [] others some = absurd (some refl)
onto_more x (part ∷ parts) others some = refl

-- the parts of two texts with a slash between them
split-between : (p : ℕ → Bool) (xs : List ℕ) (y : ℕ) (ys : List ℕ) → p y ≡ true → slice_split p (xs ++ y ∷ ys) ≡ slice_split p xs ++ slice_split p ys
split-between p [] y ys e = slice_split-cons_yes p y ys e
split-between p (x ∷ xs) y ys e =
    elim (p x) as (λ t. cond t ([] ∷ slice_split p (xs ++ y ∷ ys)) (onto_first x (slice_split p (xs ++ y ∷ ys)))
    ≡ cond t ([] ∷ slice_split p xs) (onto_first x (slice_split p xs)) ++ slice_split p ys) [
      | true ↦ ap (λ parts. [] ∷ parts) (split-between p xs y ys e)
      | false ↦ ap (onto_first x) (split-between p xs y ys e) ∙ onto_more x (slice_split p xs) (slice_split p ys) (split_some p xs)
    ]

record IsRelative (text : List ℕ) : Type 0 where
  bytes : list_all is_path_byte text ≡ true
  parts : list_all is_segment (segments text) ≡ true

relative : (text : List ℕ) → is_relative_path text ≡ true → IsRelative text
relative text e =
    let third = and_parts (nat_le 1 (length text) && nat_le (length text) 1023 && list_all is_path_byte text) (list_all is_segment (segments text)) e in
    let second = and_parts (nat_le 1 (length text) && nat_le (length text) 1023) (list_all is_path_byte text) third.0 in
    record { bytes = second.1; parts = third.1 }

-- what is after a slash
after_slash : (front rest : List ℕ) → IsRelative (front ++ 47 ∷ rest) → (list_all is_path_byte rest ≡ true) × (list_all is_segment (segments rest) ≡ true)
after_slash front rest is = (
  (and_parts (list_all is_path_byte front) (list_all is_path_byte rest) (sym (list_all-append is_path_byte front (47 ∷ rest)) ∙ is.bytes)).1,
  (and_parts (list_all is_segment (segments front)) (list_all is_segment (segments rest))
      (sym (list_all-append is_segment (segments front) (segments rest)) ∙ ap (list_all is_segment) (sym (split-between (λ b. b == 47) front 47 rest refl)) ∙ is.parts)).1,
)

together : (front rest : List ℕ) → IsRelative front → list_all is_path_byte rest ≡ true → list_all is_segment (segments rest) ≡ true → length (front ++ 47 ∷ rest) ≤ 1023
    → is_relative_path (front ++ 47 ∷ rest) ≡ true
together front rest is bytes parts short =
    let some : 1 ≤ length (front ++ 47 ∷ rest) = grind (arith, length-append) in
    let has_bytes : list_all is_path_byte (front ++ 47 ∷ rest) ≡ true =
    list_all-append is_path_byte front (47 ∷ rest) ∙ (λ i. is.bytes i && bytes i) in
    let has_parts : list_all is_segment (segments (front ++ 47 ∷ rest)) ≡ true =
    ap (list_all is_segment) (split-between (λ b. b == 47) front 47 rest refl) ∙ list_all-append is_segment (segments front) (segments rest) ∙ (λ i. is.parts i && parts i) in
    rw (has_bytes, has_parts) (tests (length (front ++ 47 ∷ rest)) some short)
  where
    tests : (n : ℕ) → 1 ≤ n → n ≤ 1023 → (nat_le 1 n && nat_le n 1023 && true && true) ≡ true
    tests n some short = grind (arith, nat_tests)

-- what is after the folder in a path below it
rest_of : (source rest : List ℕ) → is_path (source ++ 47 ∷ rest) ≡ true → (list_all is_path_byte rest ≡ true) × (list_all is_segment (segments rest) ≡ true)
rest_of [] rest e = let is = relative rest (and_parts (47 == 47) (is_relative_path rest) e).1 in (is.bytes, is.parts)
rest_of (s ∷ source) rest e = after_slash source rest (relative (source ++ 47 ∷ rest) (and_parts (s == 47) (is_relative_path (source ++ 47 ∷ rest)) e).1)

in_folder : (target rest : List ℕ) → is_path target ≡ true → list_all is_path_byte rest ≡ true → list_all is_segment (segments rest) ≡ true → length (target ++ 47 ∷ rest) ≤ 1024
    → is_path (target ++ 47 ∷ rest) ≡ true
in_folder [] rest e bytes parts short = cc e
in_folder (t ∷ target) rest e bytes parts short =
    let both = and_parts (t == 47) (is_relative_path target) e in
    let is = together target rest (relative target both.1) bytes parts (omega (arith, short)) in
    (λ i. both.0 i && is i)

pub moved_is_path : (source target path : List ℕ) → is_path target ≡ true → is_path path ≡ true → is_below source path ≡ true → length (moved source target path) ≤ 1024
    → is_path (moved source target path) ≡ true
moved_is_path source target path of_target of_path below short =
    let rest = drop (length (slash_after source)) path in
    let at : moved source target path ≡ target ++ 47 ∷ rest = ap (moved source target) (below-is source path below) ∙ moved-is source target (47 ∷ rest) in
    let parts = rest_of source rest (sym (ap is_path (below-is source path below)) ∙ of_path) in
    ap is_path at ∙ in_folder target rest of_target parts.0 parts.1 (sub at short)
  where
    sub : {a b : List ℕ} → a ≡ b → length a ≤ 1024 → length b ≤ 1024
    sub e h = rw (← e) h

-- ---- as the code tells the order

-- what doesn't begin with a text is compared with the text alone, whatever comes after that
pub before-more : (front text more : List ℕ) → begins_with text front ≡ false → texts text (front ++ more) ≡ texts text front
before-more [] text more e = cc e
before-more (b ∷ front) [] more e = refl
before-more (b ∷ front) (a ∷ text) more e = elim (nat_cmp a b) as (λ r. nat_cmp a b ≡ r → ordering_then r (texts text (front ++ more)) ≡ ordering_then r (texts text front)) [
  | Less ↦ λ is. refl
  | Equal ↦ λ is. before-more front text more (sym (ap (λ t. t && begins_with text front) (is_same a b is)) ∙ e)
  | Greater ↦ λ is. refl
] refl
  where
    is_same : (a b : ℕ) → nat_cmp a b ≡ Equal → (a == b) ≡ true
    is_same a b e = grind (arith, nat_tests)

pub common-front : (front a b : List ℕ) → texts (front ++ a) (front ++ b) ≡ texts a b
common-front = common

-- what doesn't begin with it as the code finds
pub not-begun : (front text : List ℕ) → ((rest : List ℕ) → text ≢ front ++ rest) → begins_with text front ≡ false
not-begun front text other = elim (begins_with text front) as (λ t. begins_with text front ≡ t → t ≡ false) [
  | true ↦ λ e. absurd (other (drop (length front) text) (begins-is front text e))
  | false ↦ λ e. refl
] refl

pub before-slash : (byte : ℕ) (text : List ℕ) → is_lt (texts (byte ∷ text) (47 ∷ [])) ≡ nat_lt byte 47
before-slash byte text = first (nat_cmp byte 47) refl (texts text []) (late text)
  where
    late : (text : List ℕ) → is_lt (texts text []) ≡ false
    late [] = refl
    late (b ∷ text) = refl

    first : (r : Ordering) → nat_cmp byte 47 ≡ r → (s : Ordering) → is_lt s ≡ false → is_lt (ordering_then r s) ≡ nat_lt byte 47
    first Less e s late = grind (arith, nat_tests)
    first Equal e s late = late ∙ grind (arith, nat_tests)
    first Greater e s late = grind (arith, nat_tests)

pub not-below : (folder path : List ℕ) → ((rest : List ℕ) → path ≢ folder ++ rest) → is_below folder path ≡ false
not-below folder path other = elim (is_below folder path) as (λ t. is_below folder path ≡ t → t ≡ false) [
  | true ↦ λ e. absurd (other (47 ∷ drop (length (slash_after folder)) path) (below-is folder path e))
  | false ↦ λ e. refl
] refl

pub moved-length : (source target path : List ℕ) → length (moved source target path) ≡ length target + (length path - length source)
moved-length source target path = grind (arith, length-append, length-drop)
