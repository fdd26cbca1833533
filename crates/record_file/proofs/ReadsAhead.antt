-- Bytes that were read ahead, and a disk inside another.
use Rattle.std.proofs.Common.{◌≡◌, ℕ, ◌+◌, ◌-◌, ◌≤◌, min, List, [], ◌++◌, length, take, drop, inl, inr, ⊎_elim, refl, sym, ◌∙◌, ap, subst, arith, Option, Some, None}
use Rattle.std.specs.Option.{IfSome}
use Rattle.std.proofs.lemmas.List.{take_min, drop-drop, drop-take, take_at, take-take, length-take, length-drop}
use Rattle.host_disk.specs.Calls.{DiskCall}
use Rattle.host_disk.specs.Crashes.{IsRead, LeavesOnly}
use Rattle.record_file.specs.Ahead.{IsUnchanged}
use Rattle.record_file.specs.Failures.{MayFailReading, ReadsWithin}
use Rattle.record_file.specs.Walks.{IsOnlyRead}

-- nothing was read
pub none_read : (file : List ℕ) → IsRead file 0 []
none_read file = record { within = omega arith; is = refl }

pub none_ahead : (file bytes : List ℕ) (start len : ℕ) → start ≡ 0 → len ≡ 0 → IsRead file start (take len bytes)
none_ahead file bytes start len at none = rw (at, none) (none_read file)

-- what a read has filled of a list
pub filled_ahead : (file : List ℕ) (at len : ℕ) (bytes behind : List ℕ) → length bytes ≡ len → IsRead file at bytes → IsRead file at (take len (bytes ++ behind))
filled_ahead file at len bytes behind size is = subst (IsRead file at) (sym (take_at bytes behind len size)) is

-- as many bytes of a file from an offset on as have room
pub all_ahead : (file bytes : List ℕ) (at size len : ℕ) → length bytes ≡ size → len ≡ min size (length file - at) → IsRead file at (take len bytes) → take len bytes ≡ take size (drop at file)
all_ahead file bytes at size len size_is len_is read =
    let few : len ≤ size = omega (arith, len_is) in
    let whole : length (take len bytes) ≡ min size (length (drop at file)) = omega (arith, length-take len bytes, length-drop at file, size_is, len_is) in
    read.is ∙ ap (λ (n : ℕ). take n (drop at file)) whole ∙ take_min size (drop at file)

-- a part of what was read
pub part_read : (file : List ℕ) (start at from len : ℕ) (bytes part : List ℕ) → IsRead file start bytes → at ≡ start + from → from + len ≤ length bytes → part ≡ take len (drop from bytes) → IsRead file at part
part_read file start at from len bytes part read at_is within part_is =
    let size : length part ≡ len = omega (arith, ap length part_is, length-take len (drop from bytes), length-drop from bytes, within) in
    let rest : ℕ = length bytes - from in
    let all : from + rest ≡ length bytes = omega (arith, within) in
    let cut : drop from bytes ≡ take rest (drop at file) =
    ap (drop from) (read.is ∙ ap (λ (n : ℕ). take n (drop start file)) (sym all)) ∙ drop-take from rest (drop start file) ∙ ap (take rest) (drop-drop from start file ∙ ap (λ (n : ℕ). drop n file) (sym at_is)) in
    record {
      within = omega (arith, read.within, at_is, size, within);
      is = part_is ∙ ap (take len) cut ∙ take-take len rest (drop at file) (omega (arith, within)) ∙ ap (λ (n : ℕ). take n (drop at file)) (sym size);
    }

-- what holds of a part
pub both_if_some : {T : Type 0} (found : Option T) (P Q R : T → Type 0) → ((x : T) → P x → Q x → R x) → IfSome found P → IfSome found Q → IfSome found R
both_if_some (Some x) P Q R from p q = from x p q
both_if_some None P Q R from p q = tt

module _ {D : Type 0} (seen : D → List ℕ) (may_leave : D → List ℕ → Type 0) (moment : D → ℕ) (left_since : D → ℕ → List ℕ → Type 0) where
  -- before any read
  pub unread : (disk : D) → IsUnchanged seen may_leave moment left_since disk disk
  unread disk = record {
    seen_is = refl;
    crash = λ c. (λ left. left, λ left. left);
    time = record { later = omega arith; nothing_else = λ t c le left. inl left; keeps = λ t c le left. left };
  }

  -- reads after reads
  pub unchanged_on : (old mid new : D) → IsUnchanged seen may_leave moment left_since old mid → IsUnchanged seen may_leave moment left_since mid new → IsUnchanged seen may_leave moment left_since old new
  unchanged_on old mid new first second = record {
    seen_is = second.seen_is ∙ first.seen_is;
    crash = λ c. (λ left. (first.crash c).0 ((second.crash c).0 left), λ left. (second.crash c).1 ((first.crash c).1 left));
    time = record {
      later = omega (arith, first.time.later, second.time.later);
      nothing_else = λ t c le left. ⊎_elim (λ was. ⊎_elim (λ before. inl before) (λ now. inr ((second.crash c).1 now)) (first.time.nothing_else t c le was)) (λ now. inr now) (second.time.nothing_else t c (omega (arith, le, first.time.later)) left);
      keeps = λ t c le was. second.time.keeps t c (omega (arith, le, first.time.later)) (first.time.keeps t c le was);
    };
  }

-- what holds of a disk inside another holds of it alone
module _ {A D : Type 0} (old new : A) (inside : A → D) (moment : D → ℕ) (left_since : D → ℕ → List ℕ → Type 0) where
  pub inside_leaves : (P : List ℕ → Type 0) → LeavesOnly (λ a. moment (inside a)) (λ a. left_since (inside a)) old new P → LeavesOnly moment left_since (inside old) (inside new) P
  inside_leaves P run = record { later = run.later; each = run.each; before = run.before }

  pub inside_reads : (seen : D → List ℕ) (may_leave : D → List ℕ → Type 0) → IsOnlyRead (λ a. seen (inside a)) (λ a. may_leave (inside a)) (λ a. moment (inside a)) (λ a. left_since (inside a)) old new → IsOnlyRead seen may_leave moment left_since (inside old) (inside new)
  inside_reads seen may_leave read = record { same = read.same; crash = read.crash; time = inside_leaves (may_leave (inside old)) read.time }

  -- the disk that it was made of, and the one that it is made
  pub ahead_leaves : (P : List ℕ → Type 0) (before after : D) → inside old ≡ before → after ≡ inside new → LeavesOnly (λ a. moment (inside a)) (λ a. left_since (inside a)) old new P → LeavesOnly moment left_since before after P
  ahead_leaves P before after was is run =
      subst (λ d. LeavesOnly moment left_since d after P) was (subst (λ d. LeavesOnly moment left_since (inside old) d P) (sym is) (inside_leaves P run))

  pub ahead_reads : (seen : D → List ℕ) (may_leave : D → List ℕ → Type 0) (before after : D) → inside old ≡ before → after ≡ inside new → IsOnlyRead (λ a. seen (inside a)) (λ a. may_leave (inside a)) (λ a. moment (inside a)) (λ a. left_since (inside a)) old new → IsOnlyRead seen may_leave moment left_since before after
  ahead_reads seen may_leave before after was is read =
      subst (λ d. IsOnlyRead seen may_leave moment left_since d after) was (subst (λ d. IsOnlyRead seen may_leave moment left_since (inside old) d) (sym is) (inside_reads seen may_leave read))

-- where a disk that reads ahead may fail, so may the one inside
pub ahead_fails : {A D : Type 0} (inside : A → D) (seen : D → List ℕ) (may_fail : D → DiskCall → Type 0) (Modelled : Type 0) → Modelled → (file : List ℕ)
    → MayFailReading (λ a. seen (inside a)) (λ a call. Modelled → ReadsWithin (seen (inside a)) call → MayFailReading seen may_fail (seen (inside a))) file → MayFailReading seen may_fail file
ahead_fails inside seen may_fail Modelled modelled file fails =
    subst (MayFailReading seen may_fail) fails.same (fails.fails modelled (subst (λ (f : List ℕ). ReadsWithin f fails.call) (sym fails.same) fails.within))
