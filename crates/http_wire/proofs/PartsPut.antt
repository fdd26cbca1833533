-- Parts that are put one after another.
use Rattle.std.proofs.Common.{◌≡◌, ℕ, List, [], ◌∷◌, ◌++◌, length, Result, Ok, Err, refl, sym, ap, subst, ◌∙◌, append_assoc, append-nil, arith}
use Rattle.std.specs.List.{concat}
use Rattle.http_wire.specs.declared.halts.Halt.{Halt}
use Rattle.http_wire.specs.declared.sinks.WriteFailed.{WriteFailed}
use Rattle.http_wire.specs.Gathering.{Gathered, Puts}
use Rattle.http_wire.specs.Timing.{Event, NoRead, Ran}
use Rattle.http_wire.proofs.Writes.{puts_cut, puts_none, puts_then}

pub concat-append : (xs ys : List (List ℕ)) → concat (xs ++ ys) ≡ concat xs ++ concat ys
concat-append [] ys = refl
concat-append (x ∷ xs) ys = ap (λ u. x ++ u) (concat-append xs ys) ∙ sym (append_assoc x (concat xs) (concat ys))

-- what was put of a body's bytes, and what is left of them
pub record PartsSoFar {S : Type 0} (saw : S → Event → S → Type 0) (old new : S) (all left : List ℕ) (o n : Gathered) : Type 0 where
  pub done : List ℕ
  pub all_is : all ≡ done ++ left
  pub ran : Ran saw NoRead old new (Puts (Ok tt) done o n)

pub no_part : {S : Type 0} (saw : S → Event → S → Type 0) (old : S) (all : List ℕ) (o : Gathered) → PartsSoFar saw old old all all o o
no_part saw old all o = record { done = []; all_is = refl; ran = puts_none saw old o }

-- more of them is put
pub more_parts : {S : Type 0} (saw : S → Event → S → Type 0) (old mid new : S) (all left piece rest : List ℕ) (o m n : Gathered) → PartsSoFar saw old mid all left o m
    → left ≡ piece ++ rest → Ran saw NoRead mid new (Puts (Ok tt) piece m n) → PartsSoFar saw old new all rest o n
more_parts saw old mid new all left piece rest o m n so is ran = record {
  done = so.done ++ piece;
  all_is = so.all_is ∙ ap (λ u. so.done ++ u) is ∙ sym (append_assoc so.done piece rest);
  ran = puts_then saw old mid new (Ok tt) so.done piece o m n so.ran ran;
}

-- or cut short
pub parts_cut : {S : Type 0} (saw : S → Event → S → Type 0) (old mid new : S) (all left piece rest : List ℕ) (o m n : Gathered) (why : Halt WriteFailed) → PartsSoFar saw old mid all left o m
    → left ≡ piece ++ rest → Ran saw NoRead mid new (Puts (Err why) piece m n) → Ran saw NoRead old new (Puts (Err why) all o n)
parts_cut saw old mid new all left piece rest o m n why so is ran =
    let whole : all ≡ (so.done ++ piece) ++ rest = so.all_is ∙ ap (λ u. so.done ++ u) is ∙ sym (append_assoc so.done piece rest) in
    subst (λ t. Ran saw NoRead old new (Puts (Err why) t o n)) (sym whole)
    (puts_cut saw old new why (so.done ++ piece) rest o n (puts_then saw old mid new (Err why) so.done piece o m n so.ran ran))

-- all that was left is put
pub last_parts : {S : Type 0} (saw : S → Event → S → Type 0) (old mid new : S) (result : Result (Unit {0}) (Halt WriteFailed)) (all left piece : List ℕ) (o m n : Gathered)
    → PartsSoFar saw old mid all left o m → left ≡ piece → Ran saw NoRead mid new (Puts result piece m n) → Ran saw NoRead old new (Puts result all o n)
last_parts saw old mid new result all left piece o m n so is ran =
    subst (λ t. Ran saw NoRead old new (Puts result t o n)) (sym (so.all_is ∙ ap (λ u. so.done ++ u) is)) (puts_then saw old mid new result so.done piece o m n so.ran ran)

pub all_parts : {S : Type 0} (saw : S → Event → S → Type 0) (old new : S) (all left : List ℕ) (o n : Gathered)
    → left ≡ [] → PartsSoFar saw old new all left o n → Ran saw NoRead old new (Puts (Ok tt) all o n)
all_parts saw old new all left o n none so =
    subst (λ t. Ran saw NoRead old new (Puts (Ok tt) t o n)) (sym (so.all_is ∙ ap (λ u. so.done ++ u) none ∙ append-nil so.done)) so.ran

-- ---- the pieces in front of what is left

-- one alone
pub one_left : (left one l : List ℕ) → left ≡ one ++ l → length l ≡ 0 → left ≡ one
one_left left one [] is none = is ∙ append-nil one
one_left left one (b ∷ l) is none = absurd (omega (arith, none))

-- two, and few bytes
pub few_left : (left one two few l m n : List ℕ) → left ≡ one ++ l → l ≡ two ++ m → m ≡ few ++ n → n ≡ [] → left ≡ one ++ (two ++ few)
few_left left one two few l m n is then after none =
    is ∙ ap (λ u. one ++ u) (then ∙ ap (λ u. two ++ u) (after ∙ ap (λ u. few ++ u) none ∙ append-nil few))

-- four, where those bytes were none
pub four_left : (left one two few three four l m n p q : List ℕ) → left ≡ one ++ l → l ≡ two ++ m → m ≡ few ++ n → few ≡ [] → n ≡ three ++ p → p ≡ four ++ q
    → left ≡ (one ++ (two ++ (three ++ four))) ++ q
four_left left one two few three four l m n p q is then after none third last =
    is ∙ ap (λ u. one ++ u) (then ∙ ap (λ u. two ++ u) (after ∙ ap (λ u. u ++ n) none ∙ third ∙ ap (λ u. three ++ u) last))
    ∙ sym (append_assoc one (two ++ (three ++ four)) q ∙ ap (λ u. one ++ u) (append_assoc two (three ++ four) q ∙ ap (λ u. two ++ u) (append_assoc three four q)))

-- the bytes that were shown of them
pub shown_four : (one two three four a b c d : List ℕ) → one ≡ a → two ≡ b → three ≡ c → four ≡ d → one ++ (two ++ (three ++ four)) ≡ a ++ (b ++ (c ++ d))
shown_four one two three four a b c d is_one is_two is_three is_four =
    ap (λ u. u ++ (two ++ (three ++ four))) is_one ∙ ap (λ u. a ++ (u ++ (three ++ four))) is_two ∙ ap (λ u. a ++ (b ++ (u ++ four))) is_three ∙ ap (λ u. a ++ (b ++ (c ++ u))) is_four
