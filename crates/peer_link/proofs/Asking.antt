-- What a request and the answer after it do to a stream.
use Rattle.std.proofs.Common.{◌≡◌, inl, inr, ℕ, List, [], ◌++◌, Option, Some, None, Err, IfSome, sym, subst, append-nil}
use Rattle.std.specs.Io.KnownBytes.{Appends, Consumes}
use Rattle.std.proofs.KnownBytes.{Appends-trans}
use Rattle.http_wire.specs.Timing.{Event, all_got, all_put, NoRead, Timely}
use Rattle.http_wire.proofs.Trails.{nothing_got}
use Rattle.http_wire.specs.Answers.{IsAnswer}
use Rattle.http_wire.specs.declared.answers.AnswerFault.{AnswerFault}
use Rattle.http_wire.specs.declared.answers.AnswerFault.TheVariants.{NotOk, ReadFault, BadHead, TooLong, OutOfMemory}
use Rattle.peer_link.specs.Asking.{GivesNone, told_by}

-- writes leave what is left to be read
pub left_after : (left mid : Option (List ℕ)) (P : List ℕ → Type 0) (events : List Event) → Consumes left mid (all_got events) → Timely NoRead events → IfSome mid P → IfSome left P
left_after None mid P events taken timely of = tt
left_after (Some xs) None P events taken timely of = absurd taken
left_after (Some xs) (Some ys) P events taken timely of =
    let none : all_got events ≡ [] = nothing_got events timely in
    let same : xs ≡ ys = subst (λ (g : List ℕ). xs ≡ g ++ ys) none taken in
    subst P (sym same) of

-- reads leave what is written
pub held_after : (held mid new : Option (List ℕ)) (text : List ℕ) (events : List Event) → Appends held mid text → Appends mid new (all_put events) → all_put events ≡ []
    → Appends held new text
held_after held mid new text events wrote put none =
    subst (Appends held new) (append-nil text) (Appends-trans held mid new text [] wrote (subst (Appends mid new) none put))

-- a stream that begins with an answer without a body is of a peer that gives none
pub gives_none : (A : Type 0) (read_fails write_fails : Type 0) (why : AnswerFault) (limit : ℕ) (stream : List ℕ) → IsAnswer {A = A} read_fails (Err why) limit stream
    → GivesNone read_fails write_fails (told_by why) limit stream
gives_none A read_fails write_fails NotOk limit stream is = is
gives_none A read_fails write_fails ReadFault limit stream is = inr (inl is)
gives_none A read_fails write_fails BadHead limit stream is = inr (inr (inl is))
gives_none A read_fails write_fails TooLong limit stream is = inr (inr (inr is))
gives_none A read_fails write_fails OutOfMemory limit stream is = tt

pub if_some : (known : Option (List ℕ)) (P Q : List ℕ → Type 0) → ((bytes : List ℕ) → P bytes → Q bytes) → IfSome known P → IfSome known Q
if_some None P Q of is = tt
if_some (Some bytes) P Q of is = of bytes is
