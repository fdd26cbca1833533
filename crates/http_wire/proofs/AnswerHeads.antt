-- What the parser of `httparse` says of the head of an answer.
use Rattle.std.proofs.Common.{◌≡◌, ℕ, List, [], ◌∷◌, length, Ok, Err, Result, sym, ap, subst, ◌∙◌, append-nil}
use Rattle.std.specs.Prelude.{codes}
use Rattle.httparse.specs.declared.Error.{Error}
use Rattle.httparse.specs.declared.Status.{Status}
use Rattle.httparse.specs.declared.Status.TheVariants.{Complete, Partial}
use Rattle.httparse.specs.declared.spans.HeaderSpan.{HeaderSpan}
use Rattle.httparse.specs.declared.spans.ResponseSpans.{ResponseSpans}
use Rattle.httparse.specs.Grammar.{ReadsResponse, print_response}
use Rattle.httparse.specs.Spans.{FindsResponse}
use Rattle.httparse.proofs.GrammarLemmas.{response_unique}
use Rattle.http_wire.specs.Answers.{AnswerParts, Brings, HasOneLength, HeadAnswers, IsOneLength, Tells, answer_parts}
use Rattle.http_wire.specs.declared.answers.AnswerFault.TheVariants.{BadHead}
use Rattle.http_wire.specs.Fields.{values_of}

-- the parser answered the whole text
abbrev pub IsWhole : List ℕ → Result (Status ResponseSpans) Error → Type 0
IsWhole text (Ok (Complete spans)) = spans.len ≡ length text
IsWhole text (Ok Partial) = ⊥
IsWhole text (Err error) = ⊥

reads : (text : List ℕ) (parts : AnswerParts) (tells : Tells text parts) → ReadsResponse text tells.head []
reads text parts tells = (tells.lawful, tells.text_is ∙ sym (append-nil (print_response tells.head)))

-- a text that is a head is found
pub found_whole : (text : List ℕ) (parts : AnswerParts) (headers : List HeaderSpan) (result : Result (Status ResponseSpans) Error)
    → FindsResponse text 64 headers result → Tells text parts → IsWhole text result
found_whole text parts headers (Ok (Complete spans)) finds tells = (finds tells.head [] (reads text parts tells) tells.room).len ∙ ap length (sym tells.text_is)
found_whole text parts headers (Ok Partial) finds tells = finds tells.head [] (reads text parts tells) tells.room
found_whole text parts headers (Err error) finds tells = finds tells.head [] (reads text parts tells) tells.room

-- a text tells one set of parts at most
pub tells_one : (text : List ℕ) (parts others : AnswerParts) → Tells text parts → Tells text others → parts ≡ others
tells_one text parts others one another =
    let same = response_unique text one.head another.head [] [] (reads text parts one) (reads text others another) in
    one.parts_are ∙ ap answer_parts same.0 ∙ sym another.parts_are

-- and has one length at most
one_value : (values : List (List ℕ)) (n m : ℕ) → IsOneLength values n → IsOneLength values m → n ≡ m
one_value [] n m one another = absurd one
one_value (value ∷ []) n m one another = one.value ∙ sym another.value
one_value (value ∷ other ∷ values) n m one another = absurd one

pub brings_one : (text : List ℕ) (n m : ℕ) → Brings text n → Brings text m → n ≡ m
brings_one text n m one another =
    let same = tells_one text another.parts one.parts another.tells one.tells in
    let size : HasOneLength one.parts.fields m = subst (λ (p : AnswerParts). HasOneLength p.fields m) same another.size in
    one_value (values_of (codes "content-length") one.parts.fields) n m one.size.one size.one

-- no head at all is bad
pub bad_without : (limit : ℕ) (text : List ℕ) → ((parts : AnswerParts) → Tells text parts → ⊥) → HeadAnswers (Err BadHead) limit text
bad_without limit text none = (λ parts tells. absurd (none parts tells), λ n brings. none brings.parts brings.tells)

-- and so is one of status 200 without one length
pub bad_length : (limit : ℕ) (text : List ℕ) (parts : AnswerParts) → Tells text parts → parts.status ≡ 200 → ((n : ℕ) → HasOneLength parts.fields n → ⊥)
    → HeadAnswers (Err BadHead) limit text
bad_length limit text parts tells ok none = (
  λ others other. ap (λ (p : AnswerParts). p.status) (tells_one text others parts other tells) ∙ ok,
  λ n brings. none n (subst (λ (p : AnswerParts). HasOneLength p.fields n) (tells_one text brings.parts parts brings.tells tells) brings.size),
)
