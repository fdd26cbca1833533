-- A stream begins with one answer at most, and nothing with none.
use Rattle.std.proofs.Common.{◌≡◌, ◌≤◌, ℕ, List, [], Result, Ok, Err, Some, sym, ap, ◌∙◌, subst, arith}
use Rattle.http_wire.specs.Answers.{AnswerParts, Begins, Brings, HeadAnswers}
use Rattle.http_wire.specs.declared.answers.AnswerFault.{AnswerFault}
use Rattle.http_wire.specs.declared.answers.AnswerFault.TheVariants.{NotOk, ReadFault, BadHead, TooLong, OutOfMemory}
use Rattle.http_wire.specs.declared.scans.State.TheVariants.{Before}
use Rattle.http_wire.specs.Scanning.{rest_from}
use Rattle.http_wire.proofs.AnswerHeads.{brings_one, tells_one}
use Rattle.http_wire.proofs.HeadEnds.{head_runs}
use Rattle.http_wire.proofs.OneHead.{begins_with_one}

pub one_begins : (limit n m : ℕ) (stream rest others : List ℕ) → Begins (Ok n) limit stream rest → Begins (Ok m) limit stream others → (n ≡ m) × (rest ≡ others)
one_begins limit n m stream rest others one another =
    let same = begins_with_one stream one.text rest another.text others one.head another.head in
    let brings : Brings one.text m = subst (λ (t : List ℕ). Brings t m) (sym same.0) another.answers.0 in
    (brings_one one.text n m one.answers.0 brings, same.1)

refused_of : (fault : AnswerFault) (limit n : ℕ) (text : List ℕ) → Brings text n → n ≤ limit → HeadAnswers (Err fault) limit text → ⊥
refused_of NotOk limit n text brings within (parts, tells, other) = other (ap (λ (p : AnswerParts). p.status) (tells_one text parts brings.parts tells brings.tells) ∙ brings.ok)
refused_of BadHead limit n text brings within bad = bad.1 n brings
refused_of TooLong limit n text brings within (m, others, over) =
    let same = brings_one text n m brings others in
    omega arith
refused_of ReadFault limit n text brings within refused = refused
refused_of OutOfMemory limit n text brings within refused = refused

pub begins_once : (fault : AnswerFault) (limit n : ℕ) (stream rest others : List ℕ) → Begins (Ok n) limit stream rest → Begins (Err fault) limit stream others → ⊥
begins_once fault limit n stream rest others one another =
    let same = begins_with_one stream one.text rest another.text others one.head another.head in
    refused_of fault limit n one.text one.answers.0 one.answers.1 (subst (λ (t : List ℕ). HeadAnswers (Err fault) limit t) (sym same.0) another.answers)

pub nothing_begins : (answer : Result ℕ AnswerFault) (limit : ℕ) (rest : List ℕ) → Begins answer limit [] rest → ⊥
nothing_begins answer limit rest begins =
    let found : rest_from Before [] ≡ Some rest = head_runs [] begins.text rest begins.head in
    absurd (cc found)
