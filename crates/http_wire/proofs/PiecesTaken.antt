-- Three pieces that are taken: gathered, or written from one of them on.
use Rattle.std.proofs.Common.{◌≡◌, ℕ, ◌-◌, List, [], ◌++◌, length, length-append, drop, Result, Ok, OnOk, sym, ap, subst, ◌∙◌, append-nil, arith}
use Rattle.byte_slices.proofs.Joined.{drop_four, drop_over}
use Rattle.http_wire.specs.declared.halts.Halt.{Halt}
use Rattle.http_wire.specs.declared.sinks.WriteFailed.{WriteFailed}
use Rattle.http_wire.specs.Gathering.{Gathered, WritesOn, Puts}
use Rattle.http_wire.specs.Timing.{Event, NoRead, Ran}
use Rattle.http_wire.proofs.SlicesSent.{as_pieces}
use Rattle.http_wire.proofs.Writes.{and_then, gathered, on_ok}

-- what writes begin with
begins_as : {S : Type 0} (saw : S → Event → S → Type 0) (old new : S) (result : Result (Unit {0}) (Halt WriteFailed)) (more : List ℕ) (before count after : ℕ) (left rest new_rest : List ℕ)
    → before ≡ count → left ≡ rest → Ran saw NoRead old new (WritesOn result more before after left new_rest) → Ran saw NoRead old new (WritesOn result more count after rest new_rest)
begins_as saw old new result more before count after left rest new_rest same is ran =
    subst (λ u. Ran saw NoRead old new (WritesOn result more count after u new_rest)) is
    (subst (λ n. Ran saw NoRead old new (WritesOn result more n after left new_rest)) same ran)

-- all are written
pub from_first : {S : Type 0} (saw : S → Event → S → Type 0) (old new : S) (result : Result (Unit {0}) (Halt WriteFailed)) (pieces : List ℕ) (o m k : Gathered)
    → m.sent ≡ o.sent → m.rest ≡ o.rest → Ran saw NoRead old new (WritesOn result pieces m.sent k.sent m.rest k.rest)
    → Ran saw NoRead old new (WritesOn result pieces o.sent k.sent o.rest k.rest)
from_first saw old new result pieces o m k sent rest ran = begins_as saw old new result pieces m.sent o.sent k.sent m.rest o.rest k.rest sent rest ran

-- the first is gathered, and the others are written
pub from_second : {S : Type 0} (saw : S → Event → S → Type 0) (old new : S) (result : Result (Unit {0}) (Halt WriteFailed)) (first second third : List ℕ) (o m n k : Gathered)
    → m.sent ≡ o.sent → m.rest ≡ o.rest ++ first → n.sent ≡ m.sent → n.rest ≡ m.rest
    → Ran saw NoRead old new (WritesOn result (second ++ (third ++ [])) n.sent k.sent n.rest k.rest)
    → Ran saw NoRead old new (WritesOn result (first ++ (second ++ third)) o.sent k.sent o.rest k.rest)
from_second saw old new result first second third o m n k sent rest same stays ran =
    let others = begins_as saw old new result (second ++ (third ++ [])) n.sent m.sent k.sent n.rest m.rest k.rest same stays ran in
    subst (λ t. Ran saw NoRead old new (WritesOn result (first ++ (second ++ t)) o.sent k.sent o.rest k.rest)) (append-nil third)
    (and_then saw old old new result first (second ++ (third ++ [])) o.sent m.sent k.sent o.rest m.rest k.rest (gathered saw old first o.sent m.sent o.rest m.rest sent rest) others)

-- two are gathered, and the third is written
pub from_third : {S : Type 0} (saw : S → Event → S → Type 0) (old new : S) (result : Result (Unit {0}) (Halt WriteFailed)) (first second third : List ℕ) (o m n l k : Gathered)
    → m.sent ≡ o.sent → m.rest ≡ o.rest ++ first → n.sent ≡ m.sent → n.rest ≡ m.rest ++ second → l.sent ≡ n.sent → l.rest ≡ n.rest
    → Ran saw NoRead old new (WritesOn result (third ++ []) l.sent k.sent l.rest k.rest)
    → Ran saw NoRead old new (WritesOn result (first ++ (second ++ third)) o.sent k.sent o.rest k.rest)
from_third saw old new result first second third o m n l k sent rest then_sent then_rest same stays ran =
    let last = begins_as saw old new result (third ++ []) l.sent n.sent k.sent l.rest n.rest k.rest same stays ran in
    let whole = subst (λ t. Ran saw NoRead old new (WritesOn result t n.sent k.sent n.rest k.rest)) (append-nil third) last in
    and_then saw old old new result first (second ++ third) o.sent m.sent k.sent o.rest m.rest k.rest (gathered saw old first o.sent m.sent o.rest m.rest sent rest)
    (and_then saw old old new result second third m.sent n.sent k.sent m.rest n.rest k.rest (gathered saw old second m.sent n.sent m.rest n.rest then_sent then_rest) whole)

-- all are gathered
pub all_gathered : {S : Type 0} (saw : S → Event → S → Type 0) (old : S) (first second third : List ℕ) (o m n k : Gathered) → m.sent ≡ o.sent → m.rest ≡ o.rest ++ first
    → n.sent ≡ m.sent → n.rest ≡ m.rest ++ second → k.sent ≡ n.sent → k.rest ≡ n.rest ++ third
    → Ran saw NoRead old old (WritesOn (Ok tt) (first ++ (second ++ third)) o.sent k.sent o.rest k.rest)
all_gathered saw old first second third o m n k sent rest then_sent then_rest last_sent last_rest =
    and_then saw old old old (Ok tt) first (second ++ third) o.sent m.sent k.sent o.rest m.rest k.rest (gathered saw old first o.sent m.sent o.rest m.rest sent rest)
    (and_then saw old old old (Ok tt) second third m.sent n.sent k.sent m.rest n.rest k.rest (gathered saw old second m.sent n.sent m.rest n.rest then_sent then_rest)
    (gathered saw old third n.sent k.sent n.rest k.rest last_sent last_rest))

-- ---- where what was taken before is passed over

-- what is put of three pieces: o before them, and l, m, n behind each of them
pub put_passed : {S : Type 0} (saw : S → Event → S → Type 0) (old new : S) (result : Result (Unit {0}) (Halt WriteFailed)) (first second third one two three : List ℕ) (o l m n k : Gathered)
    → one ≡ drop o.passed first → two ≡ drop l.passed second → three ≡ drop m.passed third
    → l.passed ≡ o.passed - length first → m.passed ≡ l.passed - length second → n.passed ≡ m.passed - length third → n.sent ≡ o.sent → n.rest ≡ o.rest → k.passed ≡ n.passed
    → Ran saw NoRead old new (WritesOn result (one ++ (two ++ three)) n.sent k.sent n.rest k.rest) → Ran saw NoRead old new (Puts result (first ++ (second ++ third)) o k)
put_passed saw old new result first second third one two three o l m n k is_one is_two is_three passed_one passed_two passed_three sent rest same ran =
    let all : one ++ (two ++ three) ≡ drop o.passed (first ++ (second ++ third)) =
    ap (λ u. u ++ (two ++ three)) is_one
    ∙ ap (λ u. drop o.passed first ++ (u ++ three)) is_two
    ∙ ap (λ u. drop o.passed first ++ (drop l.passed second ++ u)) is_three
    ∙ ap (λ j. drop o.passed first ++ (drop l.passed second ++ drop j third)) passed_two
    ∙ ap (λ u. drop o.passed first ++ u) (sym (drop_over l.passed second third))
    ∙ ap (λ j. drop o.passed first ++ drop j (second ++ third)) passed_one
    ∙ sym (drop_over o.passed first (second ++ third)) in
    let start = begins_as saw old new result (one ++ (two ++ three)) n.sent o.sent k.sent n.rest o.rest k.rest sent rest ran in
    record {
      events = start.events;
      steps = start.steps;
      timely = start.timely;
      claimed = record {
        writes = subst (λ t. WritesOn result t o.sent k.sent o.rest k.rest start.events) all start.claimed;
        passed = on_ok result (k.passed ≡ o.passed - length (first ++ (second ++ third)))
            (omega (arith, same, passed_one, passed_two, passed_three, length-append first (second ++ third), length-append second third));
      };
    }

-- what is put of four pieces after what was gathered: o before, f behind the flush, and l, m, n, j behind each of them
pub put_lent : {S : Type 0} (saw : S → Event → S → Type 0) (old mid new : S) (result : Result (Unit {0}) (Halt WriteFailed)) (first second third fourth one two three four left : List ℕ)
    (o f l m n j k : Gathered) → Ran saw NoRead old mid (WritesOn (Ok tt) [] o.sent f.sent o.rest f.rest) → f.rest ≡ [] → f.passed ≡ o.passed
    → one ≡ drop f.passed first → two ≡ drop l.passed second → three ≡ drop m.passed third → four ≡ drop n.passed fourth
    → l.passed ≡ f.passed - length first → m.passed ≡ l.passed - length second → n.passed ≡ m.passed - length third → j.passed ≡ n.passed - length fourth
    → j.sent ≡ f.sent → k.passed ≡ j.passed → k.rest ≡ [] → Ran saw NoRead mid new (WritesOn result [] j.sent k.sent (one ++ (two ++ (three ++ four))) left) → OnOk result (left ≡ [])
    → Ran saw NoRead old new (Puts result (first ++ (second ++ (third ++ fourth))) o k)
put_lent saw old mid new result first second third fourth one two three four left o f l m n j k flushed none same is_one is_two is_three is_four
    passed_one passed_two passed_three passed_four sent kept rest ran done =
    let text = one ++ (two ++ (three ++ four)) in
    let whole = first ++ (second ++ (third ++ fourth)) in
    let alone = begins_as saw mid new result text j.sent f.sent k.sent [] f.rest [] sent (sym none) (as_pieces saw mid new result text j.sent k.sent [] [] left done ran) in
    let lent = subst (λ r. Ran saw NoRead mid new (WritesOn result text f.sent k.sent f.rest r)) (sym rest) alone in
    let all = and_then saw old mid new result [] text o.sent f.sent k.sent o.rest f.rest k.rest flushed lent in
    let is : text ≡ drop o.passed whole =
    ap (λ u. u ++ (two ++ (three ++ four))) is_one
    ∙ ap (λ u. drop f.passed first ++ (u ++ (three ++ four))) is_two
    ∙ ap (λ u. drop f.passed first ++ (drop l.passed second ++ (u ++ four))) is_three
    ∙ ap (λ u. drop f.passed first ++ (drop l.passed second ++ (drop m.passed third ++ u))) is_four
    ∙ drop_four f.passed l.passed m.passed n.passed first second third fourth passed_one passed_two passed_three
    ∙ ap (λ i. drop i whole) same in
    record {
      events = all.events;
      steps = all.steps;
      timely = all.timely;
      claimed = record {
        writes = subst (λ t. WritesOn result t o.sent k.sent o.rest k.rest all.events) is all.claimed;
        passed = on_ok result (k.passed ≡ o.passed - length whole)
            (omega (arith, same, kept, passed_one, passed_two, passed_three, passed_four, length-append first (second ++ (third ++ fourth)), length-append second (third ++ fourth), length-append third fourth));
      };
    }
