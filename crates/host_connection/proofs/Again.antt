-- A reply that is sent again is the reply to a request whose head is whole by itself.
use Rattle.std.proofs.Common.{◌≡◌, inl, inr, ℕ, ◌==◌, ◌<◌, ◌≤◌, List, [], ◌++◌, length, take, drop, Bool, true, false, Global, Ok, Err, refl, sym, subst, ◌∙◌, arith}
use Rattle.std.proofs.lemmas.List.{length-append}
use Rattle.std.proofs.lemmas.Bool.Decides.{Decides-eqb}
use Rattle.std.specs.declared.vec.Vec.{Vec}
use Rattle.http_wire.specs.Gathering.{Gathered, nothing}
use Rattle.http_wire.specs.declared.faults.HeadFault.{HeadFault}
use Rattle.http_wire.specs.declared.halts.Halt.TheVariants.{Failed, WouldWait}
use Rattle.http_wire.specs.Halting.{KeepsOn, TriesBody, TriesHead, TriesToFind}
use Rattle.http_wire.specs.HeadText.{head_limit}
use Rattle.http_wire.specs.Requests.{RequestParts, Says}
use Rattle.http_wire.specs.Timing.{Event, Ran}
use Rattle.http_wire.specs.Wires.{AwaitsBody, AwaitsHead, FindsHead, ReadsHead}
use Rattle.http_wire.proofs.BodyReads.{none_read, whole}
use Rattle.http_wire.proofs.HeadReads.{head_judged, head_tried, ran_as}
use Rattle.host_replies.specs.Replies.{closes}
use Rattle.host_connection.specs.declared.phases.BodyPart.{BodyPart}
use Rattle.host_connection.specs.declared.phases.Phase.{Phase}
use Rattle.host_connection.specs.declared.phases.Phase.TheVariants as phase
use Rattle.host_connection.specs.declared.requests.Request.{Request}
use Rattle.host_connection.specs.declared.steps.Connection.{Connection}
use Rattle.host_connection.specs.declared.wordings.Wording.{Wording}
use Rattle.host_connection.specs.declared.wordings.Wording.TheVariants as wording
use Rattle.host_connection.specs.declared.steps.Progress.{Progress}
use Rattle.host_connection.specs.declared.steps.Progress.TheVariants as progress
use Rattle.host_connection.specs.Again.{IsAgain}
use Rattle.host_connection.specs.Advancing.{Advances, IsAsBefore}
use Rattle.host_connection.specs.Carrying.{text_of, AnswersOne, BeginsAgain, Carried, Carries, FollowsStop, IsReply}
use Rattle.host_connection.specs.Serving.{Answering, IsSent, is_last_at}
use Rattle.host_connection.specs.Stopping.{stop_of_head}
use Rattle.host_connection.specs.Wordings.{is_kept}
use Rattle.host_connection.proofs.Advancing.{advances_joined}
use Rattle.host_connection.proofs.Carried.{answered, at_connection, head_came, no_head, waits_in_head}

-- the text that is kept
text_in : (w : Wording) → is_kept w ≡ true → Vec ℕ Global
text_in (wording.Made reply) is = absurd (cc is)
text_in (wording.Kept text) is = text.value

-- memory with no byte of a text in it
abbrev emptied : {A : Type 0} → Vec ℕ A → Vec ℕ A
emptied v = record { ptr = v.ptr; len = 0; cap = v.cap; alloc = v.alloc; items = []; ok = (refl, omega arith); small = v.small }

not_last : (n : ℕ) → n < 100 → false ≡ is_last_at n
not_last n few =
    elim (n == 100) as (λ t. (n == 100) ≡ t → false ≡ t) [
      | true ↦ λ at. absurd (omega (arith, few, (Decides-eqb n 100).0 at))
      | false ↦ λ at. refl
    ] refl

-- a head that was found is taken where its text says these parts
head_said : {S : Type 0} (saw : S → Event → S → Type 0) (now new : S) (buffer mid rest : List ℕ) (count : ℕ) (parts : RequestParts) → Ran saw (AwaitsHead buffer) now new (TriesToFind (Ok count) buffer mid)
    → length mid ≤ head_limit → Says (take count mid) parts → rest ≡ drop count mid → Ran saw (AwaitsHead buffer) now new (TriesHead (Ok parts) buffer rest)
head_said saw now new buffer mid rest count parts ran room says is =
    subst (λ r. Ran saw (AwaitsHead buffer) now new (TriesHead (Ok parts) buffer r)) (sym is)
    (ran_as saw (AwaitsHead buffer) now new (FindsHead (Ok count) buffer mid) (ReadsHead (Ok parts) buffer (drop count mid))
    (λ events finds. head_judged (Ok parts) count buffer mid events finds room says) ran)

-- the connection answers the request, of whose body nothing was to be read
pub begins_again : {S H : Type 0} (answers : Answering H) (saw : S → Event → S → Type 0) (waits : Type 0) (start now new : S) (first host next : H) (n : ℕ) (buffer mid rest : List ℕ) (count : ℕ) (out new_out : Gathered)
    (p : Phase) → Carried answers saw waits start first now host buffer out n phase.Head → Ran saw (AwaitsHead buffer) now new (TriesToFind (Ok count) buffer mid)
    → length mid ≤ head_limit → BeginsAgain answers host (take count mid) next p → rest ≡ drop count mid → new_out ≡ nothing → n < 100
    → Carried answers saw waits start first new next rest new_out n p
begins_again answers saw waits start now new first host next n buffer mid rest count out new_out phase.Head c ran room again is fresh few = absurd again
begins_again answers saw waits start now new first host next n buffer mid rest count out new_out (phase.Invite i) c ran room again is fresh few = absurd again
begins_again answers saw waits start now new first host next n buffer mid rest count out new_out (phase.Body b) c ran room again is fresh few = absurd again
begins_again answers saw waits start now new first host next n buffer mid rest count out new_out (phase.Reply s) c ran room again is fresh few =
    let kept = again.0 in
    let parts = kept.parts in
    let body : Vec ℕ Global = emptied (text_in s.wording again.2) in
    let part : BodyPart = record { head = parts; size = 0; body = body; within = omega arith } in
    let request : Request = record { head = parts; body = body; is_last = false } in
    let came : Carried answers saw waits start first new host rest new_out n (phase.Body part) =
    head_came answers saw waits start now new first host n buffer rest out new_out parts (phase.Body part) c (head_said saw now new buffer mid rest count parts ran room kept.says is)
    (inl (0, kept.whole.announced, (refl, refl, refl, kept.whole.no_wait))) fresh in
    let none : Ran saw (AwaitsBody ([] ++ rest) 0) new new (TriesBody {A = Global} (Ok tt) 0 ([] ++ rest) body rest) =
    whole {A = Global} saw new new 0 rest rest body refl (none_read saw new 0 rest [] rest refl) in
    let open_still = kept.whole.stays_open in
    let sent : IsSent answers s.close host parts [] (text_of s) next = subst (λ c. IsSent answers c host parts [] (text_of s) next) (sym again.1) kept.is_sent in
    answered {A = Global} answers saw waits start new new first host next n rest rest new_out new_out part body request (phase.Reply s) came refl none refl refl (not_last n few)
    (sent, open_still ∙ sym again.1) fresh
begins_again answers saw waits start now new first host next n buffer mid rest count out new_out (phase.Ended result) c ran room again is fresh few = absurd again

-- it asked the service once
pub asked_again : {H : Type 0} (answers : Answering H) (host next : H) (head : List ℕ) (p : Phase) → BeginsAgain answers host head next p → AnswersOne answers host next
asked_again answers host next head phase.Head again = absurd again
asked_again answers host next head (phase.Invite i) again = absurd again
asked_again answers host next head (phase.Body b) again = absurd again
asked_again answers host next head (phase.Reply s) again = (again.0.parts, [], again.0.is_sent.answer, again.0.is_sent.is_answer)
asked_again answers host next head (phase.Ended result) again = absurd again

-- the reply is on its way
pub is_reply_again : {H : Type 0} (answers : Answering H) (host next : H) (head : List ℕ) (p : Phase) → BeginsAgain answers host head next p → IsReply p
is_reply_again answers host next head phase.Head again = absurd again
is_reply_again answers host next head (phase.Invite i) again = absurd again
is_reply_again answers host next head (phase.Body b) again = absurd again
is_reply_again answers host next head (phase.Reply s) again = tt
is_reply_again answers host next head (phase.Ended result) again = absurd again

-- fewer phases are left than where the head was read
pub again_advances : {H : Type 0} (answers : Answering H) (host next : H) (head : List ℕ) (n : ℕ) (p : Phase) → BeginsAgain answers host head next p → Advances progress.More n phase.Head n p
again_advances answers host next head n phase.Head again = absurd again
again_advances answers host next head n (phase.Invite i) again = absurd again
again_advances answers host next head n (phase.Body b) again = absurd again
again_advances answers host next head n (phase.Reply s) again = record {
  falls = omega arith;
  counts = omega arith;
  tells = inr ((λ one. one.0), refl);
  memory = λ ended. cc;
}
again_advances answers host next head n (phase.Ended result) again = absurd again

-- what is kept for a head has bytes
pub again_some : {H : Type 0} (answers : Answering H) (host next : H) (head sent : List ℕ) → IsAgain answers host head sent next → 0 < length sent
again_some answers host next head sent again =
    let s = again.is_sent in
    subst (λ (t : List ℕ). 0 < length t) (sym s.sent_is) (omega (arith, length-append {A = ℕ}))

-- a connection goes on after a reply that goes on
pub open_still : (parts : RequestParts) (is_last : Bool) → closes parts is_last ≡ false → closes parts false ≡ false
open_still parts true is = absurd (cc is)
open_still parts false is = is

-- ---- as a connection has it

-- the reply is on its way again
pub at_again : {S H : Type 0} (answers : Answering H) (saw : S → Event → S → Type 0) (waits : Type 0) (start now new : S) (first host next : H) (count : ℕ) (mid : List ℕ) (a c : Connection) → a.phase ≡ phase.Head
    → Ran saw (AwaitsHead a.wire) now new (TriesToFind (Ok count) a.wire mid) → length mid ≤ head_limit → BeginsAgain answers host (take count mid) next c.phase → c.wire ≡ drop count mid → c.out ≡ nothing
    → c.number ≡ a.number → a.number < 100 → Carries answers saw waits start first now host a → Carries answers saw waits start first new next c
at_again answers saw waits start now new first host next count mid a c head ran room again wire out number few so =
    let P : Phase → Type 0 = λ p. Carried answers saw waits start first now host a.wire a.out a.number p in
    subst (λ n. Carried answers saw waits start first new next c.wire c.out n c.phase) (sym number)
    (begins_again answers saw waits start now new first host next a.number a.wire mid c.wire count a.out c.out c.phase (subst P head so) ran room again wire out few)

-- the head was found, and nothing else was done
pub at_found : {S H : Type 0} (answers : Answering H) (saw : S → Event → S → Type 0) (waits : Type 0) (start now new : S) (first host next : H) (count : ℕ) (mid : List ℕ) (a c : Connection) → a.phase ≡ phase.Head
    → Ran saw (AwaitsHead a.wire) now new (TriesToFind (Ok count) a.wire mid) → c ≡ record { wire = mid; out = a.out; number = a.number; phase = a.phase } → next ≡ host
    → Carries answers saw waits start first now host a → Carries answers saw waits start first new next c
at_found {H = H} answers saw waits start now new first host next count mid a c head ran is same so =
    let P : Phase → Type 0 = λ p. Carried answers saw waits start first now host a.wire a.out a.number p in
    let Q : Phase → Type 0 = λ p. Carried answers saw waits start first new host mid a.out a.number p in
    let keeps : Ran saw (AwaitsHead a.wire) now new (TriesHead (Err WouldWait) a.wire mid) =
    ran_as saw (AwaitsHead a.wire) now new (FindsHead (Ok count) a.wire mid) (KeepsOn a.wire mid)
    (λ events finds. record { nothing_put = finds.nothing_put; goes_on = finds.found.0; grown = finds.grown }) ran in
    at_connection answers saw waits start new first next c _ is
    (subst (λ (h : H). Carried answers saw waits start first new h mid a.out a.number a.phase) (sym same)
    (subst Q (sym head) (waits_in_head answers saw waits start now new first host a.number a.wire mid a.out a.out (subst P head so) keeps)))

-- no head was found, for this reason
pub at_none : {S H : Type 0} (answers : Answering H) (saw : S → Event → S → Type 0) (waits : Type 0) (start now new : S) (first host : H) (why : HeadFault) (mid : List ℕ) (p : Phase) (a c : Connection) → a.phase ≡ phase.Head
    → Ran saw (AwaitsHead a.wire) now new (TriesToFind (Err (Failed why)) a.wire mid) → c ≡ record { wire = mid; out = nothing; number = a.number; phase = p } → FollowsStop (stop_of_head why) p
    → Carries answers saw waits start first now host a → Carries answers saw waits start first new host c
at_none answers saw waits start now new first host why mid p a c head ran is follows so =
    let P : Phase → Type 0 = λ p. Carried answers saw waits start first now host a.wire a.out a.number p in
    at_connection answers saw waits start new first host c _ is
    (no_head answers saw waits start now new first host a.number a.wire mid a.out nothing why p (subst P head so)
    (ran_as saw (AwaitsHead a.wire) now new (TriesToFind (Err (Failed why)) a.wire mid) (TriesHead (Err (Failed why)) a.wire mid) (head_tried (Failed why) a.wire mid) ran) follows refl)

-- fewer phases are left
pub advances_again : {H : Type 0} (answers : Answering H) (host next : H) (head : List ℕ) (result : Progress) (k : ℕ) (last : Phase) (a c : Connection) → a.phase ≡ phase.Head
    → BeginsAgain answers host head next c.phase → c.number ≡ a.number → Advances result c.number c.phase k last → Advances result a.number a.phase k last
advances_again answers host next head result k last a c at again number then_on =
    let before = again_advances answers host next head a.number c.phase again in
    let first : Advances progress.More a.number a.phase a.number c.phase = subst (λ (p : Phase). Advances progress.More a.number p a.number c.phase) (sym at) before in
    advances_joined result a.number a.number k a.phase c.phase last first (subst (λ m. Advances result m c.phase k last) number then_on)

-- more phases, after what others may follow
pub advanced_as : (result : Progress) (n m k : ℕ) (p q r : Phase) → IsAsBefore n p m q → Advances result m q k r → Advances result n p k r
advanced_as result n m k p q r (inl none) last =
    subst (λ (x : ℕ). Advances result x p k r) none.0 (subst (λ (x : Phase). Advances result m x k r) none.1 last)
advanced_as result n m k p q r (inr first) last = advances_joined result n m k p q r first last
