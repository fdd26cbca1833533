-- How far the phases of a connection come, one after another.
use Rattle.std.proofs.Common.{◌≡◌, ◌⊎◌, inl, inr, ℕ, Bool, ◌<◌, ◌≤◌, Err, refl, sym, ◌∙◌, subst, arith}
use Rattle.host_connection.specs.declared.connections.ConnectionFault.TheVariants as fault
use Rattle.host_connection.specs.declared.phases.Phase.{Phase}
use Rattle.host_connection.specs.declared.phases.Phase.TheVariants as phase
use Rattle.host_connection.specs.declared.requests.Request.{Request}
use Rattle.host_connection.specs.declared.steps.Connection.{Connection}
use Rattle.host_connection.specs.declared.steps.Progress.{Progress}
use Rattle.host_connection.specs.declared.steps.Progress.TheVariants as progress
use Rattle.host_connection.specs.declared.stops.Stop.{Stop}
use Rattle.host_connection.specs.declared.stops.Stop.TheVariants as stop
use Rattle.http_wire.specs.Requests.{RequestParts}
use Rattle.host_connection.specs.Advancing.{Advances, Falls, TellsBody, IsBody, left_of_turn, phases_left, size_in, told_size}
use Rattle.host_connection.specs.Carrying.{AwaitsBodyOf, FollowsHead, FollowsReply, FollowsStop, IsAnswering, ReadsNext, Tells}
use Rattle.host_connection.specs.Serving.{Answering}
use Rattle.host_connection.proofs.Fallen.{between, is_body_between, falls_at_most, falls_twice}

-- ---- of two phases

tells_joined : (result : Progress) (n m k : ℕ) (p q r : Phase) → phases_left m q < phases_left n p → phases_left k r ≤ phases_left m q → n ≤ m → m ≤ k
    → TellsBody progress.More n p m q → TellsBody result m q k r → TellsBody result n p k r
tells_joined result n m k p q r fell falls before after (inl first) (inl second) =
    inl ((first.0.0, second.0.1, first.0.2 ∙ second.0.2), second.1, second.2 ∙ first.2)
tells_joined result n m k p q r fell falls before after (inl first) (inr second) =
    inr (λ one. second.0 (first.0.1, one.1, sym first.0.2 ∙ one.2), second.1)
tells_joined result n m k p q r fell falls before after (inr first) (inl second) =
    inr (λ one. first.0 (one.0, second.0.0, one.2 ∙ sym second.0.2), second.1 ∙ first.1 ∙ sym second.2)
tells_joined result n m k p q r fell falls before after (inr first) (inr second) =
    inr (λ one. first.0 (one.0, is_body_between n m k p q r one.0 one.1 one.2 fell falls before after, between n m k one.2 before after), second.1)

pub advances_joined : (result : Progress) (n m k : ℕ) (p q r : Phase) → Advances progress.More n p m q → Advances result m q k r → Advances result n p k r
advances_joined result n m k p q r first second = record {
  falls = falls_twice result (phases_left n p) (phases_left m q) (phases_left k r) first.falls second.falls;
  counts = omega (arith, first.counts, second.counts);
  tells = tells_joined result n m k p q r first.falls (falls_at_most result (phases_left m q) (phases_left k r) second.falls) first.counts second.counts first.tells second.tells;
  memory = λ ended. first.memory (second.memory ended);
}

-- the same of several phases, of which so many were gone through
abbrev pub AdvancedSoFar : (gone_through : ℕ) → (n : ℕ) → Phase → (m : ℕ) → Phase → Type 0
AdvancedSoFar gone_through n p m q = ((gone_through ≡ 0) × (m ≡ n) × (q ≡ p)) ⊎ Advances progress.More n p m q

pub advanced_on : (result : Progress) (gone_through n m k : ℕ) (p q r : Phase) → AdvancedSoFar gone_through n p m q → Advances result m q k r → Advances result n p k r
advanced_on result gone_through n m k p q r (inl none) last =
    subst (λ (x : ℕ). Advances result x p k r) none.1 (subst (λ (x : Phase). Advances result m x k r) none.2 last)
advanced_on result gone_through n m k p q r (inr first) last = advances_joined result n m k p q r first last

pub advanced_in_all : (gone_through n m : ℕ) (p q : Phase) → AdvancedSoFar gone_through n p m q → 0 < gone_through → Advances progress.More n p m q
advanced_in_all gone_through n m p q (inl none) some = absurd (omega (arith, none.0, some))
advanced_in_all gone_through n m p q (inr first) some = first

-- ---- of one phase

-- nothing is told outside of a body
no_size : (p : Phase) → (IsBody p → ⊥) → size_in p ≡ 0
no_size phase.Head none = refl
no_size (phase.Invite i) none = absurd (none tt)
no_size (phase.Body b) none = absurd (none tt)
no_size (phase.Reply s) none = refl
no_size (phase.Ended result) none = refl

-- it is a reply, or the end for another reason than memory
abbrev Leaves : Phase → Type 0
Leaves p = (left_of_turn p ≤ 1) × (IsBody p → ⊥) × (p ≡ phase.Ended (Err fault.OutOfMemory) → ⊥)

told_leaves : (why : Stop) (p : Phase) → Tells why p → Leaves p
told_leaves why phase.Head tells = absurd tells
told_leaves why (phase.Invite i) tells = absurd tells
told_leaves why (phase.Body b) tells = absurd tells
told_leaves why (phase.Reply s) tells = (omega arith, (λ is. is), λ is. cc)
told_leaves why (phase.Ended result) tells = absurd tells

stop_leaves : (why : Stop) (p : Phase) → FollowsStop why p → Leaves p
stop_leaves stop.Ended p follows = subst Leaves (sym follows) (omega arith, (λ is. is), λ is. cc)
stop_leaves stop.ReadFault p follows = subst Leaves (sym follows) (omega arith, (λ is. is), λ is. cc)
stop_leaves stop.WriteFault p follows = subst Leaves (sym follows) (omega arith, (λ is. is), λ is. cc)
stop_leaves (stop.Refused why head_only) p follows = told_leaves (stop.Refused why head_only) p follows
stop_leaves (stop.OutOfMemory head_only) p follows = told_leaves (stop.OutOfMemory head_only) p follows

-- after a phase before the reply nothing was read
pub stop_advances : (n : ℕ) (old new : Phase) (why : Stop) → 2 ≤ left_of_turn old → FollowsStop why new → Advances progress.More n old n new
stop_advances n old new why before follows =
    let left = stop_leaves why new follows in
    record {
      falls = omega (arith, left.0, before);
      counts = omega arith;
      tells = inr ((λ one. left.1 one.1), sym (no_size new left.1));
      memory = λ ended. absurd (left.2 ended);
    }

next_leaves : (parts : RequestParts) (size : ℕ) (p : Phase) → ReadsNext parts size p → (left_of_turn p ≤ 3) × (p ≡ phase.Ended (Err fault.OutOfMemory) → ⊥)
next_leaves parts size phase.Head next = absurd next
next_leaves parts size (phase.Invite i) next = (omega arith, λ is. cc)
next_leaves parts size (phase.Body b) next = (omega arith, λ is. cc)
next_leaves parts size (phase.Reply s) next = absurd next
next_leaves parts size (phase.Ended result) next = absurd next

head_leaves : (parts : RequestParts) (p : Phase) → FollowsHead parts p → (left_of_turn p ≤ 3) × (p ≡ phase.Ended (Err fault.OutOfMemory) → ⊥)
head_leaves parts p (inl next) = next_leaves parts next.0 p next.2
head_leaves parts p (inr none) =
    let left = stop_leaves none.0 p none.2 in
    (omega (arith, left.0), left.2)

-- after a head, whose body is told or is empty
pub head_advances : (result : Progress) (n : ℕ) (new : Phase) (parts : RequestParts) → FollowsHead parts new → ((old_left new_left : ℕ) → new_left < old_left → Falls result old_left new_left)
    → told_size result ≡ size_in new → Advances result n phase.Head n new
head_advances result n new parts follows falls told =
    let left = head_leaves parts new follows in
    record {
      falls = falls (phases_left n phase.Head) (phases_left n new) (omega (arith, left.0));
      counts = omega arith;
      tells = inr ((λ one. one.0), told);
      memory = λ ended. absurd (left.1 ended);
    }

answering_leaves : {H : Type 0} (answers : Answering H) (host next : H) (request : Request) (p : Phase) → IsAnswering answers host request next p → Leaves p
answering_leaves answers host next request phase.Head is = absurd is
answering_leaves answers host next request (phase.Invite i) is = absurd is
answering_leaves answers host next request (phase.Body b) is = absurd is
answering_leaves answers host next request (phase.Reply s) is = (omega arith, (λ is. is), λ is. cc)
answering_leaves answers host next request (phase.Ended result) is = absurd is

-- after a body
pub answer_advances : {H : Type 0} (answers : Answering H) (host next : H) (request : Request) (n : ℕ) (old new : Phase) → 2 ≤ left_of_turn old → IsAnswering answers host request next new
    → Advances progress.More n old n new
answer_advances answers host next request n old new before answering =
    let left = answering_leaves answers host next request new answering in
    record {
      falls = omega (arith, left.0, before);
      counts = omega arith;
      tells = inr ((λ one. left.1 one.1), sym (no_size new left.1));
      memory = λ ended. absurd (left.2 ended);
    }

-- after a reply
pub reply_advances : (close : Bool) (n new_n : ℕ) (old new : Phase) → left_of_turn old ≡ 1 → (IsBody old → ⊥) → FollowsReply close n new_n new → Advances progress.More n old new_n new
reply_advances close n new_n old new at none (inl last) =
    subst (λ (p : Phase). Advances progress.More n old new_n p) (sym last.2) (record {
      falls = omega (arith, at, last.1);
      counts = omega (arith, last.1);
      tells = inr ((λ one. none one.0), refl);
      memory = λ ended. cc;
    })
reply_advances close n new_n old new at none (inr more) =
    subst (λ (p : Phase). Advances progress.More n old new_n p) (sym more.3) (record {
      falls = omega (arith, at, more.1, more.2);
      counts = omega (arith, more.2);
      tells = inr ((λ one. none one.0), refl);
      memory = λ ended. cc;
    })

-- ---- where the phase stays

-- it is the same phase, in no body
pub rests : (result : Progress) (n : ℕ) (p : Phase) → told_size result ≡ 0 → ((left : ℕ) → Falls result left left) → (IsBody p → ⊥) → Advances result n p n p
rests result n p told falls none = record {
  falls = falls (phases_left n p);
  counts = omega arith;
  tells = inr ((λ one. none one.0), told ∙ sym (no_size p none));
  memory = λ ended. ended;
}

-- it is still in the same body
pub inside : (result : Progress) (n : ℕ) (old new : Phase) → IsBody old → IsBody new → size_in new ≡ size_in old → told_size result ≡ 0
    → Falls result (phases_left n old) (phases_left n new) → Advances result n old n new
inside result n old new was is same told falls = record {
  falls = falls;
  counts = omega arith;
  tells = inl ((was, is, refl), told, same);
  memory = λ ended. absurd (subst (λ (p : Phase). IsBody p) ended is);
}

-- ---- as a connection has it

-- after what entered a phase
pub at_new : (result : Progress) (n : ℕ) (old : Phase) (k c : Connection) → k ≡ c → Advances result n old c.number c.phase → Advances result n old k.number k.phase
at_new result n old k c is advances = subst (λ (x : Connection). Advances result n old x.number x.phase) (sym is) advances

-- from a phase that is this one
pub at_old : (result : Progress) (n m : ℕ) (old p new : Phase) → old ≡ p → Advances result n p m new → Advances result n old m new
at_old result n m old p new is advances = subst (λ (q : Phase). Advances result n q m new) (sym is) advances

pub at_both : (result : Progress) (n : ℕ) (old p : Phase) → old ≡ p → Advances result n p n p → Advances result n old n old
at_both result n old p is advances = subst (λ (q : Phase). Advances result n q n q) (sym is) advances

-- ---- what is told of a body

pub awaits_body : (parts : RequestParts) (size : ℕ) (p : Phase) → FollowsHead parts p → size ≡ size_in p → 0 < size → AwaitsBodyOf size p
awaits_body parts size phase.Head follows is some = absurd (omega (arith, is, some))
awaits_body parts size (phase.Invite i) (inl next) is some =
    let reads : ReadsNext parts next.0 (phase.Invite i) = next.2 in
    (sym is, reads.2)
awaits_body parts size (phase.Invite i) (inr none) is some = absurd ((stop_leaves none.0 (phase.Invite i) none.2).1 tt)
awaits_body parts size (phase.Body b) (inl next) is some =
    let reads : ReadsNext parts next.0 (phase.Body b) = next.2 in
    (sym is, reads.2)
awaits_body parts size (phase.Body b) (inr none) is some = absurd ((stop_leaves none.0 (phase.Body b) none.2).1 tt)
awaits_body parts size (phase.Reply s) follows is some = absurd (omega (arith, is, some))
awaits_body parts size (phase.Ended result) follows is some = absurd (omega (arith, is, some))
