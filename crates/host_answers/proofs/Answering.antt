-- What is done after a look answers a request.
use Rattle.std.proofs.Common.{◌≡◌, inl, inr, ℕ, List, true, false, Result, Ok, Err, sym, subst}
use Rattle.std.specs.Result.{is_err}
use Rattle.std.specs.declared.alloc.AllocError.{AllocError}
use Rattle.http_wire.specs.Requests.{RequestParts}
use Rattle.host_api.specs.declared.bodies.Ask.{Ask}
use Rattle.host_api.specs.declared.refusals.Refusal.{Refusal}
use Rattle.host_api.specs.declared.refusals.Refusal.TheVariants.{OutOfMemory}
use Rattle.host_replies.specs.Replies.{Answer, refused_answer}
use Rattle.host_answers.specs.Answers.{AnswersBy, CarriesOut, DoesBy}
use Rattle.host_answers.specs.Asking.{asked_for}
use Rattle.host_answers.specs.Houses.{Calls, Failed, Gave}

module _ {H : Type 0} (calls : Calls H) (gave : Gave H) (failed : Failed H) (old mid next : H) (parts : RequestParts) (body : List ℕ) where
  pub after_look : (asked : Ask) (done : Result (Unit {0}) AllocError) (answer : Answer) → asked_for parts body ≡ Ok asked → calls.looks old done mid → is_err done ≡ false
      → DoesBy calls gave failed mid parts body asked answer next → AnswersBy calls gave failed old parts body answer next
  after_look asked (Ok done) answer asks looks is does =
      inl (subst (λ (r : Result Ask Refusal). CarriesOut calls gave failed old parts body r answer next) (sym asks) (inl (mid, looks, does)))
  after_look asked (Err why) answer asks looks is does = absurd (cc is)

  pub no_look : (asked : Ask) (done : Result (Unit {0}) AllocError) (answer : Answer) → asked_for parts body ≡ Ok asked → calls.looks old done next → is_err done ≡ true
      → answer ≡ refused_answer OutOfMemory → AnswersBy calls gave failed old parts body answer next
  no_look asked (Ok done) answer asks looks is told = absurd (cc is)
  no_look asked (Err why) answer asks looks is told =
      inl (subst (λ (r : Result Ask Refusal). CarriesOut calls gave failed old parts body r answer next) (sym asks) (inr (why, looks, told)))
