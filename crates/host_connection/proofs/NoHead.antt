-- Of a stream that has no byte no head is taken, so that nothing is sent.
use Rattle.std.proofs.Common.{◌≡◌, inl, inr, ℕ, ◌<◌, List, [], ◌∷◌, ◌++◌, length, Some, None, sym, subst, ◌∙◌, arith, length-append}
use Rattle.std.specs.Io.KnownBytes.{Consumes}
use Rattle.std.specs.List.{concat}
use Rattle.http_wire.specs.HeadText.{IsHeadText}
use Rattle.host_connection.specs.Serving.{AreServed, Answering, IsCut, Stream}
use Rattle.host_connection.specs.Timing.{IsCaughtUp}

ends_some : (a b c : List ℕ) (x : ℕ) → 0 < length (a ++ (b ++ (c ++ x ∷ [])))
ends_some a b c x = grind (arith, length-append)

some_head : (text : List ℕ) → IsHeadText text → 0 < length text
some_head text head = subst (λ (t : List ℕ). 0 < length t) (sym head.text_is) (ends_some _ _ head.last 10)

front_none : (front rest : List ℕ) → 0 < length front → [] ≡ front ++ rest → ⊥
front_none [] rest some none = omega (arith, some)
front_none (b ∷ front) rest some none = absurd (cc none)

none_taken : (new : Stream) (front : List ℕ) → 0 < length front → Consumes (Some []) new front → ⊥
none_taken None front some taken = absurd taken
none_taken (Some rest) front some taken = front_none front rest some taken

nothing_sent : (sent : List ℕ) → IsCut (Some []) sent → sent ≡ []
nothing_sent sent (inl (short, none)) = none
nothing_sent sent (inr cut) =
    let head = cut.invited.head in
    absurd (none_taken cut.rest head.0 (some_head head.0 head.1.head) head.1.taken)

module _ {H : Type 0} (answers : Answering H) (host next : H) where
  put_none : (replies : List (List ℕ)) (rest sent : List ℕ) → AreServed answers 1 host (Some []) replies next (Some rest) → IsCut (Some rest) sent
      → 0 ∷ [] ≡ concat replies ++ sent → ⊥
  put_none [] rest sent (same, left) cut put =
      let none : sent ≡ [] = nothing_sent sent (subst (λ (s : Stream). IsCut s sent) left cut) in
      absurd (cc (put ∙ none))
  put_none (reply ∷ more) rest sent (mid, left, exchange, served) cut put =
      let head = exchange.request.head in
      absurd (none_taken exchange.request.rest head.0 (some_head head.0 head.1.head) head.1.taken)

pub not_caught_up : {H : Type 0} (answers : Answering H) (host : H) → IsCaughtUp answers host [] (0 ∷ []) → ⊥
not_caught_up answers host is = put_none answers host is.next is.replies is.rest is.sent is.served is.cut is.put_is
