-- A connection, exchange by exchange.
use Rattle.std.proofs.Common.{◌≡◌, ℕ, ◌+◌, ◌≤◌, ◌==◌, List, [], ◌∷◌, ◌++◌, length, true, false, Some, None, Result, Ok, Err, refl, sym, ap, subst, ◌∙◌, arith, false-eqb}
use Rattle.std.specs.Io.KnownBytes.{Appends}
use Rattle.std.specs.List.{concat}
use Rattle.std.proofs.lemmas.List.{append-nil, append_assoc, length-append}
use Rattle.host_replies.specs.Replies.{closes}
use Rattle.host_connection.specs.Serving.{Answering, Stream, IsAnswered, AreServed, Ends, Serves, is_last_at}
use Rattle.host_connection.specs.declared.connections.ConnectionFault.{ConnectionFault}
use Rattle.host_connection.specs.declared.connections.ConnectionFault.TheVariants as fault
use Rattle.host_connection.specs.Carrying.{SoFar}
use Rattle.host_connection.proofs.Turns.{appends_nothing}
use Rattle.host_connection.proofs.TurnParts.{Turns, Exchange, End}

-- ---- lists of replies

concat-push : (replies : List (List ℕ)) (sent : List ℕ) → concat (replies ++ sent ∷ []) ≡ concat replies ++ sent
concat-push [] sent = append-nil sent
concat-push (r ∷ replies) sent = ap (λ rest. r ++ rest) (concat-push replies sent) ∙ sym (append_assoc r (concat replies) sent)

one_more : {H : Type 0} (answers : Answering H) (n : ℕ) (host mid next : H) (old left new : Stream) (replies : List (List ℕ)) (sent : List ℕ) → AreServed answers n host old replies mid left
    → IsAnswered answers mid (is_last_at (n + length replies)) false left sent next new → AreServed answers n host old (replies ++ sent ∷ []) next new
one_more {H = H} answers n host mid next old left new [] sent served exchange =
    let P : H → Type 0 = λ h. IsAnswered answers h (is_last_at n) false old sent next new in
    let Q : Stream → Type 0 = λ s. IsAnswered answers mid (is_last_at n) false s sent next new in
    let at : n + 0 ≡ n = omega arith in
    let here = subst (λ m. IsAnswered answers mid (is_last_at m) false left sent next new) at exchange in
    (next, new, subst P served.0 (subst Q served.1 here), (refl, refl))
one_more answers n host mid next old left new (r ∷ replies) sent served exchange =
    let at : n + length (r ∷ replies) ≡ (n + 1) + length replies = omega arith in
    let there = subst (λ m. IsAnswered answers mid (is_last_at m) false left sent next new) at exchange in
    (served.0, served.1, served.2, one_more answers (n + 1) served.0 mid next served.1 left new replies sent served.3 there)

appends_then : (a b c : Stream) (xs ys : List ℕ) → Appends a b xs → Appends b c ys → Appends a c (xs ++ ys)
appends_then None b c xs ys ab bc = tt
appends_then (Some p) None c xs ys ab bc = absurd ab
appends_then (Some p) (Some q) None xs ys ab bc = absurd bc
appends_then (Some p) (Some q) (Some r) xs ys ab bc = bc ∙ ap (λ l. l ++ ys) ab ∙ append_assoc p xs ys

-- ---- the steps

pub at_first : {H : Type 0} (answers : Answering H) (host : H) (stream old held : Stream) → old ≡ stream → SoFar answers host stream 1 host old held held
at_first answers host stream old held is = record {
  replies = [];
  served = (refl, is);
  written = appends_nothing held;
  number = refl;
  within = omega arith;
}

-- an exchange that is followed by another is not the last
not_last : {H : Type 0} (answers : Answering H) (host next : H) (n : ℕ) (old new : Stream) (sent : List ℕ) → IsAnswered answers host (is_last_at n) false old sent next new → n ≤ 100 → n + 1 ≤ 100
not_last answers host next n old new sent exchange within =
    elim (n == 100) as (λ t. (n == 100) ≡ t → closes exchange.parts t ≡ false → n + 1 ≤ 100) [
      | true ↦ λ at closing. cc closing
      | false ↦ λ at closing. omega (arith, within, false-eqb n 100 (sym at))
    ] refl exchange.closing

pub goes_on : {H : Type 0} (answers : Answering H) (read_fails write_fails : Type 0) (first : H) (stream : Stream) (n : ℕ) (host next : H) (old new held mid_held new_held : Stream)
    → SoFar answers first stream n host old held mid_held → Turns answers read_fails write_fails (Ok Exchange) (is_last_at n) host old new mid_held new_held next
    → SoFar answers first stream (n + 1) next new held new_held
goes_on answers read_fails write_fails first stream n host next old new held mid_held new_held so turn =
    let there = subst (λ m. IsAnswered answers host (is_last_at m) false old turn.0 next new) so.number turn.1 in
    let longer = length-append so.replies (turn.0 ∷ []) in
    record {
      replies = so.replies ++ turn.0 ∷ [];
      served = one_more answers 1 first host next stream old new so.replies turn.0 so.served there;
      written = subst (Appends held new_held) (sym (concat-push so.replies turn.0)) (appends_then held mid_held new_held (concat so.replies) turn.0 so.written turn.2);
      number = omega (arith, so.number, longer);
      within = not_last answers host next n old new turn.0 turn.1 so.within;
    }

-- ---- the end

finish : {H : Type 0} (answers : Answering H) (read_fails write_fails : Type 0) (result : Result (Unit {0}) ConnectionFault) (first : H) (stream : Stream) (n : ℕ) (host next : H) (old held mid_held new_held : Stream)
    (so : SoFar answers first stream n host old held mid_held) (sent : List ℕ) → Appends mid_held new_held sent
    → Ends answers read_fails write_fails result n host old sent next → Serves answers read_fails write_fails result first next stream held new_held
finish answers read_fails write_fails result first stream n host next old held mid_held new_held so sent appended ends =
    let at : n ≡ length so.replies + 1 = omega (arith, so.number) in
    record {
      replies = so.replies;
      mid = host;
      left = old;
      served = so.served;
      sent = sent;
      ends = subst (λ m. Ends answers read_fails write_fails result m host old sent next) at ends;
      written = appends_then held mid_held new_held (concat so.replies) sent so.written appended;
    }

pub ends_well : {H : Type 0} (answers : Answering H) (read_fails write_fails : Type 0) (first : H) (stream : Stream) (n : ℕ) (host next : H) (old new held mid_held new_held : Stream)
    → SoFar answers first stream n host old held mid_held → Turns answers read_fails write_fails (Ok End) (is_last_at n) host old new mid_held new_held next
    → Serves answers read_fails write_fails (Ok tt) first next stream held new_held
ends_well answers read_fails write_fails first stream n host next old new held mid_held new_held so turn =
    finish answers read_fails write_fails (Ok tt) first stream n host next old held mid_held new_held so turn.0 turn.2 turn.1

pub stops : {H : Type 0} (answers : Answering H) (read_fails write_fails : Type 0) (e : ConnectionFault) (first : H) (stream : Stream) (n : ℕ) (host next : H) (old new held mid_held new_held : Stream)
    → SoFar answers first stream n host old held mid_held → Turns answers read_fails write_fails (Err e) (is_last_at n) host old new mid_held new_held next
    → Serves answers read_fails write_fails (Err e) first next stream held new_held
stops answers read_fails write_fails fault.InputFault first stream n host next old new held mid_held new_held so turn =
    finish answers read_fails write_fails (Err fault.InputFault) first stream n host next old held mid_held new_held so turn.1.0 turn.1.3 (turn.0, turn.1.1, turn.1.2)
stops answers read_fails write_fails fault.OutputFault first stream n host next old new held mid_held new_held so turn =
    finish answers read_fails write_fails (Err fault.OutputFault) first stream n host next old held mid_held new_held so turn.1.0 turn.1.2 (turn.0, turn.1.1)
stops answers read_fails write_fails fault.OutOfMemory first stream n host next old new held mid_held new_held so turn = absurd turn

pub never_began : {H : Type 0} (answers : Answering H) (read_fails write_fails : Type 0) (host : H) (stream held : Stream) → Serves answers read_fails write_fails (Err fault.OutOfMemory) host host stream held held
never_began answers read_fails write_fails host stream held = record {
  replies = [];
  mid = host;
  left = stream;
  served = (refl, refl);
  sent = [];
  ends = (refl, refl, refl);
  written = appends_nothing held;
}
