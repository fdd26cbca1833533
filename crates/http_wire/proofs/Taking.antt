-- What leaves the stream where bytes leave the buffer before it.
use Rattle.std.proofs.Common.{◌≡◌, ℕ, ◌≤◌, List, ◌++◌, length, take, drop, Option, Some, None, sym, ap, ◌∙◌, append_assoc, arith}
use Rattle.std.specs.Io.KnownBytes.{Keeps, Consumes, prepend_known}
use Rattle.std.proofs.lemmas.List.{take-append-drop, length-take-le}
use Rattle.http_wire.specs.HeadText.{IsHeadText, head_limit}
use Rattle.http_wire.specs.Wires.{TakesHead}

-- the front of the buffer is gone
pub front_taken : (old known : Option (List ℕ)) (buffer front rest : List ℕ) → Keeps old (prepend_known buffer known)
    → buffer ≡ front ++ rest → Consumes old (prepend_known rest known) front
front_taken None known buffer front rest kept e = tt
front_taken (Some xs) None buffer front rest kept e = absurd kept
front_taken (Some xs) (Some ys) buffer front rest kept e = sym kept ∙ ap (λ u. u ++ ys) e ∙ append_assoc front rest ys

-- a head at the front of the buffer is gone
pub head_taken : (old known : Option (List ℕ)) (buffer : List ℕ) (count : ℕ) → Keeps old (prepend_known buffer known)
    → count ≤ length buffer → length buffer ≤ head_limit → IsHeadText (take count buffer)
    → TakesHead old (prepend_known (drop count buffer) known) (take count buffer)
head_taken old known buffer count kept fits room head = record {
  taken = front_taken old known buffer (take count buffer) (drop count buffer) kept (sym (take-append-drop count buffer));
  head = head;
  short = omega (arith, length-take-le count buffer fits);
}
