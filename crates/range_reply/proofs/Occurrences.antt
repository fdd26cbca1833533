-- Where bytes occur in texts that are joined.
use Rattle.std.proofs.Common.{◌≡◌, ℕ, ◌+◌, ◌-◌, ◌<◌, ◌≤◌, ◌⊎◌, inl, inr, ⊎_elim, List, [], ◌++◌, length, take, drop, sym, ap, ◌∙◌, arith, append_assoc, subst}
use Rattle.std.proofs.Math.Seq.{take-append-add, drop-append-add}
use Rattle.std.proofs.lemmas.Bool.{cases_lt}
use Rattle.std.proofs.lemmas.List.{length-append, length-drop, take-append-drop, take-append-le, drop-append-le, drop-drop, take-take, take_all}
use Rattle.byte_view.proofs.Occurrences.{OccursIn, from_place, occurs_before, occurs_within, place_of}
use Rattle.range_reply.specs.Searches.{ending}

-- around the edge
module _ (bytes a b : List ℕ) where
  pub occurs_around : OccursIn bytes (ending a ++ take 64 b) → OccursIn bytes (a ++ b)
  occurs_around o =
      let e = length a - 64 in
      let all : take e a ++ ((ending a ++ take 64 b) ++ drop 64 b) ≡ a ++ b =
      ap (λ l. take e a ++ l) (append_assoc (ending a) (take 64 b) (drop 64 b) ∙ ap (λ l. ending a ++ l) (take-append-drop 64 b))
      ∙ sym (append_assoc (take e a) (ending a) b) ∙ ap (λ l. l ++ b) (take-append-drop e a) in
      subst (OccursIn bytes) all (occurs_within bytes (take e a) (ending a ++ take 64 b) (drop 64 b) o)

  in_first : (k : ℕ) → k + length bytes ≤ length a → take (length bytes) (drop k (a ++ b)) ≡ bytes → OccursIn bytes a
  in_first k fits reads =
      let left = length-drop k a in
      from_place bytes a k (sym (ap (take (length bytes)) (drop-append-le k a b (omega arith)) ∙ take-append-le (length bytes) (drop k a) b (omega arith)) ∙ reads)

  in_second : (k : ℕ) → length a ≤ k → take (length bytes) (drop k (a ++ b)) ≡ bytes → OccursIn bytes b
  in_second k past reads =
      let e : length a + (k - length a) ≡ k = omega arith in
      from_place bytes b (k - length a)
      (ap (take (length bytes)) (sym (drop-append-add a b (k - length a)) ∙ ap (λ n. drop n (a ++ b)) e) ∙ reads)

  across : (k : ℕ) → length bytes ≤ 64 → k < length a → length a < k + length bytes → take (length bytes) (drop k (a ++ b)) ≡ bytes → OccursIn bytes (ending a ++ take 64 b)
  across k short inside over reads =
      let e = length a - 64 in let x = drop k a in let r = length bytes - (length a - k) in
      let left = length-drop k a in
      let room = length-drop e a in
      let back : e + (k - e) ≡ k = omega arith in
      let sum : length x + r ≡ length bytes = omega arith in
      let seen : drop (k - e) (ending a ++ take 64 b) ≡ x ++ take 64 b =
      drop-append-le (k - e) (ending a) (take 64 b) (omega arith) ∙ ap (λ l. l ++ take 64 b) (drop-drop (k - e) e a ∙ ap (λ n. drop n a) back) in
      let meant : drop k (a ++ b) ≡ x ++ b = drop-append-le k a b (omega arith) in
      from_place bytes (ending a ++ take 64 b) (k - e)
      (ap (take (length bytes)) seen ∙ ap (λ n. take n (x ++ take 64 b)) (sym sum) ∙ take-append-add x (take 64 b) r
      ∙ ap (λ l. x ++ l) (take-take r 64 b (omega arith)) ∙ sym (take-append-add x b r) ∙ ap (λ n. take n (x ++ b)) sum
      ∙ ap (take (length bytes)) (sym meant) ∙ reads)

  -- in one of two texts, or across the edge between them
  pub occurs_joined : length bytes ≤ 64 → OccursIn bytes (a ++ b) → OccursIn bytes a ⊎ (OccursIn bytes (ending a ++ take 64 b) ⊎ OccursIn bytes b)
  occurs_joined short o =
      let p = place_of bytes (a ++ b) o in let k = p.0 in
      ⊎_elim
      (λ over. ⊎_elim
      (λ inside. inr (inl (across k short inside over p.1.reads)))
      (λ past. inr (inr (in_second k past p.1.reads)))
      (cases_lt k (length a)))
      (λ fits. inl (in_first k fits p.1.reads))
      (cases_lt (length a) (k + length bytes))

-- ---- the last bytes of joined texts

pub ending_long : (a b : List ℕ) → 64 ≤ length b → ending (a ++ b) ≡ ending b
ending_long a b long =
    let size = length-append a b in
    let e : length (a ++ b) - 64 ≡ length a + (length b - 64) = omega arith in
    ap (λ n. drop n (a ++ b)) e ∙ drop-append-add a b (length b - 64)

pub ending_short : (a b : List ℕ) → length b < 64 → ending (ending a ++ take 64 b) ≡ ending (a ++ b)
ending_short a b short =
    let e = length a - 64 in
    let kept = length-drop e a in
    let size = length-append a b in
    let part = length-append (ending a) b in
    let j = length (ending a ++ b) - 64 in
    let sum : e + j ≡ length (a ++ b) - 64 = omega arith in
    ap (λ l. ending (ending a ++ l)) (take_all 64 b (omega arith))
    ∙ drop-append-le j (ending a) b (omega arith) ∙ ap (λ l. l ++ b) (drop-drop j e a)
    ∙ sym (drop-append-le (e + j) a b (omega arith)) ∙ ap (λ n. drop n (a ++ b)) sum

-- ---- a search

-- these bytes are in no part of a text that was looked through: its last bytes are known, and what is left of all
pub record IsSearched (bytes last rest all : List ℕ) : Type 0 where
  pub seen : List ℕ
  pub last_is : last ≡ ending seen
  pub rest_is : seen ++ rest ≡ all
  pub free : OccursIn bytes seen → ⊥

pub searched_nothing : (bytes last rest all : List ℕ) → 0 < length bytes → last ≡ [] → rest ≡ all → IsSearched bytes last rest all
searched_nothing bytes last rest all some none e = record {
  seen = [];
  last_is = none;
  rest_is = e;
  free = λ o. let p = place_of bytes [] o in absurd (omega (arith, p.1.fits));
}

module _ (bytes last left edge piece rest all : List ℕ) (s : IsSearched bytes last left all) (left_is : left ≡ piece ++ rest) (edge_is : edge ≡ last ++ take 64 piece) where
  pub edge_of_seen : edge ≡ ending s.seen ++ take 64 piece
  edge_of_seen = edge_is ∙ ap (λ l. l ++ take 64 piece) s.last_is

  parts : s.seen ++ (piece ++ rest) ≡ all
  parts = ap (λ l. s.seen ++ l) (sym left_is) ∙ s.rest_is

  pub found_at_edge : OccursIn bytes edge → OccursIn bytes all
  found_at_edge o =
      let here : OccursIn bytes (ending s.seen ++ take 64 piece) = subst (OccursIn bytes) edge_of_seen o in
      subst (OccursIn bytes) (append_assoc s.seen piece rest ∙ parts) (occurs_before bytes (s.seen ++ piece) rest (occurs_around bytes s.seen piece here))

  pub found_in_piece : OccursIn bytes piece → OccursIn bytes all
  found_in_piece o = subst (OccursIn bytes) parts (occurs_within bytes s.seen piece rest o)

  pub searched_more : (next : List ℕ) → length bytes ≤ 64 → ¬ OccursIn bytes edge → ¬ OccursIn bytes piece → next ≡ ending (s.seen ++ piece)
      → IsSearched bytes next rest all
  searched_more next short not_edge not_piece next_is = record {
    seen = s.seen ++ piece;
    last_is = next_is;
    rest_is = append_assoc s.seen piece rest ∙ parts;
    free = λ o. ⊎_elim s.free
        (λ later. ⊎_elim (λ at_edge. not_edge (subst (OccursIn bytes) (sym edge_of_seen) at_edge)) not_piece later)
        (occurs_joined bytes s.seen piece short o);
  }
