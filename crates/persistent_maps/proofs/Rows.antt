-- Rows of blocks: the handles of chunks.
use Rattle.std.proofs.Common.{◌≡◌, ◌≢◌, ◌+◌, ◌<◌, zero, suc, List, [], ◌∷◌, ◌++◌, length, get_or, append_assoc, refl, sym, ap, subst, ◌∙◌, arith}
use Rattle.std.proofs.lemmas.List.{append-nil, get_or_append_left, get_or-append-add, length-append}
use Rattle.std.proofs.lemmas.List.Elements.{All-append}
use Rattle.std.proofs.lemmas.Grind.{flat_map-append}
use Rattle.shared_blocks.specs.Blocks.{joined}
use Rattle.persistent_maps.specs.Maps.{HaveItems}

module _ {T : Type 0} where
  pub joined-append : (xs ys : List (List T)) → joined (xs ++ ys) ≡ joined xs ++ joined ys
  joined-append xs ys = flat_map-append (λ b. b) xs ys

  pub HaveItems-append : (xs ys : List (List T)) → HaveItems xs → HaveItems ys → HaveItems (xs ++ ys)
  HaveItems-append xs ys front back = All-append (λ b. b ≢ []) xs ys front back

  pub HaveItems-left : (xs ys : List (List T)) → HaveItems (xs ++ ys) → HaveItems xs
  HaveItems-left xs ys filled k d lt none = filled k d (omega (arith, lt, length-append xs ys)) (get_or_append_left xs ys d k lt ∙ none)

  pub HaveItems-right : (xs ys : List (List T)) → HaveItems (xs ++ ys) → HaveItems ys
  HaveItems-right xs ys filled k d lt none = filled (length xs + k) d (omega (arith, lt, length-append xs ys)) (get_or-append-add xs ys k d ∙ none)

  HaveItems-one : (b : List T) → b ≢ [] → HaveItems (b ∷ [])
  HaveItems-one b has zero d lt none = has none
  HaveItems-one b has (suc k) d lt none = absurd (omega (arith, lt))

  -- blocks that have items, if there are any, have one together
  pub has_joined : (row : List (List T)) → row ≢ [] → HaveItems row → joined row ≢ []
  has_joined [] some filled none = some refl
  has_joined ([] ∷ row) some filled none = filled 0 [] (omega arith) refl
  has_joined ((x ∷ b) ∷ row) some filled none = cc none

  -- one row more is made a chunk
  pub row_step : (chunks more : List (List T)) (row : List (List T)) (all rest : List (List (List T))) (whole : List T) → all ≡ row ∷ rest → more ≡ chunks ++ joined row ∷ []
      → HaveItems chunks → HaveItems all → HaveItems (joined all) → joined chunks ++ joined (joined all) ≡ whole
      → record { pairs : joined more ++ joined (joined rest) ≡ whole; filled : HaveItems more; rows : HaveItems rest; blocks : HaveItems (joined rest) }
  row_step chunks more row all rest whole split is filled rows blocks at =
      let row_blocks : HaveItems (row ++ joined rest) = subst (λ l. HaveItems (joined l)) split blocks in
      let some : row ≢ [] = subst HaveItems split rows 0 [] (omega arith) in
      record {
        pairs =
            ap (λ l. joined l ++ joined (joined rest)) is ∙ ap (λ l. l ++ joined (joined rest)) (joined-append chunks (joined row ∷ []) ∙ ap (λ l. joined chunks ++ l) (append-nil (joined row)))
            ∙ append_assoc (joined chunks) (joined row) (joined (joined rest))
            ∙ ap (λ l. joined chunks ++ l) (sym (joined-append row (joined rest))) ∙ ap (λ l. joined chunks ++ joined (joined l)) (sym split) ∙ at;
        filled = subst HaveItems (sym is) (HaveItems-append chunks (joined row ∷ []) filled (HaveItems-one (joined row) (has_joined row some (HaveItems-left row (joined rest) row_blocks))));
        rows = λ k d lt. subst HaveItems split rows (suc k) d (omega (arith, lt));
        blocks = HaveItems-right row (joined rest) row_blocks;
      }
