-- How a walk goes on.
use Rattle.std.proofs.Common.{◌≡◌, ◌⊎◌, ℕ, ◌+◌, ◌<◌, ◌≤◌, zero, suc, List, [], ◌∷◌, ◌++◌, length, get_or, take, drop, refl, sym, ◌∙◌, ap, subst, arith, append_assoc, length-append}
use Rattle.std.proofs.lemmas.List.{drop_at}
use Rattle.host_disk.proofs.Runs.{started, and_then}
use Rattle.record_file.specs.Frames.{framed, records, opened}
use Rattle.record_file.specs.Walks.{AreLawful, IsOnlyRead, IsOpened, IsShort, IsNoRecord, HasWalked, IsBadRecord}
use Rattle.record_file.proofs.Steps.{weaker}
use Rattle.record_file.proofs.PutSteps.{opened-push}
use Rattle.record_file.proofs.NotWhole.{framed_size}

module _ {D : Type 0} (seen : D → List ℕ) (may_leave : D → List ℕ → Type 0) (moment : D → ℕ) (left_since : D → ℕ → List ℕ → Type 0) where
  -- before the first read
  pub nothing_read : (old : D) → ((c : List ℕ) → left_since old (moment old) c → may_leave old c) → IsOnlyRead seen may_leave moment left_since old old
  nothing_read old now = record { same = refl; crash = λ c left. left; time = started moment left_since old (may_leave old) now }

  -- reads after reads
  pub read_on : (old mid new : D) → IsOnlyRead seen may_leave moment left_since old mid → IsOnlyRead seen may_leave moment left_since mid new → IsOnlyRead seen may_leave moment left_since old new
  read_on old mid new first second = record {
    same = second.same ∙ first.same;
    crash = λ c left. first.crash c (second.crash c left);
    time = and_then moment left_since old mid new (may_leave old) first.time (weaker moment left_since mid new (may_leave mid) (may_leave old) first.crash second.time);
  }

-- one more body, which is lawful after them
lawful-push : (IsLawful : List (List ℕ) → List ℕ → Type 0) (bodies : List (List ℕ)) (body : List ℕ) → AreLawful IsLawful bodies → IsShort body × IsLawful bodies body → (k : ℕ) (d : List ℕ) → k < length (bodies ++ body ∷ [])
    → IsShort (get_or (bodies ++ body ∷ []) k d) × IsLawful (take k (bodies ++ body ∷ [])) (get_or (bodies ++ body ∷ []) k d)
lawful-push IsLawful [] body all last zero d low = last
lawful-push IsLawful [] body all last (suc k) d low = absurd (omega (arith, low))
lawful-push IsLawful (b ∷ bodies) body all last zero d low = all 0 d (omega arith)
lawful-push IsLawful (b ∷ bodies) body all last (suc k) d low =
    lawful-push (λ before. IsLawful (b ∷ before)) bodies body (λ j e less. all (suc j) e (omega (arith, less))) last k d (omega (arith, low))

module _ (header : List ℕ) where
  pub length-opened : length (opened header []) ≡ length header + 1
  unfolding opened records
  length-opened =
      let size : length (1 ∷ (header ++ [])) ≡ length header + 1 = omega (arith, length-append header []) in
      size

  pub walk_starts : (Has : List (List ℕ) → Type 0) (IsLawful : List (List ℕ) → List ℕ → Type 0) (gate count : ℕ) (file : List ℕ) → gate ≡ length header + 1 → count ≡ 0 → IsOpened header file → Has [] → HasWalked header Has IsLawful gate count file
  walk_starts Has IsLawful gate count file at none opened_file has = record {
    taken = [];
    has = has;
    lawful = λ k d low. absurd (omega arith);
    gate_is = at ∙ sym length-opened;
    count_is = none;
    is = opened_file.is ∙ ap (λ (l : List ℕ). opened header [] ++ l) (sym (ap (drop gate) opened_file.is ∙ drop_at (opened header []) opened_file.rest gate (length-opened ∙ sym at)));
  }

  pub walk_goes : (Had Has : List (List ℕ) → Type 0) (IsLawful : List (List ℕ) → List ℕ → Type 0) (gate count : ℕ) (body file : List ℕ) (walked : HasWalked header Had IsLawful gate count file) → drop gate file ≡ 1 ∷ (framed body ++ drop (gate + 5 + length body) file) → Has (walked.taken ++ body ∷ []) → IsShort body × IsLawful walked.taken body → (next more : ℕ) → next ≡ gate + 5 + length body → more ≡ count + 1 → HasWalked header Has IsLawful next more file
  walk_goes Had Has IsLawful gate count body file walked there has lawful next more next_is more_is =
      let behind = drop (gate + 5 + length body) file in
      let opens = opened-push header walked.taken body in
      let size : length (framed body ++ []) ≡ 4 + length (body ++ []) = framed_size body [] in
      record {
        taken = walked.taken ++ body ∷ [];
        has = has;
        lawful = lawful-push IsLawful walked.taken body walked.lawful lawful;
        gate_is = omega (arith, next_is, walked.gate_is, size, ap length opens, length-append (opened header walked.taken) (1 ∷ framed body), length-append (framed body) [], length-append body []);
        count_is = omega (arith, more_is, walked.count_is, length-append walked.taken (body ∷ []));
        is = walked.is
            ∙ ap (λ (l : List ℕ). opened header walked.taken ++ l) there
            ∙ sym (ap (λ (l : List ℕ). l ++ behind) opens ∙ append_assoc (opened header walked.taken) (1 ∷ framed body) behind)
            ∙ ap (λ (n : ℕ). opened header (walked.taken ++ body ∷ []) ++ drop n file) (sym next_is);
      }

  pub walk_breaks : (Had : List (List ℕ) → Type 0) (IsLawful : List (List ℕ) → List ℕ → Type 0) (gate count number : ℕ) (file : List ℕ) (walked : HasWalked header Had IsLawful gate count file) → count ≤ 1000000 → drop gate file ≡ 1 ∷ drop (gate + 1) file → number ≡ count + 1
      → IsNoRecord (IsLawful walked.taken) (drop (gate + 1) file) ⊎ (1000000 ≤ count) → IsBadRecord header IsLawful number file
  walk_breaks Had IsLawful gate count number file walked few there number_is broken = record {
    bodies = walked.taken;
    number_is = number_is ∙ ap (λ (n : ℕ). n + 1) walked.count_is;
    few = subst (λ (n : ℕ). n ≤ 1000000) walked.count_is few;
    lawful = walked.lawful;
    breaks = record {
      rest = drop (gate + 1) file;
      is = walked.is ∙ ap (λ (l : List ℕ). opened header walked.taken ++ l) there;
      broken = subst (λ (n : ℕ). IsNoRecord (IsLawful walked.taken) (drop (gate + 1) file) ⊎ (1000000 ≤ n)) walked.count_is broken;
    };
  }
