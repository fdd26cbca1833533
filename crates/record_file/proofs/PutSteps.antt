-- What a put leaves of a file, and what a crash during it.
use Rattle.std.proofs.Common.{◌≡◌, ◌⊎◌, ℕ, ◌+◌, zero, suc, inl, inr, List, [], ◌∷◌, ◌++◌, length, drop, ⊎_elim, sym, ◌∙◌, ap, subst, arith, append_assoc, length-append}
use Rattle.std.proofs.lemmas.List.{append-nil}
use Rattle.std.specs.Int.{w32, to_be_bytes}
use Rattle.host_disk.specs.Calls.{DiskCall, Sync, WriteAt}
use Rattle.host_disk.specs.Crashes.{IsWritten, Only, Torn}
use Rattle.record_file.specs.Failures.{MayFailPutting}
use Rattle.record_file.specs.Frames.{framed, records, opened, IsShut, MayHold, before, between, after, AllShut, MayLeave}
use Rattle.record_file.proofs.AroundGates.{torn_behind, torn_at, written_behind, written_at}

records-push : (bodies : List (List ℕ)) (body : List ℕ) → records (bodies ++ body ∷ []) ≡ records bodies ++ 1 ∷ framed body
unfolding records
records-push [] body = ap (λ (l : List ℕ). 1 ∷ l) (append-nil (framed body))
records-push (b ∷ bodies) body =
    ap (λ (l : List ℕ). 1 ∷ (framed b ++ l)) (records-push bodies body) ∙ ap (λ (l : List ℕ). 1 ∷ l) (sym (append_assoc (framed b) (records bodies) (1 ∷ framed body)))

-- a body behind its length, as it is put together
pub framed_parts : (none length_bytes front all body : List ℕ) → none ≡ [] → length_bytes ≡ to_be_bytes w32 (length body) → front ≡ none ++ length_bytes → all ≡ front ++ body → all ≡ framed body
unfolding framed
framed_parts none length_bytes front all body is_none is_length front_is all_is =
    all_is ∙ ap (λ (l : List ℕ). l ++ body) (front_is ∙ ap (λ (l : List ℕ). l ++ length_bytes) is_none ∙ is_length)

-- a record stands whole behind its gate, and no more is known of that gate
pub record IsWhole (header : List ℕ) (bodies : List (List ℕ)) (body : List ℕ) (gate : ℕ) (file : List ℕ) : Type 0 where
  pub rest : List ℕ
  pub is : file ≡ opened header bodies ++ gate ∷ (framed body ++ 0 ∷ rest)

module _ (header : List ℕ) where
  pub opened-push : (bodies : List (List ℕ)) (body : List ℕ) → opened header (bodies ++ body ∷ []) ≡ opened header bodies ++ 1 ∷ framed body
  unfolding opened
  opened-push bodies body =
      ap (λ (l : List ℕ). 1 ∷ (header ++ l)) (records-push bodies body) ∙ ap (λ (l : List ℕ). 1 ∷ l) (sym (append_assoc header (records bodies) (1 ∷ framed body)))

  pub opens : (bodies : List (List ℕ)) (body file : List ℕ) → IsWhole header bodies body 1 file → IsShut header (bodies ++ body ∷ []) file
  opens bodies body file whole = record {
    rest = whole.rest;
    is = whole.is ∙ sym (ap (λ (l : List ℕ). l ++ 0 ∷ whole.rest) (opened-push bodies body) ∙ append_assoc (opened header bodies) (1 ∷ framed body) (0 ∷ whole.rest));
  }

  -- whatever its gate is, the file has the body or it has not
  pub any_gate : (bodies : List (List ℕ)) (body : List ℕ) (gate : ℕ) (file : List ℕ) → IsWhole header bodies body gate file → MayHold header bodies body file
  any_gate bodies body zero file whole = before (record { rest = framed body ++ 0 ∷ whole.rest; is = whole.is })
  any_gate bodies body (suc zero) file whole = after (opens bodies body file whole)
  any_gate bodies body (suc (suc gate)) file whole =
      between (record { gate = suc (suc gate); rest = whole.rest; neither = omega arith; is = whole.is })

  -- a write behind the gate
  pub torn_record : (bodies : List (List ℕ)) (at n : ℕ) (d c : List ℕ) → at ≡ length (opened header bodies) → IsShut header bodies d → Torn (at + 1) n d c → IsShut header bodies c
  torn_record bodies at n d c is shut torn =
      record { rest = _; is = torn_behind (opened header bodies) 0 shut.rest d shut.is n c (subst (λ (k : ℕ). Torn (k + 1) n d c) is torn) }

  pub written_record : (bodies : List (List ℕ)) (body : List ℕ) (at : ℕ) (bytes d c : List ℕ) → at ≡ length (opened header bodies) → bytes ≡ framed body ++ 0 ∷ [] → IsShut header bodies d → IsWritten d (at + 1) bytes c → IsWhole header bodies body 0 c
  written_record bodies body at bytes d c is spelled shut written =
      let there : IsWritten d (length (opened header bodies) + 1) bytes c = subst (λ (k : ℕ). IsWritten d (k + 1) bytes c) is written in
      let after_it : List ℕ = drop (length bytes) shut.rest in
      record {
        rest = after_it;
        is = written_behind (opened header bodies) 0 shut.rest d shut.is bytes c there
            ∙ ap (λ (l : List ℕ). opened header bodies ++ 0 ∷ (l ++ after_it)) spelled
            ∙ ap (λ (l : List ℕ). opened header bodies ++ 0 ∷ l) (append_assoc (framed body) (0 ∷ []) after_it);
      }

  -- a write of the gate
  pub torn_gate : (bodies : List (List ℕ)) (body : List ℕ) (at : ℕ) (d c : List ℕ) → at ≡ length (opened header bodies) → IsWhole header bodies body 0 d → Torn at 1 d c → MayHold header bodies body c
  torn_gate bodies body at d c is whole torn =
      let there : Torn (length (opened header bodies)) 1 d c = subst (λ (k : ℕ). Torn k 1 d c) is torn in
      any_gate bodies body _ c (record { rest = whole.rest; is = torn_at (opened header bodies) 0 (framed body ++ 0 ∷ whole.rest) d whole.is c there })

  pub written_gate : (bodies : List (List ℕ)) (body : List ℕ) (at : ℕ) (d c : List ℕ) → at ≡ length (opened header bodies) → IsWhole header bodies body 0 d → IsWritten d at (1 ∷ []) c → IsShut header (bodies ++ body ∷ []) c
  written_gate bodies body at d c is whole written =
      let there : IsWritten d (length (opened header bodies)) (1 ∷ []) c = subst (λ (k : ℕ). IsWritten d k (1 ∷ []) c) is written in
      opens bodies body c (record { rest = whole.rest; is = written_at (opened header bodies) 0 (framed body ++ 0 ∷ whole.rest) d whole.is 1 c there })

  -- what a crash leaves while the record is written
  pub leaves_before : (bodies : List (List ℕ)) (body : List ℕ) (at n : ℕ) (images : List ℕ → Type 0) → at ≡ length (opened header bodies) → AllShut header images bodies → (c : List ℕ) → MayLeave (Torn (at + 1) n) images c → MayHold header bodies body c
  leaves_before bodies body at n images is shut c left =
      ⊎_elim (λ now. before (shut c now)) (λ from. before (torn_record bodies at n from.0 c is (shut from.0 from.1) from.2)) left

  -- what a crash leaves while the gate is opened
  pub leaves_either : (bodies : List (List ℕ)) (body : List ℕ) (at : ℕ) (images : List ℕ → Type 0) (file : List ℕ) → at ≡ length (opened header bodies) → IsWhole header bodies body 0 file → Only file images → (c : List ℕ) → MayLeave (Torn at 1) images c → MayHold header bodies body c
  leaves_either bodies body at images file is whole only c left =
      ⊎_elim (λ now. any_gate bodies body 0 c (subst (IsWhole header bodies body 0) (sym (only c now)) whole)) (λ from. torn_gate bodies body at from.0 c is (subst (IsWhole header bodies body 0) (sym (only from.0 from.1)) whole) from.2) left

  -- the next gate stands behind the record
  pub next_gate : (bodies : List (List ℕ)) (body bytes : List ℕ) (at : ℕ) → at ≡ length (opened header bodies) → bytes ≡ framed body ++ 0 ∷ [] → at + length bytes ≡ length (opened header (bodies ++ body ∷ []))
  next_gate bodies body bytes at is spelled =
      omega (arith, ap length (opened-push bodies body), length-append (opened header bodies) (1 ∷ framed body), ap length spelled, length-append (framed body) (0 ∷ []))

  -- ---- what may fail

  module _ {D : Type 0} (seen : D → List ℕ) (may_fail : D → DiskCall → Type 0) where
    -- while the record is written
    pub fails_behind : (bodies : List (List ℕ)) (body : List ℕ) (at : ℕ) (bytes : List ℕ) (old : D) → at ≡ length (opened header bodies) → bytes ≡ framed body ++ 0 ∷ []
        → IsShut header bodies (seen old)
        → may_fail old (WriteAt (at + 1) (length bytes)) ⊎ ((mid : D) × IsWritten (seen old) (at + 1) bytes (seen mid) × may_fail mid Sync)
        → MayFailPutting seen may_fail (opened header bodies) (length bytes)
    fails_behind bodies body at bytes old is spelled shut (inl fails) =
        let long = ap length shut.is ∙ length-append (opened header bodies) (0 ∷ shut.rest) in
        record {
          disk = old;
          call = WriteAt (at + 1) (length bytes);
          rest = 0 ∷ shut.rest;
          begins = shut.is;
          behind = (omega (arith, is), omega (arith, is, long), omega arith);
          fails = fails;
        }
    fails_behind bodies body at bytes old is spelled shut (inr (mid, written, fails)) =
        let whole = written_record bodies body at bytes (seen old) (seen mid) is spelled shut written in
        record { disk = mid; call = Sync; rest = 0 ∷ (framed body ++ 0 ∷ whole.rest); begins = whole.is; behind = tt; fails = fails }

    -- while the gate is opened
    pub fails_at : (bodies : List (List ℕ)) (body : List ℕ) (at : ℕ) (bytes : List ℕ) (old : D) → at ≡ length (opened header bodies) → bytes ≡ framed body ++ 0 ∷ []
        → IsWhole header bodies body 0 (seen old)
        → may_fail old (WriteAt at 1) ⊎ ((mid : D) × IsWritten (seen old) at (1 ∷ []) (seen mid) × may_fail mid Sync)
        → MayFailPutting seen may_fail (opened header bodies) (length bytes)
    fails_at bodies body at bytes old is spelled whole (inl fails) =
        let long = ap length whole.is ∙ length-append (opened header bodies) (0 ∷ (framed body ++ 0 ∷ whole.rest)) in
        let some = ap length spelled ∙ length-append (framed body) (0 ∷ []) in
        record {
          disk = old;
          call = WriteAt at 1;
          rest = 0 ∷ (framed body ++ 0 ∷ whole.rest);
          begins = whole.is;
          behind = (omega (arith, is), omega (arith, is, long), omega (arith, some));
          fails = fails;
        }
    fails_at bodies body at bytes old is spelled whole (inr (mid, written, fails)) =
        let shut = written_gate bodies body at (seen old) (seen mid) is whole written in
        record {
          disk = mid;
          call = Sync;
          rest = 1 ∷ (framed body ++ 0 ∷ shut.rest);
          begins = shut.is ∙ ap (λ (l : List ℕ). l ++ 0 ∷ shut.rest) (opened-push bodies body)
              ∙ append_assoc (opened header bodies) (1 ∷ framed body) (0 ∷ shut.rest);
          behind = tt;
          fails = fails;
        }
