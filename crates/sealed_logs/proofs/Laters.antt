-- Which logs are later: an order, in which each commit, undo and seal leads on.
use Rattle.std.proofs.Common.{◌≡◌, ◌⊎◌, inl, inr, ℕ, ◌+◌, ◌<◌, ◌≤◌, List, [], ◌∷◌, ◌++◌, Option, Some, None, refl, sym, ap, subst, ◌∙◌, arith}
use Rattle.std.proofs.lemmas.List.{append-nil, append_assoc}
use Rattle.byte_view.specs.Contents.{Contents, AreDigested}
use Rattle.site_state.specs.States.{State}
use Rattle.site_change.specs.declared.entries.Entry.{Entry}
use Rattle.change_log.specs.Logs.{BeginsWith, Log, empty_log, with_entries, with_entry, with_only}
use Rattle.change_undo.specs.Histories.{IsLegal}
use Rattle.change_undo.specs.LiveChanges.{run}
use Rattle.sealed_logs.specs.Later.{IsLater, IsLaterLog, IsSealedAs, Leads}
use Rattle.sealed_logs.specs.Sealing.{above, seal_refusal, sealed}
use Rattle.sealed_logs.proofs.Runs.{legal-parts}
use Rattle.sealed_logs.proofs.Seals.{sealed-legal, sealed-more, sealed-run, sealed-twice, unsealed-legal}

pub begins-itself : (log : Log) → BeginsWith log log
begins-itself log = ([], sym (ap (with_only log) (append-nil log.entries)))

pub begins-more : (a m : Log) (more : List Entry) (first : BeginsWith m a) → BeginsWith (with_entries m more) a
begins-more a m more first =
    (first.0 ++ more, ap (λ (l : Log). with_entries l more) first.1 ∙ ap (with_only a) (append_assoc a.entries first.0 more))

-- ---- over some uploads

pub later-itself : (uploads : Contents) (log : Log) → IsLegal uploads log → IsLater uploads log log
later-itself uploads log legal = record { history = log; begins = begins-itself log; legal = legal; is = inl refl }

-- a commit or an undo leads on
pub later-entry : (uploads : Contents) (log : Log) (entry : Entry) → IsLegal uploads (with_entry log entry) → IsLater uploads log (with_entry log entry)
later-entry uploads log entry legal = record { history = with_entry log entry; begins = (entry ∷ [], refl); legal = legal; is = inl refl }

-- so does a seal
pub later-seal : (uploads : Contents) (log : Log) (n : ℕ) → IsLegal uploads log → seal_refusal log n ≡ None → IsLater uploads log (sealed uploads n log)
later-seal uploads log n legal ok = record { history = log; begins = begins-itself log; legal = legal; is = inr (ok, refl) }

-- the state of a later log is that of a legal history which begins with the earlier one
pub later-run : (uploads : Contents) (old new : Log) → AreDigested uploads → (later : IsLater uploads old new) → run uploads new ≡ run uploads later.history
later-run uploads old new digested later = same later.is
  where
    same : IsSealedAs uploads later.history new → run uploads new ≡ run uploads later.history
    same (inl is) = ap (run uploads) is
    same (inr (ok, is)) = ap (run uploads) is ∙ sealed-run uploads later.history new.base digested later.legal ok

pub later-legal : (uploads : Contents) (old new : Log) → AreDigested uploads → IsLater uploads old new → IsLegal uploads new
later-legal uploads old new digested later = legal later.is
  where
    legal : IsSealedAs uploads later.history new → IsLegal uploads new
    legal (inl is) = subst (IsLegal uploads) (sym is) later.legal
    legal (inr (ok, is)) = subst (IsLegal uploads) (sym is) (sealed-legal uploads later.history new.base digested later.legal ok)

-- and so was the earlier one
pub earlier-legal : (uploads : Contents) (old new : Log) → IsLater uploads old new → IsLegal uploads old
earlier-legal uploads old new later =
    let legal = subst (IsLegal uploads) later.begins.1 later.legal in
    (legal.0, (legal-parts uploads (with_only old []) old.entries later.begins.0 legal.1).0)

-- what is the same as a log sealed at n is that log sealed at its own base
own_base : (uploads : Contents) (history new : Log) (n : ℕ) → seal_refusal history n ≡ None → new ≡ sealed uploads n history
    → (seal_refusal history new.base ≡ None) × (new ≡ sealed uploads new.base history)
own_base uploads history new n ok is =
    let base : new.base ≡ n = ap (λ (l : Log). l.base) is in
    (subst (λ m. seal_refusal history m ≡ None) (sym base) ok, is ∙ ap (λ m. sealed uploads m history) (sym base))

module _ (uploads : Contents) (a b c : Log) (digested : AreDigested uploads) (first : IsLater uploads a b) (second : IsLater uploads b c) where
  abbrev m : Log
  m = first.history

  abbrev more : List Entry
  more = second.begins.0

  abbrev joined : Log
  joined = with_entries m more

  plain : b ≡ m → IsLater uploads a c
  plain is = record {
    history = second.history;
    begins = subst (λ (l : Log). BeginsWith l a) (sym (second.begins.1 ∙ ap (λ (l : Log). with_entries l more) is)) (begins-more a m more first.begins);
    legal = second.legal;
    is = second.is;
  }

  end : (n : ℕ) → seal_refusal joined n ≡ None → second.history ≡ sealed uploads n joined → IsLegal uploads joined → IsSealedAs uploads second.history c
      → (seal_refusal joined c.base ≡ None) × (c ≡ sealed uploads c.base joined)
  end n ok same legal (inl is) = own_base uploads joined c n ok (is ∙ same)
  end n ok same legal (inr (again, is)) =
      let twice = sealed-twice uploads joined n c.base digested legal ok (subst (λ (l : Log). seal_refusal l c.base ≡ None) same again) in
      (twice.0, is ∙ ap (sealed uploads c.base) same ∙ sym twice.1)

  on_sealed : seal_refusal m b.base ≡ None → b ≡ sealed uploads b.base m → IsLater uploads a c
  on_sealed ok is =
      let n = b.base in
      let next : second.history ≡ with_entries (sealed uploads n m) more = second.begins.1 ∙ ap (λ (l : Log). with_entries l more) is in
      let back = unsealed-legal uploads m n more digested first.legal ok (subst (IsLegal uploads) next second.legal) in
      let long = sealed-more uploads m n more ok back.0 in
      let same : second.history ≡ sealed uploads n joined = next ∙ sym long.1 in
      record {
        history = joined;
        begins = begins-more a m more first.begins;
        legal = back.1;
        is = inr (end n long.0 same back.1 second.is);
      }

  on : IsSealedAs uploads m b → IsLater uploads a c
  on (inl is) = plain is
  on (inr (ok, is)) = on_sealed ok is

  pub later-trans : IsLater uploads a c
  later-trans = on first.is

-- ---- in steps

pub log-itself : (log : Log) → IsLaterLog log log
log-itself log = ([], refl)

pub log-step : (uploads : Contents) (old new : Log) → AreDigested uploads → IsLater uploads old new → IsLaterLog old new
log-step uploads old new digested later = ((uploads, new) ∷ [], (digested, later, refl))

leads_on : (a : Log) (steps : List (Contents × Log)) (b : Log) (more : List (Contents × Log)) (c : Log) → Leads a steps b → Leads b more c → Leads a (steps ++ more) c
leads_on a [] b more c first second = subst (λ (l : Log). Leads l more c) first second
leads_on a (step ∷ steps) b more c first second = (first.0, first.1, leads_on step.1 steps b more c first.2 second)

pub log-trans : (a b c : Log) → IsLaterLog a b → IsLaterLog b c → IsLaterLog a c
log-trans a b c first second = (first.0 ++ second.0, leads_on a first.0 b second.0 c first.1 second.1)

-- ---- wrong pairs

-- no log is later than one that has an entry more
pub not_back : (uploads : Contents) (entry : Entry) → IsLater uploads (with_entry empty_log entry) empty_log → ⊥
not_back uploads entry later = on later.is
  where
    entries : later.history.entries ≡ entry ∷ later.begins.0
    entries = ap (λ (l : Log). l.entries) later.begins.1

    on : IsSealedAs uploads later.history empty_log → ⊥
    on (inl same) = cc (ap (λ (l : Log). l.entries) same ∙ entries)
    on (inr (ok, same)) = cc ok

-- nor than one whose entry is another
pub not_replaced : (uploads : Contents) (entry other : Entry) → (entry ≡ other → ⊥) → IsLater uploads (with_entry empty_log entry) (with_entry empty_log other) → ⊥
not_replaced uploads entry other differ later = on later.is
  where
    entries : later.history.entries ≡ entry ∷ later.begins.0
    entries = ap (λ (l : Log). l.entries) later.begins.1

    on : IsSealedAs uploads later.history (with_entry empty_log other) → ⊥
    on (inl same) = differ (sym (cc (ap (λ (l : Log). l.entries) same ∙ entries)))
    on (inr (ok, same)) = cc ok
