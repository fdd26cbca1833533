-- More uploads leave a sealed log the same, and what is later later.
use Rattle.std.proofs.Common.{◌≡◌, inl, inr, ℕ, Option, Some, None, unwrap_or, sym, ap, ◌∙◌}
use Rattle.std.specs.FinMap as map
use Rattle.byte_view.specs.Contents.{AreDigested, Contents}
use Rattle.site_state.specs.States.{State}
use Rattle.site_change.specs.Changes.{IsWithin}
use Rattle.change_log.specs.Bases.{names_of}
use Rattle.change_log.specs.Logs.{Log, with_only}
use Rattle.change_undo.specs.Histories.{IsLegal}
use Rattle.change_undo.specs.LiveChanges.{run}
use Rattle.change_undo.proofs.Runs.{history-grows, legal-runs}
use Rattle.sealed_logs.specs.Later.{IsLater, IsSealedAs}
use Rattle.sealed_logs.specs.Sealing.{above, seal_refusal, sealed, up_to}
use Rattle.sealed_logs.proofs.Seals.{cut, legal-cut}

module _ (uploads more : Contents) (within : IsWithin uploads more) where
  pub legal-grows : (log : Log) → IsLegal uploads log → IsLegal more log
  legal-grows log legal = (history-grows uploads more log within legal).0

  pub sealed-grows : (log : Log) (n : ℕ) → IsLegal uploads log → seal_refusal log n ≡ None → sealed more n log ≡ sealed uploads n log
  sealed-grows log n legal ok =
      let c = cut log n ok in
      let first : IsLegal uploads (with_only log c.xs) = (legal.0, (legal-cut uploads log n c legal).0) in
      let ran = legal-runs uploads (with_only log c.xs) first in
      let same : run more (up_to n log) ≡ run uploads (up_to n log) =
      ap (run more) c.first ∙ (history-grows uploads more (with_only log c.xs) within first).1 ran.0 ran.1 ∙ sym (ap (run uploads) c.first ∙ ran.1) in
      ap (λ (o : Option State). record { base = n; names = names_of (unwrap_or o map.empty); entries = above n log }) same

  pub later-grows : (old new : Log) → IsLater uploads old new → IsLater more old new
  later-grows old new later = record {
    history = later.history;
    begins = later.begins;
    legal = legal-grows later.history later.legal;
    is = as_is later.is;
  }
    where
      as_is : IsSealedAs uploads later.history new → IsSealedAs more later.history new
      as_is (inl same) = inl same
      as_is (inr (ok, same)) = inr (ok, same ∙ sym (sealed-grows later.history new.base later.legal ok))
