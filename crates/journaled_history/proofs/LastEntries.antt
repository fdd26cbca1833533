-- The last entry of a log.
use Rattle.std.proofs.Common.{◌≡◌, ℕ, Option, Some, unwrap_or, ap, subst, ◌∙◌}
use Rattle.site_change.specs.declared.entries.Entry.{Entry}
use Rattle.change_log.specs.Logs.{Log, entry_at, last_number, with_entry}
use Rattle.change_log.proofs.Longer.{entry_at-with_entry, last_number-with_entry}

-- what stands in a log at its last number is the entry that was made last
pub last_of : (log next : Log) (entry found : Entry) (k : ℕ) → next ≡ with_entry log entry → k ≡ last_number next → Some found ≡ entry_at next k → found ≡ entry
last_of log next entry found k longer is there =
    let at : Some found ≡ entry_at (with_entry log entry) k = subst (λ (l : Log). Some found ≡ entry_at l k) longer there in
    ap (λ (e : Option Entry). unwrap_or e found) (at ∙ entry_at-with_entry log entry k (is ∙ ap last_number longer ∙ last_number-with_entry log entry))
