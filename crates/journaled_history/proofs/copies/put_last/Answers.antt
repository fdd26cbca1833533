use Rattle.std.proofs.Common.{rules, ◌≡◌, Err, Some, ap, inr, refl, sym, subst, ◌∙◌}
use Rattle.std.proofs.lemmas.Bool.{false≢true}
use Rattle.change_log.specs.Logs.{entry_at}
use Rattle.site_change.specs.declared.entries.Entry.{Entry as Line}
use Rattle.journaled_history.specs.Puts.{IsPut, IsPutInVain}
use Rattle.journaled_history.proofs.LastEntries.{last_of}
use Rattle.journaled_history.proofs.PutFaults.{failed}
use Rattle.journaled_history.proofs.copies.put_last.Goals as goal

pub returns-in-Ok-clause-put : goal.returns-in-Ok-clause-put
returns-in-Ok-clause-put g c =
    let old = c.args.journal.now in
    let new = c.put.new.self in
    let next = c.args.next.now in
    let prepared = c.in_ok-prepared.prepared in
    λ last is.
    let there : Some c.unwrap-entry.result.now ≡ entry_at next.entries c.len.result = search rules in
    let same : prepared ≡ last = c.in_ok-prepared.ensures ∙ last_of old.entries next.entries last c.unwrap-entry.result.now c.len.result is c.len.ensures.number there in
    let P : Line → Type 0 = λ entry. IsPut g.D.Disk old entry new in
    subst P same (record {
      was_whole = c.requires.whole;
      entries = c.in-Ok.ensures.entries;
      whole = c.in-Ok.ensures.broken;
      stored = c.in-Ok.ensures.stored;
      moments = λ modelled. c.in-Ok.ensures.any_moment modelled c.requires.whole;
      cause = c.in-Ok.ensures.cause;
    })

pub returns-in-Err-clause-fault : goal.returns-in-Err-clause-fault
returns-in-Err-clause-fault g c =
    let old = c.args.journal.now in
    let new = c.put.new.self in
    let next = c.args.next.now in
    let prepared = c.in_ok-prepared.prepared in
    inr (
      refl,
      λ last is.
          let there : Some c.unwrap-entry.result.now ≡ entry_at next.entries c.len.result = search rules in
          let same : prepared ≡ last = c.in_ok-prepared.ensures ∙ last_of old.entries next.entries last c.unwrap-entry.result.now c.len.result is c.len.ensures.number there in
          let P : Line → Type 0 = λ entry. IsPutInVain g.D.Disk old entry new in
          subst P same (record {
            was_whole = c.requires.whole;
            entries = c.in-Err.ensures.entries;
            broken = c.in-Err.ensures.broken;
            moments = λ modelled. c.in-Err.ensures.any_moment modelled c.requires.whole;
            cause = failed _ _ _ _ _ (λ told. false≢true (sym c.requires.whole ∙ c.in-Err.ensures.only_broken (ap Err told))) c.in-Err.ensures.cause;
          }),
    )
