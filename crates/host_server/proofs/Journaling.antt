-- A journal keeps up with its host, call by call.
use Rattle.std.proofs.Common.{◌≡◌, ◌≢◌, ◌⊎◌, inl, inr, List, [], ◌∷◌, ◌++◌, false, Option, Some, None, Result, Ok, Err, refl, sym, ap, subst, ◌∙◌}
use Rattle.change_journal.specs.Held.{Keeps}
use Rattle.change_log.proofs.Longer.{with_both, with_none}
use Rattle.change_log.specs.Logs as logs
use Rattle.change_log.specs.Logs.{Log, with_entries}
use Rattle.site_change.specs.declared.entries.Entry.{Entry}
use Rattle.host_api.specs.declared.refusals.Refusal.{Refusal}
use Rattle.host_api.specs.declared.refusals.Refusal.TheVariants as reason
use Rattle.host_answers.specs.Answers.{told_stop}
use Rattle.host_server.specs.declared.host.entry_errors.EntryError.{EntryError}
use Rattle.host_server.specs.declared.host.entry_errors.EntryError.TheVariants as error
use Rattle.host_server.specs.Entries.{IsEntered, stop_of}
use Rattle.host_server.specs.Hosts.{Host, with_entry}
use Rattle.host_disk.specs.declared.disks.Disk.{Ghosts}
use Rattle.host_server.specs.Journals.{Agrees, BreaksOff, IsJournaled, KeepsUp, Puts, PutsInPart, is_broken}

module _ {D : Type 0} (disk : Ghosts D) where
  -- ---- puts

  puts_none : (more : List Entry) (new : Option (Keeps D)) → Puts disk None more new → new ≡ None
  puts_none [] new is = is
  puts_none (entry ∷ more) new is = is

  puts_then : (old : Option (Keeps D)) (first more : List Entry) (mid new : Option (Keeps D)) → Puts disk old first mid → Puts disk mid more new → Puts disk old (first ++ more) new
  puts_then old [] more mid new put after = subst (λ (j : Option (Keeps D)). Puts disk j more new) put after
  puts_then None (entry ∷ first) more mid new put after = puts_none more new (subst (λ (j : Option (Keeps D)). Puts disk j more new) put after)
  puts_then (Some old) (entry ∷ first) more mid new (next, put, rest) after = (next, put, puts_then (Some next) first more mid new rest after)

  puts_entries : (old : Option (Keeps D)) (more : List Entry) (new : Option (Keeps D)) (log : Log) → Agrees old log → Puts disk old more new → Agrees new (with_entries log more)
  puts_entries old [] new log agrees is =
      subst (λ (j : Option (Keeps D)). Agrees j (with_entries log [])) (sym is) (subst (Agrees old) (sym (with_none log)) agrees)
  puts_entries None (entry ∷ more) new log agrees is = subst (λ (j : Option (Keeps D)). Agrees j (with_entries log (entry ∷ more))) (sym is) refl
  puts_entries (Some old) (entry ∷ more) new log agrees (mid, put, rest) =
      subst (Agrees new) (with_both log (entry ∷ []) more)
      (puts_entries (Some mid) more new (logs.with_entry log entry) (put.entries ∙ ap (λ (l : Log). logs.with_entry l entry) agrees) rest)

  pub puts_whole : (old : Option (Keeps D)) (more : List Entry) (new : Option (Keeps D)) → is_broken old ≡ false → Puts disk old more new → is_broken new ≡ false
  puts_whole old [] new whole is = ap is_broken is ∙ whole
  puts_whole None (entry ∷ more) new whole is = ap is_broken is
  puts_whole (Some old) (entry ∷ more) new whole (mid, put, rest) = puts_whole (Some mid) more new put.whole rest

  -- ---- a call of the host

  -- it gets no entry
  pub keeps_entries : (host new : Host) (journal next : Option (Keeps D)) → new.entries ≡ host.entries → next ≡ journal → KeepsUp disk host journal new next
  keeps_entries host new journal next is same = record { more = []; longer = is ∙ sym (with_none host.entries); put = same }

  pub keeps_same : (host new : Host) (journal next : Option (Keeps D)) → new ≡ host → next ≡ journal → KeepsUp disk host journal new next
  keeps_same host new journal next is same = record { more = []; longer = ap (λ (h : Host). h.entries) is ∙ sym (with_none host.entries); put = same }

  pub keeps_then : (a b c : Host) (j k l : Option (Keeps D)) → KeepsUp disk a j b k → KeepsUp disk b k c l → KeepsUp disk a j c l
  keeps_then a b c j k l ab bc = record {
    more = ab.more ++ bc.more;
    longer = bc.longer ∙ ap (λ (l : Log). with_entries l bc.more) ab.longer ∙ with_both a.entries ab.more bc.more;
    put = puts_then j ab.more bc.more k l ab.put bc.put;
  }

  pub breaks_then : (a b c : Host) (j k l : Option (Keeps D)) (missed : Entry) → KeepsUp disk a j b k → BreaksOff disk b k missed c l → BreaksOff disk a j missed c l
  breaks_then a b c j k l missed ab bc = record {
    more = ab.more ++ bc.more;
    longer = bc.longer ∙ ap (λ (l : Log). with_entries l bc.more) ab.longer ∙ with_both a.entries ab.more bc.more;
    put = record {
      mid = bc.put.mid;
      put = puts_then j ab.more bc.more k (Some bc.put.mid) ab.put bc.put.put;
      last = bc.put.last;
      in_vain = bc.put.in_vain;
      is = bc.put.is;
    };
  }

  -- the device failed, or the journal kept up
  pub journaled_as : {A : Type 0} (entry : Entry) (result : Result A Refusal) (old new : Host) (journal next : Option (Keeps D)) → IsJournaled disk entry result old journal new next
      → ((result ≡ Err reason.Device) × BreaksOff disk old journal entry new next) ⊎ ((result ≢ Err reason.Device) × KeepsUp disk old journal new next)
  journaled_as entry (Ok x) old new journal next is = inr ((λ e. cc e), is)
  journaled_as entry (Err reason.Device) old new journal next is = inl (refl, is)
  journaled_as entry (Err other) old new journal next is = inr ((λ e. cc e), is)

  pub journaled_then : {A : Type 0} (entry : Entry) (result : Result A Refusal) (a b c : Host) (j k l : Option (Keeps D)) → KeepsUp disk a j b k
      → IsJournaled disk entry result b k c l → IsJournaled disk entry result a j c l
  journaled_then entry (Ok x) a b c j k l ab bc = keeps_then a b c j k l ab bc
  journaled_then entry (Err reason.Device) a b c j k l ab bc = breaks_then a b c j k l entry ab bc
  journaled_then entry (Err other) a b c j k l ab bc = keeps_then a b c j k l ab bc

  -- it has the host's entries

  pub agrees_after : (old new : Host) (journal next : Option (Keeps D)) → Agrees journal old.entries → KeepsUp disk old journal new next → Agrees next new.entries
  agrees_after old new journal next agrees keeps = subst (Agrees next) (sym keeps.longer) (puts_entries journal keeps.more next old.entries agrees keeps.put)

  pub agrees_broken : (old new : Host) (journal next : Option (Keeps D)) (missed : Entry) → Agrees journal old.entries → BreaksOff disk old journal missed new next
      → Agrees next new.entries
  agrees_broken old new journal next missed agrees breaks =
      let had = puts_entries journal breaks.more (Some breaks.put.mid) old.entries agrees breaks.put.put in
      subst (λ (j : Option (Keeps D)). Agrees j new.entries) (sym breaks.put.is) (breaks.put.in_vain.entries ∙ had ∙ sym breaks.longer)

  pub agrees_journaled : {A : Type 0} (entry : Entry) (result : Result A Refusal) (old new : Host) (journal next : Option (Keeps D)) → Agrees journal old.entries
      → IsJournaled disk entry result old journal new next → Agrees next new.entries
  agrees_journaled entry result old new journal next agrees is = elim (journaled_as entry result old new journal next is) [
    | inl broken ↦ agrees_broken old new journal next entry agrees broken.1
    | inr kept ↦ agrees_after old new journal next agrees kept.1
  ]

  -- ---- an entry

  pub entered_ok : (entry : Entry) (old new : Host) (journal next : Option (Keeps D)) → Puts disk journal (entry ∷ []) next → new ≡ with_entry old entry
      → KeepsUp disk old journal new next
  entered_ok entry old new journal next put is = record { more = entry ∷ []; longer = ap (λ (h : Host). h.entries) is; put = put }

  -- the device failed in the first put
  pub breaks_at : (entry : Entry) (old new : Host) (journal next : Option (Keeps D)) → new ≡ old → PutsInPart disk journal [] entry next
      → BreaksOff disk old journal entry new next
  breaks_at entry old new journal next same put =
      record { more = []; longer = ap (λ (h : Host). h.entries) same ∙ sym (with_none old.entries); put = put }

  of_error : (A B : Type 0) (e : EntryError) (entry : Entry) (old new : Host) (journal next : Option (Keeps D)) → new ≡ old → IsEntered {A = A} disk (Err e) entry journal next
      → IsJournaled {A = B} disk entry (Err (told_stop (stop_of e))) old journal new next
  of_error A B (error.Refused why) entry old new journal next same put = keeps_same old new journal next same put
  of_error A B error.OutOfMemory entry old new journal next same put = keeps_same old new journal next same put
  of_error A B error.Device entry old new journal next same put = breaks_at entry old new journal next same put

  pub entered_err : {A B : Type 0} (result : Result A EntryError) (told : Result B Refusal) (why : EntryError) (entry : Entry) (old new : Host) (journal next : Option (Keeps D))
      → IsEntered disk result entry journal next → result ≡ Err why → told ≡ Err (told_stop (stop_of why)) → new ≡ old → IsJournaled disk entry told old journal new next
  entered_err {A = A} {B = B} result told why entry old new journal next put is tells same =
      let there : IsEntered {A = A} disk (Err why) entry journal next = subst (λ (r : Result A EntryError). IsEntered disk r entry journal next) is put in
      subst (λ (r : Result B Refusal). IsJournaled disk entry r old journal new next) (sym tells) (of_error A B why entry old new journal next same there)
