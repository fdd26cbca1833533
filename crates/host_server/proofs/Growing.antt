-- What a host had stays.
use Rattle.std.proofs.Common.{◌≡◌, ℕ, List, [], ◌∷◌, ◌++◌, unwrap_or, Result, Ok, Err, OnOk, OnErr, IsTrue, refl, sym, ap, subst, ◌∙◌}
use Rattle.std.specs.FinMap as map
use Rattle.byte_view.specs.Contents.{Contents, with_file}
use Rattle.host_names.specs.declared.names.SiteName.{SiteName}
use Rattle.site_change.specs.declared.commands.Command.{Command}
use Rattle.site_change.specs.declared.entries.Entry.{Entry}
use Rattle.site_change.specs.declared.entries.Entry.TheVariants.{Change, Undo}
use Rattle.change_log.proofs.Longer.{with_both, with_none}
use Rattle.change_log.specs.Logs.{Log, next_number, with_entries, with_entry, with_only}
use Rattle.change_undo.specs.Histories.{Past, run, IsLegal, IsLegalAfter, is_allowed}
use Rattle.change_undo.proofs.Runs.{history-grows, is_accepted, run-undone_at_once}
use Rattle.site_change.proofs.MoreUploads.{IsWithin-itself}
use Rattle.host_server.specs.Hosts.{Grows, Host, host_of, state_of, with_log}
use Rattle.host_server.specs.Growth.{grows_same, grows_upload}

-- a history with one entry more, or with none
pub grows_past : {A E : Type 0} (r : Result A E) (old new : Past) (uploads : Contents) (entry : Entry) → new.limit ≡ old.limit
    → OnOk r (new.entries ≡ with_entry old.entries entry) → OnErr r (new.entries ≡ old.entries) → Grows (host_of old uploads) (host_of new uploads)
grows_past (Ok x) old new uploads entry limit ok err = record { same_limit = limit; more = entry ∷ []; longer = ok; uploads = IsWithin-itself uploads }
grows_past (Err e) old new uploads entry limit ok err =
    record { same_limit = limit; more = []; longer = err ∙ sym (with_none old.entries); uploads = IsWithin-itself uploads }

pub same_entries : {A E : Type 0} (r : Result A E) (old new : Past) → OnErr r (new ≡ old) → OnErr r (new.entries ≡ old.entries)
same_entries (Ok x) old new err = tt
same_entries (Err e) old new err = ap (λ (p : Past). p.entries) err

-- one upload more, or none
pub grows_uploads : {A E : Type 0} (r : Result A E) (past : Past) (old new : Contents) (bytes : List ℕ) → OnOk r (new ≡ with_file old bytes) → OnErr r (new ≡ old)
    → Grows (host_of past old) (host_of past new)
grows_uploads (Ok x) past old new bytes ok err = grows_upload (host_of past old) (host_of past new) bytes (ap (host_of past) ok)
grows_uploads (Err e) past old new bytes ok err = grows_same (host_of past old) (host_of past new) (ap (host_of past) err)

-- ---- a change that is undone at once

-- the entries before the last are legal, and it was allowed after them
ends : (uploads : Contents) (seen : Log) (before : List Entry) (entry : Entry) → IsLegalAfter uploads seen (before ++ entry ∷ [])
    → IsLegalAfter uploads seen before × IsTrue (is_allowed uploads (with_entries seen before) entry)
ends uploads seen [] entry legal =
    let P : Log → Type 0 = λ log. IsTrue (is_allowed uploads log entry) in
    (tt, subst P (sym (with_none seen)) legal.0)
ends uploads seen (e ∷ before) entry legal =
    let P : Log → Type 0 = λ log. IsTrue (is_allowed uploads log entry) in
    let rest = ends uploads (with_entry seen e) before entry legal.1 in
    ((legal.0, rest.0), subst P (with_both seen (e ∷ []) before) rest.1)

-- its state is the one before the change, whatever was uploaded meanwhile
pub undone_at_once : (old new : Host) (before : Log) (command : Command) (site : SiteName) → IsLegal old.uploads old.entries → Grows old new
    → old.entries ≡ with_entry before (Change command) → new.entries ≡ with_entry old.entries (Undo site (next_number before))
    → state_of new ≡ state_of (with_log old before)
undone_at_once old new before command site legal grown is undone =
    let there : IsLegal old.uploads (with_entry before (Change command)) = subst (IsLegal old.uploads) is legal in
    let first = ends old.uploads (with_only before []) before.entries (Change command) there.1 in
    let grows = history-grows old.uploads new.uploads (with_entry before (Change command)) grown.uploads there in
    let same = (history-grows old.uploads new.uploads before grown.uploads (there.0, first.0)).1 in
    let ran = is_accepted old.uploads (run old.uploads before) (next_number before) command first.1 in
    ap (λ o. unwrap_or o map.empty) (
    ap (run new.uploads) (undone ∙ ap (λ (l : Log). with_entry l (Undo site (next_number before))) is)
    ∙ run-undone_at_once new.uploads before command site (next_number before) grows.0 refl
    ∙ same ran.0 ran.1 ∙ sym (ran.1)
    )
