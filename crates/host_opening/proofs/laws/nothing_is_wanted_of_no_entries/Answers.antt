use Rattle.std.proofs.Common.{◌≡◌, ◌⊎◌, inl, inr, ℕ, ◌-◌, nat_le, true, false, cond, slice_get, List, [], ◌∷◌, ◌++◌, Some, None, sym, refl, ap, ◌∙◌, arith}
use Rattle.byte_view.specs.Contents.{Contents}
use Rattle.change_log.specs.Logs.{Log, empty_log}
use Rattle.change_log.proofs.Resolving.{base-empty}
use Rattle.host_opening.specs.Replays.{StopsAtBase}
use Rattle.host_opening.specs.declared.replays.ReplayFault.{ReplayFault}
use Rattle.host_opening.specs.declared.replays.ReplayFault.TheVariants.{NotLegal, OutOfMemory}
use Rattle.host_names.specs.declared.names.SiteName.{SiteName}
use Rattle.site_change.specs.declared.commands.Command.TheVariants.{Publish, Restore}
use Rattle.site_change.specs.declared.entries.Entry.{Entry}
use Rattle.site_change.specs.declared.entries.Entry.TheVariants.{Change}
use Rattle.change_undo.specs.Histories.{entry_at}
use Rattle.host_opening.proofs.laws.nothing_is_wanted_of_no_entries.Goals as goal

no_entry : (n : ℕ) (entry : Entry) → entry_at empty_log n ≡ Some entry → ⊥
no_entry n entry is =
    let none : entry_at empty_log n ≡ None = elim (nat_le n 0) as (λ b. cond b None (slice_get {X = Entry} [] (n - 0 - 1)) ≡ None) [
      | true ↦ refl
      | false ↦ refl
    ] in
    absurd (cc (sym none ∙ is))

never : (site : SiteName) (n k : ℕ) → (entry_at empty_log k ≡ Some (Change (Publish site n))) ⊎ (entry_at empty_log k ≡ Some (Change (Restore site n))) → ⊥
never site n k (inl is) = no_entry k (Change (Publish site n)) is
never site n k (inr is) = no_entry k (Change (Restore site n)) is

no_parts : (before : List Entry) (entry : Entry) (after : List Entry) → [] ≡ before ++ entry ∷ after → ⊥
no_parts [] entry after is = absurd (cc is)
no_parts (one ∷ before) entry after is = absurd (cc is)

no_base : (uploads : Contents) (limit : ℕ) (stop : ReplayFault) → StopsAtBase uploads limit empty_log stop → ⊥
no_base uploads limit (NotLegal n) (is, inl above) = omega (arith, above)
no_base uploads limit (NotLegal n) (is, inr other) = other (base-empty uploads)
no_base uploads limit OutOfMemory some = omega (arith, some)

pub returns-clause-wanted : goal.returns-clause-wanted
returns-clause-wanted c one more wanted =
    let lists = ((wanted.listed one.digest).0 (0, omega arith, refl)).2 in
    no_entry _ _ lists.2

pub returns-clause-listed : goal.returns-clause-listed
returns-clause-listed c site n digest lists = no_entry n _ lists.2

pub returns-clause-published : goal.returns-clause-published
returns-clause-published c site n published = never site n published.0 published.1

pub returns-clause-stopped : goal.returns-clause-stopped
returns-clause-stopped c uploads limit stop (inl at_base) = no_base uploads limit stop at_base
returns-clause-stopped c uploads limit stop (inr stops) = no_parts stops.before.entries stops.entry stops.after (ap (λ (log : Log). log.entries) stops.parts)
