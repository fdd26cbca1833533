use Rattle.std.proofs.Common.{ℕ, reverse, arith, sym, ap, subst, ◌∙◌}
use Rattle.change_log.specs.Logs.{Log}
use Rattle.change_undo.specs.PlannedEntries.{log_of}
use Rattle.change_undo.specs.SiteEntries.{numbers_of}
use Rattle.change_undo.specs.SiteIndexes.{LeadsOn, last_of, trail}
use Rattle.change_undo.proofs.Chains.{trail-is}
use Rattle.change_undo.proofs.WithMarks.{log_of-marked}
use Rattle.change_undo.proofs.records.Records.entries_of.Goals as goal

pub entries_of-requires : goal.entries_of-requires
entries_of-requires c =
    let sites = c.self.inside.sites in
    let site = c.args.site.now in
    let P : ℕ → Type 0 = λ b. LeadsOn b sites.earlier.items (last_of sites.last site) in
    subst P (sym c.base.ensures.base) (record { numbers = reverse (numbers_of c.self.inside.log site); leads = c.self.invariant.chained.leads site })

pub returns : goal.returns
returns c =
    let site = c.args.site.now in
    let log = c.self.inside.log in
    let sites = c.self.inside.sites in
    let last = last_of sites.last site in
    let same = sym (log_of-marked log c.self.inside.marks.items c.self.invariant.lengths) ∙ ap log_of c.self.view_is in
    c.entries_of.ensures ∙ ap (λ (b : ℕ). trail b sites.earlier.items last last) c.base.ensures.base
    ∙ trail-is log.base sites.earlier.items last last (reverse (numbers_of log site)) (omega arith) (c.self.invariant.chained.leads site)
    ∙ ap (λ (l : Log). reverse (numbers_of l site)) same
