use Rattle.std.proofs.Common.{◌≡◌, inl, inr, List, [], ◌∷◌, Option, Some, None, true, false, ap, sym, ◌∙◌, arith}
use Rattle.change_journal.specs.Held.{Keeps}
use Rattle.change_log.specs.Logs.{Log}
use Rattle.site_change.specs.declared.entries.Entry.{Entry}
use Rattle.host_disk.specs.declared.disks.Disk.{Ghosts}
use Rattle.host_replies.specs.Replies.{Answer}
use Rattle.host_server.specs.Journals.{Puts}
use Rattle.host_server.specs.Outcomes.{Outcome}
use Rattle.host_server.proofs.laws.refuted.wrong_changes_are_refused.Goals as goal

pub returns-clause-grows : goal.returns-clause-grows
returns-clause-grows g c entry grows = absurd (cc (ap (λ (l : Log). l.entries) grows.longer))

-- nothing is put into no journal
none_put : {D : Type 0} (disk : Ghosts D) (more : List Entry) (new : Option (Keeps D)) → Puts disk None more new → new ≡ None
none_put disk [] new put = put
none_put disk (entry ∷ more) new put = put

pub returns-clause-journaled : goal.returns-clause-journaled
returns-clause-journaled g c old new entry journal is = let none = none_put g.D.Disk is.more (Some journal) is.put in absurd (cc none)

pub returns-clause-broken : goal.returns-clause-broken
returns-clause-broken g c old new entry is = absurd (cc is.put.is)

pub returns-clause-put : goal.returns-clause-put
returns-clause-put g c old new entry broken is = let wrong : true ≡ false = sym broken ∙ is.was_whole in absurd (cc wrong)

pub returns-clause-put_in_vain : goal.returns-clause-put_in_vain
returns-clause-put_in_vain g c old new entry whole is = let wrong : false ≡ true = sym whole ∙ is.broken in absurd (cc wrong)

pub returns-clause-stopped : goal.returns-clause-stopped
returns-clause-stopped g c (inl is) = absurd (cc is)
returns-clause-stopped g c (inr is) = absurd (cc is)

pub returns-clause-command : goal.returns-clause-command
returns-clause-command g c command missed next is = absurd (cc is.0)

pub returns-clause-deploy : goal.returns-clause-deploy
returns-clause-deploy g c command missed next is = absurd (cc is.2)

pub returns-clause-undo : goal.returns-clause-undo
returns-clause-undo g c site k missed next is = absurd (cc is.1)

pub returns-clause-text : goal.returns-clause-text
returns-clause-text g c (inl is) = let wrong : 503 ≡ 400 = ap (λ (a : Answer). a.status) is in omega (arith, wrong)
returns-clause-text g c (inr is) = absurd (cc is.1)

pub returns-clause-comes : goal.returns-clause-comes
returns-clause-comes g c host site out is = ap (λ (o : Outcome). o.host) is

pub returns-clause-shown : goal.returns-clause-shown
returns-clause-shown g c told is = is

pub returns-clause-shows : goal.returns-clause-shows
returns-clause-shows g c uploads site n is = absurd (cc is)

pub returns-clause-kept : goal.returns-clause-kept
returns-clause-kept g c old new entry modelled lost is = lost (is.stored modelled)

pub returns-clause-missed : goal.returns-clause-missed
returns-clause-missed g c host next site k missed is = is.2
