use Rattle.std.proofs.Common.{◌≡◌, ◌⊎◌, IsErrAnd, MatchResult, Result, Ok, Err, subst, sym}
use Rattle.record_file.proofs.Steps.{same_fault}
use Rattle.record_file.specs.Failures.{MayFailReading}
use Rattle.host_server.proofs.Opened.{any_moment, count, device, kept, memory, opened, reason, stopped}
use Rattle.host_server.proofs.servers.Server.open.Goals as goal

pub returns-clause-opened : goal.returns-clause-opened
returns-clause-opened g c = opened c.args.first c.args.second c.args.shelf c.in_ok-found.found g.S.Shelf.did c.args.limit c.of_found.result c.of_found.ensures c.in_ok-found.ensures.opened

pub returns-clause-fault : goal.returns-clause-fault
returns-clause-fault g c = stopped c.args.first c.args.second c.args.shelf c.in_ok-found.found g.S.Shelf.did c.args.limit c.of_found.result c.of_found.ensures c.in_ok-found.ensures.opened

pub returns-clause-kept : goal.returns-clause-kept
returns-clause-kept g c modelled had few holds =
    kept c.args.first c.args.second c.args.shelf c.in_ok-found.found had c.of_found.result c.of_found.ensures (c.in_ok-found.ensures.kept modelled had few holds)

pub returns-clause-any_moment : goal.returns-clause-any_moment
returns-clause-any_moment g c modelled order had next left =
    any_moment c.args.first c.args.second c.args.shelf c.in_ok-found.found order had next c.of_found.result c.of_found.ensures
    (c.in_ok-found.ensures.any_moment modelled order had next left)

pub returns-clause-memory : goal.returns-clause-memory
returns-clause-memory g c modelled =
    memory c.args.first c.args.second c.args.shelf c.in_ok-found.found c.of_found.result c.of_found.ensures c.in_ok-found.ensures.opened.has_journal

pub returns-clause-no_journal : goal.returns-clause-no_journal
returns-clause-no_journal g c modelled none = absurd (c.in_ok-found.ensures.no_journal modelled none)

pub returns-clause-reason : goal.returns-clause-reason
returns-clause-reason g c modelled refused =
    let disk = g.D.Disk in
    reason c.args.first c.args.second c.args.shelf c.in_ok-found.found (MayFailReading disk.seen disk.may_fail (disk.seen c.args.first) ⊎ MayFailReading disk.seen disk.may_fail (disk.seen c.args.second)) c.of_found.result c.of_found.ensures

pub returns-clause-device : goal.returns-clause-device
returns-clause-device g c = device c.args.first c.args.second c.args.shelf c.in_ok-found.found g.S.Shelf.failures c.of_found.result c.of_found.ensures

pub returns-clause-count : goal.returns-clause-count
returns-clause-count g c = count c.args.first c.args.second c.args.shelf c.in_ok-found.found g.S.Shelf.failures c.of_found.result c.of_found.ensures c.in_ok-found.ensures.count

-- ---- nothing was found

same_match : {T E : Type 0} (result : Result T E) (fault : E) (P : T → Type 0) (Q : E → Type 0) → IsErrAnd result (λ f. f ≡ fault) → Q fault → MatchResult result P Q
same_match (Ok x) fault P Q is q = absurd is
same_match (Err x) fault P Q is q = subst Q (sym is) q

pub returns-in_err-found-clause-any_moment : goal.returns-in_err-found-clause-any_moment
returns-in_err-found-clause-any_moment g c modelled order had next left =
    same_match c.from_residual.result c.in_err-found.field-0.0 _ _ c.from_residual.ensures.1 (c.in_err-found.ensures.any_moment modelled order had next left)

pub returns-in_err-found-clause-memory : goal.returns-in_err-found-clause-memory
returns-in_err-found-clause-memory g c modelled = same_fault c.from_residual.result c.in_err-found.field-0.0 _ c.from_residual.ensures.1 (c.in_err-found.ensures.memory modelled)

pub returns-in_err-found-clause-reason : goal.returns-in_err-found-clause-reason
returns-in_err-found-clause-reason g c modelled refused =
    same_fault c.from_residual.result c.in_err-found.field-0.0 _ c.from_residual.ensures.1 (c.in_err-found.ensures.reason modelled refused)
