use Rattle.std.proofs.Common.{rules, ◌≡◌, ℕ, Option, Result, Ok, Err, inl, inr, sym, ap, subst, ◌∙◌}
use Rattle.host_names.specs.declared.digests.Digest.{Digest}
use Rattle.host_names.specs.declared.names.SiteName.{SiteName}
use Rattle.site_change.specs.declared.commands.Command.TheVariants.{Publish}
use Rattle.site_change.specs.declared.entries.Entry.TheVariants.{Change}
use Rattle.host_api.specs.declared.refusals.Refusal.{Refusal}
use Rattle.host_api.specs.declared.texts.Told.TheVariants.{Uploaded}
use Rattle.host_answers.specs.Answers.{told_upload}
use Rattle.host_server.specs.Journals.{IsJournaled}
use Rattle.host_server.specs.Outcomes.{judge_in}
use Rattle.host_server.specs.declared.servers.Server.{Server}
use Rattle.host_server.proofs.Keeping.{judged_by, told_of, upload_done}
use Rattle.host_server.proofs.Journaling.{agrees_journaled, keeps_same}
use Rattle.host_server.proofs.servers.Server.store.Goals as goal

pub invariant_of-self-2 : goal.invariant_of-self-2
invariant_of-self-2 g c =
    let mid = c.keep.new.self in
    record {
      agrees = agrees_journaled g.D.Disk (Change (Publish c.args.site.now c.args.number)) c.publish_if_ready.result mid.house c.publish_if_ready.new.self mid.journal c.publish_if_ready.new.journal mid.agrees
          c.publish_if_ready.ensures.journal;
    }

pub returns-in_err-keep-clause-done : goal.returns-in_err-keep-clause-done
returns-in_err-keep-clause-done g c =
    let server = c.args.self.now in
    let next = c.keep.new.self in
    let why_told = c.in_err-keep.field-0.0 in
    let is : c.from_residual-in_err-keep.result ≡ Err why_told = search rules in
    let (why, not_stored, told) = c.in_err-keep.ensures.refused in
    inr (inl (
      why,
      record {
        at = (c.args.site.now, c.in_ok-digest.digest);
        allowed = judged_by server.house c.state.result.now c.args.site.now c.args.number c.args.path.now c.args.bytes.now c.in_ok-digest.digest c.state.ensures.value
            c.in_ok-digest.ensures.judged;
        not_stored = not_stored;
        cache = c.keep.ensures.cache;
        same = c.in_err-keep.ensures.err;
      },
      is ∙ ap Err told,
      keeps_same g.D.Disk server.house next.house server.journal next.journal c.in_err-keep.ensures.err c.keep.ensures.journal,
    ))

pub returns-in_err-published-clause-done : goal.returns-in_err-published-clause-done
returns-in_err-published-clause-done g c =
    let server = c.args.self.now in
    let did = g.S.Shelf.did in
    let disk = g.D.Disk in
    let why = c.in_err-published.field-0.0 in
    let new_house = c.publish_if_ready.new.self in
    let new_journal = c.publish_if_ready.new.journal in
    let is : c.from_residual-in_err-published.result ≡ Err why = search rules in
    let next : Server g.row.S.Denot g.row.D.Denot g.D.Disk = record { house = new_house; journal = new_journal; files = c.keep.new.self.files; agrees = _ } in
    upload_done did g.S.Shelf.failures server next c.keep.new.self.house (judge_in server.house c.args.site.now c.args.number c.args.path.now c.args.bytes.now) c.args.number
    c.args.bytes.now (c.args.site.now, c.in_ok-digest.digest) (Err why) c.from_residual-in_err-published.result
    (judged_by server.house c.state.result.now c.args.site.now c.args.number c.args.path.now c.args.bytes.now c.in_ok-digest.digest c.state.ensures.value c.in_ok-digest.ensures.judged)
    c.in_ok-keep.ensures.known
    c.in_ok-keep.ensures.stored
    c.keep.ensures.cache
    c.in_err-published.ensures.done c.in_err-published.ensures.stops c.in_err-published.ensures.err
    (subst (λ j. IsJournaled {A = Option ℕ} disk (Change (Publish c.args.site.now c.args.number)) (Err why) c.keep.new.self.house j new_house new_journal) c.keep.ensures.journal c.in_err-published.ensures.journal)
    (ap told_upload is) (λ (other : Refusal) told. let same : why ≡ other = cc told in is ∙ ap Err same)

pub returns-clause-done : goal.returns-clause-done
returns-clause-done g c =
    let server = c.args.self.now in
    let did = g.S.Shelf.did in
    let disk = g.D.Disk in
    let at : SiteName × Digest = (c.args.site.now, c.in_ok-digest.digest) in
    let entry = c.publish_if_ready.result in
    let new_house = c.publish_if_ready.new.self in
    let new_journal = c.publish_if_ready.new.journal in
    let was : entry ≡ Ok c.in_ok-published.published = c.in_ok-published.was in
    let next : Server g.row.S.Denot g.row.D.Denot g.D.Disk = record { house = new_house; journal = new_journal; files = c.keep.new.self.files; agrees = _ } in
    upload_done did g.S.Shelf.failures server next c.keep.new.self.house (judge_in server.house c.args.site.now c.args.number c.args.path.now c.args.bytes.now) c.args.number
    c.args.bytes.now at entry (Ok (record { published = c.in_ok-published.published; digest = c.in_ok-digest.digest }))
    (judged_by server.house c.state.result.now c.args.site.now c.args.number c.args.path.now c.args.bytes.now c.in_ok-digest.digest c.state.ensures.value c.in_ok-digest.ensures.judged)
    c.in_ok-keep.ensures.known
    c.in_ok-keep.ensures.stored
    c.keep.ensures.cache
    c.publish_if_ready.ensures.done c.publish_if_ready.ensures.stops c.publish_if_ready.ensures.err
    (subst (λ j. IsJournaled {A = Option ℕ} disk (Change (Publish c.args.site.now c.args.number)) entry c.keep.new.self.house j new_house new_journal) c.keep.ensures.journal c.publish_if_ready.ensures.journal)
    (ap (λ (e : Result (Option ℕ) Refusal). told_of e (λ published. Uploaded published c.in_ok-digest.digest)) (sym was))
    (λ (other : Refusal) failed. absurd (cc (sym was ∙ failed)))
