use Rattle.std.proofs.Common.{rules, ◌≡◌, Ok, Err, ap, subst}
use Rattle.byte_view.specs.Contents.{Contents}
use Rattle.site_change.specs.Changes.{IsWithin}
use Rattle.change_log.specs.Logs.{BeginsWith, Log}
use Rattle.host_api.specs.declared.refusals.Refusal.{Refusal}
use Rattle.shared_house.proofs.Entering.{taken_told}
use Rattle.shared_house.proofs.answering.SharedHouseHouse.upload.Goals as goal

pub returns-in-Ok : goal.returns-in-Ok
returns-in-Ok g c =
    let (first, later, more, is) = c.in-Ok.ensures.answer in
    let (mid, found, learnt) = c.learn_taken.ensures.learnt in
    let old : c.front-seen.result ≡ c.args.self.now.known.log = search rules in
    let had : c.again-known.result ≡ c.args.self.now.known.files = search rules in (
      first,
      c.upload.new.seen,
      c.upload.new.known,
      Ok c.in-Ok.taken,
      mid,
      subst (λ (l : Log). BeginsWith first l) old later,
      more,
      subst (λ (files : Contents). IsWithin files c.upload.new.known) had c.in-Ok.ensures.files,
      c.in-Ok.ensures.asked,
      is,
      taken_told c.in-Ok.taken c.learn_taken.result c.learn_taken.ensures.number,
      found,
      learnt,
    )

pub returns : goal.returns
returns g c =
    let (first, later, more, is) = c.in-Err.ensures.answer in
    let (mid, found, learnt) = c.not_taken.ensures.learnt in
    let old : c.front-seen.result ≡ c.args.self.now.known.log = search rules in
    let had : c.again-known.result ≡ c.args.self.now.known.files = search rules in (
      first,
      c.upload.new.seen,
      c.upload.new.known,
      Err c.in-Err.why,
      mid,
      subst (λ (l : Log). BeginsWith first l) old later,
      more,
      subst (λ (files : Contents). IsWithin files c.upload.new.known) had c.in-Err.ensures.files,
      c.in-Err.ensures.asked,
      is,
      ap (λ (r : Refusal). Err r) c.not_taken.ensures.told,
      found,
      learnt,
    )
