use Rattle.std.proofs.Common.{rules, ◌≡◌, ◌≢◌, ◌↔◌, ◌<◌, length}
use Rattle.blob_store.specs.Receipts.{HasFailedPut}
use Rattle.blob_store.specs.declared.blobs.UploadFault.TheVariants.{Device, TooLarge}
use Rattle.host_names.specs.Digests.{digest_of}
use Rattle.change_log.specs.Logs.{last_number}
use Rattle.growing.specs.Logs.{stays}
use Rattle.desk_seats.proofs.Turns.{asked_first, asked_last, found_them, listed, lists, not_published, published, stops, stored}
use Rattle.desk_seats.proofs.seated_desks.SeatedDeskDeskAccess.upload.Goals as goal

pub returns-in-Err-clause-asked : goal.returns-in-Err-clause-asked
returns-in-Err-clause-asked g c =
    let (made, judged) = c.in-Err.ensures.judged in
    asked_first g.D.Disk g.A.ShelfAccess.failed (last_number g.J.ListName.found) made c.judge.new.seen c.args.known.now c.args.site.now c.args.deploy c.args.path.now c.args.bytes.now c.in-Err.why judged

pub returns-in-Err-clause-answer : goal.returns-in-Err-clause-answer
returns-in-Err-clause-answer g c =
    let (made, judged) = c.in-Err.ensures.judged in
    let seen = c.judge.new.seen in
    (seen, c.in-Err.ensures.later, stays seen, stops g.D.Disk _ seen c.args.known.now c.args.site.now c.args.deploy c.args.path.now c.args.bytes.now c.in-Err.why judged)

pub returns-then-ne-clause-asked : goal.returns-then-ne-clause-asked
returns-then-ne-clause-asked g c =
    let (made, judged) = c.in-Ok.ensures.judged in
    let differ : c.in-Ok.listed ≢ digest_of c.args.bytes.now = search rules in
    (c.in-Ok.listed, differ, (made, judged))

pub returns-then-ne-clause-answer : goal.returns-then-ne-clause-answer
returns-then-ne-clause-answer g c =
    let (made, judged) = c.in-Ok.ensures.judged in
    let seen = c.judge.new.seen in
    let differ : c.in-Ok.listed ≢ digest_of c.args.bytes.now = search rules in
    (seen, c.in-Ok.ensures.later, stays seen, (c.in-Ok.listed, differ, listed g.D.Disk _ seen c.args.site.now c.args.deploy c.args.path.now c.in-Ok.listed judged))

pub returns-in-Err-store-clause-asked : goal.returns-in-Err-store-clause-asked
returns-in-Err-store-clause-asked g c =
    let (made, judged) = c.in-Ok.ensures.judged in
    let same : c.in-Ok.listed ≡ digest_of c.args.bytes.now = search rules in
    let at = found_them g.D.Disk (last_number g.J.ListName.found) made c.judge.new.seen c.args.site.now c.args.deploy c.args.path.now c.args.bytes.now c.in-Ok.listed same
    judged in
    let blamed : c.in-Err-store.fault ≡ Device → HasFailedPut g.A.ShelfAccess.failed c.args.bytes.now = search rules in
    (at, blamed)

pub returns-in-Err-store-clause-answer : goal.returns-in-Err-store-clause-answer
returns-in-Err-store-clause-answer g c =
    let (made, judged) = c.in-Ok.ensures.judged in
    let seen = c.judge.new.seen in
    let same : c.in-Ok.listed ≡ digest_of c.args.bytes.now = search rules in
    let large : (c.in-Err-store.fault ≡ TooLarge) ↔ (16777216 < length c.args.bytes.now) = search rules in
    (seen, c.in-Ok.ensures.later, stays seen, (lists g.D.Disk _ seen c.args.site.now c.args.deploy c.args.path.now c.args.bytes.now c.in-Ok.listed same judged, large))

pub returns-in-Ok-publish_if_ready-clause-asked : goal.returns-in-Ok-publish_if_ready-clause-asked
returns-in-Ok-publish_if_ready-clause-asked g c =
    let (made, judged) = c.in-Ok.ensures.judged in
    let (more, done) = c.in-Ok-publish_if_ready.ensures.done in
    let seen = c.judge.new.seen in
    let same : c.in-Ok.listed ≡ digest_of c.args.bytes.now = search rules in (
      seen,
      c.in-Ok-publish_if_ready.ensures.later,
      found_them g.D.Disk (last_number g.J.ListName.found) made seen c.args.site.now c.args.deploy c.args.path.now c.args.bytes.now c.in-Ok.listed same judged,
      more,
      done,
    )

pub returns-in-Ok-publish_if_ready-clause-answer : goal.returns-in-Ok-publish_if_ready-clause-answer
returns-in-Ok-publish_if_ready-clause-answer g c =
    let (made, judged) = c.in-Ok.ensures.judged in
    let (more, done) = c.in-Ok-publish_if_ready.ensures.done in
    let seen = c.judge.new.seen in
    let last = c.publish_if_ready.new.seen in
    let same : c.in-Ok.listed ≡ digest_of c.args.bytes.now = search rules in
    let digest : c.of_bytes-digest.result ≡ digest_of c.args.bytes.now = search rules in
    let fits : ¬ (16777216 < length c.args.bytes.now) = search rules in (
      seen,
      c.in-Ok.ensures.later,
      c.in-Ok-publish_if_ready.ensures.later,
      (
        (
          (lists g.D.Disk _ seen c.args.site.now c.args.deploy c.args.path.now c.args.bytes.now c.in-Ok.listed same judged, fits),
          stored c.args.bytes.now c.in-Ok-store.stored c.of.result c.learn-in-Ok-store.new.self c.publish_if_ready.new.known c.of.ensures c.in-Ok-store.ensures.known c.learn-in-Ok-store.ensures.learnt
              c.in-Ok-publish_if_ready.ensures.files,
        ),
        digest,
        published g.D.Disk _ last c.args.site.now c.args.deploy c.publish_if_ready.new.known c.in-Ok-publish_if_ready.published done,
      ),
    )

pub returns-in-Err-publish_if_ready-clause-asked : goal.returns-in-Err-publish_if_ready-clause-asked
returns-in-Err-publish_if_ready-clause-asked g c =
    let (made, judged) = c.in-Ok.ensures.judged in
    let (more, done) = c.in-Err-publish_if_ready.ensures.done in
    let seen = c.judge.new.seen in
    let same : c.in-Ok.listed ≡ digest_of c.args.bytes.now = search rules in
    let first = found_them g.D.Disk (last_number g.J.ListName.found) made seen c.args.site.now c.args.deploy c.args.path.now c.args.bytes.now c.in-Ok.listed same
    judged in
    asked_last g.D.Disk g.A.ShelfAccess.failed (last_number g.J.ListName.found) more seen c.publish_if_ready.new.seen c.args.site.now c.args.deploy c.args.path.now c.args.bytes.now
    c.publish_if_ready.new.known c.in-Err-publish_if_ready.why c.in-Err-publish_if_ready.ensures.later first done

pub returns-in-Err-publish_if_ready-clause-answer : goal.returns-in-Err-publish_if_ready-clause-answer
returns-in-Err-publish_if_ready-clause-answer g c =
    let (made, judged) = c.in-Ok.ensures.judged in
    let (more, done) = c.in-Err-publish_if_ready.ensures.done in
    let seen = c.judge.new.seen in
    let same : c.in-Ok.listed ≡ digest_of c.args.bytes.now = search rules in
    let fits : ¬ (16777216 < length c.args.bytes.now) = search rules in (
      seen,
      c.in-Ok.ensures.later,
      c.in-Err-publish_if_ready.ensures.later,
      not_published g.D.Disk _ seen c.publish_if_ready.new.seen c.args.site.now c.args.deploy c.args.path.now c.args.bytes.now c.publish_if_ready.new.known
          c.in-Err-publish_if_ready.why (
            (lists g.D.Disk _ seen c.args.site.now c.args.deploy c.args.path.now c.args.bytes.now c.in-Ok.listed same judged, fits),
            stored c.args.bytes.now c.in-Ok-store.stored c.of.result c.learn-in-Ok-store.new.self c.publish_if_ready.new.known c.of.ensures c.in-Ok-store.ensures.known c.learn-in-Ok-store.ensures.learnt
                c.in-Err-publish_if_ready.ensures.files,
          ) done,
    )
