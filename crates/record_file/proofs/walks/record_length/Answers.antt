use Rattle.std.proofs.Common.{◌≡◌, ◌⊎◌, ◌+◌, ◌<◌, inl, inr, drop, length, arith, length-drop}
use Rattle.record_file.proofs.NotWhole.{too_few, too_long}
use Rattle.record_file.proofs.walks.record_length.Goals.{then-position-eq-MOST_RECORDS-via-then-position-eq-MOST_RECORDS, then-position-eq-MOST_RECORDS-via-else-position-eq-MOST_RECORDS+then-behind-lt5, then-length-gt-LONGEST_BODY-via-then-length-gt-LONGEST_BODY, then-length-gt-LONGEST_BODY-via-else-length-gt-LONGEST_BODY+then-length-behind}
use Rattle.record_file.proofs.walks.record_length.Goals as goal

pub returns-then-position-eq-MOST_RECORDS-clause-bad : goal.returns-then-position-eq-MOST_RECORDS-clause-bad
returns-then-position-eq-MOST_RECORDS-clause-bad g c modelled size i fault =
    let file = g.D.Disk.seen c.args.disk.now in
    let number : i ≡ c.args.position.count + 1 = cc (c.bad_record.ensures, fault) in (
      number,
      elim c.then-position-eq-MOST_RECORDS.branch [
        | then-position-eq-MOST_RECORDS-via-then-position-eq-MOST_RECORDS w ↦ inr (omega (arith, w.if-position-eq-MOST_RECORDS.true))
        | then-position-eq-MOST_RECORDS-via-else-position-eq-MOST_RECORDS+then-behind-lt5 w ↦ inl (too_few (drop (c.args.position.gate + 1) file) (omega (arith, size, w.if-behind-lt5.true, length-drop (c.args.position.gate + 1) file)))
      ],
    )

pub returns-then-length-gt-LONGEST_BODY-clause-bad : goal.returns-then-length-gt-LONGEST_BODY-clause-bad
returns-then-length-gt-LONGEST_BODY-clause-bad g c modelled size i fault =
    let file = g.D.Disk.seen c.args.disk.now in
    let n = c.in_ok-length.length in
    let number : i ≡ c.args.position.count + 1 = cc (c.bad_record-then-length-gt-LONGEST_BODY.ensures, fault) in
    let long : (10470070 < n) ⊎ (length (drop (c.args.position.gate + 1) file) < n + 5) = elim c.then-length-gt-LONGEST_BODY.branch [
      | then-length-gt-LONGEST_BODY-via-then-length-gt-LONGEST_BODY w ↦ inl (omega (arith, w.if-length-gt-LONGEST_BODY.true))
      | then-length-gt-LONGEST_BODY-via-else-length-gt-LONGEST_BODY+then-length-behind w ↦ inr (omega (arith, size, w.if-length-behind.true, c.if-behind-lt5.false, length-drop (c.args.position.gate + 1) file))
    ] in (
      number,
      inl (too_long (drop (c.args.position.gate + 1) file) _ n c.in_ok-length.ensures.fits (c.in_ok-length.ensures.length modelled) long),
    )
