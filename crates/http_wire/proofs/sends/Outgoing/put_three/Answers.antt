use Rattle.std.proofs.Common.{◌∙◌, Ok}
use Rattle.http_wire.proofs.PiecesTaken.{all_gathered, from_first, from_second, from_third, put_passed}
use Rattle.http_wire.proofs.sends.Outgoing.put_three.Goals as goal

pub returns-then-not-gather-clause-ran : goal.returns-then-not-gather-clause-ran
returns-then-not-gather-clause-ran g c =
    let saw = g.D.Duplex.saw in
    let old = c.args.duplex.now in
    let first = c.behind-first.result.now in
    let second = c.behind-second.result.now in
    let third = c.behind-third.result.now in
    let one = c.behind-first.ensures in
    let two = c.behind-second.ensures in
    let three = c.behind-third.ensures in
    let start = c.behind-third.new.self in
    put_passed saw old c.write.new.duplex c.write.result c.args.first.now c.args.second.now c.args.third.now first second third
    c.args.self.now c.behind-first.new.self c.behind-second.new.self start c.write.new.self one.left two.left three.left one.passed two.passed three.passed
    (three.sent ∙ two.sent ∙ one.sent) (three.rest ∙ two.rest ∙ one.rest) (c.write.ensures.passed ∙ c.if-not-gather.ensures.passed)
    (from_first saw old c.write.new.duplex c.write.result _ start c.gather.new.self c.write.new.self c.if-not-gather.ensures.sent c.if-not-gather.ensures.gathered c.write.ensures.ran)

pub returns-then-not-gather-2-clause-ran : goal.returns-then-not-gather-2-clause-ran
returns-then-not-gather-2-clause-ran g c =
    let saw = g.D.Duplex.saw in
    let old = c.args.duplex.now in
    let first = c.behind-first.result.now in
    let second = c.behind-second.result.now in
    let third = c.behind-third.result.now in
    let one = c.behind-first.ensures in
    let two = c.behind-second.ensures in
    let three = c.behind-third.ensures in
    let start = c.behind-third.new.self in
    put_passed saw old c.write-then-not-gather-2.new.duplex c.write-then-not-gather-2.result c.args.first.now c.args.second.now c.args.third.now first second third
    c.args.self.now c.behind-first.new.self c.behind-second.new.self start c.write-then-not-gather-2.new.self one.left two.left three.left one.passed two.passed three.passed
    (three.sent ∙ two.sent ∙ one.sent) (three.rest ∙ two.rest ∙ one.rest) (c.write-then-not-gather-2.ensures.passed ∙ c.if-not-gather-2.ensures.passed ∙ c.if-not-gather.ensures.passed)
    (from_second saw old c.write-then-not-gather-2.new.duplex c.write-then-not-gather-2.result first second third start c.gather.new.self c.gather-2.new.self c.write-then-not-gather-2.new.self c.if-not-gather.ensures.sent c.if-not-gather.ensures.gathered
    c.if-not-gather-2.ensures.sent c.if-not-gather-2.ensures.gathered c.write-then-not-gather-2.ensures.ran)

pub returns-then-not-gather-3-clause-ran : goal.returns-then-not-gather-3-clause-ran
returns-then-not-gather-3-clause-ran g c =
    let saw = g.D.Duplex.saw in
    let old = c.args.duplex.now in
    let first = c.behind-first.result.now in
    let second = c.behind-second.result.now in
    let third = c.behind-third.result.now in
    let one = c.behind-first.ensures in
    let two = c.behind-second.ensures in
    let three = c.behind-third.ensures in
    let start = c.behind-third.new.self in
    put_passed saw old c.write-then-not-gather-3.new.duplex c.write-then-not-gather-3.result c.args.first.now c.args.second.now c.args.third.now first second third
    c.args.self.now c.behind-first.new.self c.behind-second.new.self start c.write-then-not-gather-3.new.self one.left two.left three.left one.passed two.passed three.passed
    (three.sent ∙ two.sent ∙ one.sent) (three.rest ∙ two.rest ∙ one.rest) (c.write-then-not-gather-3.ensures.passed ∙ c.if-not-gather-3.ensures.passed ∙ c.if-not-gather-2.ensures.passed ∙ c.if-not-gather.ensures.passed)
    (from_third saw old c.write-then-not-gather-3.new.duplex c.write-then-not-gather-3.result first second third start c.gather.new.self c.gather-2.new.self c.gather-3.new.self c.write-then-not-gather-3.new.self c.if-not-gather.ensures.sent
    c.if-not-gather.ensures.gathered c.if-not-gather-2.ensures.sent c.if-not-gather-2.ensures.gathered c.if-not-gather-3.ensures.sent c.if-not-gather-3.ensures.gathered c.write-then-not-gather-3.ensures.ran)

pub returns-clause-ran : goal.returns-clause-ran
returns-clause-ran g c =
    let saw = g.D.Duplex.saw in
    let old = c.args.duplex.now in
    let first = c.behind-first.result.now in
    let second = c.behind-second.result.now in
    let third = c.behind-third.result.now in
    let one = c.behind-first.ensures in
    let two = c.behind-second.ensures in
    let three = c.behind-third.ensures in
    let start = c.behind-third.new.self in
    put_passed saw old old (Ok tt) c.args.first.now c.args.second.now c.args.third.now first second third
    c.args.self.now c.behind-first.new.self c.behind-second.new.self start c.gather-3.new.self one.left two.left three.left one.passed two.passed three.passed
    (three.sent ∙ two.sent ∙ one.sent) (three.rest ∙ two.rest ∙ one.rest) (c.if-not-gather-3.ensures.passed ∙ c.if-not-gather-2.ensures.passed ∙ c.if-not-gather.ensures.passed)
    (all_gathered saw old first second third start c.gather.new.self c.gather-2.new.self c.gather-3.new.self c.if-not-gather.ensures.sent c.if-not-gather.ensures.gathered
    c.if-not-gather-2.ensures.sent c.if-not-gather-2.ensures.gathered c.if-not-gather-3.ensures.sent c.if-not-gather-3.ensures.gathered)
