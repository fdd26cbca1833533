use Rattle.std.proofs.Common.{rules, ◌≡◌, subst}
use Rattle.byte_view.specs.Contents.{Contents}
use Rattle.site_change.specs.Changes.{IsWithin}
use Rattle.shared_house.proofs.answering.SharedHouseHouse.missing.Goals as goal

pub returns : goal.returns
returns g c =
    let had : c.again.result ≡ c.args.self.now.known.files = search rules in (
      c.missing.new.known,
      c.missing.ensures.digested,
      subst (λ (files : Contents). IsWithin files c.missing.new.known) had c.missing.ensures.files,
      c.missing.ensures.asked,
      c.missing.ensures.answer,
    )
