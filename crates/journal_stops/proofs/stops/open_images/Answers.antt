use Rattle.std.proofs.Common.{refl, ◌∙◌, ap, subst}
use Rattle.change_log.specs.Logs.{Log}
use Rattle.host_disk.specs.Contents.{IsImage}
use Rattle.host_disk.specs.declared.mem_disk.MemDisk.{MemDisk}
use Rattle.journal_stops.proofs.stops.open_images.Goals as goal

pub returns-in-Ok-clause-opened : goal.returns-in-Ok-clause-opened
returns-in-Ok-clause-opened c =
    (_, _, c.in_ok-one.ensures.image, c.in_ok-other.ensures.image, λ log few holds. ap (λ (l : Log). l.entries) c.with_disks.ensures.2 ∙ c.in-Ok.ensures.kept refl log few holds)

pub returns-in-Ok-clause-stored : goal.returns-in-Ok-clause-stored
returns-in-Ok-clause-stored c a b here there =
    let one = subst (λ (d : MemDisk). IsImage d.content a) c.with_disks.ensures.3 here in
    let other = subst (λ (d : MemDisk). IsImage d.content b) c.with_disks.ensures.4 there in
    rw c.with_disks.ensures.2 (c.in-Ok.ensures.stored refl a b one other)
