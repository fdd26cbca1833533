use Rattle.std.proofs.Common.{rules, ◌≡◌, None, subst, sym}
use Rattle.std.specs.FinMap as map
use Rattle.growing.specs.Orders.{IsNewer}
use Rattle.host_names.specs.Digests.{digest_of}
use Rattle.byte_view.specs.Contents.{Contents, with_file}
use Rattle.site_change.specs.Changes.{IsWithin}
use Rattle.site_desk.proofs.AddedFiles.{one_file_more}
use Rattle.site_desk.proofs.stocks.Stock.keep.Goals as goal

pub push-requires-clause-newer : goal.push-requires-clause-newer
push-requires-clause-newer g c =
    let old = c.self.inside.files in
    let file = c.args.file.value in
    let none : map.get old (digest_of file) ≡ None = search rules in
    subst (λ (files : Contents). IsNewer IsWithin c.self.inside.list.now files) (sym c.in_ok-keep.ensures.ok)
    (subst (λ (files : Contents). IsNewer IsWithin files (with_file old file)) (sym c.self.invariant) (one_file_more old file none))
