use Rattle.std.proofs.Common.{IfErr, IfOk, subst}
use Rattle.chunk_reads.specs.Reading.{IsNotHeld}
use Rattle.chunk_group.specs.Cached.{CachedShelf, GaveOfNode, ReadsChunk}
use Rattle.chunk_group.specs.Shelves.{shelf_of}
use Rattle.chunk_group.proofs.LoneReads.{failed_alone, gave_alone, still_alone}
use Rattle.chunk_group.proofs.node_files.NodeFiles.hold.Goals as goal

pub invariant_of-self : goal.invariant_of-self
invariant_of-self g c =
    still_alone g.S.Shelf.did g.S.Shelf.failures _ _ _ c.self.inside.group c.hold.new.self c.self.invariant c.args.info.value c.args.first c.args.last c.hold.result
    c.hold.ensures.read c.hold.ensures.fault

pub returns-clause-read : goal.returns-clause-read
returns-clause-read g c =
    let did = g.S.Shelf.did in
    let failures = g.S.Shelf.failures in
    subst (λ (old : CachedShelf _). IfOk c.hold.result (λ hold. GaveOfNode did failures old hold (shelf_of c.hold.new.self))) c.self.view_is
    (gave_alone did failures _ _ _ c.self.inside.group c.hold.new.self c.self.invariant c.hold.result c.hold.ensures.read)

pub returns-clause-fault : goal.returns-clause-fault
returns-clause-fault g c =
    let did = g.S.Shelf.did in
    let failures = g.S.Shelf.failures in
    subst (λ (old : CachedShelf _). IfErr c.hold.result (λ why. IsNotHeld (ReadsChunk did failures) old c.args.info.value c.args.first c.args.last why (shelf_of c.hold.new.self))) c.self.view_is
    (failed_alone did failures _ _ _ c.self.inside.group c.hold.new.self c.self.invariant c.args.info.value c.args.first c.args.last c.hold.result c.hold.ensures.fault)
