use Rattle.std.proofs.Common.{sym, ◌∙◌}
use Rattle.chunk_lru.proofs.Entries.{is_found, named-promoted, size-promoted, view-promoted}
use Rattle.chunk_lru.proofs.lists.ChunkList.promote.Goals as goal

pub invariant_of-self : goal.invariant_of-self
invariant_of-self c = rw c.promote.ensures.entries (
  named-promoted (λ share. share.value) c.args.name.now c.self.inside.chunks.entries c.self.invariant.0,
  c.self.invariant.1 ∙ sym (size-promoted (λ share. share.value) c.args.name.now c.self.inside.chunks.entries c.self.invariant.0),
)

pub returns-clause-found : goal.returns-clause-found
returns-clause-found c =
    c.promote.ensures.value ∙ is_found (λ share. share.value) c.args.name.now c.self.inside.chunks.entries c.args.self.now c.self.invariant.0 c.self.inside.chunks.cap c.self.view_is

pub returns-clause-moved : goal.returns-clause-moved
returns-clause-moved c = rw c.promote.ensures.entries
    (view-promoted (λ share. share.value) c.args.name.now c.self.inside.chunks.entries c.self.inside.chunks.cap c.args.self.now c.self.invariant.0 c.self.view_is)
