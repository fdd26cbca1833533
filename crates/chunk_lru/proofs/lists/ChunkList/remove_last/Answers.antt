use Rattle.std.proofs.Common.{◌+◌, length, sym, ap, ◌∙◌, arith}
use Rattle.chunk_lru.specs.Recent.{chunks_of, size_of}
use Rattle.chunk_lru.proofs.Entries.{named-take, none_goes, size-last, view-last}
use Rattle.chunk_lru.proofs.lists.ChunkList.remove_last.Goals as goal

pub overflow_sub-self : goal.overflow_sub-self
overflow_sub-self c = omega (
  arith,
  c.self.invariant.1,
  size-last (λ share. share.value) c.self.inside.chunks.entries (c.in-Some.field-0-0, c.in-Some.chunk) (sym c.pop_lru.ensures.value ∙ c.in-Some.is),
  c.weight.ensures.value ∙ ap (λ bytes. 40 + length bytes) c.deref.ensures,
)

pub invariant_of-self : goal.invariant_of-self
invariant_of-self c = rw c.pop_lru.ensures.entries (
  named-take (λ share. share.value) _ c.self.inside.chunks.entries c.self.invariant.0,
  omega (
    arith,
    c.self.invariant.1,
    size-last (λ share. share.value) c.self.inside.chunks.entries (c.in-Some.field-0-0, c.in-Some.chunk) (sym c.pop_lru.ensures.value ∙ c.in-Some.is),
    c.weight.ensures.value ∙ ap (λ bytes. 40 + length bytes) c.deref.ensures,
  ),
)

pub invariant_of-self-in_default : goal.invariant_of-self-in_default
invariant_of-self-in_default c = rw c.pop_lru.ensures.entries (
  named-take (λ share. share.value) _ c.self.inside.chunks.entries c.self.invariant.0,
  c.self.invariant.1 ∙ sym (ap (λ es. size_of (chunks_of (λ share. share.value) es)) (none_goes (λ share. share.value) c.self.inside.chunks.entries (sym c.pop_lru.ensures.value ∙ c.in_default.is))),
)

pub returns-in-Some : goal.returns-in-Some
returns-in-Some c = rw c.pop_lru.ensures.entries (view-last (λ share. share.value) c.self.inside.chunks.entries c.self.inside.chunks.cap c.args.self.now c.self.view_is)

pub returns-in_default : goal.returns-in_default
returns-in_default c = rw c.pop_lru.ensures.entries (view-last (λ share. share.value) c.self.inside.chunks.entries c.self.inside.chunks.cap c.args.self.now c.self.view_is)
