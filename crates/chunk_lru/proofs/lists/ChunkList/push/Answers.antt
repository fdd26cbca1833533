use Rattle.std.proofs.Common.{◌+◌, ◌∷◌, length, refl, ap, ◌∙◌, arith}
use Rattle.host_names.specs.Digests.{digest_of}
use Rattle.chunk_lru.specs.Recent.{chunks_of, recent, size_of}
use Rattle.chunk_lru.proofs.Entries.{put-absent}
use Rattle.chunk_lru.proofs.Sizes.{size_of-cons}
use Rattle.chunk_lru.proofs.lists.ChunkList.push.Goals as goal

pub invariant_of-self-2 : goal.invariant_of-self-2
invariant_of-self-2 c =
    rw (put-absent (λ share. share.value) c.self.inside.chunks c.put.new.self c.name.result c.args.chunk c.args.self.now c.self.invariant.0 c.self.view_is
    (c.name.ensures ∙ ap digest_of c.deref-2.ensures) c.requires.missing c.requires.room c.in_ok-put.ensures.entries) (
      (refl, c.self.invariant.0),
      omega (arith, c.self.invariant.1, c.weight-weight.ensures.value ∙ ap (λ bytes. 40 + length bytes) c.deref.ensures, size_of-cons c.args.chunk.value (chunks_of (λ share. share.value) c.self.inside.chunks.entries)),
    )

pub returns-clause-ok : goal.returns-clause-ok
returns-clause-ok c =
    rw (put-absent (λ share. share.value) c.self.inside.chunks c.put.new.self c.name.result c.args.chunk c.args.self.now c.self.invariant.0 c.self.view_is
    (c.name.ensures ∙ ap digest_of c.deref-2.ensures) c.requires.missing c.requires.room c.in_ok-put.ensures.entries)
    (ap (λ r. recent (c.args.chunk.value ∷ r.chunks) r.room) c.self.view_is)

pub returns-clause-bound : goal.returns-clause-bound
returns-clause-bound c =
    rw (put-absent (λ share. share.value) c.self.inside.chunks c.put.new.self c.name.result c.args.chunk c.args.self.now c.self.invariant.0 c.self.view_is
    (c.name.ensures ∙ ap digest_of c.deref-2.ensures) c.requires.missing c.requires.room c.in_ok-put.ensures.entries)
    (omega (
      arith,
      c.weight-weight.ensures.bound,
      c.weight-weight.ensures.value ∙ ap (λ bytes. 40 + length bytes) c.deref.ensures,
      ap (λ r. size_of r.chunks) c.self.view_is,
      size_of-cons c.args.chunk.value (chunks_of (λ share. share.value) c.self.inside.chunks.entries),
    ))
