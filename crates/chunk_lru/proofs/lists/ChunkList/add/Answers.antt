use Rattle.std.proofs.Common.{◌≡◌, ◌<◌, ◌+◌, ◌^◌, ◌∷◌, None, OnErr, OnOk, length, sym, ap, subst, ◌∙◌, arith}
use Rattle.host_names.specs.Digests.{digest_of}
use Rattle.chunk_lru.specs.Recent.{found, recent, size_of}
use Rattle.chunk_lru.proofs.Sizes.{inserted-absent, looked-absent, none_from_is_some, size_of-to_front}
use Rattle.chunk_lru.proofs.lists.ChunkList.add.Goals as goal
use Rattle.chunk_lru.proofs.lists.ChunkList.add.Goals.{Else-promote}

none : (c : Else-promote) → found c.name.result c.args.self.now.chunks ≡ None
none c = none_from_is_some _ (sym c.promote.ensures.found ∙ c.if-promote.false)

named : (c : Else-promote) → found (digest_of c.args.chunk.value) c.args.self.now.chunks ≡ None
named c = ap (λ name. found name c.args.self.now.chunks) (sym (c.name.ensures ∙ ap digest_of c.deref.ensures)) ∙ none c

same : (c : Else-promote) → c.promote.new.self ≡ c.args.self.now
same c = looked-absent c.name.result c.args.self.now c.promote.new.self c.promote.ensures.moved (none c)

pub returns-then-promote-clause-bound : goal.returns-then-promote-clause-bound
returns-then-promote-clause-bound c = rw c.promote.ensures.moved (omega (arith, size_of-to_front c.name.result c.args.self.now.chunks))

pub push-requires-clause-missing : goal.push-requires-clause-missing
push-requires-clause-missing c = ap (λ r. found (digest_of c.args.chunk.value) r.chunks) (same (goal.at.push-requires-clause-missing c).Else-promote) ∙ named (goal.at.push-requires-clause-missing c).Else-promote

pub push-requires-clause-room : goal.push-requires-clause-room
push-requires-clause-room c = subst (λ r. length r.chunks < r.room) (sym (same (goal.at.push-requires-clause-room c).Else-promote)) c.requires.room

pub push-requires-clause-size : goal.push-requires-clause-size
push-requires-clause-size c = subst (λ r. size_of r.chunks < 2 ^ 127) (sym (same (goal.at.push-requires-clause-size c).Else-promote)) c.requires.size

pub returns-clause-ok : goal.returns-clause-ok
returns-clause-ok c =
    rw (inserted-absent c.args.chunk.value c.args.self.now.chunks (named (goal.at.returns-clause-ok c).Else-promote))
    (subst (λ r. OnOk c.push.result (c.push.new.self ≡ recent (c.args.chunk.value ∷ r.chunks) r.room)) (same (goal.at.returns-clause-ok c).Else-promote) c.push.ensures.ok)

pub returns-clause-bound : goal.returns-clause-bound
returns-clause-bound c = subst (λ r. OnOk c.push.result (size_of c.push.new.self.chunks < size_of r.chunks + 2 ^ 65)) (same (goal.at.returns-clause-bound c).Else-promote) c.push.ensures.bound

pub returns-clause-err : goal.returns-clause-err
returns-clause-err c = subst (λ r. OnErr c.push.result (c.push.new.self ≡ r)) (same (goal.at.returns-clause-err c).Else-promote) c.push.ensures.err
