use Rattle.std.proofs.Common.{◌≡◌, Some, None, option_map, sym, ap, ◌∙◌}
use Rattle.chunk_lru.specs.Recent.{recent}
use Rattle.chunk_lru.proofs.Entries.{found-first, found-view, named-promoted, none-first, size-promoted, view-first, view-promoted}
use Rattle.chunk_lru.proofs.Sizes.{to_front-absent}
use Rattle.chunk_lru.proofs.lists.ChunkList.get.Goals as goal

pub returns-in_default-clause-found : goal.returns-in_default-clause-found
returns-in_default-clause-found c =
    none-first (λ share. share.value) c.args.name.now c.self.inside.chunks.entries c.self.inside.chunks.cap c.args.self.now c.self.view_is (sym c.in_default.ensures)

pub returns-in_default-clause-ok : goal.returns-in_default-clause-ok
returns-in_default-clause-ok c = sym (ap (λ chunks. recent chunks c.args.self.now.room) (to_front-absent c.args.name.now c.args.self.now.chunks (sym (returns-in_default-clause-found c))))

pub returns-in_err-try_clone-clause-miss : goal.returns-in_err-try_clone-clause-miss
returns-in_err-try_clone-clause-miss c = λ none.
    let some = found-first (λ share. share.value) c.args.name.now c.self.inside.chunks.entries _ c.self.inside.chunks.cap c.args.self.now c.self.invariant.0 c.self.view_is
    (sym c.in-Some.ensures) (sym c.eq.ensures ∙ c.if-eq.true) in
    let bad : Some _ ≡ None = some ∙ none in cc bad

pub returns-then-eq-clause-found : goal.returns-then-eq-clause-found
returns-then-eq-clause-found c =
    ap Some c.in_ok-try_clone.ensures
    ∙ found-first (λ share. share.value) c.args.name.now c.self.inside.chunks.entries _ c.self.inside.chunks.cap c.args.self.now c.self.invariant.0 c.self.view_is
    (sym c.in-Some.ensures) (sym c.eq.ensures ∙ c.if-eq.true)

pub returns-then-eq-clause-ok : goal.returns-then-eq-clause-ok
returns-then-eq-clause-ok c =
    view-first (λ share. share.value) c.args.name.now c.self.inside.chunks.entries _ c.self.inside.chunks.cap c.args.self.now c.self.invariant.0 c.self.view_is
    (sym c.in-Some.ensures) (sym c.eq.ensures ∙ c.if-eq.true)

pub returns-in_default-peek-clause-found : goal.returns-in_default-peek-clause-found
returns-in_default-peek-clause-found c =
    ap (option_map (λ share. share.value)) c.in_default-peek.ensures
    ∙ found-view (λ share. share.value) c.args.name.now c.self.inside.chunks.entries c.self.inside.chunks.cap c.args.self.now c.self.invariant.0 c.self.view_is

pub returns-in_default-peek-clause-ok : goal.returns-in_default-peek-clause-ok
returns-in_default-peek-clause-ok c =
    sym (ap (λ chunks. recent chunks c.args.self.now.room) (to_front-absent c.args.name.now c.args.self.now.chunks (sym (returns-in_default-peek-clause-found c))))

pub returns-in_err-share-clause-miss : goal.returns-in_err-share-clause-miss
returns-in_err-share-clause-miss c = λ none.
    let some = ap (option_map (λ share. share.value)) c.in-Some-peek.ensures
    ∙ found-view (λ share. share.value) c.args.name.now c.self.inside.chunks.entries c.self.inside.chunks.cap c.args.self.now c.self.invariant.0 c.self.view_is in
    let bad : Some _ ≡ None = some ∙ none in cc bad

pub invariant_of-self : goal.invariant_of-self
invariant_of-self c = rw c.promote.ensures.entries (
  named-promoted (λ share. share.value) c.args.name.now c.self.inside.chunks.entries c.self.invariant.0,
  c.self.invariant.1 ∙ sym (size-promoted (λ share. share.value) c.args.name.now c.self.inside.chunks.entries c.self.invariant.0),
)

pub returns-clause-found : goal.returns-clause-found
returns-clause-found c =
    ap Some c.in_ok-share.ensures
    ∙ ap (option_map (λ share. share.value)) c.in-Some-peek.ensures
    ∙ found-view (λ share. share.value) c.args.name.now c.self.inside.chunks.entries c.self.inside.chunks.cap c.args.self.now c.self.invariant.0 c.self.view_is

pub returns-clause-ok : goal.returns-clause-ok
returns-clause-ok c = rw c.promote.ensures.entries
    (view-promoted (λ share. share.value) c.args.name.now c.self.inside.chunks.entries c.self.inside.chunks.cap c.args.self.now c.self.invariant.0 c.self.view_is)
