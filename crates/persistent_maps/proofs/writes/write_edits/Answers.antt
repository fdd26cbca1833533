use Rattle.std.proofs.Common.{◌≡◌, ◌+◌, ◌-◌, ◌++◌, length, take, drop, subst, sym, ap, ◌∙◌}
use Rattle.std.proofs.lemmas.List.{drop-drop, take_rest}
use Rattle.shared_blocks.specs.Blocks.{joined}
use Rattle.persistent_maps.specs.Edits.{edited_by}
use Rattle.persistent_maps.specs.Maps.{AreBlocks}
use Rattle.persistent_maps.proofs.Filters.{AreBlocks-drop}
use Rattle.persistent_maps.proofs.Replaced.{AreBlocks-replaced, joined-replaced}
use Rattle.persistent_maps.proofs.writes.write_edits.Goals as goal

pub written-requires-clause-sound : goal.written-requires-clause-sound
written-requires-clause-sound g c =
    let chunks = c.args.chunks.now.items in
    let start = c.first_place-start.result in
    subst (AreBlocks g.K.Ord.cmp) (sym (take_rest c.deref.result.now start ∙ ap (drop start) c.deref.ensures.value)) (AreBlocks-drop start chunks c.requires.sound)

pub returns-clause-joined : goal.returns-clause-joined
returns-clause-joined g c =
    let cmp = g.K.Ord.cmp in
    let chunks = c.args.chunks.now.items in
    let edits = c.args.edits.items in
    let start = c.first_place-start.result in
    let count = c.in_ok-written.count in
    let written = c.in_ok-written.written.items in
    let seen = c.as_slice.result.now in
    let from : take (length c.deref.result.now - start) (drop start c.deref.result.now) ≡ drop start chunks = take_rest c.deref.result.now start ∙ ap (drop start) c.deref.ensures.value in
    let run : joined written ++ joined (drop (start + count) chunks) ≡ edited_by cmp (joined (drop start chunks)) edits =
    ap (λ l. joined written ++ joined l) (sym (drop-drop count start chunks)) ∙ ap (λ l. joined written ++ joined (drop count l)) (sym from)
    ∙ c.in_ok-written.ensures.pairs ∙ ap (λ l. edited_by cmp (joined l) edits) from in
    let past : edited_by cmp (joined chunks) edits ≡ joined (take start chunks) ++ edited_by cmp (joined (drop start chunks)) edits =
    subst (λ l. edited_by cmp (joined l) edits ≡ joined (take start l) ++ edited_by cmp (joined (drop start l)) edits) c.as_slice.ensures.value
    (subst (λ e. edited_by cmp (joined seen) e ≡ joined (take start seen) ++ edited_by cmp (joined (drop start seen)) e) c.as_slice-2.ensures.value c.first_place-start.ensures.past) in
    let new = c.replace_chunks.new.chunks.items in
    let pairs = joined-replaced g.met.K.Ord.total chunks written new start (start + count) edits c.in_ok-replace_chunks.ensures.ok run past in
    pairs

pub returns-clause-sound : goal.returns-clause-sound
returns-clause-sound g c =
    let cmp = g.K.Ord.cmp in
    let chunks = c.args.chunks.now.items in
    let edits = c.args.edits.items in
    let start = c.first_place-start.result in
    let count = c.in_ok-written.count in
    let written = c.in_ok-written.written.items in
    let seen = c.as_slice.result.now in
    let from : take (length c.deref.result.now - start) (drop start c.deref.result.now) ≡ drop start chunks = take_rest c.deref.result.now start ∙ ap (drop start) c.deref.ensures.value in
    let run : joined written ++ joined (drop (start + count) chunks) ≡ edited_by cmp (joined (drop start chunks)) edits =
    ap (λ l. joined written ++ joined l) (sym (drop-drop count start chunks)) ∙ ap (λ l. joined written ++ joined (drop count l)) (sym from)
    ∙ c.in_ok-written.ensures.pairs ∙ ap (λ l. edited_by cmp (joined l) edits) from in
    let past : edited_by cmp (joined chunks) edits ≡ joined (take start chunks) ++ edited_by cmp (joined (drop start chunks)) edits =
    subst (λ l. edited_by cmp (joined l) edits ≡ joined (take start l) ++ edited_by cmp (joined (drop start l)) edits) c.as_slice.ensures.value
    (subst (λ e. edited_by cmp (joined seen) e ≡ joined (take start seen) ++ edited_by cmp (joined (drop start seen)) e) c.as_slice-2.ensures.value c.first_place-start.ensures.past) in
    let new = c.replace_chunks.new.chunks.items in
    let pairs = joined-replaced g.met.K.Ord.total chunks written new start (start + count) edits c.in_ok-replace_chunks.ensures.ok run past in
    AreBlocks-replaced g.met.K.Ord.total chunks written new start (start + count) edits c.in_ok-replace_chunks.ensures.ok pairs c.requires.sound c.in_ok-written.ensures.filled
