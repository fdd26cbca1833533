use Rattle.std.proofs.Common.{rules, ◌≡◌, ◌++◌, length, map, take, drop, vec_len, sym, ap, ◌∙◌}
use Rattle.std.proofs.lemmas.Iterator.{items_from_drains}
use Rattle.std.proofs.lemmas.Iterator.Adapters.{YieldsList-from_vec}
use Rattle.std.proofs.lemmas.List.{map-id}
use Rattle.persistent_maps.proofs.writes.replace_chunks.Goals as goal

pub returns-clause-ok : goal.returns-clause-ok
returns-clause-ok g c =
    let chunks = c.args.chunks.now.items in
    let done = c.in_ok-splice.ensures.items in
    let gives = done.2 in
    let ended = done.3 in
    let count : vec_len c.args.written ≡ length c.args.written.items = search rules in
    let all : done.1 ≡ c.args.written.items = sym (map-id done.1) ∙ items_from_drains done.1 (ended.1.0, ended.1.1, λ _. (ended.0, ended.1.2)) (YieldsList-from_vec c.args.written.items gives.0 (gives.1 ∙ count)) in
    done.4 ∙ ap (λ l. take c.args.start chunks ++ (l ++ drop c.args.end chunks)) all
