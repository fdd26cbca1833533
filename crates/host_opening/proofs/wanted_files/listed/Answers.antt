use Rattle.std.proofs.Common.{rules, ◌≡◌, ◌∙◌, ◌++◌, ◌∷◌, [], ap, append_assoc, map, sym}
use Rattle.blob_store.specs.declared.openings.Wanted.{Wanted}
use Rattle.host_opening.specs.Needs.{one_wanted}
use Rattle.host_opening.proofs.wanted_files.listed.Goals as goal

pub loop-digest-preserved : goal.loop-digest-preserved
loop-digest-preserved c =
    let one : Wanted = one_wanted (c.in-Some.digest.now, c.in-Some.must.now) in
    let more : c.loop-digest.digest-iterator ≡ (c.in-Some.digest.now, c.in-Some.must.now) ∷ c.next.new.self = search rules in
    let pushed : c.push.new.self.items ≡ c.loop-digest.wanted.items ++ one ∷ [] = search rules in
    ap (λ l. l ++ map one_wanted c.next.new.self) pushed ∙ append_assoc c.loop-digest.wanted.items (one ∷ []) (map one_wanted c.next.new.self)
    ∙ ap (λ l. c.loop-digest.wanted.items ++ map one_wanted l) (sym more) ∙ c.loop-digest.invariant
