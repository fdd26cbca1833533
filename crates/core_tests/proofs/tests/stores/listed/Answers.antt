use Rattle.std.proofs.Common.{rules, ◌≡◌, ◌∙◌, ◌++◌, ◌∷◌, [], List, ap, append_assoc, map, sym}
use Rattle.std.proofs.lemmas.List.{map-append}
use Rattle.std.specs.Map.{keys_of}
use Rattle.host_names.specs.declared.digests.Digest.{Digest}
use Rattle.blob_store.specs.declared.openings.Wanted.{Wanted}
use Rattle.core_tests.proofs.tests.stores.listed.Goals as goal

pub loop-digest-preserved : goal.loop-digest-preserved
loop-digest-preserved c =
    let name : Wanted → Digest = λ one. one.digest in
    let one : Wanted = record { digest = c.in-Some.digest.now; must = c.in-Some.must.now } in
    let before = c.loop-digest.wanted.items in
    let left = c.next.new.self in
    let more : c.loop-digest.digest-iterator ≡ (c.in-Some.digest.now, c.in-Some.must.now) ∷ left = search rules in
    let pushed : c.push.new.self.items ≡ before ++ one ∷ [] = search rules in
    ap (λ l. map name l ++ keys_of left) pushed ∙ ap (λ (l : List Digest). l ++ keys_of left) (map-append name before (one ∷ []))
    ∙ append_assoc (map name before) (one.digest ∷ []) (keys_of left)
    ∙ ap (λ l. map name before ++ keys_of l) (sym more) ∙ c.loop-digest.invariant
