use Rattle.std.proofs.Common.{◌≡◌, ◌-◌, ℕ, List, [], ◌∷◌, ◌++◌, take, drop, refl, ◌∙◌, ap}
use Rattle.record_file.specs.Slots.{new_header}
use Rattle.record_file.proofs.Brought.{brought}
use Rattle.record_file.proofs.migrations.text_of.Goals as goal

pub returns-clause-text : goal.returns-clause-text
returns-clause-text g c modelled bodies rest at is =
    let file = g.D.Disk.seen c.args.disk.now in
    let records = take (c.args.gate - 8) (drop 8 file) in
    let front : c.extend_from_slice.new.self.items ≡ new_header = c.in_ok-extend_from_slice.ensures.items ∙ ap (λ (l : List ℕ). l ++ new_header) c.in_ok-text.ensures.items in
    let text : c.extend_from_slice-2.new.self.items ≡ (new_header ++ records) ++ 0 ∷ [] =
    c.in_ok-extend_from_slice-2.ensures.items ∙ ap (λ (l : List ℕ). l ++ 0 ∷ []) ((c.in_ok-read_behind.ensures.bytes modelled).1 ∙ ap (λ (l : List ℕ). l ++ records) front) in
    brought bodies rest file c.extend_from_slice-2.new.self.items c.args.gate (c.args.gate - 8) at is refl text
