-- Where a holder is honest at the end, each hold before was honest.
use Rattle.std.specs.Prelude.{IsTrue}
use Rattle.std.proofs.Common.{inl, inr, Bool, ℕ, List, [], ◌∷◌, sym, subst}
use Rattle.std.specs.List.{FoldsTo}
use Rattle.byte_view.specs.Holds.{Held}
use Rattle.chunk_reads.specs.declared.faults.ReadFault.{ReadFault}
use Rattle.range_spec.specs.declared.selection.Choice.{Choice}
use Rattle.range_reply.specs.Holding.{AreHeld, AreNotHeld}
use Rattle.range_reply.specs.Sending.{IsNotRead, IsRead, more_of}
use Rattle.range_reply.specs.Sending.{SentFile}

module _ {H : Type 0} (honest : H → Bool) (gave well : H → Held → H → Type 0)
    (one : (old new : H) (h : Held) → IsTrue (honest new) → gave old h new → IsTrue (honest old) × well old h new) where
  holds_given : (old new : H) (holds : List Held) → IsTrue (honest new) → FoldsTo gave old holds new → IsTrue (honest old) × FoldsTo well old holds new
  holds_given old new [] so is = (subst (λ h. IsTrue (honest h)) (sym is) so, is)
  holds_given old new (h ∷ holds) so is =
      let rest = holds_given is.0 new holds so is.2 in
      let first = one old is.0 h rest.0 is.1 in
      (first.0, (is.0, first.1, rest.1))

  are_held : (old new : H) (file : List ℕ) (stretches : List (ℕ × ℕ)) (holds : List Held) → IsTrue (honest new) → AreHeld gave old file stretches holds new
      → IsTrue (honest old) × AreHeld well old file stretches holds new
  are_held old new file stretches holds so is =
      let all = holds_given old new holds so is.given in
      (all.0, record { same_file = is.same_file; in_order = is.in_order; lawful = is.lawful; given = all.1 })

  pub is_read : (old new : H) (file : List ℕ) (plan : Choice) (content_type : List ℕ) (body : SentFile) → IsTrue (honest new) → IsRead gave old file plan content_type body new
      → IsTrue (honest old) × IsRead well old file plan content_type body new
  is_read old new file plan content_type body so is =
      let more = are_held is.mid new file (more_of _ plan body.boundary) is.more so is.more_held in
      let first = are_held old is.mid file _ is.holds more.0 is.held in
      let all : IsRead well old file plan content_type body new = record {
        holds = is.holds;
        mid = is.mid;
        held = first.1;
        sent = is.sent;
        more = is.more;
        more_held = more.1;
        bytes = is.bytes;
        exact = is.exact;
      } in
      (first.0, all)

  module _ (failed wrong : H → List ℕ → ℕ → ℕ → ReadFault → H → Type 0)
      (none : (old new : H) (file : List ℕ) (first last : ℕ) (why : ReadFault) → IsTrue (honest new) → failed old file first last why new
      → IsTrue (honest old) × wrong old file first last why new) where
    not_held : (old new : H) (file : List ℕ) (stretches : List (ℕ × ℕ)) (why : ReadFault) → IsTrue (honest new) → AreNotHeld gave failed old file stretches why new
        → IsTrue (honest old) × AreNotHeld well wrong old file stretches why new
    not_held old new file stretches why so (before, left, holds, mid, parts, held, inl (stretch, more, next, fails)) =
        let last = none mid new file stretch.0 stretch.1 why so fails in
        let all = are_held old mid file before holds last.0 held in
        (all.0, (before, left, holds, mid, parts, all.1, inl (stretch, more, next, last.1)))
    not_held old new file stretches why so (before, left, holds, mid, parts, held, inr (out, same)) =
        let all = are_held old mid file before holds (subst (λ h. IsTrue (honest h)) same so) held in
        (all.0, (before, left, holds, mid, parts, all.1, inr (out, same)))

    pub not_read : (old new : H) (file : List ℕ) (plan : Choice) (why : ReadFault) → IsTrue (honest new) → IsNotRead gave failed old file plan why new
        → IsTrue (honest old) × IsNotRead well wrong old file plan why new
    not_read old new file plan why so (inl is) =
        let all = not_held old new file _ why so is in
        (all.0, inl all.1)
    not_read old new file plan why so (inr (intervals, holds, mid, many, held, alone, is)) =
        let rest = not_held mid new file _ why so is in
        let all = are_held old mid file intervals holds rest.0 held in
        (all.0, inr (intervals, holds, mid, many, all.1, alone, rest.1))
