-- What holds of a holder before a file is read, and is kept by each hold, holds after it.
use Rattle.std.proofs.Common.{◌≡◌, inl, inr, ℕ, List, [], ◌∷◌, All, sym, subst}
use Rattle.std.proofs.lemmas.List.Elements.{All-append, All-from_recursion, recursion_from_All}
use Rattle.std.specs.List.{AllByRecursion, FoldsTo}
use Rattle.byte_view.specs.Cuts.{IsPure}
use Rattle.byte_view.specs.Holds.{Held, IsHeld}
use Rattle.chunk_reads.specs.declared.faults.ReadFault.{ReadFault}
use Rattle.chunk_reads.specs.declared.faults.ReadFault.TheVariants.{OutOfMemory}
use Rattle.range_spec.specs.declared.selection.Choice.{Choice}
use Rattle.range_reply.specs.Sending.{SentFile}
use Rattle.range_reply.specs.Holding.{AreHeld, AreNotHeld}
use Rattle.range_reply.specs.Sending.{IsExact, IsNotRead, IsRead}

module _ {H : Type 0} (gave : H → Held → H → Type 0) (file : List ℕ) (Inv : H → Type 0)
    (of_gave : (old new : H) (h : Held) → h.file ≡ file → IsHeld h → Inv old → gave old h new → Inv new) where
  -- holds of the file
  abbrev AreOfFile : List Held → Type 0
  AreOfFile holds = AllByRecursion (λ (h : Held). h.file ≡ file) holds × AllByRecursion IsHeld holds

  of_file : (old new : H) (stretches : List (ℕ × ℕ)) (holds : List Held) → AreHeld gave old file stretches holds new → AreOfFile holds
  of_file old new stretches holds are = (recursion_from_All (λ (h : Held). h.file ≡ file) holds are.same_file, recursion_from_All IsHeld holds are.lawful)

  holds_pass : (old new : H) (holds : List Held) → AreOfFile holds → Inv old → FoldsTo gave old holds new → Inv new
  holds_pass old new [] of inv gives = subst Inv gives inv
  holds_pass old new (h ∷ holds) of inv gives = holds_pass gives.0 new holds (of.0.1, of.1.1) (of_gave old gives.0 h of.0.0 of.1.0 inv gives.1) gives.2

  held_passes : (old new : H) (stretches : List (ℕ × ℕ)) (holds : List Held) → Inv old → AreHeld gave old file stretches holds new → Inv new
  held_passes old new stretches holds inv are = holds_pass old new holds (of_file old new stretches holds are) inv are.given

  pub read_passes : (old new : H) (content_type : List ℕ) (plan : Choice) (body : SentFile) → Inv old → IsRead gave old file plan content_type body new → Inv new
  read_passes old new content_type plan body inv is = held_passes is.mid new _ is.more (held_passes old is.mid _ is.holds inv is.held) is.more_held

  -- where it isn't read, this is so of the reason and of what is there then
  module _ (failed : H → List ℕ → ℕ → ℕ → ReadFault → H → Type 0) (Stop : ReadFault → H → Type 0)
      (of_failed : (old new : H) (first last : ℕ) (why : ReadFault) → Inv old → failed old file first last why new → Stop why new)
      (of_none : (new : H) → Inv new → Stop OutOfMemory new) where
    stop_passes : (old new : H) (stretches : List (ℕ × ℕ)) (why : ReadFault) → Inv old → AreNotHeld gave failed old file stretches why new → Stop why new
    stop_passes old new stretches why inv stop =
        let before = held_passes old stop.3 stop.0 stop.2 inv stop.5 in
        elim stop.6 [
          | inl fault ↦ of_failed stop.3 new fault.0.0 fault.0.1 why before fault.3
          | inr none ↦ subst (λ w. Stop w new) (sym none.0) (of_none new (subst Inv (sym none.1) before))
        ]

    pub fault_passes : (old new : H) (plan : Choice) (why : ReadFault) → Inv old → IsNotRead gave failed old file plan why new → Stop why new
    fault_passes old new plan why inv (inl stop) = stop_passes old new _ why inv stop
    fault_passes old new plan why inv (inr later) = stop_passes later.2 new _ why (held_passes old later.2 later.0 later.1 inv later.4) later.6

  -- where the chunks of each hold are those of the file, so is what is sent
  module _ (of_pure : (old new : H) (h : Held) → h.file ≡ file → IsHeld h → Inv old → gave old h new → All (IsPure file) h.chunks) where
    abbrev ArePure : List Held → Type 0
    ArePure holds = AllByRecursion (λ (h : Held). All (IsPure file) h.chunks) holds

    each_pure : (old new : H) (holds : List Held) → AreOfFile holds → Inv old → FoldsTo gave old holds new → ArePure holds
    each_pure old new [] of inv gives = tt
    each_pure old new (h ∷ holds) of inv gives = (
      of_pure old gives.0 h of.0.0 of.1.0 inv gives.1,
      each_pure gives.0 new holds (of.0.1, of.1.1) (of_gave old gives.0 h of.0.0 of.1.0 inv gives.1) gives.2,
    )

    pub read_exact : (old new : H) (content_type : List ℕ) (plan : Choice) (body : SentFile) → Inv old → IsRead gave old file plan content_type body new
        → IsExact file plan content_type body
    read_exact old new content_type plan body inv is =
        let P : Held → Type 0 = λ h. All (IsPure file) h.chunks in
        let first = each_pure old is.mid is.holds (of_file old is.mid _ is.holds is.held) inv is.held.given in
        let later = held_passes old is.mid _ is.holds inv is.held in
        let more = each_pure is.mid new is.more (of_file is.mid new _ is.more is.more_held) later is.more_held.given in
        is.exact (All-append P is.holds is.more (All-from_recursion P is.holds first) (All-from_recursion P is.more more))
