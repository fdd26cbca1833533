-- Stretches that are held one after another.
use Rattle.std.proofs.Common.{◌≡◌, inl, inr, ℕ, List, [], ◌∷◌, ◌++◌, map, refl, sym, ap, subst, ◌∙◌}
use Rattle.std.proofs.lemmas.List.{append-nil, append_assoc, map-append}
use Rattle.std.proofs.lemmas.List.Elements.{All-append, All-cons, All-nil}
use Rattle.std.specs.List.{FoldsTo}
use Rattle.byte_view.specs.Holds.{Held, IsHeld}
use Rattle.chunk_reads.specs.declared.faults.ReadFault.{ReadFault}
use Rattle.chunk_reads.specs.declared.faults.ReadFault.TheVariants.{OutOfMemory}
use Rattle.range_reply.specs.Bodies.{stretch_of}
use Rattle.range_reply.specs.Holding.{AreHeld, AreNotHeld, IsHoldOf, IsNextFault, IsNextHold, IsNoHold}

module _ {H : Type 0} (gave : H → Held → H → Type 0) where
  gives_all : (old mid new : H) (xs ys : List Held) → FoldsTo gave old xs mid → FoldsTo gave mid ys new → FoldsTo gave old (xs ++ ys) new
  gives_all old mid new [] ys first more = subst (λ h. FoldsTo gave h ys new) (sym first) more
  gives_all old mid new (x ∷ xs) ys first more = (first.0, first.1, gives_all first.0 mid new xs ys first.2 more)

  pub held_more : (file : List ℕ) (old mid new : H) (before after : List (ℕ × ℕ)) (xs ys : List Held) → AreHeld gave old file before xs mid
      → AreHeld gave mid file after ys new → AreHeld gave old file (before ++ after) (xs ++ ys) new
  held_more file old mid new before after xs ys first more = record {
    same_file = All-append (λ (h : Held). h.file ≡ file) xs ys first.same_file more.same_file;
    in_order = map-append stretch_of xs ys ∙ ap (λ l. l ++ map stretch_of ys) first.in_order ∙ ap (λ l. before ++ l) more.in_order;
    lawful = All-append IsHeld xs ys first.lawful more.lawful;
    given = gives_all old mid new xs ys first.given more.given;
  }

  held_one : (file : List ℕ) (old new : H) (stretch : ℕ × ℕ) (hold : Held) → hold.file ≡ file → stretch_of hold ≡ stretch → IsHeld hold → gave old hold new
      → AreHeld gave old file (stretch ∷ []) (hold ∷ []) new
  held_one file old new stretch hold same there lawful given = record {
    same_file = All-cons (λ (h : Held). h.file ≡ file) hold [] same (All-nil (λ (h : Held). h.file ≡ file));
    in_order = ap (λ s. s ∷ []) there;
    lawful = All-cons IsHeld hold [] lawful (All-nil IsHeld);
    given = (new, given, refl);
  }

  -- some are held, and some are left
  pub record HeldSoFar (old : H) (file : List ℕ) (holds : List Held) (left stretches : List (ℕ × ℕ)) (now : H) : Type 0 where
    pub done : List (ℕ × ℕ)
    pub all : done ++ left ≡ stretches
    pub held : AreHeld gave old file done holds now

  pub none_yet : (old : H) (file : List ℕ) (holds : List Held) (left stretches : List (ℕ × ℕ)) → holds ≡ [] → left ≡ stretches → HeldSoFar old file holds left stretches old
  none_yet old file holds left stretches none all = record {
    done = [];
    all = all;
    held = subst (λ hs. AreHeld gave old file [] hs old) (sym none) (record {
      same_file = All-nil (λ (h : Held). h.file ≡ file);
      in_order = refl;
      lawful = All-nil IsHeld;
      given = refl;
    });
  }

  pub all_held : (old : H) (file : List ℕ) (holds : List Held) (left stretches : List (ℕ × ℕ)) (now : H) → HeldSoFar old file holds left stretches now → left ≡ []
      → AreHeld gave old file stretches holds now
  all_held old file holds left stretches now so none =
      subst (λ l. AreHeld gave old file l holds now) (sym (append-nil so.done) ∙ ap (λ l. so.done ++ l) (sym none) ∙ so.all) so.held

  module _ (old : H) (file : List ℕ) (holds : List Held) (left rest stretches : List (ℕ × ℕ)) (now : H) (stretch : ℕ × ℕ) (next : left ≡ stretch ∷ rest)
      (so : HeldSoFar old file holds left stretches now) where
    longer : (hold : Held) (new : H) → IsHoldOf gave now file stretch hold new → HeldSoFar old file (holds ++ hold ∷ []) rest stretches new
    longer hold new h = record {
      done = so.done ++ stretch ∷ [];
      all = append_assoc so.done (stretch ∷ []) rest ∙ ap (λ l. so.done ++ l) (sym next) ∙ so.all;
      held = held_more file old now new so.done (stretch ∷ []) holds (hold ∷ []) so.held (held_one file now new stretch hold h.0 h.1 h.2 h.3);
    }

    pub one_more : (after : List Held) (new : H) → IsNextHold gave now file stretch holds after new → HeldSoFar old file after rest stretches new
    one_more after new h = subst (λ hs. HeldSoFar old file hs rest stretches new) (sym h.1) (longer h.0 new h.2)

    pub no_more : (failed : H → List ℕ → ℕ → ℕ → ReadFault → H → Type 0) (why : ReadFault) (new : H) → IsNextFault gave failed now file stretch why new
        → AreNotHeld gave failed old file stretches why new
    no_more failed why new (inl fault) = (so.done, left, holds, now, sym so.all, so.held, inl (stretch, rest, next, fault))
    no_more failed why new (inr (inl fault)) = (so.done, left, holds, now, sym so.all, so.held, inr fault)
    no_more failed why new (inr (inr fault)) =
        let h = fault.1 in
        let after = longer h.0 new h.1 in
        (after.done, rest, holds ++ h.0 ∷ [], new, sym after.all, after.held, inr (fault.0, refl))

  module _ (failed : H → List ℕ → ℕ → ℕ → ReadFault → H → Type 0) (file : List ℕ) (old new : H) (why : ReadFault) where
    -- all were held, and there was no memory then
    pub no_room : (stretches : List (ℕ × ℕ)) (holds : List Held) → AreHeld gave old file stretches holds new → why ≡ OutOfMemory → AreNotHeld gave failed old file stretches why new
    no_room stretches holds held is = (stretches, [], holds, new, sym (append-nil stretches), held, inr (is, refl))

  -- nothing is held
  pub nothing_held : (file : List ℕ) (old : H) (stretches : List (ℕ × ℕ)) → stretches ≡ [] → AreHeld gave old file stretches [] old
  nothing_held file old stretches none = subst (λ l. AreHeld gave old file l [] old) (sym none) (record {
    same_file = All-nil (λ (h : Held). h.file ≡ file);
    in_order = refl;
    lawful = All-nil IsHeld;
    given = refl;
  })

  -- a stretch can't be held alone
  pub not_alone : (failed : H → List ℕ → ℕ → ℕ → ReadFault → H → Type 0) (old : H) (file : List ℕ) (stretch : ℕ × ℕ) (why : ReadFault) (new : H)
      → IsNoHold failed old file stretch why new → AreNotHeld gave failed old file (stretch ∷ []) why new
  not_alone failed old file stretch why new (inl fault) = ([], stretch ∷ [], [], old, refl, nothing_held file old [] refl, inl (stretch, [], refl, fault))
  not_alone failed old file stretch why new (inr fault) = ([], stretch ∷ [], [], old, refl, nothing_held file old [] refl, inr fault)
