-- What is sent, by the bytes that holds show and by those of their file.
use Rattle.std.proofs.Common.{◌≡◌, ℕ, ◌+◌, ◌-◌, List, [], ◌∷◌, ◌++◌, zero, suc, length, map, codes, refl, sym, ap, ◌∙◌, arith, All, append-nil}
use Rattle.std.proofs.lemmas.List.{length-append, nil_from_length, take_all}
use Rattle.std.proofs.lemmas.List.Elements.{All-head, All-tail}
use Rattle.std.specs.List.{concat, flat_map, zip}
use Rattle.byte_view.specs.Cuts.{slice}
use Rattle.byte_view.specs.Holds.{Held, IsHeld}
use Rattle.byte_view.proofs.Wholes.{whole-long}
use Rattle.http_wire.specs.Replies.{range_text}
use Rattle.http_wire.specs.declared.replies.ContentRange.TheVariants.{Of}
use Rattle.range_spec.specs.declared.selection.Choice.{Choice}
use Rattle.range_spec.specs.declared.selection.Choice.TheVariants.{Whole, One, Many, None416}
use Rattle.range_reply.specs.Bodies.{AreFor, body_text, stretch_of, stretches, whole_of}
use Rattle.range_reply.specs.Multipart.{last_line, part_text}
use Rattle.range_reply.specs.Slices.{ArePure, all_meant, shown}
use Rattle.range_reply.proofs.Purity.{shown-pure}

-- ---- as long

both-long : (a b c d : List ℕ) → length a ≡ length c → length b ≡ length d → length (a ++ b) ≡ length (c ++ d)
both-long a b c d e f = length-append a b ∙ ap (λ n. n + length b) e ∙ ap (λ n. length c + n) f ∙ sym (length-append c d)

behind-long : (a b c : List ℕ) → length b ≡ length c → length (a ++ b) ≡ length (a ++ c)
behind-long a b c e = both-long a b a c refl e

joined-long : (holds : List Held) → All IsHeld holds → length (concat (map shown holds)) ≡ length (concat (all_meant holds))
joined-long [] held = refl
joined-long (h ∷ hs) held =
    both-long (shown h) (concat (map shown hs)) (slice h.file h.first h.last) (concat (all_meant hs))
    (whole-long h (All-head IsHeld h hs held)) (joined-long hs (All-tail IsHeld h hs held))

module _ (boundary content_type : List ℕ) (size : ℕ) where
  part-long : (interval : ℕ × ℕ) (one other : List ℕ) → length one ≡ length other
      → length (part_text boundary content_type size (interval, one)) ≡ length (part_text boundary content_type size (interval, other))
  part-long interval one other e =
      let range = range_text (Of interval.0 interval.1 size) in
      let blank : List ℕ → List ℕ = λ bytes. codes "\r\n\r\n" ++ (bytes ++ codes "\r\n") in
      behind-long (codes "--") _ _ (behind-long boundary _ _ (behind-long (codes "\r\nContent-Type: ") _ _ (behind-long content_type _ _
      (behind-long (codes "\r\nContent-Range: ") (range ++ blank one) (range ++ blank other) (behind-long range (blank one) (blank other)
      (behind-long (codes "\r\n\r\n") (one ++ codes "\r\n") (other ++ codes "\r\n") (both-long one (codes "\r\n") other (codes "\r\n") e refl)))))))

  parts-long : (intervals : List (ℕ × ℕ)) (holds : List Held) → All IsHeld holds
      → length (flat_map (part_text boundary content_type size) (zip intervals (map shown holds)))
      ≡ length (flat_map (part_text boundary content_type size) (zip intervals (all_meant holds)))
  parts-long [] holds held = refl
  parts-long (i ∷ is) [] held = refl
  parts-long (i ∷ is) (h ∷ hs) held =
      let bytes = slice h.file h.first h.last in
      both-long (part_text boundary content_type size (i, shown h)) (flat_map (part_text boundary content_type size) (zip is (map shown hs)))
      (part_text boundary content_type size (i, bytes)) (flat_map (part_text boundary content_type size) (zip is (all_meant hs)))
      (part-long i (shown h) bytes (whole-long h (All-head IsHeld h hs held))) (parts-long is hs (All-tail IsHeld h hs held))

  text-long : (holds : List Held) (plan : Choice) → All IsHeld holds
      → length (body_text boundary content_type size plan (map shown holds)) ≡ length (body_text boundary content_type size plan (all_meant holds))
  text-long holds Whole held = joined-long holds held
  text-long holds (One first last) held = joined-long holds held
  text-long holds (Many intervals) held =
      both-long (flat_map (part_text boundary content_type size) (zip intervals (map shown holds))) (last_line boundary)
      (flat_map (part_text boundary content_type size) (zip intervals (all_meant holds))) (last_line boundary)
      (parts-long intervals holds held) refl
  text-long holds None416 held = joined-long holds held

-- ---- of one file

pub slices-of_file : (file : List ℕ) (holds : List Held) → All (λ h. h.file ≡ file) holds → all_meant holds ≡ map (λ s. slice file s.0 s.1) (map stretch_of holds)
slices-of_file file [] same = refl
slices-of_file file (h ∷ hs) same =
    let P = λ (g : Held). g.file ≡ file in
    ap (λ f. slice f h.first h.last ∷ all_meant hs) (All-head P h hs same)
    ∙ ap (λ l. slice file h.first h.last ∷ l) (slices-of_file file hs (All-tail P h hs same))

-- all slices of a whole file are the file
pub whole-slices : (size : ℕ) (file : List ℕ) → length file ≡ size → concat (map (λ s. slice file s.0 s.1) (whole_of size)) ≡ file
whole-slices zero file e = sym (nil_from_length file e)
whole-slices (suc last) file e = append-nil (slice file 0 last) ∙ take_all (last + 1 - 0) file (omega (arith, e))

-- parts are those of the intervals, one after another
pub zipped : (boundary content_type file : List ℕ) (size : ℕ) (intervals : List (ℕ × ℕ))
    → flat_map (λ i. part_text boundary content_type size (i, slice file i.0 i.1)) intervals
    ≡ flat_map (part_text boundary content_type size) (zip intervals (map (λ i. slice file i.0 i.1) intervals))
zipped boundary content_type file size [] = refl
zipped boundary content_type file size (i ∷ is) =
    ap (λ l. part_text boundary content_type size (i, slice file i.0 i.1) ++ l) (zipped boundary content_type file size is)

-- ---- what is sent

module _ (boundary content_type file : List ℕ) (holds : List Held) (plan : Choice) (are : AreFor holds file plan) where
  meant : all_meant holds ≡ map (λ s. slice file s.0 s.1) (stretches (length file) plan)
  meant = slices-of_file file holds are.same_file ∙ ap (map (λ s. slice file s.0 s.1)) are.in_order

  pub sent-long : All IsHeld holds → length (body_text boundary content_type (length file) plan (map shown holds))
      ≡ length (body_text boundary content_type (length file) plan (map (λ s. slice file s.0 s.1) (stretches (length file) plan)))
  sent-long held =
      text-long boundary content_type (length file) holds plan held
      ∙ ap (λ texts. length (body_text boundary content_type (length file) plan texts)) meant

  pub sent-pure : All IsHeld holds → ArePure holds → body_text boundary content_type (length file) plan (map shown holds)
      ≡ body_text boundary content_type (length file) plan (map (λ s. slice file s.0 s.1) (stretches (length file) plan))
  sent-pure held pure = ap (body_text boundary content_type (length file) plan) (shown-pure holds held pure ∙ meant)
