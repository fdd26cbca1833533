-- A file has one list of bodies.
use Rattle.std.proofs.Common.{◌≡◌, ◌≢◌, ℕ, suc, List, [], ◌∷◌, ◌++◌, get_or, drop, refl, sym, ◌∙◌, ap, arith, append_assoc, All}
use Rattle.std.proofs.lemmas.List.{append_cancel_left}
use Rattle.record_file.specs.Frames.{framed, records, opened}
use Rattle.record_file.specs.Walks.{IsShort}
use Rattle.record_file.proofs.NotWhole.{same_frame}

-- the first record and what follows
pub first_record : (body : List ℕ) (bodies : List (List ℕ)) (rest : List ℕ) → records (body ∷ bodies) ++ rest ≡ 1 ∷ (framed body ++ (records bodies ++ rest))
unfolding records
first_record body bodies rest = ap (λ (l : List ℕ). 1 ∷ l) (append_assoc (framed body) (records bodies) rest)

pub no_record : (rest : List ℕ) → records [] ++ rest ≡ rest
unfolding records
no_record rest = refl

pub same_head : (x y : ℕ) (xs ys : List ℕ) → x ∷ xs ≡ y ∷ ys → x ≡ y
same_head x y xs ys e = ap (λ (l : List ℕ). get_or l 0 0) e

pub first_lawful : (P : List ℕ → Type 0) (b : List ℕ) (bs : List (List ℕ)) → All P (b ∷ bs) → P b
first_lawful P b bs all = all 0 b (omega arith)

pub rest_lawful : (P : List ℕ → Type 0) (b : List ℕ) (bs : List (List ℕ)) → All P (b ∷ bs) → All P bs
rest_lawful P b bs all = λ k d low. all (suc k) d (omega (arith, low))

-- the bodies and what follows them are the same
one_list : (xs bs : List (List ℕ)) (g h : ℕ) (r s : List ℕ) → All IsShort xs → All IsShort bs → g ≢ 1 → h ≢ 1 → records xs ++ g ∷ r ≡ records bs ++ h ∷ s → (xs ≡ bs) × (g ∷ r ≡ h ∷ s)
one_list [] [] g h r s few less shut closed same = (refl, sym (no_record (g ∷ r)) ∙ same ∙ no_record (h ∷ s))
one_list [] (b ∷ bs) g h r s few less shut closed same =
    absurd (shut (same_head g 1 r _ (sym (no_record (g ∷ r)) ∙ same ∙ first_record b bs (h ∷ s))))
one_list (a ∷ xs) [] g h r s few less shut closed same =
    absurd (closed (same_head h 1 s _ (sym (no_record (h ∷ s)) ∙ sym same ∙ first_record a xs (g ∷ r))))
one_list (a ∷ xs) (b ∷ bs) g h r s few less shut closed same =
    let frames : framed a ++ (records xs ++ g ∷ r) ≡ framed b ++ (records bs ++ h ∷ s) = ap (drop 1) (sym (first_record a xs (g ∷ r)) ∙ same ∙ first_record b bs (h ∷ s)) in
    let here = same_frame a b (records xs ++ g ∷ r) (records bs ++ h ∷ s) (first_lawful IsShort a xs few) (first_lawful IsShort b bs less) frames in
    let there = one_list xs bs g h r s (rest_lawful IsShort a xs few) (rest_lawful IsShort b bs less) shut closed here.1 in (
      ap (λ (l : List (List ℕ)). a ∷ l) there.0 ∙ ap (λ (x : List ℕ). x ∷ bs) here.0,
      there.1,
    )

module _ (header : List ℕ) where
  pub opened_with : (bodies : List (List ℕ)) (rest : List ℕ) → opened header bodies ++ rest ≡ 1 ∷ (header ++ (records bodies ++ rest))
  unfolding opened
  opened_with bodies rest = ap (λ (l : List ℕ). 1 ∷ l) (append_assoc header (records bodies) rest)

  pub one_opened : (xs bs : List (List ℕ)) (g h : ℕ) (r s : List ℕ) → All IsShort xs → All IsShort bs → g ≢ 1 → h ≢ 1 → opened header xs ++ g ∷ r ≡ opened header bs ++ h ∷ s → (xs ≡ bs) × (g ∷ r ≡ h ∷ s)
  one_opened xs bs g h r s few less shut closed same =
      one_list xs bs g h r s few less shut closed
      (append_cancel_left header (records xs ++ g ∷ r) (records bs ++ h ∷ s) (ap (drop 1) (sym (opened_with xs (g ∷ r)) ∙ same ∙ opened_with bs (h ∷ s))))
