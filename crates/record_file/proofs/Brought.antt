-- A file of version 1 that is brought over.
use Rattle.std.proofs.Common.{◌≡◌, ◌⊎◌, ℕ, ◌+◌, ◌-◌, List, [], ◌∷◌, ◌++◌, length, take, drop, inl, inr, refl, sym, ◌∙◌, ap, subst, arith, append_assoc, length-append}
use Rattle.std.proofs.lemmas.List.{nil_from_length, take_at}
use Rattle.record_file.specs.Frames.{opened, records, before, after}
use Rattle.record_file.specs.Pairs.{MayFollow, MayLead}
use Rattle.record_file.specs.Slots.{IsInUse, IsReplacing, old_header, new_header, version_2}
use Rattle.record_file.proofs.OneWalk.{opened_with}

-- how long the files are up to the gate behind some bodies
old_length : (bodies : List (List ℕ)) → length (opened old_header bodies) ≡ 8 + length (records bodies)
unfolding opened
old_length bodies =
    let size : length (1 ∷ (old_header ++ records bodies)) ≡ 8 + length (records bodies) = omega (arith, length-append old_header (records bodies)) in
    size

new_length : (bodies : List (List ℕ)) → length (opened new_header bodies) ≡ 16 + length (records bodies)
unfolding opened
new_length bodies =
    let size : length (1 ∷ (new_header ++ records bodies)) ≡ 16 + length (records bodies) = omega (arith, length-append new_header (records bodies)) in
    size

pub moved_gate : (bodies : List (List ℕ)) (gate moved : ℕ) → gate ≡ length (opened old_header bodies) → moved ≡ gate + 8 → moved ≡ length (opened new_header bodies)
moved_gate bodies gate moved at is = omega (arith, at, is, old_length bodies, new_length bodies)

behind_old : (rest : List ℕ) → drop 8 (1 ∷ (old_header ++ rest)) ≡ rest
behind_old rest = refl

-- the records of the old file behind the new header
pub brought : (bodies : List (List ℕ)) (rest file text : List ℕ) (gate size : ℕ) → gate ≡ length (opened old_header bodies) → file ≡ opened old_header bodies ++ rest → size ≡ gate - 8 → text ≡ (new_header ++ take size (drop 8 file)) ++ 0 ∷ [] → 1 ∷ text ≡ opened new_header bodies ++ 0 ∷ []
brought bodies rest file text gate size at is size_is text_is =
    let there : take size (drop 8 file) ≡ records bodies =
    ap (λ (l : List ℕ). take size (drop 8 l)) (is ∙ opened_with old_header bodies rest) ∙ ap (λ (l : List ℕ). take size l) (behind_old (records bodies ++ rest)) ∙ take_at (records bodies) rest size (omega (arith, at, size_is, old_length bodies)) in
    ap (λ (l : List ℕ). 1 ∷ l) (text_is ∙ ap (λ (l : List ℕ). (new_header ++ l) ++ 0 ∷ []) there ∙ append_assoc new_header (records bodies) (0 ∷ [])) ∙ sym (opened_with new_header bodies (0 ∷ []))

-- a file without records
pub without_records : 1 ∷ (new_header ++ 0 ∷ []) ≡ opened new_header [] ++ 0 ∷ []
unfolding records
without_records = sym (opened_with new_header [] (0 ∷ []))

pub no_bodies : (bodies : List (List ℕ)) (count : ℕ) → count ≡ length bodies → count ≡ 0 → bodies ≡ []
no_bodies bodies count is none = nil_from_length bodies (omega (arith, is, none))

-- it has the bodies of the old one
pub leads : (had bodies : List (List ℕ)) (body file : List ℕ) → (bodies ≡ had) ⊎ (bodies ≡ had ++ body ∷ []) → file ≡ opened new_header bodies ++ 0 ∷ [] → MayLead 1 had body file
leads had bodies body file (inl same) is = record {
  header = new_header;
  is_header = version_2 refl refl;
  holds = before (record { rest = []; is = is ∙ ap (λ (l : List (List ℕ)). opened new_header l ++ 0 ∷ []) same });
}
leads had bodies body file (inr same) is = record {
  header = new_header;
  is_header = version_2 refl refl;
  holds = after (record { rest = []; is = is ∙ ap (λ (l : List (List ℕ)). opened new_header l ++ 0 ∷ []) same });
}

pub follows : (body file : List ℕ) → IsReplacing (opened new_header [] ++ 0 ∷ []) file → MayFollow 0 [] body file
follows body file (inl unused) = inl (inl unused)
follows body file (inr is) = inr (leads [] [] body file (inl refl) is)

pub unused_follows : (body old file : List ℕ) → (IsInUse old → ⊥) → file ≡ old → MayFollow 0 [] body file
unused_follows body old file unused is = inl (inl (subst (λ (l : List ℕ). IsInUse l → ⊥) (sym is) unused))
