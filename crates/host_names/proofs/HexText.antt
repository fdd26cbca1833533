-- The digits of what a text spells are the text's own, in lower case.
use Rattle.std.proofs.Common.{◌≡◌, ℕ, zero, suc, ◌+◌, ◌*◌, ◌/◌, ◌%◌, ◌<◌, ◌==◌, nat_lt, Bool, true, ◌&&◌, inl, inr, List, [], ◌∷◌, slice_index, Option, Some, None, Result, Ok, Err, refl, sym, ap, ◌∙◌, arith}
use Rattle.std.proofs.lemmas.Bool.{and_parts, cases_lt, eqb-true, ltb-true}
use Rattle.std.specs.Char.{to_ascii_lowercase}
use Rattle.std.specs.Result.{result_unwrap_or}
use Rattle.std.proofs.lemmas.Str.Ascii.{IsAscii-nil, IsAscii-cons}
use Rattle.std.specs.List.{list_all}
use Rattle.std.specs.Str.{IsAscii, str_to_ascii_lowercase}
use Rattle.hex.specs.Hex.{decode_of, decode_pairs, decode_sized, digit_or_error, hex_digit_value, encode_lower, encode_with, lower_digits, pair_value, value_at, ◌>>=◌}
use Rattle.hex.specs.declared.error.FromHexError.{FromHexError}
use Rattle.hex.proofs.HexLemmas.{decode_sized-ok, decode_sized-twice, decode_of-even}

-- a digit's value is a place of the table, and what is there is the digit in lower case
abbrev agrees : ℕ → Option ℕ → Bool
agrees c None = true
agrees c (Some v) = nat_lt v 16 && slice_index lower_digits v == to_ascii_lowercase c

-- the test of the first n bytes, which computes
abbrev all_agree : ℕ → Bool
all_agree zero = true
all_agree (suc n) = agrees n (hex_digit_value n) && all_agree n

all_agree-at : (n c : ℕ) → all_agree n ≡ true → c < n → agrees c (hex_digit_value c) ≡ true
all_agree-at zero c h lt = absurd (omega arith)
all_agree-at (suc n) c h lt =
    let parts = and_parts (agrees n (hex_digit_value n)) (all_agree n) h in
    elim (cases_lt c n) [
      | inl below ↦ all_agree-at n c parts.1 below
      | inr top ↦ let e : c ≡ n = omega arith in rw e parts.0
    ]

-- a digit is a byte below 128
digit_small : (c v : ℕ) → hex_digit_value c ≡ Some v → c < 128
digit_small c v h = grind (arith)

digit_again : (c v : ℕ) → hex_digit_value c ≡ Some v → (v < 16) × (slice_index lower_digits v ≡ to_ascii_lowercase c)
digit_again c v h =
    let here : agrees c (Some v) ≡ true = rw h at (all_agree-at 128 c refl (digit_small c v h)) in
    let parts = and_parts (nat_lt v 16) (slice_index lower_digits v == to_ascii_lowercase c) here in
    (ltb-true v 16 parts.0, eqb-true _ _ parts.1)

-- the first step of a chain that gives a value gave one
bind_ok : {A B : Type 0} (r : Result A FromHexError) (f : A → Result B FromHexError) (y : B)
    → (r >>= f) ≡ Ok y → (x : A) × (r ≡ Ok x) × (f x ≡ Ok y)
bind_ok (Ok x) f y h = (x, refl, h)
bind_ok (Err e) f y h = cc h

-- the value of a digit that read
digit_read : (c i : ℕ) (o : Option ℕ) (v : ℕ) → digit_or_error c i o ≡ Ok v → o ≡ Some v
digit_read c i (Some w) v h = ap Some (ap (λ (r : Result ℕ FromHexError). result_unwrap_or r 0) h)
digit_read c i None v h = cc h

pair_again : (high low : ℕ) → low < 16 → ((high * 16 + low) / 16 ≡ high) × ((high * 16 + low) % 16 ≡ low)
pair_again high low h = (omega arith, omega arith)

-- the two digits of a byte come before those of the bytes after it
written_pair : (a b high low n : ℕ) (bytes : List ℕ) (digits : List ℕ) → slice_index lower_digits high ≡ a → slice_index lower_digits low ≡ b
    → low < 16 → high * 16 + low ≡ n → encode_lower bytes ≡ digits → encode_lower (n ∷ bytes) ≡ a ∷ b ∷ digits
unfolding encode_with
written_pair a b high low n bytes digits ea eb small e rest =
    let parts = pair_again high low small in
    rw (← e, parts.0, parts.1, ea, eb, rest) refl

pub decode_pairs-again : (i : ℕ) (text bytes : List ℕ) → decode_pairs i text ≡ Ok bytes → encode_lower bytes ≡ str_to_ascii_lowercase text
unfolding decode_pairs encode_with
decode_pairs-again i [] bytes h =
    let e : [] ≡ bytes = ap (λ (r : Result (List ℕ) FromHexError). result_unwrap_or r []) h in
    rw (← e) refl
decode_pairs-again i (a ∷ []) bytes h = cc h
decode_pairs-again i (a ∷ b ∷ rest) bytes h =
    let p0 = bind_ok (pair_value a b i) _ bytes h in
    let p1 = bind_ok (value_at a i) _ p0.0 p0.1 in
    let p2 = bind_ok (value_at b (i + 1)) _ p0.0 p1.2 in
    let p3 = bind_ok (decode_pairs (i + 2) rest) _ bytes p0.2 in
    let ih = decode_pairs-again (i + 2) rest p3.0 p3.1 in
    let e : p0.0 ∷ p3.0 ≡ bytes = ap (λ (r : Result (List ℕ) FromHexError). result_unwrap_or r []) p3.2 in
    let byte : p1.0 * 16 + p2.0 ≡ p0.0 = ap (λ (r : Result ℕ FromHexError). result_unwrap_or r 0) p2.2 in
    let da = digit_again a p1.0 (digit_read a i (hex_digit_value a) p1.0 p1.1) in
    let db = digit_again b p2.0 (digit_read b (i + 1) (hex_digit_value b) p2.0 p2.1) in
    ap encode_lower (sym e) ∙ written_pair _ _ p1.0 p2.0 p0.0 p3.0 _ da.1 db.1 db.0 byte ih

pub decode_sized-again : (text : List ℕ) (n : ℕ) (bytes : List ℕ) → decode_sized text n ≡ Ok bytes → encode_lower bytes ≡ str_to_ascii_lowercase text
decode_sized-again text n bytes h =
    let len = decode_sized-ok text n bytes h in
    let whole : decode_of text ≡ Ok bytes = sym (decode_sized-twice text n len) ∙ h in
    let pairs : decode_pairs 0 text ≡ Ok bytes = sym (decode_of-even text (omega arith)) ∙ whole in
    decode_pairs-again 0 text bytes pairs

all_ascii : (xs : List ℕ) → list_all (λ b. nat_lt b 128) xs ≡ true → IsAscii xs
all_ascii [] h = IsAscii-nil
all_ascii (x ∷ xs) h =
    let parts = and_parts (nat_lt x 128) (list_all (λ b. nat_lt b 128) xs) h in
    IsAscii-cons x xs (ltb-true x 128 parts.0) (all_ascii xs parts.1)

-- the sixteen digits are ASCII
pub IsAscii-lower_digits : IsAscii lower_digits
IsAscii-lower_digits = all_ascii lower_digits refl
