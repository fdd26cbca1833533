-- A search for a head's end goes on by a byte, and past the bytes of a line of text, which don't change its state.
use Rattle.std.proofs.Common.{◌≡◌, ℕ, zero, suc, ◌+◌, ◌-◌, ◌≤◌, inl, inr, false, List, [], ◌∷◌, ◌++◌, length, length-drop, drop, slice_range, Some, None, refl, sym, ap, ◌∙◌, subst, arith, eqb}
use Rattle.std.proofs.lemmas.Bool.{cases_Bool}
use Rattle.std.proofs.lemmas.List.{drop-drop, drop_all}
use Rattle.std.proofs.lemmas.Slice.{between_to_end}
use Rattle.memchr.specs.Find.{IsFirstByte, Nowhere, Passes, is_byte}
use Rattle.http_wire.specs.declared.scans.State.{State}
use Rattle.http_wire.specs.declared.scans.State.TheVariants.{Text}
use Rattle.http_wire.specs.Scanning.{ScansTo, is_done, rest_from, step_of}

-- so many bytes, none of which is a line feed, are passed over
text_skips : (n : ℕ) (bytes more : List ℕ) → n ≤ length bytes → Nowhere (Passes (is_byte 10) bytes) 0 n
    → rest_from Text (bytes ++ more) ≡ rest_from Text (drop n bytes ++ more)
text_skips zero bytes more within none = refl
text_skips (suc n) [] more within none = refl
text_skips (suc n) (b ∷ bytes) more within none =
    elim (cases_Bool (eqb b 10)) [
      | inl e ↦ absurd (none 0 (omega arith) (omega arith) e)
      | inr other ↦ rw other (text_skips n bytes more (omega (arith, within)) (λ k low high passes. none (suc k) (omega arith) (omega (arith, high)) passes))
    ]

drop_more : (k n : ℕ) (bytes rest : List ℕ) → rest ≡ drop k bytes → k + length rest ≡ length bytes → n ≤ length rest
    → drop n rest ≡ drop (length bytes - length (drop n rest)) bytes
drop_more k n bytes rest is sum within =
    ap (drop n) is ∙ drop-drop n k bytes
    ∙ ap (λ m. drop m bytes) (let len = length-drop n rest in omega (arith, sum, within, len))

-- nothing was looked at yet
pub scans_none : (state : State) (bytes : List ℕ) → ScansTo state bytes state bytes
scans_none state bytes = record {
  within = omega arith;
  is_rest = ap (λ (m : ℕ). drop m bytes) {x = 0} {y = length bytes - length bytes} (omega arith);
  same = λ more. refl;
}

-- it goes on by one byte
pub scans_byte : (begun state : State) (bytes others : List ℕ) (b : ℕ) → ScansTo begun bytes state (b ∷ others) → is_done state ≡ false
    → ScansTo begun bytes (step_of state b) others
scans_byte begun state bytes others b h nd =
    let within = h.within in
    record {
      within = omega (arith, within);
      is_rest = drop_more (length bytes - suc (length others)) 1 bytes (b ∷ others) h.is_rest (omega (arith, within)) (omega arith);
      same = λ more. h.same more ∙ rw nd refl;
    }

-- two searches, the second of which goes on where the first is
pub scans_on : (begun state after : State) (bytes others rest : List ℕ) → ScansTo begun bytes state others → ScansTo state others after rest
    → ScansTo begun bytes after rest
scans_on begun state after bytes others rest h more =
    let first = h.within in
    let second = more.within in
    let is = more.is_rest in
    record {
      within = omega (arith, first, second);
      is_rest = is ∙ drop_more (length bytes - length others) (length others - length rest) bytes others h.is_rest (omega (arith, first)) (omega (arith, second))
          ∙ ap (λ r. drop (length bytes - length r) bytes) (sym is);
      same = λ u. h.same u ∙ more.same u;
    }

-- it goes on to the end of a line of text, or through all bytes where there is none
pub scans_text : (bytes : List ℕ) (end : ℕ) → IsFirstByte (is_byte 10) bytes (Some end) → ScansTo Text bytes Text (slice_range bytes end (length bytes))
scans_text bytes end first =
    let high = first.0.high in
    let len = length-drop end bytes in
    subst (ScansTo Text bytes Text) (sym (between_to_end bytes end (length bytes) (omega arith))) (record {
      within = omega (arith, len);
      is_rest = ap (λ (m : ℕ). drop m bytes) {x = end} {y = length bytes - length (drop end bytes)} (omega (arith, len, high));
      same = λ more. text_skips end bytes more (omega (arith, high)) first.0.before;
    })

pub scans_all_text : (bytes : List ℕ) → IsFirstByte (is_byte 10) bytes None → ScansTo Text bytes Text []
scans_all_text bytes none = record {
  within = omega arith;
  is_rest = sym (drop_all (length bytes - 0) bytes (omega arith));
  same = λ more. text_skips (length bytes) bytes more (omega arith) none ∙ ap (λ r. rest_from Text (r ++ more)) (drop_all (length bytes) bytes (omega arith));
}
