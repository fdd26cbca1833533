-- The order of postings, and that those above a number are side by side.
use Rattle.std.proofs.Common.{◌≡◌, ◌⊎◌, ℕ, ◌<◌, Less, Equal, arith}
use Rattle.std.specs.Cmp.{IsTotalOrder}
use Rattle.std.specs.FinMap.{IsAntisymmetric}
use Rattle.std.proofs.lemmas.Cmp.{on_total, then_total, nat_cmp_total}
use Rattle.std.proofs.lemmas.Bool.Decides.{nat_tests}
use Rattle.persistent_maps.specs.Spans.{StandTogether}
use Rattle.touch_index.specs.declared.postings.Posting.{Posting}
use Rattle.touch_index.specs.Postings.{posting_cmp, is_up_to, is_above}

pub posting_cmp_total : IsTotalOrder posting_cmp
posting_cmp_total = then_total (on_total (λ p. p.key) nat_cmp_total) (on_total (λ p. p.number) nat_cmp_total)

is-less : (a b : Posting) → posting_cmp a b ≡ Less → (a.key < b.key) ⊎ ((a.key ≡ b.key) × (a.number < b.number))
is-less a b e = grind (arith, nat_tests)

is-equal : (a b : Posting) → posting_cmp a b ≡ Equal → (a.key ≡ b.key) × (a.number ≡ b.number)
is-equal a b e = grind (arith, nat_tests)

pub posting_cmp-IsAntisymmetric : IsAntisymmetric posting_cmp
posting_cmp-IsAntisymmetric a b e = let both = is-equal a b e in λ i. record { key = both.0 i; number = both.1 i }

pub above_together : (key n : ℕ) → StandTogether posting_cmp (is_up_to key n) (is_above key n)
above_together key n = record {
  falls = λ a b less before. let less = is-less a b less in grind (arith, nat_tests);
  apart = λ c before. grind (arith, nat_tests);
  first = λ a b less before test. let less = is-less a b less in grind (arith, nat_tests);
}
