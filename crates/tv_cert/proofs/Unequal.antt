-- Where a series and a product in a row differ, exponent after exponent.
--
-- IsComparedTo f v base row n == they have one value at every exponent below n
-- value-below       the product is 0 below the weight 0
-- value-late        above it stands in the row
-- compared-first, compared-next, compared-all  below the first exponent, at one more, and through the last one
-- unequal-here      the first exponent at which they differ
use Rattle.std.specs.Prelude.{◌≡◌, ◌≢◌, ℕ, ℤ, pos, negsuc, ◌+ℤ◌, ◌*ℤ◌, ◌≤ℤ◌, ◌<ℤ◌, unsigned_abs, List}
use Rattle.std.proofs.Common.{refl, sym, ap, arith, ◌∙◌}
use Rattle.std.proofs.lemmas.Int.{ints, by_lt_z}
use Rattle.tv_ring.specs.Whole.{wholes}
use Rattle.tv_ring.specs.Sums.{at}
use Rattle.tv_lemmas.specs.Naturals.{as_natural}
use Rattle.tv_laws_series.specs.Terms.{IsWithin}
use Rattle.tv_spec_series.specs.Families.{Family, coefficient_of}
use Rattle.tv_spec_series.proofs.Order.{int_lt-true, int_lt-false}
use Rattle.tv_spec_katz.specs.Binomials.{power_sign}
use Rattle.tv_cert.specs.declared.differences.Difference.{Difference}
use Rattle.tv_cert.specs.Differences.{value_at, AgreeThrough, IsFirstUnequal}

pub value-below : (base : ℕ) (row : List ℤ) (n : ℤ) → (n +ℤ pos base) <ℤ pos 0 → value_at base row n ≡ pos 0
value-below base row n less = rw (int_lt-true (n +ℤ pos base) (pos 0) less) refl

pub value-late : (base : ℕ) (row : List ℤ) (n : ℤ) → pos 0 ≤ℤ (n +ℤ pos base) →
    value_at base row n ≡ power_sign (unsigned_abs n) *ℤ at wholes row (as_natural (n +ℤ pos base))
value-late base row n least = rw (int_lt-false (n +ℤ pos base) (pos 0) least) refl

pub value-entry : (base : ℕ) (row : List ℤ) (n z : ℤ) → z ≡ n +ℤ pos base → pos 0 ≤ℤ z →
    power_sign (unsigned_abs n) *ℤ at wholes row (unsigned_abs z) ≡ value_at base row n
value-entry base row n z e least =
    let same : unsigned_abs z ≡ as_natural (n +ℤ pos base) = natural z least ∙ ap as_natural e in
    rw same (sym (value-late base row n (omega (arith, ints))))
  where
    natural : (z : ℤ) → pos 0 ≤ℤ z → unsigned_abs z ≡ as_natural z
    natural (pos m) h = refl
    natural (negsuc m) h = absurd (omega (arith, ints))

pub record IsComparedTo (f : Family ℤ) (v : List ℤ) (base : ℕ) (row : List ℤ) (e : ℤ) : Type 0 where
  pub within : IsWithin e
  pub agree : (n : ℤ) → n <ℤ e → coefficient_of wholes f v n ≡ value_at base row n

module _ (f : Family ℤ) (v : List ℤ) (base : ℕ) (row : List ℤ) where
  pub compared-first : (e : ℤ) → IsWithin e → (e +ℤ pos base) ≤ℤ pos 0 →
      ((n : ℤ) → n <ℤ e → coefficient_of wholes f v n ≡ pos 0) → IsComparedTo f v base row e
  compared-first e within least none = record {
    within = within;
    agree = λ n less. none n less ∙ sym (value-below base row n (omega (arith, ints)));
  }

  pub compared-next : (e : ℤ) → e ≤ℤ pos 64 → IsComparedTo f v base row e → coefficient_of wholes f v e ≡ value_at base row e →
      IsComparedTo f v base row (e +ℤ pos 1)
  compared-next e low was here = record {
    within = let w = was.within in omega (arith, ints);
    agree = λ n less. by_lt_z n e (λ before. was.agree n before)
        (λ not_before. let same : n ≡ e = omega (arith, ints) in rw same here);
  }

  pub compared-all : (e N : ℤ) → N <ℤ e → IsComparedTo f v base row e → AgreeThrough f v base row N
  compared-all e N past was n h = was.agree n (omega (arith, ints))

  pub unequal-here : (e : ℤ) → e ≤ℤ f.upto → IsComparedTo f v base row e → (d : Difference) → d.exponent ≡ e →
      d.series ≡ coefficient_of wholes f v e → d.product ≡ value_at base row e → d.series ≢ d.product →
      IsFirstUnequal f v base row d
  unequal-here e within was d same series product differ = record {
    within = rw same within;
    before = λ n less. was.agree n (rw same at less);
    series = series ∙ ap (coefficient_of wholes f v) (sym same);
    product = product ∙ ap (value_at base row) (sym same);
    differ = differ;
  }
