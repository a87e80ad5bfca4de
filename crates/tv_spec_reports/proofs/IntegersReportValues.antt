-- The report of the integers of the conifold through degree 2 says what its series and its integers are.
use Rattle.std.proofs.Common.{arith}
use Rattle.std.proofs.lemmas.Int.{ints}
use Rattle.std.specs.Prelude.{◌≡◌, ◌≢◌, ℕ, zero, suc, ℤ, pos, negsuc, ◌≤ℤ◌, List, [], ◌∷◌, map, refl}
use Rattle.std.specs.List.{Contains}
use Rattle.tv_ring.specs.Sums.{at}
use Rattle.tv_ring.specs.Whole.{wholes}
use Rattle.tv_laws_series.specs.Terms.{above}
use Rattle.tv_spec_boxes.specs.Assignments.{zeros}
use Rattle.tv_spec_series.specs.Families.{coefficient_of, coefficient, find, comes_before}
use Rattle.tv_spec_katz.specs.Binomials.{choose, binomial, power_at, sum_below}
use Rattle.tv_spec_katz.specs.Places.{difference_by, unit}
use Rattle.tv_spec_katz.specs.Product.{times, product}
use Rattle.tv_spec_katz.specs.Katz.{Integer, katz}
use Rattle.tv_spec_katz.specs.Integers.{integers, candidates}
use Rattle.tv_spec_katz.proofs.Samples.{conifold_heights, conifold_class, conifold_twice, conifold_series}
use Rattle.tv_spec_text.specs.Reports.{Term, AreTerms}
use Rattle.tv_spec_reports.specs.IntegerLines.{gv_text}
use Rattle.tv_spec_reports.specs.IntegersReport.{integers_of, TellsIntegers}
use Rattle.tv_spec_reports.proofs.Values.{term, conifold_sections}

-- of the integers of local P^2 in degree 3, beside an integer 0 and one of another class: 27 in genus 0, -10 in genus 1
cubic : List ℤ
cubic = negsuc 8 ∷ pos 3 ∷ pos 3 ∷ pos 3 ∷ []

integer : List ℤ → ℕ → ℤ → Integer
integer v g z = record { class = v; genus = g; value = z }

cubic_integers : integers_of cubic (integer cubic 0 (pos 27) ∷ integer cubic 1 (negsuc 9) ∷ integer cubic 2 (pos 0) ∷ integer (negsuc 2 ∷ pos 1 ∷ pos 1 ∷ pos 1 ∷ []) 0 (pos 3) ∷ []) ≡ record { genus = 0; value = pos 27 } ∷ record { genus = 1; value = negsuc 9 } ∷ []
unfolding cubic integer
cubic_integers = refl

abbrev Through : List ℤ → List Term → Type 0
Through v ts = (n : ℤ) → n ≤ℤ pos 5 → coefficient_of wholes conifold_series v n ≢ pos 0 → Contains (map (λ (t : Term). t.exponent) ts) n

whole_zero : Through (zeros 4) (term (pos 0) (pos 1) ∷ [])
unfolding term find coefficient at above
whole_zero (negsuc n) h d = absurd (d refl)
whole_zero (pos zero) h d = (0, omega arith, refl)
whole_zero (pos (suc zero)) h d = absurd (d refl)
whole_zero (pos (suc (suc zero))) h d = absurd (d refl)
whole_zero (pos (suc (suc (suc zero)))) h d = absurd (d refl)
whole_zero (pos (suc (suc (suc (suc zero))))) h d = absurd (d refl)
whole_zero (pos (suc (suc (suc (suc (suc zero)))))) h d = absurd (d refl)
whole_zero (pos (suc (suc (suc (suc (suc (suc n))))))) h d = absurd (omega (arith, ints))

zero_terms : AreTerms (coefficient_of wholes conifold_series (zeros 4)) (pos 5) (term (pos 0) (pos 1) ∷ [])
unfolding term find coefficient at above
zero_terms = record { rises = tt; each = (record { within = omega (arith, ints); value = refl; nonzero = λ e. cc }, tt); whole = whole_zero }

whole_curve : Through conifold_class (term (pos 1) (pos 1) ∷ term (pos 2) (negsuc 1) ∷ term (pos 3) (pos 3) ∷ term (pos 4) (negsuc 3) ∷ term (pos 5) (pos 5) ∷ [])
unfolding term find coefficient at above
whole_curve (negsuc n) h d = absurd (d refl)
whole_curve (pos zero) h d = absurd (d refl)
whole_curve (pos (suc zero)) h d = (0, omega arith, refl)
whole_curve (pos (suc (suc zero))) h d = (1, omega arith, refl)
whole_curve (pos (suc (suc (suc zero)))) h d = (2, omega arith, refl)
whole_curve (pos (suc (suc (suc (suc zero))))) h d = (3, omega arith, refl)
whole_curve (pos (suc (suc (suc (suc (suc zero)))))) h d = (4, omega arith, refl)
whole_curve (pos (suc (suc (suc (suc (suc (suc n))))))) h d = absurd (omega (arith, ints))

curve_terms : AreTerms (coefficient_of wholes conifold_series conifold_class) (pos 5) (term (pos 1) (pos 1) ∷ term (pos 2) (negsuc 1) ∷ term (pos 3) (pos 3) ∷ term (pos 4) (negsuc 3) ∷ term (pos 5) (pos 5) ∷ [])
unfolding term find coefficient at above
curve_terms = record { rises = (omega (arith, ints), (omega (arith, ints), (omega (arith, ints), (omega (arith, ints), tt)))); each = (record { within = omega (arith, ints); value = refl; nonzero = λ e. cc }, (record { within = omega (arith, ints); value = refl; nonzero = λ e. cc }, (record { within = omega (arith, ints); value = refl; nonzero = λ e. cc }, (record { within = omega (arith, ints); value = refl; nonzero = λ e. cc }, (record { within = omega (arith, ints); value = refl; nonzero = λ e. cc }, tt))))); whole = whole_curve }

whole_twice : Through conifold_twice (term (pos 3) (negsuc 1) ∷ term (pos 4) (pos 4) ∷ term (pos 5) (negsuc 9) ∷ [])
unfolding term find coefficient at above
whole_twice (negsuc n) h d = absurd (d refl)
whole_twice (pos zero) h d = absurd (d refl)
whole_twice (pos (suc zero)) h d = absurd (d refl)
whole_twice (pos (suc (suc zero))) h d = absurd (d refl)
whole_twice (pos (suc (suc (suc zero)))) h d = (0, omega arith, refl)
whole_twice (pos (suc (suc (suc (suc zero))))) h d = (1, omega arith, refl)
whole_twice (pos (suc (suc (suc (suc (suc zero)))))) h d = (2, omega arith, refl)
whole_twice (pos (suc (suc (suc (suc (suc (suc n))))))) h d = absurd (omega (arith, ints))

twice_terms : AreTerms (coefficient_of wholes conifold_series conifold_twice) (pos 5) (term (pos 3) (negsuc 1) ∷ term (pos 4) (pos 4) ∷ term (pos 5) (negsuc 9) ∷ [])
unfolding term find coefficient at above
twice_terms = record { rises = (omega (arith, ints), (omega (arith, ints), tt)); each = (record { within = omega (arith, ints); value = refl; nonzero = λ e. cc }, (record { within = omega (arith, ints); value = refl; nonzero = λ e. cc }, (record { within = omega (arith, ints); value = refl; nonzero = λ e. cc }, tt))); whole = whole_twice }

-- its sections tell them, with the integer 1 of the curve, and no other
conifold_tells : TellsIntegers 2 conifold_series (integers 2 conifold_series) (gv_text conifold_heights (pos 2) (pos 5) conifold_sections)
unfolding conifold_sections term integers candidates comes_before find coefficient at above katz product times unit difference_by power_at binomial choose sum_below
conifold_tells = record {
  sections = conifold_sections;
  classes = refl;
  each = (
    record { degree = refl; terms = zero_terms; integers = refl; small = record { terms = (omega arith, tt); integers = tt } },
    (
      record {
        degree = refl;
        terms = curve_terms;
        integers = refl;
        small = record { terms = (omega arith, (omega arith, (omega arith, (omega arith, (omega arith, tt))))); integers = (record { value = omega arith; genus = omega arith }, tt) };
      },
      (record { degree = refl; terms = twice_terms; integers = refl; small = record { terms = (omega arith, (omega arith, (omega arith, tt))); integers = tt } }, tt),
    ),
  );
  printed = refl;
}
