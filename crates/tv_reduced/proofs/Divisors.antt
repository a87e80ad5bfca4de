-- The series of class zero, counted from exponent 0, divides.
use Rattle.std.proofs.Common.{◌≡◌, ℕ, ◌+◌, ◌≤◌, refl, sym, ap, ◌∙◌, arith}
use Rattle.std.specs.Prelude.{ℤ, pos, negsuc, ◌≤ℤ◌}
use Rattle.std.proofs.lemmas.Int.{ints}
use Rattle.tv_ring.specs.Operations.{Operations, RingLaws}
use Rattle.tv_ring.specs.Sums.{at, whole_times}
use Rattle.tv_ring.proofs.Times.{times-none, times-one, whole_times-pos}
use Rattle.tv_laws_series.specs.Terms.{Terms, above, upto, listed}
use Rattle.tv_laws_series.proofs.Exponents.{above_is}
use Rattle.tv_laws_series.proofs.Listed.{length-listed, at-listed}
use Rattle.tv_spec_plane.specs.Web.{Web}
use Rattle.tv_spec_plane.specs.Graded.{IsGraded}
use Rattle.tv_spec_boxes.specs.Assignments.{no_legs}
use Rattle.tv_spec_series.specs.Families.{coefficient}
use Rattle.tv_spec_series.specs.Reduced.{zero_coefficient}
use Rattle.tv_laws_series.proofs.Coefficients.{coefficient_below, coefficient_at}
use Rattle.tv_spec_series.specs.ReducedFamilies.{IsDivisor}
use Rattle.tv_laws_families.proofs.ZeroClass.{begins_with_one}
use Rattle.tv_reduced.specs.Divisors.{counted, from_zero}

pub counted_is : {A : Type 0} (r : Operations A) (s : Terms A) (j : ℕ) → counted r s j ≡ coefficient r s (pos j)
unfolding counted
counted_is r s j = refl

module _ {A : Type 0} {IsValue : A → Type 0} {r : Operations A} (laws : RingLaws IsValue r) (w : Web) (graded : IsGraded w) (s : Terms A) (k : ℕ) (counts : (i : ℤ) → i ≤ℤ pos k → coefficient r s i ≡ whole_times r (zero_coefficient w (no_legs w) i)) where
  pub from_zero-upto : upto (from_zero r s (k + 1)) ≡ pos k
  from_zero-upto = let l = length-listed (counted r s) (k + 1) in omega (arith, ints)

  at_place : (j : ℕ) → j ≤ k → at r (listed (counted r s) (k + 1)) j ≡ whole_times r (zero_coefficient w (no_legs w) (pos j))
  at_place j h = at-listed r (counted r s) (k + 1) j (omega arith) ∙ (counted_is r s j ∙ counts (pos j) (omega (arith, ints)))

  values : (j : ℤ) → j ≤ℤ upto (from_zero r s (k + 1)) → coefficient r (from_zero r s (k + 1)) j ≡ whole_times r (zero_coefficient w (no_legs w) j)
  values (pos j) h =
      let known = from_zero-upto in
      let here : above (pos 0) (pos j) ≡ j = omega (arith, ints, above_is (pos 0) (pos j)) in
      coefficient_at r (from_zero r s (k + 1)) (pos j) (omega (arith, ints)) ∙ (ap (at r (listed (counted r s) (k + 1))) here ∙ at_place j (omega (arith, ints)))
  values (negsuc j) h =
      let none = (begins_with_one w graded).none (negsuc j) (omega (arith, ints)) in
      coefficient_below r (from_zero r s (k + 1)) (negsuc j) (omega (arith, ints)) ∙ sym (ap (whole_times r) none ∙ (whole_times-pos r 0 ∙ times-none r))

  pub is_divisor : IsDivisor r w (no_legs w) (from_zero r s (k + 1))
  is_divisor = record {
    unit = record {
      low = refl;
      known = let known = from_zero-upto in omega (arith, ints);
      unit = at_place 0 (omega arith) ∙ (ap (whole_times r) (begins_with_one w graded).unit ∙ (whole_times-pos r 1 ∙ times-one laws));
    };
    values = values;
  }
