-- The line of class zero, before any class is read.
--
-- zero-read         its product without integers is 1, and it adds no powers
use Rattle.std.specs.Prelude.{◌≡◌, ℕ, zero, suc, ℤ, pos, List, [], ◌∷◌, length}
use Rattle.std.specs.List.{IsDistinct}
use Rattle.std.proofs.Common.{refl, sym, arith, ◌∙◌}
use Rattle.std.proofs.Math.IntN.{*ℤ-zero}
use Rattle.std.proofs.lemmas.Int.{ints}
use Rattle.tv_ring.specs.Whole.{wholes}
use Rattle.tv_ring.specs.Sums.{at}
use Rattle.tv_spec_boxes.specs.Assignments.{zeros}
use Rattle.tv_spec_boxes.proofs.Vectors.{length-zeros}
use Rattle.tv_spec_boxes.proofs.OneCornerCrowd.{degree_zero}
use Rattle.tv_spec_katz.specs.Katz.{katz}
use Rattle.tv_spec_katz.specs.Places.{place}
use Rattle.tv_spec_katz.specs.Binomials.{power_sign}
use Rattle.tv_laws_katz.specs.Gathered.{power_in}
use Rattle.tv_laws_katz.proofs.Elsewhere.{unit_below_one}
use Rattle.tv_laws_katz.proofs.Units.{unit-none}
use Rattle.tv_laws_integers.proofs.Elsewhere.{katz-zero_unit}
use Rattle.tv_recurrence.specs.KatzParts.{katz_by_weight}
use Rattle.tv_recurrence.specs.Products.{exponent_at}
use Rattle.tv_class_parts.specs.Tables.{IsReadClass}

module _ (hs : List ℤ) (w : ℕ) where
  abbrev z : List ℤ
  z = zeros (length hs)

  exponent-is : (t : ℕ) → exponent_at hs w z t ≡ pos t
  exponent-is t = rw (degree_zero hs (length hs), *ℤ-zero (pos w)) (omega (arith, ints))

  katz-none : (t : ℕ) → katz hs [] z (pos (suc t)) ≡ pos 0
  katz-none t =
      let low = degree_zero hs (length hs) in
      unit_below_one hs [] z (pos (suc t)) (omega (arith, ints)) ∙
      unit-none (place hs z (pos (suc t))) (λ is. let zero_is = is.exponent in absurd (omega (arith, ints)))

  coefficient-zero : (t : ℕ) → at wholes (pos 1 ∷ []) t ≡ katz_by_weight hs w [] z t
  unfolding at
  coefficient-zero zero = rw (exponent-is 0) (rw (katz-zero_unit hs [] (length hs)) refl)
  coefficient-zero (suc t) = rw (exponent-is (suc t)) (rw (katz-none t) (sym (*ℤ-zero (power_sign (suc t)))))

  pub zero-read : (T : ℕ) →
      IsReadClass hs w T [] (record { class = zeros (length hs); degree = 0; row = pos 1 ∷ []; powers = [] })
  unfolding power_in IsDistinct
  zero-read T = record {
    entries = length-zeros (length hs);
    degree = sym (degree_zero hs (length hs));
    coefficients = λ t h. coefficient-zero t;
    factors = λ s h. refl;
    once = tt;
  }
