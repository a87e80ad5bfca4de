-- Worked values: the integers of the conifold and of local P^2, and families that have none.
use Rattle.std.proofs.Common.{◌≡◌, ◌≢◌, inl, inr, zero, suc, ℤ, pos, negsuc, ◌≤ℤ◌, List, [], ◌∷◌, refl, subst, arith}
use Rattle.std.proofs.lemmas.Int.{ints}
use Rattle.tv_ring.specs.Whole.{wholes}
use Rattle.tv_ring.specs.Sums.{at}
use Rattle.tv_laws_series.specs.Terms.{terms, above}
use Rattle.tv_spec_series.specs.Families.{Family, row, coefficient, coefficient_of, find, comes_before}
use Rattle.tv_spec_katz.specs.Binomials.{choose, binomial, power_at, sum_below}
use Rattle.tv_spec_katz.specs.Places.{difference_by, unit}
use Rattle.tv_spec_katz.specs.Product.{times, product}
use Rattle.tv_spec_katz.specs.Katz.{Integer, katz}
use Rattle.tv_spec_katz.specs.Integers.{integers, candidates}
use Rattle.tv_spec_katz.specs.Relations.{IsNormalized, AreIntegers}
use Rattle.tv_spec_katz.proofs.Samples.{conifold_integer, conifold_series, plane_integers, plane_series}
use Rattle.tv_laws_integers.proofs.Elsewhere.{katz-zero_unit}
use Rattle.tv_laws_integers.proofs.Existence.{only}
use Rattle.tv_laws_integers.proofs.Proved.{integers_are}
use Rattle.tv_spec_katz.proofs.Values.{conifold_integers_are, plane_integers_are}

abbrev zero_class : List ℤ
zero_class = pos 0 ∷ pos 0 ∷ pos 0 ∷ pos 0 ∷ []

-- ---- the conifold: 1

conifold_unit : coefficient_of wholes conifold_series zero_class (pos 0) ≡ pos 1
unfolding find coefficient at above
conifold_unit = refl

conifold_none : (n : ℤ) → n ≤ℤ pos 1 → n ≢ pos 0 → coefficient_of wholes conifold_series zero_class n ≡ pos 0
unfolding find coefficient at above
conifold_none (negsuc n) h other = refl
conifold_none (pos zero) h other = absurd (other refl)
conifold_none (pos (suc zero)) h other = refl
conifold_none (pos (suc (suc n))) h other = absurd (omega (arith, ints))

conifold_normalized : IsNormalized (pos 1) conifold_series
conifold_normalized = record {
  unit = conifold_unit;
  none = conifold_none;
  others = (
    inl refl,
    (
      inr (record { entries = refl; degree = omega (arith, ints) }),
      (inr (record { entries = refl; degree = omega (arith, ints) }), tt),
    ),
  );
}

conifold_integers : AreIntegers 2 conifold_series conifold_integer
conifold_integers = subst (AreIntegers 2 conifold_series) conifold_integers_are (integers_are 2 conifold_series conifold_normalized)

-- ---- local P^2: 3 and -6

plane_unit : coefficient_of wholes plane_series zero_class (pos 0) ≡ pos 1
unfolding find coefficient at above
plane_unit = refl

plane_none : (n : ℤ) → n ≤ℤ pos 1 → n ≢ pos 0 → coefficient_of wholes plane_series zero_class n ≡ pos 0
unfolding find coefficient at above
plane_none (negsuc n) h other = refl
plane_none (pos zero) h other = absurd (other refl)
plane_none (pos (suc zero)) h other = refl
plane_none (pos (suc (suc n))) h other = absurd (omega (arith, ints))

plane_normalized : IsNormalized (pos 1) plane_series
plane_normalized = record {
  unit = plane_unit;
  none = plane_none;
  others = (
    inl refl,
    (
      inr (record { entries = refl; degree = omega (arith, ints) }),
      (inr (record { entries = refl; degree = omega (arith, ints) }), tt),
    ),
  );
}

plane_are : AreIntegers 2 plane_series plane_integers
plane_are = subst (AreIntegers 2 plane_series) plane_integers_are (integers_are 2 plane_series plane_normalized)

-- so neither the lines alone nor both with one sign are its integers
not_without_conics : AreIntegers 2 plane_series
    (record { class = negsuc 2 ∷ pos 1 ∷ pos 1 ∷ pos 1 ∷ []; genus = 0; value = pos 3 } ∷ [])
    → ⊥
not_without_conics is = let e = only 2 plane_series _ plane_integers is plane_are in cc

-- ---- families that have no integers, and how far one is normalized

-- class zero is 2, and q^3 is added to 1
doubled : Family ℤ
doubled = record {
  heights = pos 1 ∷ [];
  top = pos 1;
  upto = pos 1;
  rows = row (pos 0 ∷ [])
      (terms (pos 0) (pos 2 ∷ pos 0 ∷ [])) ∷ [];
}

late : Family ℤ
late = record {
  heights = pos 1 ∷ [];
  top = pos 1;
  upto = pos 3;
  rows = row (pos 0 ∷ [])
      (terms (pos 0) (pos 1 ∷ pos 0 ∷ pos 0 ∷ pos 1 ∷ [])) ∷ [];
}

no_integers : (is : List Integer) → AreIntegers 1 doubled is → ⊥
unfolding doubled find coefficient at above
no_integers is are =
    let two : katz (pos 1 ∷ []) is (pos 0 ∷ []) (pos 0) ≡ pos 2 = are.agrees (pos 0 ∷ []) (pos 0)
    (record { entries = refl; degree = omega (arith, ints); exponent = omega (arith, ints) }) in
    let one = katz-zero_unit (pos 1 ∷ []) is 1 in
    omega (arith, ints)

not_normalized : IsNormalized (pos 1) doubled → ⊥
unfolding doubled find coefficient at above
not_normalized normal = let two : pos 2 ≡ pos 1 = normal.unit in omega (arith, ints)

late_none : (n : ℤ) → n ≤ℤ pos 2 → n ≢ pos 0 → coefficient_of wholes late (pos 0 ∷ []) n ≡ pos 0
unfolding late find coefficient at above
late_none (negsuc n) h other = refl
late_none (pos zero) h other = absurd (other refl)
late_none (pos (suc zero)) h other = refl
late_none (pos (suc (suc zero))) h other = refl
late_none (pos (suc (suc (suc n)))) h other = absurd (omega (arith, ints))

normalized_through_two : IsNormalized (pos 2) late
unfolding late find coefficient at above
normalized_through_two = record { unit = refl; none = late_none; others = (inl refl, tt) }

not_through_three : IsNormalized (pos 3) late → ⊥
unfolding late find coefficient at above
not_through_three normal = let none : pos 1 ≡ pos 0 = normal.none (pos 3) (omega (arith, ints)) (λ e. cc) in omega (arith, ints)
