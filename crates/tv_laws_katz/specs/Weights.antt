-- Degrees and weights of factors, and what a larger number of factors changes in Katz's product, as laws.
--
-- IsRising f       == the place of the factor has a degree of at least 1
-- weight w p       == exponent + w * degree
-- IsHeavy w f      == the place of the factor has a weight of at least 0
-- IsWithinSlope hs w i == the class of the integer has a degree of at least 1, and its genus is at most w * degree + 1
-- KatzIsProduct    == Katz's product is the one over the factors of genus 0 with j up to any J of at least the weight
-- LargerFactors    == it is that for every J of at least its bound
-- VanishesBySlope  == where all genera are within a slope w, it is 0 at weights below 0
-- UnitBelowOne     == at degrees of at most 0 it is 1 at class zero and exponent 0, and else 0
-- IsSumClosed hs D S i == the class of the integer has an entry for each height and a degree of at least 1, and the test S of
--                     classes passes a class of degree at most D where it passes that class less the integer's
-- VanishesElsewhere == it is 0 at classes that fail a test which passes class zero and all sums with the integers' classes
use Rattle.std.specs.Prelude.{◌≡◌, ℕ, ◌≤◌, Bool, true, false, ℤ, pos, ◌+ℤ◌, ◌*ℤ◌, ◌≤ℤ◌, ◌<ℤ◌, unsigned_abs, List, length}
use Rattle.std.specs.List.{AllByRecursion}
use Rattle.tv_spec_plane.specs.Web.{degree_of}
use Rattle.tv_spec_katz.specs.Binomials.{power_sign}
use Rattle.tv_spec_katz.specs.Places.{Place, place, class_difference, is_zero_class, unit}
use Rattle.tv_spec_katz.specs.Product.{Factor, product}
use Rattle.tv_spec_katz.specs.Katz.{Integer, factors, factor_bound, katz}
use Rattle.tv_laws_katz.specs.Further.{IsPositive}

abbrev pub IsRising : Factor → Type 0
IsRising f = pos 1 ≤ℤ f.at.degree

abbrev pub weight : ℕ → Place → ℤ
weight w p = p.exponent +ℤ (pos w *ℤ p.degree)

abbrev pub IsHeavy : ℕ → Factor → Type 0
IsHeavy w f = pos 0 ≤ℤ weight w f.at

pub record IsWithinSlope (hs : List ℤ) (w : ℕ) (i : Integer) : Type 0 where
  pub positive : IsPositive hs i
  pub slope : pos i.genus ≤ℤ ((pos w *ℤ degree_of hs i.class) +ℤ pos 1)

abbrev pub KatzIsProduct : Type 0
KatzIsProduct =
    (hs : List ℤ) (w : ℕ) (is : List Integer) (v : List ℤ) (n : ℤ) (J : ℕ) → AllByRecursion (IsWithinSlope hs w) is →
    weight w (place hs v n) ≤ℤ pos J → katz hs is v n ≡ power_sign (unsigned_abs n) *ℤ product (factors hs J is) (place hs v n)

abbrev pub LargerFactors : Type 0
LargerFactors =
    (hs : List ℤ) (is : List Integer) (v : List ℤ) (n : ℤ) (J : ℕ) → AllByRecursion (IsPositive hs) is →
    factor_bound hs is v n ≤ J → katz hs is v n ≡ power_sign (unsigned_abs n) *ℤ product (factors hs J is) (place hs v n)

abbrev pub VanishesBySlope : Type 0
VanishesBySlope =
    (hs : List ℤ) (w : ℕ) (is : List Integer) (v : List ℤ) (n : ℤ) → AllByRecursion (IsWithinSlope hs w) is →
    weight w (place hs v n) <ℤ pos 0 → katz hs is v n ≡ pos 0

abbrev pub UnitBelowOne : Type 0
UnitBelowOne =
    (hs : List ℤ) (is : List Integer) (v : List ℤ) (n : ℤ) → degree_of hs v ≤ℤ pos 0 → katz hs is v n ≡ unit (place hs v n)

pub record IsSumClosed (hs : List ℤ) (D : ℕ) (S : List ℤ → Bool) (i : Integer) : Type 0 where
  pub entries : length i.class ≡ length hs
  pub positive : IsPositive hs i
  pub sums : (v : List ℤ) → length v ≡ length hs → degree_of hs v ≤ℤ pos D → S (class_difference v i.class) ≡ true → S v ≡ true

abbrev pub VanishesElsewhere : Type 0
VanishesElsewhere =
    (hs : List ℤ) (D : ℕ) (S : List ℤ → Bool) (is : List Integer) (v : List ℤ) (n : ℤ) →
    ((u : List ℤ) → length u ≡ length hs → is_zero_class u ≡ true → S u ≡ true) → AllByRecursion (IsSumClosed hs D S) is →
    length v ≡ length hs → degree_of hs v ≤ℤ pos D → S v ≡ false → katz hs is v n ≡ pos 0
