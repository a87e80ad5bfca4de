-- The integers that were read off one class, as integers of Katz's product.
--
-- onto v base xs is == the integers `is` with those of the numbers xs that are not 0, at the class v, the last one in front
-- IsAtBase hs w v base == the class v has a degree of at least 1, and with the slope w its exponent 0 has the weight base
-- FirstOrder        == at the class v Katz's product over them is that over the earlier integers less the powers, by weight
-- FirstOrderSizes   == and without signs it is that over the earlier integers with the sizes of the powers
use Rattle.std.specs.Prelude.{◌≡◌, ℕ, ◌+◌, ◌≤◌, ℤ, pos, ◌+ℤ◌, ◌*ℤ◌, ◌≤ℤ◌, List, [], ◌∷◌, length}
use Rattle.std.specs.List.{AllByRecursion}
use Rattle.tv_spec_plane.specs.Web.{degree_of}
use Rattle.tv_spec_katz.specs.Katz.{Integer}
use Rattle.tv_spec_katz.specs.Integers.{with_integer}
use Rattle.tv_spec_katz.specs.Majorant.{absolute_product}
use Rattle.tv_laws_katz.specs.Weights.{IsWithinSlope}
use Rattle.tv_recurrence.specs.KatzParts.{katz_by_weight}
use Rattle.tv_recurrence.specs.Products.{exponent_at}
use Rattle.tv_class_integers.specs.Readings.{genus_at, power_size, product_at}

abbrev pub onto : List ℤ → ℕ → List ℤ → List Integer → List Integer
onto v base [] is = is
onto v base (x ∷ xs) is = with_integer v (genus_at base (length xs)) x (onto v base xs is)

pub record IsAtBase (hs : List ℤ) (w : ℕ) (v : List ℤ) (base : ℕ) : Type 0 where
  pub degree : pos 1 ≤ℤ degree_of hs v
  pub place : pos base ≡ pos w *ℤ degree_of hs v

abbrev pub FirstOrder : Type 0
FirstOrder =
    (hs : List ℤ) (w : ℕ) (v : List ℤ) (base : ℕ) (is : List Integer) (xs : List ℤ) (t : ℕ) → IsAtBase hs w v base →
    AllByRecursion (IsWithinSlope hs w) is → length xs ≤ base + 2 →
    katz_by_weight hs w (onto v base xs is) v t ≡ product_at base (katz_by_weight hs w is v) xs t

abbrev pub FirstOrderSizes : Type 0
FirstOrderSizes =
    (hs : List ℤ) (w : ℕ) (v : List ℤ) (base : ℕ) (is : List Integer) (xs : List ℤ) (t : ℕ) → IsAtBase hs w v base →
    AllByRecursion (IsWithinSlope hs w) is → length xs ≤ base + 2 →
    absolute_product hs (onto v base xs is) v (exponent_at hs w v t) ≡
    absolute_product hs is v (exponent_at hs w v t) +ℤ pos (power_size base xs t)
