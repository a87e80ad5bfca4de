-- Parts whose rows hold the coefficients of Katz's product over integers.
--
-- katz_by_weight hs w is v t == the coefficient of y^n Q^v in Katz's product, with the weight t: (-1)^n times that of q^n Q^v
-- IsKatzLogarithmic hs w D T is v t Bs xs == xs are the parts of the classes Bs for the class v of a degree at most D and weights
--                       through T; all genera are within the slope w; the classes of the integers are among Bs, or of a degree
--                       above that of v
-- CoefficientIsKatz  == the number that degree times is the total of the parts is the coefficient of Katz's product
-- KatzPartsAreExact  == the degree divides that total
-- SizesOfKatzParts   == the sizes of all terms add up to at most degree times Katz's product without signs
use Rattle.std.specs.Prelude.{◌≡◌, ◌⊎◌, Contains, ℕ, ◌<◌, ◌≤◌, ℤ, pos, ◌*ℤ◌, ◌≤ℤ◌, ◌<ℤ◌, unsigned_abs, List, length}
use Rattle.std.specs.List.{AllByRecursion, IsDistinct}
use Rattle.tv_spec_plane.specs.Web.{degree_of}
use Rattle.tv_spec_boxes.specs.Assignments.{same_vector}
use Rattle.tv_spec_katz.specs.Binomials.{power_sign}
use Rattle.tv_spec_katz.specs.Katz.{Integer, factors, katz}
use Rattle.tv_spec_katz.specs.Majorant.{absolute_product}
use Rattle.tv_laws_katz.specs.Weights.{IsWithinSlope}
use Rattle.tv_recurrence.specs.Parts.{Addends, parts_total, parts_size, IsMultiple}
use Rattle.tv_recurrence.specs.Products.{exponent_at, ArePartsOf}

abbrev pub katz_by_weight : List ℤ → ℕ → List Integer → List ℤ → ℕ → ℤ
katz_by_weight hs w is v t = let n = exponent_at hs w v t in power_sign (unsigned_abs n) *ℤ katz hs is v n

pub record IsKatzLogarithmic (hs : List ℤ) (w D T : ℕ) (is : List Integer)
    (v : List ℤ) (t : ℕ) (Bs : List (List ℤ)) (xs : List Addends) : Type 0 where
  pub entries : length v ≡ length hs
  pub within : t ≤ T
  pub degree : degree_of hs v ≤ℤ pos D
  pub slope : AllByRecursion (IsWithinSlope hs w) is
  pub listed : AllByRecursion (λ i. Contains Bs i.class ⊎ (degree_of hs v <ℤ degree_of hs i.class)) is
  pub once : IsDistinct same_vector Bs
  pub parts : ArePartsOf hs w D T (factors hs T is) (katz_by_weight hs w is) v Bs xs

abbrev pub CoefficientIsKatz : Type 0
CoefficientIsKatz =
    (hs : List ℤ) (w D T : ℕ) (is : List Integer) (v : List ℤ) (t : ℕ) (Bs : List (List ℤ)) (xs : List Addends) (d : ℕ) (x : ℤ) →
    IsKatzLogarithmic hs w D T is v t Bs xs → 0 < d → pos d ≡ degree_of hs v → pos d *ℤ x ≡ parts_total t xs →
    x ≡ katz_by_weight hs w is v t

abbrev pub KatzPartsAreExact : Type 0
KatzPartsAreExact =
    (hs : List ℤ) (w D T : ℕ) (is : List Integer) (v : List ℤ) (t : ℕ) (Bs : List (List ℤ)) (xs : List Addends) (d : ℕ) →
    IsKatzLogarithmic hs w D T is v t Bs xs → pos d ≡ degree_of hs v → IsMultiple d (parts_total t xs)

abbrev pub SizesOfKatzParts : Type 0
SizesOfKatzParts =
    (hs : List ℤ) (w D T : ℕ) (is : List Integer) (v : List ℤ) (t : ℕ) (Bs : List (List ℤ)) (xs : List Addends) →
    IsKatzLogarithmic hs w D T is v t Bs xs →
    pos (parts_size t xs) ≤ℤ (degree_of hs v *ℤ absolute_product hs is v (exponent_at hs w v t))
