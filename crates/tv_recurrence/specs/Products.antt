-- Parts whose rows hold the coefficients of a product of factors, each at its weight.
--
-- row_at rows j      == the row j, empty past the last one
-- class_after j v B  == v - B - .. - B, with B taken off j times
-- exponent_at hs w v t == the exponent of the class v with the weight t; at_weight hs w v t, the place
-- product_by_weight hs w fs v t == the coefficient of the product at that place
-- power_by powers s  == the sum of the powers at the step s
-- same_step f g      == the steps are equal
-- IsPartOf hs w D T fs R v B x == x is the part of the class B for the class v, where R u s is the coefficient of the class u at
--                       the weight s: the degree of B; at each step s through T the power that the factors of B with that
--                       weight have together; and the rows of the coefficients of v - B, v - 2 B, .. through the weight T
-- ArePartsOf hs w D T fs R v Bs xs == so for each of the classes Bs, in order
-- IsLogarithmic hs w D T fs v t Bs xs == so of the product, and Bs are all classes that the recurrence needs at v, which has a
--                       degree of at most D, and at the weight t
-- CoefficientIsProduct == the number that degree times is the total of the parts is the coefficient of the product
-- PartsAreExact      == the degree divides that total
-- SizesOfParts       == the sizes of all terms add up to at most degree times the product without signs
use Rattle.std.specs.Prelude.{◌≡◌, ℕ, zero, suc, ◌<◌, ◌≤◌, ℤ, pos, ◌+ℤ◌, ◌-ℤ◌, ◌*ℤ◌, ◌≤ℤ◌, List, [], ◌∷◌, length, map, slice_index_or, Bool, nat_eq}
use Rattle.std.specs.List.{IsDistinct}
use Rattle.tv_ring.specs.Whole.{wholes}
use Rattle.tv_ring.specs.Sums.{at}
use Rattle.tv_lemmas.specs.Sums.{total}
use Rattle.tv_spec_plane.specs.Web.{degree_of}
use Rattle.tv_spec_katz.specs.Places.{Place, place, class_difference}
use Rattle.tv_spec_katz.specs.Product.{Factor, product}
use Rattle.tv_spec_katz.specs.Majorant.{without_sign}
use Rattle.tv_laws_katz.specs.Logarithm.{when, begins_at}
use Rattle.tv_laws_katz.specs.Gathered.{power_in, IsGathered}
use Rattle.tv_recurrence.specs.declared.part.Power.{Power}
use Rattle.tv_recurrence.specs.Parts.{Addends, parts_total, parts_size, IsMultiple}

abbrev pub row_at : List (List ℤ) → ℕ → List ℤ
row_at rows j = slice_index_or rows j []

abbrev pub class_after : ℕ → List ℤ → List ℤ → List ℤ
class_after zero v B = v
class_after (suc j) v B = class_after j (class_difference v B) B

abbrev pub exponent_at : List ℤ → ℕ → List ℤ → ℕ → ℤ
exponent_at hs w v t = pos t -ℤ (pos w *ℤ degree_of hs v)

abbrev pub at_weight : List ℤ → ℕ → List ℤ → ℕ → Place
at_weight hs w v t = place hs v (exponent_at hs w v t)

abbrev pub product_by_weight : List ℤ → ℕ → List Factor → List ℤ → ℕ → ℤ
product_by_weight hs w fs v t = product fs (at_weight hs w v t)

abbrev pub power_by : List Power → ℕ → ℤ
power_by powers s = total (λ f. when (nat_eq f.step s) f.power) powers

abbrev pub same_step : Power → Power → Bool
same_step f g = nat_eq f.step g.step

pub record IsPartOf (hs : List ℤ) (w D T : ℕ) (fs : List Factor)
    (R : List ℤ → ℕ → ℤ) (v B : List ℤ) (x : Addends) : Type 0 where
  pub entries : length B ≡ length hs
  pub degree : pos x.degree ≡ degree_of hs B
  pub powers : (s : ℕ) → s ≤ T → power_by x.powers s ≡ power_in fs B (begins_at hs w B +ℤ pos s)
  pub once : IsDistinct same_step x.powers
  pub count : length x.rows ≤ D
  pub rows : (j s : ℕ) → j < D → s ≤ T → at wholes (row_at x.rows j) s ≡ R (class_after (suc j) v B) s

abbrev pub ArePartsOf : List ℤ → ℕ → ℕ → ℕ → List Factor →
    (List ℤ → ℕ → ℤ) → List ℤ → List (List ℤ) → List Addends → Type 0
ArePartsOf hs w D T fs R v [] [] = Unit {0}
ArePartsOf hs w D T fs R v [] (x ∷ xs) = ⊥
ArePartsOf hs w D T fs R v (B ∷ Bs) [] = ⊥
ArePartsOf hs w D T fs R v (B ∷ Bs) (x ∷ xs) = IsPartOf hs w D T fs R v B x × ArePartsOf hs w D T fs R v Bs xs

pub record IsLogarithmic (hs : List ℤ) (w D T : ℕ) (fs : List Factor)
    (v : List ℤ) (t : ℕ) (Bs : List (List ℤ)) (xs : List Addends) : Type 0 where
  pub entries : length v ≡ length hs
  pub within : t ≤ T
  pub gathered : IsGathered hs w D T fs (at_weight hs w v t) Bs
  pub parts : ArePartsOf hs w D T fs (product_by_weight hs w fs) v Bs xs

abbrev pub CoefficientIsProduct : Type 0
CoefficientIsProduct =
    (hs : List ℤ) (w D T : ℕ) (fs : List Factor) (v : List ℤ) (t : ℕ) (Bs : List (List ℤ)) (xs : List Addends) (d : ℕ) (x : ℤ) →
    IsLogarithmic hs w D T fs v t Bs xs → 0 < d → pos d ≡ degree_of hs v → pos d *ℤ x ≡ parts_total t xs →
    x ≡ product_by_weight hs w fs v t

abbrev pub PartsAreExact : Type 0
PartsAreExact =
    (hs : List ℤ) (w D T : ℕ) (fs : List Factor) (v : List ℤ) (t : ℕ) (Bs : List (List ℤ)) (xs : List Addends) (d : ℕ) →
    IsLogarithmic hs w D T fs v t Bs xs → pos d ≡ degree_of hs v → IsMultiple d (parts_total t xs)

abbrev pub SizesOfParts : Type 0
SizesOfParts =
    (hs : List ℤ) (w D T : ℕ) (fs : List Factor) (v : List ℤ) (t : ℕ) (Bs : List (List ℤ)) (xs : List Addends) →
    IsLogarithmic hs w D T fs v t Bs xs →
    pos (parts_size t xs) ≤ℤ (degree_of hs v *ℤ product_by_weight hs w (map without_sign fs) v t)
