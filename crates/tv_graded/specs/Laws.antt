-- The laws of sums into a class.
--
-- SumsCommute           == the order of two sums does not count
-- AddedHere             == the class has the sum, or the series that was added where it had none, through the family's exponent
-- AddedElsewhere        == every other class has what it had
-- AddedIsFamily         == a family with a sum into a class is a family
-- AddedClasses          == its classes are those of the family, and that class
-- AddedCoefficient      == each coefficient of the class that the family knows grows by that of the series
-- CoefficientsElsewhere == every other class keeps its coefficients
-- RowsAreFound          == each row is what is found of its class
-- CutIsFamily           == a family that is cut after an exponent that it knows is a family
-- CutClasses            == it has the same classes in the same order
-- CutCoefficients       == it has the same coefficients through that exponent
use Rattle.std.specs.Prelude.{◌≡◌, ◌⊎◌, ◌↔◌, ℤ, ◌≤ℤ◌, List, Some, Contains}
use Rattle.tv_ring.specs.Operations.{Operations}
use Rattle.tv_laws_series.specs.Terms.{Terms, IsWithin}
use Rattle.tv_spec_series.specs.Families.{Row, Family, row, classes, coefficient, find, added, cut, with_series, coefficient_of, IsFamily, IsAddend}

abbrev pub SumsCommute : {A : Type 0} → (A → Type 0) → Operations A → Type 0
SumsCommute {A} IsValue r = (f : Family A) (v w : List ℤ) (s t : Terms A) → IsFamily IsValue r f → IsAddend IsValue r f v s
    → IsAddend IsValue r f w t → added r v s (added r w t f) ≡ added r w t (added r v s f)

abbrev pub AddedHere : {A : Type 0} → (A → Type 0) → Operations A → Type 0
AddedHere {A} IsValue r = (f : Family A) (v : List ℤ) (s : Terms A) → IsFamily IsValue r f → IsAddend IsValue r f v s
    → find v (added r v s f).rows ≡ Some (row v (with_series r f.upto s (find v f.rows)))

abbrev pub AddedElsewhere : {A : Type 0} → Operations A → Type 0
AddedElsewhere {A} r = (f : Family A) (u v : List ℤ) (s : Terms A) → (u ≡ v → ⊥) → find u (added r v s f).rows ≡ find u f.rows

abbrev pub AddedIsFamily : {A : Type 0} → (A → Type 0) → Operations A → Type 0
AddedIsFamily {A} IsValue r = (f : Family A) (v : List ℤ) (s : Terms A) → IsFamily IsValue r f → IsAddend IsValue r f v s
    → IsFamily IsValue r (added r v s f)

abbrev pub AddedClasses : {A : Type 0} → Operations A → Type 0
AddedClasses {A} r = (f : Family A) (u v : List ℤ) (s : Terms A) → Contains (classes (added r v s f).rows) u ↔ ((u ≡ v) ⊎ Contains (classes f.rows) u)

abbrev pub AddedCoefficient : {A : Type 0} → (A → Type 0) → Operations A → Type 0
AddedCoefficient {A} IsValue r = (f : Family A) (v : List ℤ) (s : Terms A) (n : ℤ) → IsFamily IsValue r f
    → IsAddend IsValue r f v s → n ≤ℤ f.upto
    → coefficient_of r (added r v s f) v n ≡ r.add (coefficient_of r f v n) (coefficient r s n)

abbrev pub CoefficientsElsewhere : {A : Type 0} → Operations A → Type 0
CoefficientsElsewhere {A} r = (f : Family A) (u v : List ℤ) (s : Terms A) (n : ℤ) → (u ≡ v → ⊥)
    → coefficient_of r (added r v s f) u n ≡ coefficient_of r f u n

abbrev pub RowsAreFound : {A : Type 0} → (A → Type 0) → Operations A → Type 0
RowsAreFound {A} IsValue r = (f : Family A) (x : Row A) → IsFamily IsValue r f → Contains f.rows x → find x.class f.rows ≡ Some x

abbrev pub CutIsFamily : {A : Type 0} → (A → Type 0) → Operations A → Type 0
CutIsFamily {A} IsValue r = (f : Family A) (n : ℤ) → IsFamily IsValue r f → IsWithin n → n ≤ℤ f.upto → IsFamily IsValue r (cut n f)

abbrev pub CutClasses : Type 0 → Type 0
CutClasses A = (f : Family A) (n : ℤ) → classes (cut n f).rows ≡ classes f.rows

abbrev pub CutCoefficients : {A : Type 0} → Operations A → Type 0
CutCoefficients {A} r = (f : Family A) (n : ℤ) (v : List ℤ) (i : ℤ) → i ≤ℤ n → coefficient_of r (cut n f) v i ≡ coefficient_of r f v i
