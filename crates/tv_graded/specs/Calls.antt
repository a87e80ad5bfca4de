-- What a family keeps, and when a sum into a class or a quotient is too wide.
--
-- IsHeld IsValue r f          == f is a family, and each height is at most 1,000,000 in absolute value
-- IsAddedWide r v s f n       == v is there, and the sizes at n of its series and of s add up to more than the limit
-- OnWideClass fault P         == P holds of the class and the exponent of a fault that is Wide
-- IsRowWide r z x v n         == x is the row of v, and the quotient of its series by z is too wide at n
-- IsAmongWide r z rows v n    == so it is for one of the rows
-- IsDividedWide r z f v n     == v is there, and the quotient of its series by z is too wide at n
use Rattle.std.specs.Prelude.{◌≡◌, ℤ, List, Some, Contains, ⊤}
use Rattle.std.specs.List.{AllByRecursion}
use Rattle.tv_ring.specs.Operations.{Operations}
use Rattle.tv_laws_series.specs.Terms.{Terms}
use Rattle.tv_laurent.specs.SeriesCalls.{IsSumWide}
use Rattle.tv_laurent.specs.QuotientCalls.{IsQuotientWide}
use Rattle.tv_lattice.specs.Limits.{IsHeight}
use Rattle.tv_spec_series.specs.Families.{Row, Family, find, IsFamily}
use Rattle.tv_graded.specs.declared.fault.GradedFault.{GradedFault}
use Rattle.tv_graded.specs.declared.fault.GradedFault.TheVariants.{Wide, Memory}

pub record IsHeld {A : Type 0} (IsValue : A → Type 0) (r : Operations A) (f : Family A) : Type 0 where
  pub family : IsFamily IsValue r f
  pub heights : AllByRecursion IsHeight f.heights

pub record IsAddedWide {A : Type 0} (r : Operations A) (v : List ℤ) (s : Terms A) (f : Family A) (n : ℤ) : Type 0 where
  pub row : Row A
  pub found : find v f.rows ≡ Some row
  pub wide : IsSumWide r row.series s n

abbrev pub OnWideClass : GradedFault → (List ℤ → ℤ → Type 0) → Type 0
OnWideClass (Wide v n) P = P v n
OnWideClass Memory P = ⊤

pub record IsRowWide {A : Type 0} (r : Operations A) (z : Terms A) (x : Row A) (v : List ℤ) (n : ℤ) : Type 0 where
  pub class : x.class ≡ v
  pub wide : IsQuotientWide r x.series z n

pub record IsAmongWide {A : Type 0} (r : Operations A) (z : Terms A) (rows : List (Row A)) (v : List ℤ) (n : ℤ) : Type 0 where
  pub row : Row A
  pub among : Contains rows row
  pub here : IsRowWide r z row v n

pub record IsDividedWide {A : Type 0} (r : Operations A) (z : Terms A) (f : Family A) (v : List ℤ) (n : ℤ) : Type 0 where
  pub row : Row A
  pub found : find v f.rows ≡ Some row
  pub wide : IsQuotientWide r row.series z n
