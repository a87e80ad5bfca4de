-- Families of reduced series.
--
-- IsReducedRow r w fixed d n row == the row's coefficients through n are those of the reduced series of its class, times one, and
--                          its series is known through n and no further, and starts at `lowest` or above, or beyond n, as a
--                          full one does
-- IsReducedFamily r w fixed d n f == a family of the web to degree d and through n, each row of which is reduced
-- IsDivisor r w fixed b == b begins with one at exponent 0, and its coefficients as far as it is known are those of class zero,
--                          times one
use Rattle.std.specs.Prelude.{◌≡◌, ℕ, ℤ, pos, ◌+ℤ◌, ◌≤ℤ◌, List}
use Rattle.std.specs.Int.{int_min}
use Rattle.tv_ring.specs.Operations.{Operations}
use Rattle.tv_ring.specs.Sums.{whole_times}
use Rattle.tv_laws_series.specs.Terms.{Terms, upto}
use Rattle.tv_laws_series.specs.Quotients.{IsUnitSeries}
use Rattle.tv_spec_plane.specs.Web.{Web}
use Rattle.tv_spec_boxes.specs.Assignments.{Rows}
use Rattle.tv_spec_boxes.specs.Numbers.{lowest}
use Rattle.tv_spec_series.specs.Families.{Row, Family, coefficient}
use Rattle.tv_spec_series.specs.FamilyOf.{IsFamilyOf}
use Rattle.tv_spec_series.specs.Reduced.{IsReduced, zero_coefficient}

pub record IsReducedRow {A : Type 0} (r : Operations A) (w : Web) (fixed : List Rows) (d : ℕ) (n : ℤ) (row : Row A) : Type 0 where
  pub series : ℤ → ℤ
  pub reduced : IsReduced w fixed n row.class series
  pub values : (i : ℤ) → i ≤ℤ n → coefficient r row.series i ≡ whole_times r (series i)
  pub known : upto row.series ≡ n
  pub low : int_min (lowest w fixed d) (n +ℤ pos 1) ≤ℤ row.series.low

abbrev pub IsReducedFamily : {A : Type 0} → Operations A → Web → List Rows → ℕ → ℤ → Family A → Type 0
IsReducedFamily r w fixed d n f = IsFamilyOf (IsReducedRow r w fixed d n) w d n f

pub record IsDivisor {A : Type 0} (r : Operations A) (w : Web) (fixed : List Rows) (b : Terms A) : Type 0 where
  pub unit : IsUnitSeries r b
  pub values : (j : ℤ) → j ≤ℤ upto b → coefficient r b j ≡ whole_times r (zero_coefficient w fixed j)
