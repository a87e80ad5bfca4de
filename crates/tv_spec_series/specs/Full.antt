-- The full series of every class: the signed counts of its configurations.
--
-- HasCounts r w fixed n row == each coefficient of the row through n is the signed count of its class there, times one
-- IsFullRow r w fixed d n row == and its series is known through n, and starts at `lowest` or above, or beyond n; it is 0 below
--                          `lowest`, which is the least, over the assignments of degree at most d, of the sum of
--                          min(0, edge cost) over the compact edges less the overlap costs
-- IsFull r w fixed d n f == a family of the web to degree d and through n, each row of which is full
use Rattle.std.specs.Prelude.{◌≡◌, ℕ, ℤ, pos, ◌+ℤ◌, ◌≤ℤ◌, List}
use Rattle.std.specs.Int.{int_min}
use Rattle.tv_ring.specs.Operations.{Operations}
use Rattle.tv_ring.specs.Sums.{whole_times}
use Rattle.tv_laws_series.specs.Terms.{upto}
use Rattle.tv_spec_plane.specs.Web.{Web}
use Rattle.tv_spec_boxes.specs.Assignments.{Rows}
use Rattle.tv_spec_boxes.specs.Configurations.{signed_count}
use Rattle.tv_spec_boxes.specs.Numbers.{lowest}
use Rattle.tv_spec_series.specs.Families.{Row, Family, coefficient}
use Rattle.tv_spec_series.specs.FamilyOf.{IsFamilyOf}

abbrev pub HasCounts : {A : Type 0} → Operations A → Web → List Rows → ℤ → Row A → Type 0
HasCounts r w fixed n row = (i : ℤ) → i ≤ℤ n → coefficient r row.series i ≡ whole_times r (signed_count w fixed row.class i)

pub record IsFullRow {A : Type 0} (r : Operations A) (w : Web) (fixed : List Rows) (d : ℕ) (n : ℤ) (row : Row A) : Type 0 where
  pub counts : HasCounts r w fixed n row
  pub known : upto row.series ≡ n
  pub low : int_min (lowest w fixed d) (n +ℤ pos 1) ≤ℤ row.series.low

abbrev pub IsFull : {A : Type 0} → Operations A → Web → List Rows → ℕ → ℤ → Family A → Type 0
IsFull r w fixed d n f = IsFamilyOf (IsFullRow r w fixed d n) w d n f
