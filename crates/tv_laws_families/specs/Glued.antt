-- Families into which the series of some assignments were added, each into its class.
--
-- of_class w v front    == the assignments of class v among those in front
-- class_total w fixed v i front == the sum of their coefficients at i
-- StartsAbove w fixed d n row == the row's series starts at `lowest` or above, or beyond n; so it is 0 below `lowest`
-- IsGlued r w fixed d n front f == the heights are those of the web, the degrees go to d and the exponents to n, the rows
--                          have the classes of the assignments in front, and as coefficients through n these sums, times one
use Rattle.std.specs.Prelude.{◌≡◌, Contains, ℕ, ℤ, pos, ◌+ℤ◌, ◌≤ℤ◌, List, filter}
use Rattle.std.specs.Int.{int_min}
use Rattle.std.specs.List.{AllByRecursion}
use Rattle.tv_lemmas.specs.Sums.{total}
use Rattle.tv_ring.specs.Operations.{Operations}
use Rattle.tv_ring.specs.Sums.{whole_times}
use Rattle.tv_spec_plane.specs.Web.{Web}
use Rattle.tv_spec_boxes.specs.Assignments.{Rows, Assignment, class_of, same_vector}
use Rattle.tv_spec_boxes.specs.Classes.{IsClass}
use Rattle.tv_spec_boxes.specs.Numbers.{lowest}
use Rattle.tv_spec_series.specs.Families.{Row, Family, classes, coefficient_of}
use Rattle.tv_laws_counts.specs.Ways.{assignment_coefficient}

abbrev pub of_class : Web → List ℤ → List Assignment → List Assignment
of_class w v front = filter (λ a. same_vector (class_of w a) v) front

unfoldable pub class_total : Web → List Rows → List ℤ → ℤ → List Assignment → ℤ
class_total w fixed v i front = total (λ a. assignment_coefficient w fixed a i) (of_class w v front)

abbrev pub StartsAbove : {A : Type 0} → Web → List Rows → ℕ → ℤ → Row A → Type 0
StartsAbove w fixed d n row = int_min (lowest w fixed d) (n +ℤ pos 1) ≤ℤ row.series.low

pub record IsGlued {A : Type 0} (r : Operations A) (w : Web) (fixed : List Rows) (d : ℕ) (n : ℤ) (front : List Assignment) (f : Family A) : Type 0 where
  pub heights : f.heights ≡ w.heights
  pub top : f.top ≡ pos d
  pub upto : f.upto ≡ n
  pub each : AllByRecursion (IsClass w d) (classes f.rows)
  pub whole : AllByRecursion (λ a. Contains (classes f.rows) (class_of w a)) front
  pub coefficients : (v : List ℤ) (i : ℤ) → i ≤ℤ n → coefficient_of r f v i ≡ whole_times r (class_total w fixed v i front)
  pub low : AllByRecursion (StartsAbove w fixed d n) f.rows
