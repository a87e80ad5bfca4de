-- The series of one assignment, and when a number on the way to it is too great.
--
-- signed_times r w fixed a low i == the coefficient of the assignment at the exponent low + i, times one
-- first_exponent w fixed n a == the lesser of its start and n + 1
-- assignment_terms r w fixed n a == the coefficients of the assignment through n, from its start on, or none from n + 1 on
-- with_sign r x z           == x where z is even, else its negative
-- signed r xs first i       == the coefficient of the list at i with the sign of first + i
-- front_times r legs i      == in how many ways i boxes are split over these corners, times one
-- front_terms r legs k      == the series of these numbers, from exponent 0 through k
-- IsCornerFrom r legs k s   == s is the series of the corner with these legs, known through k at least
-- IsFrontBeyond r legs k    == the ways to split some number of boxes, at most k, over some first corners, times the size of
--                              one, exceed the limit
-- IsCornerBeyond r legs k   == so does the count of one of the corners at some number of boxes, at most k
-- IsBeyond r legs k         == one or the other
-- IsTooMany r w fixed n a   == IsBeyond of the corners of the assignment and some number of boxes, at most those left at n
use Rattle.std.specs.Prelude.{◌≡◌, Contains, ℕ, suc, ◌*◌, ◌<◌, ◌≤◌, ◌⊎◌, ℤ, pos, ◌+ℤ◌, ◌≤ℤ◌, List, take, cond, nat_eq}
use Rattle.std.specs.Int.{int_min}
use Rattle.tv_ring.specs.Operations.{Operations, limit}
use Rattle.tv_ring.specs.Sums.{at, times, whole_times}
use Rattle.tv_laws_series.specs.Terms.{Terms, terms, above, listed}
use Rattle.tv_spec_plane.specs.Web.{Web, parity}
use Rattle.tv_cells.specs.declared.legs.Legs.{Legs}
use Rattle.tv_cells.specs.Extras.{count}
use Rattle.tv_vertex.specs.Corners.{corner_terms}
use Rattle.tv_spec_boxes.specs.Assignments.{Rows, Assignment, all_legs}
use Rattle.tv_spec_boxes.specs.Configurations.{boxes_left}
use Rattle.tv_laws_counts.specs.Ways.{corner_ways, start_of, assignment_coefficient}

unfoldable pub signed_times : {A : Type 0} → Operations A → Web → List Rows → Assignment → ℤ → ℕ → A
signed_times r w fixed a low i = whole_times r (assignment_coefficient w fixed a (low +ℤ pos i))

abbrev pub first_exponent : Web → List Rows → ℤ → Assignment → ℤ
first_exponent w fixed n a = int_min (start_of w fixed a) (n +ℤ pos 1)

abbrev pub assignment_terms : {A : Type 0} → Operations A → Web → List Rows → ℤ → Assignment → Terms A
assignment_terms r w fixed n a = terms (first_exponent w fixed n a) (listed (signed_times r w fixed a (first_exponent w fixed n a)) (above (first_exponent w fixed n a) (n +ℤ pos 1)))

abbrev pub with_sign : {A : Type 0} → Operations A → A → ℤ → A
with_sign r x z = cond (nat_eq (parity z) 0) x (r.neg x)

unfoldable pub signed : {A : Type 0} → Operations A → List A → ℤ → ℕ → A
signed r xs first i = with_sign r (at r xs i) (first +ℤ pos i)

unfoldable pub front_times : {A : Type 0} → Operations A → List Legs → ℕ → A
front_times r legs i = times r (corner_ways legs i)

abbrev pub front_terms : {A : Type 0} → Operations A → List Legs → ℕ → Terms A
front_terms r legs k = terms (pos 0) (listed (front_times r legs) (suc k))

abbrev pub IsCornerFrom : {A : Type 0} → Operations A → Legs → ℕ → Terms A → Type 0
IsCornerFrom r legs k s = (j : ℕ) × (k ≤ j) × (s ≡ corner_terms r legs j)

pub record IsFrontBeyond {A : Type 0} (r : Operations A) (legs : List Legs) (k : ℕ) : Type 0 where
  pub corners : ℕ
  pub boxes : ℕ
  pub within : boxes ≤ k
  pub beyond : limit < corner_ways (take corners legs) boxes * r.size r.unit

pub record IsCornerBeyond {A : Type 0} (r : Operations A) (legs : List Legs) (k : ℕ) : Type 0 where
  pub corner : Legs
  pub listed : Contains legs corner
  pub boxes : ℕ
  pub within : boxes ≤ k
  pub beyond : limit < count corner boxes * r.size r.unit

abbrev pub IsBeyond : {A : Type 0} → Operations A → List Legs → ℕ → Type 0
IsBeyond r legs k = IsFrontBeyond r legs k ⊎ IsCornerBeyond r legs k

pub record IsTooMany {A : Type 0} (r : Operations A) (w : Web) (fixed : List Rows) (n : ℤ) (a : Assignment) : Type 0 where
  pub left : ℕ
  pub boxes : pos left ≤ℤ boxes_left w fixed a n
  pub beyond : IsBeyond r (all_legs w a fixed) left
