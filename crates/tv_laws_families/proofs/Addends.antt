-- What of an assignment is added into its class.
use Rattle.std.specs.Prelude.{◌≡◌, ℤ, pos, ◌+ℤ◌, ◌≤ℤ◌, List}
use Rattle.std.specs.Int.{int_min}
use Rattle.tv_ring.specs.Operations.{Operations}
use Rattle.tv_ring.specs.Sums.{whole_times}
use Rattle.tv_laws_series.specs.Terms.{Terms}
use Rattle.tv_spec_plane.specs.Web.{Web}
use Rattle.tv_spec_boxes.specs.Assignments.{Rows, Assignment}
use Rattle.tv_spec_series.specs.Families.{coefficient}
use Rattle.tv_laws_counts.specs.Ways.{start_of, assignment_coefficient}

-- t starts where the assignment starts, or beyond n, and has its coefficients through n, times one
pub record IsTermsOf {A : Type 0} (r : Operations A) (w : Web) (fixed : List Rows) (n : ℤ) (a : Assignment) (t : Terms A) : Type 0 where
  pub low : t.low ≡ int_min (start_of w fixed a) (n +ℤ pos 1)
  pub coefficients : (i : ℤ) → i ≤ℤ n → coefficient r t i ≡ whole_times r (assignment_coefficient w fixed a i)
