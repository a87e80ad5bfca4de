-- What each assignment of a class has: a diagram for each compact edge, and no more cells than the degree.
use Rattle.std.specs.Prelude.{◌≤◌, ℕ, ℤ, pos, negsuc, ◌≤ℤ◌, List}
use Rattle.std.specs.List.{AllByRecursion}
use Rattle.std.proofs.Common.{arith}
use Rattle.std.proofs.lemmas.Int.{ints}
use Rattle.tv_lemmas.specs.Naturals.{as_natural}
use Rattle.tv_lemmas.proofs.Members.{all-filter}
use Rattle.tv_spec_plane.specs.Web.{Web, degree_of}
use Rattle.tv_spec_plane.specs.Graded.{IsGraded}
use Rattle.tv_spec_boxes.specs.Assignments.{class_of, same_vector, assignments, assignments_of}
use Rattle.tv_assignment.specs.Size.{IsOn}
use Rattle.tv_assignment.proofs.Listed.{listed-on}

natural-few : (z : ℤ) → z ≤ℤ pos 24 → as_natural z ≤ 24
natural-few (pos n) h = omega (arith, ints)
natural-few (negsuc n) h = omega arith

pub assigned-on : (w : Web) (v : List ℤ) → IsGraded w → degree_of w.heights v ≤ℤ pos 24 → AllByRecursion (IsOn w) (assignments_of w v)
assigned-on w v graded low =
    let d : ℕ = as_natural (degree_of w.heights v) in
    all-filter (IsOn w) (IsOn w) (λ a. same_vector (class_of w a) v) (λ a is e. is) (assignments w d) (listed-on w d graded (natural-few (degree_of w.heights v) low))
