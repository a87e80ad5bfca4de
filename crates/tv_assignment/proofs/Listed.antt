-- What each listed assignment has: a diagram for each compact edge, and no more cells in all than the degree.
use Rattle.std.proofs.Common.{◌≡◌, ℕ, zero, suc, ◌+◌, ◌*◌, ◌<◌, ◌≤◌, List, [], ◌∷◌, length, arith, le_trans}
use Rattle.std.specs.Prelude.{Contains}
use Rattle.std.specs.List.{AllByRecursion}
use Rattle.tv_spec_plane.specs.Web.{Web, compact}
use Rattle.tv_partition.specs.Rows.{size}
use Rattle.tv_spec_boxes.specs.Assignments.{Assignment, assignments}
use Rattle.tv_spec_plane.specs.Graded.{IsGraded}
use Rattle.tv_laws_counts.specs.Ways.{IsListed}
use Rattle.tv_lemmas.proofs.Members.{all-contains, all-members, all-onto}
use Rattle.tv_laws_counts.proofs.Choices.{degree_by, choices_are, IsChoice}
use Rattle.tv_laws_counts.proofs.Degrees.{assignments_listed, weights, weights_positive}
use Rattle.tv_assignment.specs.Size.{cells_of, IsOn}

pub listed-one_each : (w : Web) (d : ℕ) (a : Assignment) → IsGraded w → Contains (assignments w d) a → length a ≡ length (compact w)
listed-one_each w d a graded among = let is = all-contains (IsListed w d) (assignments w d) a (assignments_listed w d graded) among in is.one_each

-- where each degree is at least 1 there are no more cells than the degree
cells-by : (n g k m : ℕ) → 0 < g → k ≤ m → n + k ≤ n * g + m
cells-by n zero k m h l = absurd (omega arith)
cells-by n (suc g) k m h l = omega arith

pub cells-few : (gs : List ℕ) (a : Assignment) → AllByRecursion (λ g. 0 < g) gs → length a ≡ length gs → cells_of a ≤ degree_by gs a
cells-few [] [] positive e = omega arith
cells-few [] (rows ∷ a) positive e = absurd (omega arith)
cells-few (g ∷ gs) [] positive e = absurd (omega arith)
cells-few (g ∷ gs) (rows ∷ a) positive e = cells-by (size rows) g (cells_of a) (degree_by gs a) positive.0 (cells-few gs a positive.1 (omega arith))

pub listed-few : (w : Web) (d : ℕ) (a : Assignment) → IsGraded w → Contains (assignments w d) a → cells_of a ≤ d
unfolding assignments
listed-few w d a graded among =
    let is = all-contains (IsChoice (weights w (compact w)) d) (assignments w d) a (choices_are (weights w (compact w)) d) among in
    le_trans (cells-few (weights w (compact w)) a (weights_positive w (compact w) graded) is.one_each) is.within

pub listed-on : (w : Web) (d : ℕ) → IsGraded w → d ≤ 24 → AllByRecursion (IsOn w) (assignments w d)
listed-on w d graded few =
    all-onto (Contains (assignments w d)) (IsOn w) (λ a among. record { one_each = listed-one_each w d a graded among; few = le_trans (listed-few w d a graded among) few }) (assignments w d) (all-members (assignments w d))
