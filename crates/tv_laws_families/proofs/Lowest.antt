-- Below `lowest` a class has no configurations.
use Rattle.std.proofs.Common.{◌≡◌, ℕ, ap, ◌∙◌, arith}
use Rattle.std.specs.Prelude.{Contains, pos, ◌*ℤ◌, filter}
use Rattle.std.specs.List.{AllByRecursion}
use Rattle.std.proofs.lemmas.Int.{ints}
use Rattle.tv_lemmas.specs.Sums.{total}
use Rattle.tv_spec_boxes.specs.Assignments.{class_of, assignments, same_vector}
use Rattle.tv_laws_counts.specs.Ways.{assignment_coefficient}
use Rattle.tv_lemmas.proofs.Members.{all-filter, all-members}
use Rattle.tv_laws_counts.proofs.Bounds.{starts_above, none_below_start}
use Rattle.tv_laws_counts.proofs.Degrees.{assignments_by_degree}
use Rattle.tv_lemmas.proofs.Sums.{total-alike}
use Rattle.tv_laws_counts.proofs.SignedCounts.{signed_count_is}
use Rattle.tv_laws_families.specs.Laws.{NothingBelow}

times-zero : (k : ℕ) → pos 0 *ℤ pos k ≡ pos 0
times-zero k = omega (arith, ints)

pub nothing_below : NothingBelow
nothing_below w fixed d v n graded diagrams within below =
    let each : AllByRecursion (λ a. assignment_coefficient w fixed a n ≡ pos 0) (filter (λ a. same_vector (class_of w a) v) (assignments w d)) =
    all-filter (Contains (assignments w d)) (λ a. assignment_coefficient w fixed a n ≡ pos 0) (λ a. same_vector (class_of w a) v)
    (λ a h p. none_below_start w fixed a n (let s = starts_above w fixed d a h in omega (arith, ints))) (assignments w d) (all-members (assignments w d)) in
    signed_count_is w fixed v n diagrams
    ∙ (ap (total (λ a. assignment_coefficient w fixed a n)) (assignments_by_degree w d v graded within)
    ∙ (total-alike (λ a. assignment_coefficient w fixed a n) (pos 0) (filter (λ a. same_vector (class_of w a) v) (assignments w d)) each ∙ times-zero _))
