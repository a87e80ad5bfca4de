-- The classes of listed assignments: how great their entries are, and what is added to them.
use Rattle.std.specs.Prelude.{◌≡◌, Contains, ℕ, zero, suc, ◌+◌, ◌*◌, ◌≤◌, ℤ, pos, ◌+ℤ◌, ◌-ℤ◌, ◌*ℤ◌, List, [], ◌∷◌, length, unsigned_abs}
use Rattle.std.specs.List.{AllByRecursion}
use Rattle.std.proofs.Common.{refl, sym, ap, subst, ◌∙◌, arith, add-mul}
use Rattle.std.proofs.Math.Nat.{mul-le-mul_right}
use Rattle.std.proofs.lemmas.Int.{ints}
use Rattle.tv_lemmas.specs.Sums.{plus}
use Rattle.tv_lemmas.proofs.Members.{all-map, all-onto, all-filter, all-contains, all-members}
use Rattle.tv_spec_plane.specs.declared.records.CompactEdge.{CompactEdge}
use Rattle.tv_spec_plane.specs.Graded.{IsGraded}
use Rattle.tv_spec_plane.specs.Web.{Web, compact, edge_class}
use Rattle.tv_lattice.specs.Limits.{HasCoordinates}
use Rattle.tv_lattice.specs.Classes.{IsEntry}
use Rattle.tv_laws_edges.specs.Rule.{HasRule, HasEdgeRule}
use Rattle.tv_partition.specs.Rows.{size}
use Rattle.tv_degrees.specs.Edges.{IsNormalDegree}
use Rattle.tv_degrees.specs.Grades.{IsHeighted}
use Rattle.tv_degrees.proofs.Bounds.{class_entries-small}
use Rattle.tv_spec_boxes.specs.Assignments.{Rows, Assignment, zeros, times, class_on, class_of, class_difference, assignments}
use Rattle.tv_spec_boxes.proofs.Vectors.{same_vector_tells}
use Rattle.tv_spec_series.specs.Families.{HasPlace}
use Rattle.tv_laws_counts.specs.Ways.{IsListed}
use Rattle.tv_laws_counts.proofs.Degrees.{assignments_listed}
use Rattle.tv_laws_frontier.specs.Frontier.{is_of_state, of_state}
use Rattle.tv_laws_frontier.specs.StateClasses.{HasClass}
use Rattle.tv_laws_frontier.proofs.Crowded.{state-class}
use Rattle.tv_assignment.specs.Size.{cells_of}
use Rattle.tv_assigned_series.proofs.Entries.{product-small}

abbrev AtMost : ℕ → ℤ → Type 0
AtMost m x = unsigned_abs x ≤ m

zeros-small : (m n : ℕ) → AllByRecursion (AtMost m) (zeros n)
zeros-small m zero = tt
zeros-small m (suc n) = (omega arith, zeros-small m n)

plus-small : (p q s : ℕ) → p + q ≤ s → (u v : List ℤ) → AllByRecursion (AtMost p) u → AllByRecursion (AtMost q) v → AllByRecursion (AtMost s) (plus u v)
plus-small p q s h [] v small few = all-onto (AtMost q) (AtMost s) (λ x l. omega arith) v few
plus-small p q s h (x ∷ u) [] small few = (let l = small.0 in omega arith, all-onto (AtMost p) (AtMost s) (λ y l. omega arith) u small.1)
plus-small p q s h (x ∷ u) (y ∷ v) small few = (let k = small.0 in let l = few.0 in omega (arith, ints), plus-small p q s h u v small.1 few.1)

small-on : (w : Web) → AllByRecursion HasCoordinates w.points → (es : List CompactEdge) → AllByRecursion (HasRule w) es → (a : Assignment) → AllByRecursion (AtMost (cells_of a * 402)) (class_on w es a)
small-on w small [] rules a = zeros-small (cells_of a * 402) (length w.points)
small-on w small (e ∷ es) rules [] = zeros-small 0 (length w.points)
small-on w small (e ∷ es) rules (d ∷ a) =
    let edge = all-map IsNormalDegree (AtMost (size d * 402)) (λ x. pos (size d) *ℤ x) (λ x h. product-small (size d) x h) (edge_class w e) (class_entries-small w e small rules.0) in
    let split : (size d + cells_of a) * 402 ≡ size d * 402 + cells_of a * 402 = add-mul (size d) (cells_of a) 402 in
    plus-small (size d * 402) (cells_of a * 402) ((size d + cells_of a) * 402) (omega arith) (times (size d) (edge_class w e)) (class_on w es a) edge (small-on w small es rules.1 a)

pub record IsOfListed (w : Web) (d : ℕ) (v : List ℤ) (a : Assignment) : Type 0 where
  pub among : Contains (assignments w d) a
  pub class : class_of w a ≡ v

pub class-listed : (w : Web) (d t : ℕ) (k : List Rows) (v : List ℤ) → (has : HasClass w d t k v) → IsOfListed w d v has.witness
class-listed w d t k v has =
    all-contains (IsOfListed w d v) (of_state w d t k v) has.witness
    (all-filter (Contains (assignments w d)) (IsOfListed w d v) (is_of_state w t k v) (λ a among on. record { among = among; class = same_vector_tells (class_of w a) v (state-class w t k v a on) }) (assignments w d) (all-members (assignments w d))) has.listed

pub class-small : (w : Web) (d : ℕ) (v : List ℤ) (a : Assignment) → AllByRecursion HasCoordinates w.points → HasEdgeRule w → cells_of a ≤ 24 → class_of w a ≡ v → AllByRecursion (AtMost 10000) v
class-small w d v a small rule few e =
    subst (AllByRecursion (AtMost 10000)) e (all-onto (AtMost (cells_of a * 402)) (AtMost 10000) (λ x h. let most = mul-le-mul_right 402 few in omega arith) (class_of w a) (small-on w small (compact w) rule a))

pub sum-entries : (u v : List ℤ) → AllByRecursion (AtMost 10000) u → AllByRecursion (AtMost 10000) v → AllByRecursion IsEntry (plus u v)
sum-entries u v small few = plus-small 10000 10000 100000000000 (omega arith) u v small few

pub class-place : (w : Web) (d t : ℕ) (k : List Rows) (v : List ℤ) → IsGraded w → IsHeighted w → HasClass w d t k v → HasPlace w.heights (pos d) v
class-place w d t k v graded heighted has =
    let of = class-listed w d t k v has in
    let is : IsListed w d has.witness = all-contains (IsListed w d) (assignments w d) has.witness (assignments_listed w d graded) of.among in
    let P : List ℤ → Type 0 = λ u. HasPlace w.heights (pos d) u in
    subst P of.class (record { entries = is.entries ∙ sym heighted.one_each; positive = is.least; within = is.most })

pub difference-plus : (u c : List ℤ) → length u ≡ length c → class_difference (plus u c) c ≡ u
difference-plus [] [] e = refl
difference-plus [] (y ∷ c) e = absurd (omega arith)
difference-plus (x ∷ u) [] e = absurd (omega arith)
difference-plus (x ∷ u) (y ∷ c) e = let first : (x +ℤ y) -ℤ y ≡ x = omega (arith, ints) in ap (λ z. z ∷ class_difference (plus u c) c) first ∙ ap (λ z. x ∷ z) (difference-plus u c (omega arith))
