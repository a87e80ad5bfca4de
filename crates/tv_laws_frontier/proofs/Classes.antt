-- The class with diagrams on the new edges is v exactly where the class before is v less that of the new edges.
use Rattle.std.specs.Prelude.{◌≡◌, ℕ, zero, suc, true, ℤ, pos, ◌+ℤ◌, ◌-ℤ◌, List, [], ◌∷◌, length, slice_index_or}
use Rattle.std.proofs.Common.{refl, sym, ap, ◌∙◌, arith}
use Rattle.std.proofs.lemmas.Int.{ints}
use Rattle.tv_spec_plane.specs.declared.records.CompactEdge.{CompactEdge}
use Rattle.tv_spec_plane.specs.Web.{Web, compact}
use Rattle.tv_spec_boxes.specs.Assignments.{Rows, Assignment, class_of, sum_on, class_difference}
use Rattle.tv_spec_boxes.proofs.Vectors.{part_by, at-class_on, length-class_of, length-difference}
use Rattle.tv_spec_partial.specs.Partial.{rests_on}
use Rattle.tv_laws_frontier.specs.Steps.{is_new, put, new_part}
use Rattle.tv_laws_frontier.proofs.Placed.{sum-put}
use Rattle.tv_laws_frontier.proofs.Resting.{rests-bare}

pub entries-same : (u v : List ℤ) → length u ≡ length v → ((k : ℕ) → slice_index_or u k (pos 0) ≡ slice_index_or v k (pos 0)) → u ≡ v
entries-same [] [] e same = refl
entries-same [] (y ∷ v) e same = absurd (omega arith)
entries-same (x ∷ u) [] e same = absurd (omega arith)
entries-same (x ∷ u) (y ∷ v) e same = ap (λ z. z ∷ u) (same 0) ∙ ap (λ r. y ∷ r) (entries-same u v (omega arith) (λ k. same (suc k)))

pub difference-at : (u v : List ℤ) → length u ≡ length v → (k : ℕ) → slice_index_or (class_difference u v) k (pos 0) ≡ slice_index_or u k (pos 0) -ℤ slice_index_or v k (pos 0)
difference-at [] [] e k = omega (arith, ints)
difference-at [] (y ∷ v) e k = absurd (omega arith)
difference-at (x ∷ u) [] e k = absurd (omega arith)
difference-at (x ∷ u) (y ∷ v) e zero = refl
difference-at (x ∷ u) (y ∷ v) e (suc k) = difference-at u v (omega arith) k

pub part-empty : (w : Web) (k : ℕ) (e : CompactEdge) → part_by w k e [] ≡ pos 0
part-empty w k e = omega (arith, ints)

pub class-entry : (w : Web) (t : ℕ) (g : List Rows) (b : Assignment) → length b ≡ length (compact w) → rests_on t (compact w) b ≡ true → (k : ℕ) → slice_index_or (class_of w (put (is_new t) (compact w) g b)) k (pos 0) ≡ slice_index_or (class_of w b) k (pos 0) +ℤ slice_index_or (class_of w (new_part w t g)) k (pos 0)
class-entry w t g b long rests k =
    let whole = at-class_on w (compact w) (put (is_new t) (compact w) g b) k in
    let first = at-class_on w (compact w) b k in
    let added = at-class_on w (compact w) (new_part w t g) k in
    let both = sum-put (is_new t) (part_by w k) (part-empty w k) (compact w) g b long (rests-bare t (compact w) b rests) in
    whole ∙ (both ∙ (ap (λ z. z +ℤ sum_on (part_by w k) (compact w) (new_part w t g)) (sym first) ∙ ap (λ z. slice_index_or (class_of w b) k (pos 0) +ℤ z) (sym added)))

take-off : (x b c : ℤ) → x ≡ b +ℤ c → b ≡ x -ℤ c
take-off x b c e = omega (arith, ints)

put-on : (x b c : ℤ) → b ≡ x -ℤ c → b +ℤ c ≡ x
put-on x b c e = omega (arith, ints)

module _ (w : Web) (t : ℕ) (g : List Rows) (b : Assignment) (v : List ℤ) (long : length b ≡ length (compact w)) (rests : rests_on t (compact w) b ≡ true) where
  pub class-before : class_of w (put (is_new t) (compact w) g b) ≡ v → class_of w b ≡ class_difference v (class_of w (new_part w t g))
  class-before is =
      let size : length v ≡ length w.points = ap length (sym is) ∙ length-class_of w (put (is_new t) (compact w) g b) in
      let c = class_of w (new_part w t g) in
      entries-same (class_of w b) (class_difference v c) (length-class_of w b ∙ (sym size ∙ sym (length-difference v c)))
      (λ k. take-off (slice_index_or v k (pos 0)) (slice_index_or (class_of w b) k (pos 0)) (slice_index_or c k (pos 0)) (ap (λ u. slice_index_or u k (pos 0)) (sym is) ∙ class-entry w t g b long rests k)
      ∙ sym (difference-at v c (size ∙ sym (length-class_of w (new_part w t g))) k))

  pub class-after : class_of w b ≡ class_difference v (class_of w (new_part w t g)) → class_of w (put (is_new t) (compact w) g b) ≡ v
  class-after is =
      let c = class_of w (new_part w t g) in
      let size : length v ≡ length w.points = sym (length-difference v c) ∙ (ap length (sym is) ∙ length-class_of w b) in
      entries-same (class_of w (put (is_new t) (compact w) g b)) v (length-class_of w (put (is_new t) (compact w) g b) ∙ sym size)
      (λ k. class-entry w t g b long rests k ∙ put-on (slice_index_or v k (pos 0)) (slice_index_or (class_of w b) k (pos 0)) (slice_index_or c k (pos 0)) (ap (λ u. slice_index_or u k (pos 0)) is ∙ difference-at v c (size ∙ sym (length-class_of w (new_part w t g))) k))
