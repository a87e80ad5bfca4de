-- A family with the series of every assignment of degree at most d is full, and full families have the same coefficients.
use Rattle.std.proofs.Common.{◌≡◌, ℕ, ℤ, pos, ◌≤ℤ◌, List, [], ◌∷◌, Contains, Option, Some, None, refl, sym, ◌∙◌, ap, subst}
use Rattle.tv_lemmas.specs.Sums.{total}
use Rattle.tv_laws_series.proofs.NormalForm.{bool_cases}
use Rattle.std.specs.List.{AllByRecursion}
use Rattle.tv_ring.specs.Operations.{Operations}
use Rattle.tv_ring.specs.Sums.{whole_times}
use Rattle.tv_spec_plane.specs.Web.{Web, degree_of}
use Rattle.tv_partition.specs.Rows.{IsDiagram}
use Rattle.tv_spec_boxes.specs.Assignments.{Rows, assignments, class_of, same_vector}
use Rattle.tv_spec_boxes.specs.Classes.{IsClass}
use Rattle.tv_spec_boxes.specs.Configurations.{signed_count}
use Rattle.tv_spec_series.specs.Families.{Row, Family, classes, find, series_coefficient, coefficient_of, IsRow, IsFamily}
use Rattle.tv_spec_series.proofs.Order.{same_vector-equal}
use Rattle.tv_spec_series.proofs.Rows.{find-here, find-next, found_class, found_all, all_classes}
use Rattle.tv_spec_series.proofs.Members.{row_found}
use Rattle.tv_spec_plane.specs.Graded.{IsGraded}
use Rattle.tv_laws_counts.specs.Ways.{assignment_coefficient}
use Rattle.tv_laws_counts.proofs.Degrees.{assignments_by_degree}
use Rattle.tv_laws_counts.proofs.SignedCounts.{signed_count_is}
use Rattle.tv_lemmas.proofs.Members.{all-both, all-members, all-contains}
use Rattle.tv_spec_series.specs.Full.{HasCounts, IsFullRow, IsFull}
use Rattle.tv_laws_families.specs.Laws.{FullIsOnly}
use Rattle.tv_laws_families.specs.Glued.{class_total, StartsAbove, IsGlued}
use Rattle.tv_laws_families.proofs.Totals.{class_total_is}

pub class_total-all : (w : Web) (fixed : List Rows) (d : ℕ) (v : List ℤ) (i : ℤ) → IsGraded w → AllByRecursion IsDiagram fixed → degree_of w.heights v ≤ℤ pos d → class_total w fixed v i (assignments w d) ≡ signed_count w fixed v i
class_total-all w fixed d v i graded also h =
    class_total_is w fixed v i (assignments w d)
    ∙ (ap (total (λ a. assignment_coefficient w fixed a i)) (sym (assignments_by_degree w d v graded h))
    ∙ sym (signed_count_is w fixed v i also))

module _ {A : Type 0} {IsValue : A → Type 0} (r : Operations A) (w : Web) (fixed : List Rows) (d : ℕ) (n : ℤ) where
  row-counts : (f : Family A) (x : Row A) → IsGraded w → AllByRecursion IsDiagram fixed → IsFamily IsValue r f → IsGlued r w fixed d n (assignments w d) f → Contains f.rows x → IsRow IsValue r f.heights f.top f.upto x → HasCounts r w fixed n x
  row-counts f x graded also family glued held is i h =
      ap (series_coefficient r i) (sym (row_found f.heights f.rows x family.rises held))
      ∙ (glued.coefficients x.class i h
      ∙ ap (whole_times r) (class_total-all w fixed d x.class i graded also (rw (glued.heights, glued.top) at is.place.within)))

  pub glued-full : (f : Family A) → IsGraded w → AllByRecursion IsDiagram fixed → IsFamily IsValue r f → IsGlued r w fixed d n (assignments w d) f → IsFull r w fixed d n f
  glued-full f graded also family glued = record {
    heights = glued.heights;
    top = glued.top;
    upto = glued.upto;
    classes = record {
      rises = rw glued.heights at family.rises;
      each = glued.each;
      whole = λ v is. let P : List ℤ → Type 0 = λ u. Contains (classes f.rows) u in
          subst P is.same (all-contains (λ a. Contains (classes f.rows) (class_of w a)) (assignments w d) is.witness glued.whole is.listed);
    };
    rows = all-both (λ x. Contains f.rows x × IsRow IsValue r f.heights f.top f.upto x) (StartsAbove w fixed d n) (IsFullRow r w fixed d n)
        (λ x is low. record { counts = row-counts f x graded also family glued is.0 is.1; known = is.1.known ∙ glued.upto; low = low }) f.rows
        (all-both (Contains f.rows) (IsRow IsValue r f.heights f.top f.upto) (λ x. Contains f.rows x × IsRow IsValue r f.heights f.top f.upto x) (λ x held is. (held, is)) f.rows (all-members f.rows) family.rows)
        glued.low;
  }

-- ---- there is one

-- where nothing is found no row has the class
none_found : {A : Type 0} (v : List ℤ) (rows : List (Row A)) → find v rows ≡ None → AllByRecursion (λ u. u ≡ v → ⊥) (classes rows)
none_found v [] e = tt
none_found v (x ∷ rows) e = bool_cases (same_vector x.class v)
    (λ b. let found = find-here v x rows b in absurd (cc))
    (λ b. (λ same. let k = same_vector-equal x.class v same in cc, none_found v rows (sym (find-next v x rows b) ∙ e)))

module _ {A : Type 0} (r : Operations A) (w : Web) (fixed : List Rows) (d : ℕ) (n : ℤ) where
  -- the coefficient of what was found
  found-count : (f : Family A) → IsFull r w fixed d n f → (v : List ℤ) (i : ℤ) → i ≤ℤ n → (x : Row A) → find v f.rows ≡ Some x → coefficient_of r f v i ≡ whole_times r (signed_count w fixed v i)
  found-count f full v i h x e =
      let is : IsFullRow r w fixed d n x = found_all (IsFullRow r w fixed d n) v f.rows x full.rows e in
      ap (series_coefficient r i) e ∙ (is.counts i h ∙ ap (λ u. whole_times r (signed_count w fixed u i)) (found_class v f.rows x e))

  -- a class that one of them has, the other has too
  found-both : (f g : Family A) → IsFull r w fixed d n f → IsFull r w fixed d n g → (v : List ℤ) (x : Row A) → find v f.rows ≡ Some x → find v g.rows ≡ None → ⊥
  found-both f g full full' v x e none =
      let is : IsClass w d x.class = found_all (λ y. IsClass w d y.class) v f.rows x (all_classes (IsClass w d) f.rows full.classes.each) e in
      let held : Contains (classes g.rows) v = full'.classes.whole v (let P : List ℤ → Type 0 = IsClass w d in subst P (found_class v f.rows x e) is) in
      all-contains (λ u. u ≡ v → ⊥) (classes g.rows) v (none_found v g.rows none) held refl

  pub full-only : (f g : Family A) → IsFull r w fixed d n f → IsFull r w fixed d n g → (v : List ℤ) (i : ℤ) → i ≤ℤ n → coefficient_of r f v i ≡ coefficient_of r g v i
  full-only f g full full' v i h = by_found (find v f.rows) (find v g.rows) refl refl
    where
      by_found : (x y : Option (Row A)) → find v f.rows ≡ x → find v g.rows ≡ y → coefficient_of r f v i ≡ coefficient_of r g v i
      by_found None None e e' = ap (series_coefficient r i) e ∙ sym (ap (series_coefficient r i) e')
      by_found None (Some y) e e' = absurd (found-both g f full' full v y e' e)
      by_found (Some x) None e e' = absurd (found-both f g full full' v x e e')
      by_found (Some x) (Some y) e e' = found-count f full v i h x e ∙ sym (found-count g full' v i h y e')

pub full_is_only : {A : Type 0} (r : Operations A) → FullIsOnly r
full_is_only r w fixed d n f g = full-only r w fixed d n f g
