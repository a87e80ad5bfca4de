-- A reduced family of a graded web with a height for each point, with all open edges empty, is normalized.
use Rattle.std.proofs.Common.{◌≡◌, ◌⊎◌, inl, inr, Contains, ℕ, ◌≤◌, ℤ, pos, ◌≤ℤ◌, ◌<ℤ◌, unsigned_abs, List, [], ◌∷◌, length, Option, Some, None, refl, sym, ◌∙◌, ap, arith}
use Rattle.std.specs.List.{AllByRecursion}
use Rattle.tv_lemmas.specs.Sums.{sum_of}
use Rattle.tv_lemmas.proofs.Sums.{sum_of-each}
use Rattle.tv_lemmas.proofs.Members.{all-onto, all-both, contains-cases}
use Rattle.tv_ring.specs.Whole.{wholes}
use Rattle.tv_ring.specs.WholeLaws.{whole_laws}
use Rattle.tv_laws_series.proofs.NormalForm.{bool_cases}
use Rattle.tv_spec_plane.specs.declared.records.CompactEdge.{CompactEdge}
use Rattle.tv_spec_plane.specs.Web.{Web, compact, edge_class, degree_of}
use Rattle.tv_spec_plane.specs.Graded.{IsGraded}
use Rattle.tv_spec_boxes.specs.Assignments.{no_legs, zeros, same_vector}
use Rattle.tv_spec_boxes.specs.Classes.{IsClass}
use Rattle.tv_spec_boxes.proofs.Vectors.{length-class_of}
use Rattle.tv_spec_series.specs.Families.{Row, Family, classes, coefficient, coefficient_of, series_coefficient, find}
use Rattle.tv_spec_series.proofs.Order.{same_vector-equal}
use Rattle.tv_spec_series.proofs.Rows.{find-here, find-next, found_class, found_all}
use Rattle.tv_spec_series.specs.ReducedFamilies.{IsReducedFamily}
use Rattle.tv_spec_katz.specs.Relations.{IsPositiveClass, IsNormalized}
use Rattle.tv_laws_families.specs.Laws.{IsOne, AreAtMost, HasReducedClasses}
use Rattle.tv_laws_families.proofs.ReducedClasses.{reduced_classes}

-- some number bounds the entries of the classes of all compact edges
entries_sum : Web → CompactEdge → ℕ
entries_sum w e = sum_of unsigned_abs (edge_class w e)

bound : Web → ℕ
bound w = sum_of (entries_sum w) (compact w)

bounded : (w : Web) → AllByRecursion (λ e. AreAtMost (bound w) (edge_class w e)) (compact w)
unfolding entries_sum bound
bounded w = all-onto (λ e. sum_of unsigned_abs (edge_class w e) ≤ bound w) (λ e. AreAtMost (bound w) (edge_class w e))
    (λ e h. all-onto (λ x. unsigned_abs x ≤ sum_of unsigned_abs (edge_class w e)) (λ x. unsigned_abs x ≤ bound w)
    (λ x k. omega arith) (edge_class w e) (sum_of-each unsigned_abs (edge_class w e)))
    (compact w) (sum_of-each (entries_sum w) (compact w))

-- a class that is there is found
not_lost : (v : List ℤ) (rows : List (Row ℤ)) → Contains (classes rows) v → find v rows ≡ None → ⊥
not_lost v [] there e = let none = there.1 in omega arith
not_lost v (x ∷ rows) there e = bool_cases (same_vector x.class v)
    (λ b. let here = find-here v x rows b in cc)
    (λ b. elim (contains-cases v x.class (classes rows) there) as (λ _. ⊥) [
      | inl same ↦ let t = same_vector-equal x.class v same in cc
      | inr later ↦ not_lost v rows later (sym (find-next v x rows b) ∙ e)
    ])

module _ (w : Web) (d : ℕ) (n : ℤ) (f : Family ℤ) (graded : IsGraded w)
    (each : length w.heights ≡ length w.points) (up : pos 0 ≤ℤ n) (is : IsReducedFamily wholes w (no_legs w) d n f) where
  facts : HasReducedClasses wholes w (bound w) n f
  facts = reduced_classes whole_laws w (bound w) d n f graded (bounded w) is

  one_each : length f.heights ≡ length w.points
  one_each = ap length is.heights ∙ each

  zero_is_one : (x : Row ℤ) → find (zeros (length w.points)) f.rows ≡ Some x → IsOne wholes n x.series
  zero_is_one x e = found_all (λ y. y.class ≡ zeros (length w.points) → IsOne wholes n y.series) (zeros (length w.points))
      f.rows x facts.one e (found_class (zeros (length w.points)) f.rows x e)

  -- what holds of every series that is one holds of that of class zero
  of_zero : (P : ℤ → Type 0) (m : ℤ) → ((x : Row ℤ) → IsOne wholes n x.series → P (coefficient wholes x.series m))
      → P (coefficient_of wholes f (zeros (length w.points)) m)
  of_zero P m h = found (find (zeros (length w.points)) f.rows) refl
    where
      found : (x : Option (Row ℤ)) → find (zeros (length w.points)) f.rows ≡ x → P (series_coefficient wholes m x)
      found None e = absurd (not_lost (zeros (length w.points)) f.rows facts.zero e)
      found (Some x) e = h x (zero_is_one x e)

  class_of_row : (v : List ℤ) → IsClass w d v → (v ≡ zeros (length w.points)) ⊎ (pos 0 <ℤ degree_of w.heights v)
      → (v ≡ zeros (length f.heights)) ⊎ IsPositiveClass f.heights v
  class_of_row v class (inl none) = inl (none ∙ ap zeros (sym one_each))
  class_of_row v class (inr positive) =
      let entries : length v ≡ length f.heights = ap length (sym class.same) ∙ (length-class_of w class.witness ∙ sym one_each) in
      inr (record { entries = entries; degree = rw is.heights positive })

  pub reduced_normalized : IsNormalized n f
  reduced_normalized = record {
    unit = rw one_each (of_zero (λ z. z ≡ pos 1) (pos 0) (λ x one. one.unit up));
    none = λ m h other. rw one_each (of_zero (λ z. z ≡ pos 0) m (λ x one. one.others m h other));
    others = all-both (IsClass w d) (λ v. (v ≡ zeros (length w.points)) ⊎ (pos 0 <ℤ degree_of w.heights v))
        (λ v. (v ≡ zeros (length f.heights)) ⊎ IsPositiveClass f.heights v) class_of_row (classes f.rows)
        is.classes.each facts.others;
  }
