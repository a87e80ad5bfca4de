-- The classes of a reduced family of a graded web are closed under sums, to the degree of the family, so its integers stand at
-- them.
--
-- own_classes d f == the classes of the family that have a degree from 1 to d
use Rattle.std.proofs.Common.{◌≡◌, ◌⊎◌, Contains, ℕ, ℤ, pos, ◌≤ℤ◌, ◌<ℤ◌, Bool, true, List, [], ◌∷◌, length, arith}
use Rattle.std.specs.Prelude.{filter}
use Rattle.std.proofs.lemmas.Int.{ints}
use Rattle.std.specs.List.{AllByRecursion}
use Rattle.tv_lemmas.proofs.Members.{all-onto, all-filter, all-contains, all-members, contains-filter}
use Rattle.tv_ring.specs.Whole.{wholes}
use Rattle.tv_laws_series.proofs.NormalForm.{bool_cases}
use Rattle.tv_spec_plane.specs.Web.{Web, degree_of}
use Rattle.tv_spec_plane.specs.Graded.{IsGraded}
use Rattle.tv_spec_boxes.specs.Assignments.{no_legs, zeros, plus}
use Rattle.tv_spec_boxes.specs.Classes.{IsClass, IsBefore, ClassesRise}
use Rattle.tv_spec_series.specs.Families.{Family, classes}
use Rattle.tv_spec_series.specs.ReducedFamilies.{IsReducedFamily}
use Rattle.tv_spec_series.proofs.Order.{int_lt-true, rise_tail, first_before, rise_onto}
use Rattle.tv_spec_katz.specs.Integers.{is_within}
use Rattle.tv_spec_katz.specs.Relations.{IsPositiveClass, IsNormalized}
use Rattle.tv_laws_counts.proofs.Degrees.{degree_of-plus}
use Rattle.tv_laws_integers.specs.Closed.{IsClassTo, IsClosedList, IsListed}
use Rattle.tv_laws_integers.specs.Laws.{ReducedClassesAddUp, IntegersAtClasses}
use Rattle.tv_laws_integers.proofs.Candidates.{within_tells, within-true, positive_one}
use Rattle.tv_laws_integers.proofs.Existence.{integers_listed}
use Rattle.tv_laws_integers.proofs.Mismatches.{normal_through}
use Rattle.tv_laws_integers.proofs.Normalized.{reduced_normalized}
use Rattle.tv_laws_integers.proofs.Together.{sum_is_class}

pub reduced_classes_add_up : ReducedClassesAddUp
reduced_classes_add_up w d n f graded is u v one other most =
    let first = all-contains (IsClass w d) (classes f.rows) u is.classes.each one in
    let second = all-contains (IsClass w d) (classes f.rows) v is.classes.each other in
    is.classes.whole (plus u v) (sum_is_class w d graded u v first second (rw is.heights at most))

-- ---- what passes a test still rises

rise_filter : (hs : List ℤ) (p : List ℤ → Bool) (vs : List (List ℤ)) → ClassesRise hs vs → ClassesRise hs (filter p vs)
rise_filter hs p [] rises = tt
rise_filter hs p (v ∷ vs) rises =
    let rest = rise_filter hs p vs (rise_tail hs v vs rises) in
    let after = all-filter (IsBefore hs v) (IsBefore hs v) p (λ u h b. h) vs (first_before hs v vs rises) in
    bool_cases (p v) (λ b. rw b (rise_onto hs v (filter p vs) after rest)) (λ b. rw b rest)

-- ---- the classes of degree 1 to d

abbrev own_classes : ℕ → Family ℤ → List (List ℤ)
own_classes d f = filter (is_within d f.heights) (classes f.rows)

own_class : (d : ℕ) (f : Family ℤ) (v : List ℤ) → Contains (own_classes d f) v → Contains (classes f.rows) v
own_class d f v there =
    let all = classes f.rows in
    let passing = all-filter (Contains all) (Contains all) (is_within d f.heights) (λ u h b. h) all (all-members all) in
    all-contains (Contains all) (own_classes d f) v passing there

module _ (w : Web) (d : ℕ) (n : ℤ) (f : Family ℤ) (graded : IsGraded w)
    (is : IsReducedFamily wholes w (no_legs w) d n f) (normal : IsNormalized (pos 1) f) where
  class_to : (v : List ℤ) → (v ≡ zeros (length f.heights)) ⊎ IsPositiveClass f.heights v → is_within d f.heights v ≡ true
      → IsClassTo d f.heights v
  class_to v class b =
      let degree = within_tells d f.heights v b in
      record { positive = positive_one f v class (int_lt-true (pos 0) (degree_of f.heights v) degree.0); within = degree.1 }

  each : AllByRecursion (IsClassTo d f.heights) (own_classes d f)
  each = all-filter (λ v. (v ≡ zeros (length f.heights)) ⊎ IsPositiveClass f.heights v) (IsClassTo d f.heights)
      (is_within d f.heights) class_to (classes f.rows) normal.others

  has_plus : (u v : List ℤ) → Contains (own_classes d f) u → Contains (own_classes d f) v
      → degree_of f.heights (plus u v) ≤ℤ pos d → Contains (own_classes d f) (plus u v)
  has_plus u v one other most =
      let first = (all-contains (IsClassTo d f.heights) (own_classes d f) u each one).positive.degree in
      let second = (all-contains (IsClassTo d f.heights) (own_classes d f) v each other).positive.degree in
      let sum = degree_of-plus f.heights u v in
      let up : pos 0 <ℤ degree_of f.heights (plus u v) = omega (arith, ints) in
      let there = reduced_classes_add_up w d n f graded is u v (own_class d f u one) (own_class d f v other) most in
      contains-filter (is_within d f.heights) (plus u v) (classes f.rows) there (within-true d f.heights (plus u v) up most)

  closed : IsClosedList d f (own_classes d f)
  closed = record {
    each = each;
    rises = rise_filter f.heights (is_within d f.heights) (classes f.rows) (rw is.heights is.classes.rises);
    sums = has_plus;
    whole = λ v there class. contains-filter (is_within d f.heights) v (classes f.rows) there
        (within-true d f.heights v class.positive.degree class.within);
  }

pub integers_at_classes : IntegersAtClasses
integers_at_classes w d n f graded one_each up is integers are =
    let normal = normal_through (pos 1) n f up (reduced_normalized w d n f graded one_each (omega (arith, ints)) is) in
    all-onto (IsListed (own_classes d f)) (IsListed (classes f.rows)) (λ i there. own_class d f i.class there) integers
    (integers_listed d f (own_classes d f) (closed w d n f graded is normal) normal integers are)
