-- A class whose crowd is not 0 is a class, and what is told of numbers that are too wide.
use Rattle.std.proofs.Common.{◌≡◌, ℕ, ◌-◌, ◌*◌, ◌^◌, ◌<◌, ℤ, pos, ◌≤ℤ◌, List, [], ◌∷◌, Contains, Bool, true, false, ◌&&◌, int_le, Result, Ok, Err, refl, sym, arith, subst}
use Rattle.std.proofs.lemmas.Int.{ints}
use Rattle.std.specs.List.{AllByRecursion}
use Rattle.tv_lemmas.specs.Sums.{sum_of}
use Rattle.tv_ring.specs.Operations.{limit}
use Rattle.tv_ring.specs.Whole.{wholes}
use Rattle.tv_spec_plane.specs.Web.{Web, degree_of}
use Rattle.tv_spec_boxes.specs.Assignments.{Rows, no_legs, class_of, assignments, assignments_of, same_vector}
use Rattle.tv_spec_boxes.specs.Classes.{IsClass}
use Rattle.tv_spec_boxes.specs.Numbers.{crowd}
use Rattle.tv_spec_plane.specs.Graded.{IsGraded}
use Rattle.tv_lemmas.proofs.Members.{all-filter, all-members}
use Rattle.tv_spec_boxes.proofs.Vectors.{same_vector_tells}
use Rattle.tv_laws_counts.proofs.Degrees.{assignments_by_degree}
use Rattle.tv_laws_counts.proofs.Crowds.{crowd_is}
use Rattle.tv_reduced.specs.Faults.{IsSpreadOut as IsWideSpread}
use Rattle.tv_text.specs.Refusals.{crowd_line}
use Rattle.tv_spec_reports.specs.Grids.{grid}
use Rattle.tv_answers.specs.SeriesReport.{IsCrowded, IsSpreadOut}
use Rattle.tv_answers.specs.Carried.{CarriesOut, IsCarriedOut, Says}
use Rattle.tv_words.specs.declared.command.Command.TheVariants.{Summary}
use Rattle.tv_answers.specs.declared.answer.Answer.{Answer}
use Rattle.tv_answers.specs.declared.answer.Failure.{Failure}
use Rattle.tv_answers.specs.declared.status.Status.TheVariants.{Wide}

some_of : {A P : Type 0} (f : A → ℕ) (xs : List A) → 0 < sum_of f xs → AllByRecursion (λ _. P) xs → P
some_of f [] h all = absurd (omega arith)
some_of f (x ∷ xs) h all = all.0

-- outside the degrees there is no crowd
crowd-test : (w : Web) (fixed : List Rows) (d : ℕ) (n : ℤ) (v : List ℤ) (b : Bool) → (int_le (pos 0) (degree_of w.heights v) && int_le (degree_of w.heights v) (pos d)) ≡ b → 0 < crowd w fixed d n v → b ≡ true
unfolding crowd
crowd-test w fixed d n v true e h = refl
crowd-test w fixed d n v false e h = let none = rw e at h in absurd (omega arith)

within_degrees : (z : ℤ) (d : ℕ) → (int_le (pos 0) z && int_le z (pos d)) ≡ true → (pos 0 ≤ℤ z) × (z ≤ℤ pos d)
within_degrees z d h = grind (arith, ints)

crowd-class : (w : Web) (d : ℕ) (n : ℤ) (v : List ℤ) → IsGraded w → 0 < crowd w (no_legs w) d n v → IsClass w d v
crowd-class w d n v graded h =
    let within = within_degrees (degree_of w.heights v) d (crowd-test w (no_legs w) d n v _ refl h) in
    let same : assignments_of w v ≡ _ = assignments_by_degree w d v graded within.1 in
    let all : AllByRecursion (λ _. IsClass w d v) (assignments_of w v) =
    rw same (all-filter (Contains (assignments w d)) (λ _. IsClass w d v) (λ a. same_vector (class_of w a) v) (λ a among e. record { witness = a; listed = among; same = same_vector_tells (class_of w a) v e }) (assignments w d) (all-members (assignments w d))) in
    let some = rw (crowd_is w (no_legs w) d n v within.0 within.1) at h in
    some_of _ (assignments_of w v) some all

pub crowded : (w : Web) (d : ℕ) (n : ℤ) (v : List ℤ) → IsGraded w → limit < crowd w (no_legs w) d n v * 1 → IsCrowded w d n v
crowded w d n v graded h =
    let some : 0 < crowd w (no_legs w) d n v = omega arith in
    record { class = crowd-class w d n v graded some; beyond = omega arith }

pub summary_crowd_told : (k d : ℕ) (n : ℤ) (v : List ℤ) (r : Result Answer Failure) → IsCrowded (grid k) d n v → Says r Wide (crowd_line v) → IsCarriedOut (Summary k d n) (grid k) r
summary_crowd_told k d n v (Ok a) crowd h = subst (λ s. CarriesOut (Summary k d n) (grid k) s a.text.items) (sym h.0) (crowd_line v, (v, crowd, refl), h.1)
summary_crowd_told k d n v (Err e) crowd h = h

-- ---- spreads

pub spread : (w : Web) (d : ℕ) (n : ℤ) (v : List ℤ) (m : ℤ) → IsWideSpread wholes w d n v m → IsSpreadOut w d n v m
spread w d n v m h = record { class = h.class; number = h.number; spread = h.spread; beyond = once h.number h.wide }
  where
    once : (k : ℕ) → limit < k * 1 → 2 ^ 127 - 1 < k
    once k h = omega arith
