-- One assignment of the list after the other: what its series is, where it goes, and what the family is with it.
use Rattle.std.specs.Prelude.{◌≡◌, Contains, ℕ, ◌≤◌, ℤ, pos, ◌≤ℤ◌, List, [], ◌∷◌, ◌++◌, length}
use Rattle.std.proofs.Common.{refl, sym, ap, subst, ◌∙◌, arith, le_trans, append_assoc, append-nil}
use Rattle.std.proofs.lemmas.Int.{ints}
use Rattle.tv_lemmas.proofs.Members.{all-contains, contains-head, contains-later}
use Rattle.tv_ring.specs.Operations.{Operations, RingLaws, SizeLaws}
use Rattle.tv_laws_series.specs.Terms.{Terms, upto}
use Rattle.tv_laws_series.specs.Series.{IsSeries}
use Rattle.tv_spec_plane.specs.Graded.{IsGraded}
use Rattle.tv_spec_plane.specs.Web.{Web, compact}
use Rattle.tv_spec_boxes.specs.Assignments.{Assignment, assignments, class_of, no_legs}
use Rattle.tv_spec_series.specs.Families.{Family, without_rows, added, HasPlace, IsFamily, IsAddend}
use Rattle.tv_spec_series.specs.Full.{IsFull}
use Rattle.tv_graded.specs.Calls.{IsAddedWide}
use Rattle.tv_degrees.specs.Grades.{IsHeighted}
use Rattle.tv_laws_counts.specs.Ways.{IsListed}
use Rattle.tv_laws_counts.proofs.Degrees.{assignments_listed}
use Rattle.tv_assignment.specs.Size.{cells_of}
use Rattle.tv_assignment.proofs.Listed.{listed-one_each, listed-few}
use Rattle.tv_glue.specs.Asked.{IsTooManyOf}
use Rattle.tv_assigned_series.specs.FamilyFaults.{IsCrowded}
use Rattle.tv_assigned_series.specs.Terms.{assignment_terms, IsTooMany}
use Rattle.tv_assigned_series.proofs.Coefficients.{terms-upto, terms-low, terms-coefficient}
use Rattle.tv_laws_families.specs.Glued.{IsGlued}
use Rattle.tv_laws_families.proofs.Addends.{IsTermsOf}
use Rattle.tv_laws_families.proofs.Glued.{glued-none, glued-more}
use Rattle.tv_laws_families.proofs.Full.{glued-full}
use Rattle.tv_glue.specs.Summands.{IsNextOf}
use Rattle.tv_glue.proofs.Crowded.{open-diagrams, crowded-series, crowded-sum}

inside : {A : Type 0} (front later : List A) (a : A) → Contains (front ++ a ∷ later) a
inside [] later a = contains-head a a later refl
inside (b ∷ front) later a = contains-later a b (front ++ a ∷ later) (inside front later a)

module _ {A : Type 0} (r : Operations A) (w : Web) (d : ℕ) (n : ℤ) (a : Assignment) (f : Family A) (graded : IsGraded w) (next : IsNextOf r w d n a f) where
  among : Contains (assignments w d) a
  among = subst (λ all. Contains all a) next.split (inside next.front next.later a)

  pub next-one_each : length a ≡ length (compact w)
  next-one_each = listed-one_each w d a graded among

  pub next-few : d ≤ 24 → cells_of a ≤ 24
  next-few h = le_trans (listed-few w d a graded among) h

  pub next-too_many : (v : List ℤ) → v ≡ class_of w a → IsTooMany r w (no_legs w) n a → IsCrowded r w d n v
  next-too_many v same many = rw same (crowded-series w d n a graded among many)

  module _ (t : Terms A) (is : t ≡ assignment_terms r w (no_legs w) n a) where
    next-terms : IsTermsOf r w (no_legs w) n a t
    next-terms = rw is (record { low = terms-low r w (no_legs w) n a; coefficients = λ i h. terms-coefficient r w (no_legs w) n i a h })

    next-known : upto t ≡ n
    next-known = rw is (terms-upto r w (no_legs w) n a)

    pub next-place : IsHeighted w → (v : List ℤ) → v ≡ class_of w a → HasPlace f.heights f.top v
    next-place heighted v same =
        let listed : IsListed w d a = all-contains (IsListed w d) (assignments w d) a (assignments_listed w d graded) among in
        rw (same, next.glued.heights, next.glued.top) (record { entries = listed.entries ∙ sym heighted.one_each; positive = listed.least; within = listed.most })

    pub next-upto : f.upto ≤ℤ upto t
    next-upto = let last = next-known in let top = next.glued.upto in omega (arith, ints)

    module _ {IsValue : A → Type 0} (laws : RingLaws IsValue r) where
      next-addend : IsHeighted w → IsSeries IsValue r t → IsAddend IsValue r f (class_of w a) t
      next-addend heighted series = record { place = next-place heighted (class_of w a) refl; known = next-upto; series = series }

      pub next-glued : IsHeighted w → (g : Family A) (v : List ℤ) → v ≡ class_of w a → IsFamily IsValue r f → IsSeries IsValue r t → g ≡ added r v t f →
          (front : List Assignment) → IsGlued r w (no_legs w) d n front f → IsGlued r w (no_legs w) d n (front ++ a ∷ []) g
      next-glued heighted g v same family series e front glued =
          rw (e, same) (glued-more laws w (no_legs w) d n front a t f among family (next-addend heighted series) next-terms glued)

      pub next-crowded : SizeLaws IsValue r → (v u : List ℤ) (i : ℤ) → v ≡ class_of w a → u ≡ class_of w a → IsAddedWide r v t f i → IsCrowded r w d n u
      next-crowded sizes v u i same also wide =
          let P : List ℤ → Type 0 = λ x. IsAddedWide r x t f i in
          rw also (crowded-sum laws sizes w d n next.front next.later a t f i graded among (append_assoc next.front (a ∷ []) next.later ∙ next.split) next-terms next-known next.glued (subst P same wide))

-- an assignment of the list that has too many
pub too-many-crowded : {A : Type 0} (r : Operations A) (w : Web) (d : ℕ) (n : ℤ) (v : List ℤ) → IsGraded w → IsTooManyOf r w d n v → IsCrowded r w d n v
too-many-crowded r w d n v graded many = rw many.class (crowded-series w d n many.assignment graded many.listed many.beyond)

-- the family of those that are gone, where the others are still coming
pub record IsUnderWay {A : Type 0} (r : Operations A) (w : Web) (d : ℕ) (n : ℤ) (coming : List Assignment) (f : Family A) : Type 0 where
  pub front : List Assignment
  pub split : front ++ coming ≡ assignments w d
  pub glued : IsGlued r w (no_legs w) d n front f

module _ {A : Type 0} (r : Operations A) (w : Web) (d : ℕ) (n : ℤ) where
  pub none-added : (coming : List Assignment) (f : Family A) → coming ≡ assignments w d → f ≡ without_rows w.heights (pos d) n → IsUnderWay r w d n coming f
  none-added coming f is e = record { front = []; split = is; glued = rw e (glued-none r w (no_legs w) d n) }

  pub one-next : (coming later : List Assignment) (a : Assignment) (f : Family A) → coming ≡ a ∷ later → IsUnderWay r w d n coming f → IsNextOf r w d n a f
  one-next coming later a f next way = record { front = way.front; later = later; split = ap (λ c. way.front ++ c) (sym next) ∙ way.split; glued = way.glued }

  pub one-added : (coming later : List Assignment) (a : Assignment) (f g : Family A) → coming ≡ a ∷ later → ((front : List Assignment) → IsGlued r w (no_legs w) d n front f → IsGlued r w (no_legs w) d n (front ++ a ∷ []) g) → IsUnderWay r w d n coming f → IsUnderWay r w d n later g
  one-added coming later a f g next more way = record {
    front = way.front ++ a ∷ [];
    split = append_assoc way.front (a ∷ []) later ∙ (ap (λ c. way.front ++ c) (sym next) ∙ way.split);
    glued = more way.front way.glued;
  }

  pub all-added : {IsValue : A → Type 0} (coming : List Assignment) (f : Family A) → coming ≡ [] → IsGraded w → IsFamily IsValue r f → IsUnderWay r w d n coming f → IsFull r w (no_legs w) d n f
  all-added {IsValue} coming f none graded family way =
      let P : List Assignment → Type 0 = λ xs. IsGlued r w (no_legs w) d n xs f in
      glued-full {IsValue = IsValue} r w (no_legs w) d n f graded (open-diagrams w) family (subst P (sym (append-nil way.front) ∙ (ap (λ c. way.front ++ c) (sym none) ∙ way.split)) way.glued)
