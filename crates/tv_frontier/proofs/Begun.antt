-- The one state before all corners: class zero, with one at exponent 0.
use Rattle.std.specs.Prelude.{◌≡◌, Contains, ℕ, zero, suc, Bool, true, false, cond, ◌&&◌, int_le, ℤ, pos, negsuc, ◌+ℤ◌, ◌-ℤ◌, ◌≤ℤ◌, ◌<ℤ◌, List, [], ◌∷◌, length}
use Rattle.std.specs.Ordering.{int_eq}
use Rattle.std.specs.List.{AllByRecursion}
use Rattle.std.proofs.Common.{refl, sym, ap, subst, ◌∙◌, arith}
use Rattle.std.proofs.lemmas.Int.{ints, clamps}
use Rattle.tv_lemmas.proofs.Members.{contains-filter}
use Rattle.tv_ring.specs.Operations.{Operations, RingLaws}
use Rattle.tv_ring.specs.Sums.{at, times, whole_times}
use Rattle.tv_ring.proofs.Times.{times-none, times-one, whole_times-pos}
use Rattle.tv_laws_series.specs.Terms.{Terms, terms, above, IsBounded}
use Rattle.tv_laws_series.specs.Series.{IsSeries}
use Rattle.tv_laws_series.proofs.Coefficients.{coefficient_below, coefficient_at, coefficient_beyond}
use Rattle.tv_laws_series.proofs.Exponents.{above_same}
use Rattle.tv_spec_plane.specs.Graded.{IsGraded}
use Rattle.tv_spec_plane.specs.Web.{Web, compact}
use Rattle.tv_degrees.specs.Grades.{IsHeighted}
use Rattle.tv_spec_boxes.specs.Assignments.{no_legs, class_of, assignments, same_vector}
use Rattle.tv_spec_boxes.proofs.Vectors.{same_vector-same}
use Rattle.tv_spec_series.specs.Families.{Family, classes, without_rows, added, coefficient, HasPlace, IsAddend}
use Rattle.tv_laws_frontier.specs.Frontier.{is_of_state, state_number}
use Rattle.tv_laws_frontier.specs.Steps.{nothing}
use Rattle.tv_laws_frontier.specs.StateClasses.{HasClass}
use Rattle.tv_laws_frontier.proofs.First.{nothing-listed, nothing-class, of-nothing, is-nothing, first_state}
use Rattle.tv_frontier.specs.Joining.{IsSpan, moved_terms}
use Rattle.tv_frontier.specs.Sums.{Addend, added_up, StartsAt, Holds}
use Rattle.tv_frontier.specs.Rows.{IsBound, IsPart}
use Rattle.tv_frontier.proofs.Classes.{class-listed, class-place}
use Rattle.tv_frontier.proofs.Held.{holds-none, holds-more}
use Rattle.tv_frontier.proofs.Joined.{moved-known, moved-floor, moved-read}
use Rattle.tv_frontier.proofs.Layered.{state-on}
use Rattle.tv_frontier.proofs.Bounded.{span-bound}
use Rattle.tv_frontier.proofs.Least.{lowest-low}

abbrev one_at : ℤ → ℤ → ℕ
one_at m i = cond (int_eq i (pos 0) && int_le (pos 0) m) 1 0

module _ {A : Type 0} {IsValue : A → Type 0} {r : Operations A} (laws : RingLaws IsValue r) where
  abbrev one : Terms A
  one = terms (pos 0) (r.unit ∷ [])

  -- the series that is one
  one-here : coefficient r one (pos 0) ≡ times r 1
  unfolding at
  one-here =
      let none : above (pos 0) (pos 0) ≡ 0 = above_same (pos 0) in
      coefficient_at r one (pos 0) (omega (arith, ints)) ∙ (ap (at r one.coefficients) none ∙ sym (times-one laws))

  by-place : (i : ℤ) (b : Bool) → coefficient r one i ≡ times r (cond b 1 0) → int_eq i (pos 0) ≡ b → coefficient r one i ≡ times r (cond (int_eq i (pos 0)) 1 0)
  by-place i b is e = is ∙ ap (λ c. times r (cond c 1 0)) (sym e)

  one-coefficient : (i : ℤ) → coefficient r one i ≡ times r (cond (int_eq i (pos 0)) 1 0)
  one-coefficient (pos zero) = by-place (pos 0) true one-here (grind (arith, ints))
  one-coefficient (pos (suc k)) = by-place (pos (suc k)) false (coefficient_beyond r one (pos (suc k)) (omega (arith, ints)) ∙ sym (times-none r)) (grind (arith, ints))
  one-coefficient (negsuc k) = by-place (negsuc k) false (coefficient_below r one (negsuc k) (omega (arith, ints)) ∙ sym (times-none r)) (grind (arith, ints))

  module _ (floor m : ℤ) (low : floor ≤ℤ pos 0) where
    kept-one : (i : ℤ) → i ≤ℤ m → cond (int_eq i (pos 0)) 1 0 ≡ one_at m i
    kept-one i within = by_test (int_eq i (pos 0)) refl
      where
        by_test : (b : Bool) → int_eq i (pos 0) ≡ b → cond {A = ℕ} b 1 0 ≡ cond (b && int_le (pos 0) m) 1 0
        by_test false e = refl
        by_test true e =
            let here : i ≡ pos 0 = grind (arith, ints) in
            let on : int_le (pos 0) m ≡ true = grind (arith, ints) in
            rw on refl

    pub first-number : (i : ℤ) → i ≤ℤ m → coefficient r (moved_terms r floor m one (pos 0)) i ≡ whole_times r (pos (one_at m i))
    first-number i within =
        moved-read r floor m one (pos 0) i within (λ below. one-coefficient (i -ℤ pos 0) ∙ (ap (λ z. times r (cond (int_eq z (pos 0)) 1 0)) (same i) ∙ (ap (λ b. times r (cond b 1 0)) (off i below) ∙ times-none r)))
        ∙ (one-coefficient (i -ℤ pos 0) ∙ (ap (λ z. times r (cond (int_eq z (pos 0)) 1 0)) (same i) ∙ (ap (times r) (kept-one i within) ∙ sym (whole_times-pos r (one_at m i)))))
      where
        same : (z : ℤ) → z -ℤ pos 0 ≡ z
        same z = omega (arith, ints)

        off : (z : ℤ) → z <ℤ floor → int_eq z (pos 0) ≡ false
        off z below = let under : z <ℤ pos 0 = omega (arith, ints) in grind (arith, ints)

-- ---- its classes

module _ (w : Web) (d : ℕ) (graded : IsGraded w) where
  pub zero-there : (v : List ℤ) → v ≡ class_of w (nothing (compact w)) → HasClass w d 0 [] v
  zero-there v is = record {
    witness = nothing (compact w);
    listed = contains-filter (is_of_state w 0 [] v) (nothing (compact w)) (assignments w d) (nothing-listed w d graded)
        (of-nothing w (no_legs w) d (pos 0) v (pos 0) graded ∙ (ap (λ u. same_vector u v) (sym (is ∙ nothing-class w)) ∙ same_vector-same v));
  }

  pub zero-only : (v u : List ℤ) → v ≡ class_of w (nothing (compact w)) → HasClass w d 0 [] u → v ≡ u
  zero-only v u is has =
      let of = class-listed w d 0 [] u has in
      is ∙ (ap (class_of w) (is-nothing w (no_legs w) d (pos 0) u (pos 0) graded has.witness of.among (state-on w d 0 [] u has)) ∙ of.class)

module _ {A : Type 0} {IsValue : A → Type 0} {r : Operations A} (laws : RingLaws IsValue r) (w : Web) (d : ℕ) (n floor m : ℤ) (graded : IsGraded w) (heighted : IsHeighted w) (span : IsSpan w d n floor m) (v : List ℤ) (zero_class : v ≡ class_of w (nothing (compact w))) (s : Terms A) (is : s ≡ moved_terms r floor m (terms (pos 0) (r.unit ∷ [])) (pos 0)) where
  abbrev addend : Addend
  addend = record { class = v; number = λ i. pos (one_at m i) }

  pub first-addend : IsSeries IsValue r s → IsAddend IsValue r (without_rows w.heights (pos d) m) v s
  first-addend series = record {
    place = class-place w d 0 [] v graded heighted (zero-there w d graded v zero_class);
    known = rw is (moved-known r floor m (terms (pos 0) (r.unit ∷ [])) (pos 0));
    series = series;
  }

  sum-one : (u : List ℤ) (i : ℤ) → added_up (addend ∷ []) u i ≡ pos (state_number w (no_legs w) d m 0 [] u i)
  unfolding added_up
  sum-one u i =
      by_tests (same_vector v u) (int_eq i (pos 0) && int_le (pos 0) m)
      ∙ ap pos (ap (λ z. cond (same_vector z u && (int_eq i (pos 0) && int_le (pos 0) m)) 1 0) (zero_class ∙ nothing-class w) ∙ sym (first_state w (no_legs w) d m u i graded))
    where
      by_tests : (a b : Bool) → cond a (pos (cond b 1 0)) (pos 0) +ℤ pos 0 ≡ pos (cond (a && b) 1 0)
      by_tests true true = refl
      by_tests true false = refl
      by_tests false b = refl

  pub first-part : (f : Family A) → IsSeries IsValue r s → f ≡ added r v s (without_rows w.heights (pos d) m) → IsPart IsValue r w d n 0 [] f
  first-part f series added_is =
      let low : floor ≤ℤ pos 0 = (let l = lowest-low w d in let e = span.floor in omega (arith, ints, clamps)) in
      let held : Holds IsValue r w.heights (pos d) m floor (HasClass w d 0 []) (addend ∷ []) f =
      subst (λ (z : Family A). Holds IsValue r w.heights (pos d) m floor (HasClass w d 0 []) (addend ∷ []) z) (sym added_is) (holds-more laws w.heights (pos d) m floor (HasClass w d 0 []) [] addend s (without_rows w.heights (pos d) m) (holds-none laws w.heights (pos d) m floor (HasClass w d 0 []) (let l = span.small_upto in omega (arith, ints))) (first-addend series)
      (λ i within. rw is (first-number laws floor m low i within)) (zero-there w d graded v zero_class) (rw is (moved-floor r floor m (terms (pos 0) (r.unit ∷ [])) (pos 0))) span.rises) in
      record {
        shape = record { heights = held.heights; top = held.top; bound = subst (IsBound w d n) (sym held.upto) (span-bound w d n floor m span) };
        family = held.family;
        each = held.each;
        whole = λ u has. subst (Contains (classes f.rows)) (zero-only w d graded v u zero_class has) held.whole.0;
        low = subst (λ (z : ℤ). AllByRecursion (StartsAt z) f.rows) span.floor held.low;
        numbers = λ u i within most. held.numbers u i (let e = held.upto in omega (arith, ints)) ∙ (ap (whole_times r) (sum-one u i) ∙ (whole_times-pos r (state_number w (no_legs w) d m 0 [] u i) ∙ ap (λ z. times r (state_number w (no_legs w) d z 0 [] u i)) span.upto));
      }

-- what is written
pub one-series : {A : Type 0} (r : Operations A) (s : Terms A) (items : List A) (x : A) → s ≡ terms (pos 0) items → items ≡ x ∷ [] → x ≡ r.unit → s ≡ terms (pos 0) (r.unit ∷ [])
one-series r s items x is pushed unit = is ∙ (ap (terms (pos 0)) pushed ∙ ap (λ y. terms (pos 0) (y ∷ [])) unit)

pub one-bounded : {A : Type 0} (items : List A) (x : A) → items ≡ x ∷ [] → IsBounded (terms (pos 0) items)
one-bounded items x pushed = let l : length items ≡ 1 = ap length pushed in record { low = omega (arith, ints); upto = omega (arith, ints) }

pub first-place : (w : Web) (d : ℕ) (v : List ℤ) → IsGraded w → IsHeighted w → v ≡ class_of w (nothing (compact w)) → HasPlace w.heights (pos d) v
first-place w d v graded heighted is = class-place w d 0 [] v graded heighted (zero-there w d graded v is)
