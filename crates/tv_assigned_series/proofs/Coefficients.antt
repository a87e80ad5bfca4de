-- What the series of one assignment tells of its coefficients.
use Rattle.std.proofs.Common.{◌≡◌, ℕ, ◌*◌, ◌<◌, ◌≤◌, Bool, true, false, refl, sym, ap, ◌∙◌, arith, inl, inr}
use Rattle.std.specs.Prelude.{ℤ, pos, ◌+ℤ◌, ◌-ℤ◌, ◌≤ℤ◌, ◌<ℤ◌, ◌⊎◌, List, nat_eq, unsigned_abs, int_lt}
use Rattle.std.specs.Int.{int_min}
use Rattle.std.proofs.lemmas.Int.{ints}
use Rattle.tv_ring.specs.Operations.{Operations, RingLaws, SizeLaws}
use Rattle.tv_ring.specs.Sums.{AreValues, at, whole_times}
use Rattle.tv_ring.proofs.Times.{times-none, whole_times-pos, value_whole_times}
use Rattle.tv_ring.proofs.Sizes.{size-whole_times}
use Rattle.tv_laws_series.specs.Terms.{terms, upto, above, listed}
use Rattle.tv_laws_series.proofs.Exponents.{above_adds, above_over}
use Rattle.tv_laws_series.proofs.Listed.{length-listed, at-listed}
use Rattle.tv_laws_series.proofs.SeriesFrom.{value_listed}
use Rattle.tv_spec_plane.specs.Web.{Web, parity}
use Rattle.tv_spec_boxes.specs.Assignments.{Rows, Assignment, all_legs, edge_twist}
use Rattle.tv_spec_boxes.specs.Configurations.{boxes_left}
use Rattle.tv_spec_series.specs.Families.{coefficient}
use Rattle.tv_laws_series.proofs.Coefficients.{coefficient_below, coefficient_at}
use Rattle.tv_laws_counts.specs.Ways.{ways_at, start_of, assignment_coefficient}
use Rattle.tv_laws_counts.proofs.Bounds.{none_below_start, int_min-right}
use Rattle.tv_assigned_series.specs.Terms.{signed_times, first_exponent, assignment_terms}
use Rattle.tv_lemmas.proofs.Signs.{signed-size}

pub signed_times-is : {A : Type 0} (r : Operations A) (w : Web) (fixed : List Rows) (a : Assignment) (low : ℤ) (i : ℕ) → signed_times r w fixed a low i ≡ whole_times r (assignment_coefficient w fixed a (low +ℤ pos i))
unfolding signed_times
signed_times-is r w fixed a low i = refl

-- its lowest exponent
pub terms-low : {A : Type 0} (r : Operations A) (w : Web) (fixed : List Rows) (n : ℤ) (a : Assignment) → (assignment_terms r w fixed n a).low ≡ int_min (start_of w fixed a) (n +ℤ pos 1)
terms-low r w fixed n a = refl

-- what lies below the lesser and not above the second lies below the first
below-left : (s n i : ℤ) → i ≤ℤ n → i <ℤ int_min s (n +ℤ pos 1) → i <ℤ s
below-left s n i h k = grind (arith, ints)

through : (l m : ℤ) (d : ℕ) → l +ℤ pos d ≡ m +ℤ pos 1 → (l +ℤ pos d) -ℤ pos 1 ≡ m
through l m d e = omega (arith, ints)

listed-upto : {A : Type 0} (f : ℕ → A) (l n : ℤ) → l ≤ℤ (n +ℤ pos 1) → upto (terms l (listed f (above l (n +ℤ pos 1)))) ≡ n
listed-upto f l n h = ap (λ d. (l +ℤ pos d) -ℤ pos 1) (length-listed f (above l (n +ℤ pos 1))) ∙ through l n (above l (n +ℤ pos 1)) (above_adds l (n +ℤ pos 1) h)

-- it is known through n
pub terms-upto : {A : Type 0} (r : Operations A) (w : Web) (fixed : List Rows) (n : ℤ) (a : Assignment) → upto (assignment_terms r w fixed n a) ≡ n
terms-upto r w fixed n a = listed-upto (signed_times r w fixed a (first_exponent w fixed n a)) (first_exponent w fixed n a) n (int_min-right (start_of w fixed a) (n +ℤ pos 1))

place-within : (l i n : ℤ) → l ≤ℤ i → i ≤ℤ n → above l i < above l (n +ℤ pos 1)
place-within l i n h k =
    let over = above_over l i (n +ℤ pos 1) h (omega (arith, ints)) in
    let adds = above_adds i (n +ℤ pos 1) (omega (arith, ints)) in
    let more : 0 < above i (n +ℤ pos 1) = some (above i (n +ℤ pos 1)) adds in
    omega arith
  where
    some : (d : ℕ) → i +ℤ pos d ≡ n +ℤ pos 1 → 0 < d
    some d e = omega (arith, ints)

below-or-not : (i l : ℤ) → (i <ℤ l) ⊎ (l ≤ℤ i)
below-or-not i l = decided (int_lt i l) refl
  where
    decided : (b : Bool) → int_lt i l ≡ b → (i <ℤ l) ⊎ (l ≤ℤ i)
    decided true e = inl (grind (arith, ints))
    decided false e = inr (grind (arith, ints))

module _ {A : Type 0} (r : Operations A) (w : Web) (fixed : List Rows) (n : ℤ) (a : Assignment) where
  from-low : (l i : ℤ) → l ≤ℤ i → i ≤ℤ n → coefficient r (terms l (listed (signed_times r w fixed a l) (above l (n +ℤ pos 1)))) i ≡ whole_times r (assignment_coefficient w fixed a i)
  from-low l i h k =
      coefficient_at r (terms l (listed (signed_times r w fixed a l) (above l (n +ℤ pos 1)))) i h
      ∙ (at-listed r (signed_times r w fixed a l) (above l (n +ℤ pos 1)) (above l i) (place-within l i n h k)
      ∙ (signed_times-is r w fixed a l (above l i) ∙ ap (λ j. whole_times r (assignment_coefficient w fixed a j)) (above_adds l i h)))

  below-start : (i : ℤ) → i <ℤ start_of w fixed a → r.nought ≡ whole_times r (assignment_coefficient w fixed a i)
  below-start i h = sym (ap (whole_times r) (none_below_start w fixed a i h) ∙ (whole_times-pos r 0 ∙ times-none r))

pub terms-coefficient : {A : Type 0} (r : Operations A) (w : Web) (fixed : List Rows) (n i : ℤ) (a : Assignment) → i ≤ℤ n → coefficient r (assignment_terms r w fixed n a) i ≡ whole_times r (assignment_coefficient w fixed a i)
terms-coefficient r w fixed n i a h = elim (below-or-not i (first_exponent w fixed n a)) [
  | inl low ↦ coefficient_below r (assignment_terms r w fixed n a) i low ∙ below-start r w fixed n a i (below-left (start_of w fixed a) n i h low)
  | inr high ↦ from-low r w fixed n a (first_exponent w fixed n a) i high h
]

pub coefficient-size : (w : Web) (fixed : List Rows) (a : Assignment) (i : ℤ) → unsigned_abs (assignment_coefficient w fixed a i) ≡ ways_at (all_legs w a fixed) (boxes_left w fixed a i)
unfolding assignment_coefficient
coefficient-size w fixed a i = signed-size (nat_eq (parity (i +ℤ edge_twist w a)) 0) (ways_at (all_legs w a fixed) (boxes_left w fixed a i))

module _ {A : Type 0} {IsValue : A → Type 0} {r : Operations A} (laws : RingLaws IsValue r) where
  pub value_signed : (w : Web) (fixed : List Rows) (a : Assignment) (low : ℤ) → AreValues IsValue (signed_times r w fixed a low)
  value_signed w fixed a low i = rw (signed_times-is r w fixed a low i) (value_whole_times laws (assignment_coefficient w fixed a (low +ℤ pos i)))

  pub terms-values : (w : Web) (fixed : List Rows) (n : ℤ) (a : Assignment) → AreValues IsValue (at r (assignment_terms r w fixed n a).coefficients)
  terms-values w fixed n a = value_listed laws (signed_times r w fixed a (first_exponent w fixed n a)) (above (first_exponent w fixed n a) (n +ℤ pos 1)) (value_signed w fixed a (first_exponent w fixed n a))

  -- the size of a coefficient
  pub terms-size : SizeLaws IsValue r → (w : Web) (fixed : List Rows) (i : ℤ) (a : Assignment) → r.size (whole_times r (assignment_coefficient w fixed a i)) ≤ ways_at (all_legs w a fixed) (boxes_left w fixed a i) * r.size r.unit
  terms-size sizes w fixed i a = rw (← coefficient-size w fixed a i) (size-whole_times laws sizes (assignment_coefficient w fixed a i))
