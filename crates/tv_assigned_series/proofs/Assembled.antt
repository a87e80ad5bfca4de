-- The series of an assignment, put together.
use Rattle.std.proofs.Common.{◌≡◌, ℕ, suc, ◌+◌, ◌^◌, ◌≤◌, List, [], length, refl, sym, ◌∙◌, ap, arith, true, false, w64, to_z, of_z}
use Rattle.std.specs.Int.Signed.{lt_z}
use Rattle.std.specs.Prelude.{ℤ, pos, ◌+ℤ◌, ◌-ℤ◌, ◌≤ℤ◌, ◌<ℤ◌, unsigned_abs}
use Rattle.std.specs.Int.{int_min}
use Rattle.std.proofs.lemmas.Int.{ints}
use Rattle.tv_ring.specs.Operations.{Operations, RingLaws}
use Rattle.tv_laws_series.specs.Terms.{Terms, terms, above, listed, IsBounded}
use Rattle.tv_laws_series.proofs.Exponents.{above_same, above_adds}
use Rattle.tv_laws_series.proofs.Listed.{listed-none}
use Rattle.tv_spec_plane.specs.Web.{Web}
use Rattle.tv_cells.specs.declared.legs.Legs.{Legs}
use Rattle.tv_spec_boxes.specs.Assignments.{Rows, Assignment, all_legs, edge_costs, edge_twist, overlaps_of}
use Rattle.tv_laws_counts.specs.Ways.{start_of}
use Rattle.tv_assigned_series.specs.Terms.{signed_times, signed, first_exponent, assignment_terms, front_times, front_terms, IsBeyond, IsTooMany}
use Rattle.tv_assigned_series.proofs.WithSigns.{signed-are}

min-after : (s n : ℤ) → n <ℤ s → int_min s (n +ℤ pos 1) ≡ n +ℤ pos 1
min-after s n h = grind (arith, ints)

min-before : (s n : ℤ) → s ≤ℤ n → int_min s (n +ℤ pos 1) ≡ s
min-before s n h = grind (arith, ints)

pub start-is : (w : Web) (fixed : List Rows) (a : Assignment) (start : ℤ) (legs : List Legs) → legs ≡ all_legs w a fixed → start ≡ edge_costs w a -ℤ pos (overlaps_of legs) → start ≡ start_of w fixed a
start-is w fixed a start legs el es = es ∙ ap (λ ls. edge_costs w a -ℤ pos (overlaps_of ls)) el

-- the terms from an exponent on
unfoldable terms-from : {A : Type 0} → Operations A → Web → List Rows → ℤ → Assignment → ℤ → Terms A
terms-from r w fixed n a l = terms l (listed (signed_times r w fixed a l) (above l (n +ℤ pos 1)))

module _ {A : Type 0} (r : Operations A) (w : Web) (fixed : List Rows) (n : ℤ) (a : Assignment) where
  terms-at : (l : ℤ) → first_exponent w fixed n a ≡ l → assignment_terms r w fixed n a ≡ terms-from r w fixed n a l
  unfolding terms-from
  terms-at l e = ap (terms-from r w fixed n a) e

  -- a start beyond n
  pub none-known : (s : Terms A) (low : ℤ) (xs : List A) → n <ℤ start_of w fixed a → low ≡ n +ℤ pos 1 → xs ≡ [] → s ≡ terms low xs → s ≡ assignment_terms r w fixed n a
  unfolding terms-from
  none-known s low xs h el ex es =
      let last : ℤ = n +ℤ pos 1 in
      es ∙ (rw (el, ex) refl
      ∙ (sym (ap (λ k. terms last (listed (signed_times r w fixed a last) k)) (above_same last) ∙ ap (terms last) (listed-none (signed_times r w fixed a last)))
      ∙ sym (terms-at last (min-after (start_of w fixed a) n h))))

  -- all boxes that are left at n are split, so the exponent is too great where the split is
  pub too-many : (legs : List Legs) (start : ℤ) (left : ℕ) → legs ≡ all_legs w a fixed → start ≡ start_of w fixed a → start +ℤ pos left ≡ n → IsBeyond r legs left → IsTooMany r w fixed n a
  too-many legs start left el es en beyond = record {
    left = left;
    boxes = within (edge_costs w a) (pos (overlaps_of (all_legs w a fixed))) es;
    beyond = rw (← el) beyond;
  } where
    within : (costs overlaps : ℤ) → start ≡ costs -ℤ overlaps → pos left ≤ℤ ((n -ℤ costs) +ℤ overlaps)
    within costs overlaps e = omega (arith, ints)

count-through : (l n : ℤ) (d left : ℕ) → l +ℤ pos d ≡ n +ℤ pos 1 → l +ℤ pos left ≡ n → d ≡ suc left
count-through l n d left e h = omega (arith, ints)

module _ {A : Type 0} {IsValue : A → Type 0} {r : Operations A} (laws : RingLaws IsValue r) (w : Web) (fixed : List Rows) (n : ℤ) (a : Assignment) where
  -- a start up to n
  pub all-known : (s product : Terms A) (legs : List Legs) (start low first : ℤ) (left : ℕ) (xs : List A) → legs ≡ all_legs w a fixed → start ≡ start_of w fixed a → start ≤ℤ n → start +ℤ pos left ≡ n → first ≡ start +ℤ edge_twist w a → product ≡ front_terms r legs left → xs ≡ listed (signed r product.coefficients first) (left + 1) → low ≡ start → s ≡ terms low xs → s ≡ assignment_terms r w fixed n a
  unfolding terms-from
  all-known s product legs start low first left xs el es h en ef ep ex elow eq =
      let more : left + 1 ≡ suc left = omega arith in
      let row : product.coefficients ≡ listed (front_times r (all_legs w a fixed)) (suc left) = ap (λ (t : Terms A). t.coefficients) ep ∙ ap (λ ls. listed (front_times r ls) (suc left)) el in
      let adds = above_adds start (n +ℤ pos 1) (omega (arith, ints)) in
      let count : above start (n +ℤ pos 1) ≡ suc left = count-through start n (above start (n +ℤ pos 1)) left adds en in
      let lowest : first_exponent w fixed n a ≡ start = ap (λ z. int_min z (n +ℤ pos 1)) (sym es) ∙ min-before start n h in
      eq
      ∙ (ap (λ l. terms l xs) elow
      ∙ (ap (terms start) (ex ∙ (ap (listed (signed r product.coefficients first)) more ∙ signed-are laws w fixed a start first left product.coefficients es ef row))
      ∙ (ap (λ k. terms start (listed (signed_times r w fixed a start) k)) (sym count) ∙ sym (terms-at r w fixed n a start lowest))))

-- numbers of 64 bits that are not near the end of their range
pub read_after : (n : ℤ) → unsigned_abs n ≤ 100000000 → to_z w64 (of_z w64 (to_z w64 (of_z w64 n) +ℤ pos 1)) ≡ n +ℤ pos 1
read_after n h = omega (arith, ints)

pub read_lesser : (n start : ℤ) → unsigned_abs n ≤ 100000000 → unsigned_abs start ≤ 10000000 → lt_z (to_z w64 (of_z w64 n)) (to_z w64 (of_z w64 start)) ≡ true → n <ℤ start
read_lesser n start h k e = grind (arith, ints)

pub read_greater : (n start : ℤ) → unsigned_abs n ≤ 100000000 → unsigned_abs start ≤ 10000000 → lt_z (to_z w64 (of_z w64 n)) (to_z w64 (of_z w64 start)) ≡ false → start ≤ℤ n
read_greater n start h k e = grind (arith, ints)

pub read_start : (start : ℤ) → unsigned_abs start ≤ 10000000 → to_z w64 (of_z w64 start) ≡ start
read_start start h = omega (arith, ints)

pub read_left : (n start : ℤ) (left : ℕ) → unsigned_abs n ≤ 100000000 → unsigned_abs start ≤ 10000000 → to_z w64 (of_z w64 start) +ℤ pos left ≡ to_z w64 (of_z w64 n) → start +ℤ pos left ≡ n
read_left n start left h k e = omega (arith, ints)

pub read_first : (first start twist : ℤ) → unsigned_abs first ≤ 2 ^ 40 → unsigned_abs start ≤ 10000000 → first ≡ to_z w64 (of_z w64 start) +ℤ twist → to_z w64 (of_z w64 first) ≡ start +ℤ twist
read_first first start twist h k e = omega (arith, ints)

pub start-bounded : {A : Type 0} (start n : ℤ) (left : ℕ) (xs : List A) → unsigned_abs n ≤ 100000000 → unsigned_abs start ≤ 10000000 → start +ℤ pos left ≡ n → length xs ≡ left + 1 → IsBounded (terms (to_z w64 (of_z w64 start)) xs)
start-bounded start n left xs h k e number = record {
  low = rw (read_start start k) (less start k);
  upto = rw (read_start start k, number) (ended start left e);
} where
  less : (z : ℤ) → unsigned_abs z ≤ 10000000 → unsigned_abs z ≤ 2 ^ 60
  less z l = omega arith

  ended : (start : ℤ) (left : ℕ) → start +ℤ pos left ≡ n → unsigned_abs ((start +ℤ pos (left + 1)) -ℤ pos 1) ≤ 2 ^ 60
  ended start left e = omega (arith, ints)
