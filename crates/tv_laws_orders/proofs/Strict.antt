-- In none of the orders do two come before one another.
use Rattle.std.specs.Prelude.{◌≡◌, ℕ, Bool, true, false, ◌&&◌, ◌||◌, nat_eq, nat_lt, [], ◌∷◌, length}
use Rattle.std.specs.Cmp.Lexicographic.{pointwise}
use Rattle.std.proofs.Common.{refl, ap, ◌∙◌, arith}
use Rattle.std.proofs.lemmas.Bool.{both_ways, false_from_ne_true, and_right}
use Rattle.std.proofs.lemmas.Bool.Decides.{nat_tests}
use Rattle.tv_lemmas.proofs.Distinct.{pointwise-tells}
use Rattle.tv_partition.specs.Rows.{size}
use Rattle.tv_partition.specs.Laws.{greater}
use Rattle.tv_partition.proofs.Members.{same_lists}
use Rattle.tv_cells.specs.Cells.{same, precedes}
use Rattle.tv_spec_boxes.specs.Assignments.{Assignment, same_rows, same_choice}
use Rattle.tv_laws_counts.proofs.Rises.{same_cell}
use Rattle.tv_laws_orders.specs.Orders.{by_number, first_differs, diagram_before, set_before, assignment_before, sets_before, configuration_before, IsStrict}
use Rattle.tv_laws_orders.specs.Laws.{OrdersAreStrict}

-- one comes before, or both are the same and something further decides: so of two not both, where the first test and the
-- further one are strict
either_strict : (before equal then after back since : Bool) → (before ≡ true → after ≡ false) →
    (before ≡ true → back ≡ false) → (equal ≡ true → after ≡ false) → (then ≡ true → since ≡ false) →
    (before || (equal && then)) ≡ true → (after || (back && since)) ≡ false
either_strict true equal then after back since f g h k e = rw (f refl, g refl) refl
either_strict false true true after back since f g h k e = rw (h refl, k refl) (and_right back false refl)
either_strict false true false after back since f g h k e = cc
either_strict false false then after back since f g h k e = cc

module _ {A : Type 0} (before : A → A → Bool) (strict : IsStrict before) where
  pub not_itself : (x : A) → before x x ≡ false
  not_itself x = false_from_ne_true (before x x) (λ e. both_ways (before x x) (strict x x e) e)

  -- a test of equality says no where one comes before the other
  apart : (same : A → A → Bool) → ((x y : A) → same x y ≡ true → x ≡ y) → (x y : A) → before x y ≡ true → same y x ≡ false
  apart same tells x y e =
      false_from_ne_true (same y x) (λ s. both_ways (before x y) (ap (before x) (tells y x s) ∙ not_itself x) e)

  pub first_differs-strict : (same : A → A → Bool) → ((x y : A) → same x y ≡ true → x ≡ y) → IsStrict (first_differs same before)
  first_differs-strict same tells [] ys e = cc
  first_differs-strict same tells (x ∷ xs) [] e = cc
  first_differs-strict same tells (x ∷ xs) (y ∷ ys) e =
      either_strict (before x y) (same x y) (first_differs same before xs ys) (before y x) (same y x) (first_differs same before ys xs)
      (strict x y) (apart same tells x y) (λ s. ap (before y) (tells x y s) ∙ not_itself y) (first_differs-strict same tells xs ys) e

  pub by_number-strict : (f : A → ℕ) → IsStrict (by_number f before)
  by_number-strict f x y e =
      either_strict (nat_lt (f x) (f y)) (nat_eq (f x) (f y)) (before x y) (nat_lt (f y) (f x)) (nat_eq (f y) (f x)) (before y x)
      (not_less (f x) (f y)) (not_equal (f x) (f y)) (not_behind (f x) (f y)) (strict x y) e
    where
      not_less : (m n : ℕ) → nat_lt m n ≡ true → nat_lt n m ≡ false
      not_less m n h = grind (arith, nat_tests)

      not_equal : (m n : ℕ) → nat_lt m n ≡ true → nat_eq n m ≡ false
      not_equal m n h = grind (arith, nat_tests)

      not_behind : (m n : ℕ) → nat_eq m n ≡ true → nat_lt n m ≡ false
      not_behind m n h = grind (arith, nat_tests)

greater-strict : IsStrict greater
greater-strict [] b e = cc
greater-strict (row ∷ a) [] e = refl
greater-strict (row ∷ a) (other ∷ b) e =
    either_strict (nat_lt other row) (nat_eq row other) (greater a b) (nat_lt row other) (nat_eq other row) (greater b a)
    (λ h. grind (arith, nat_tests)) (λ h. grind (arith, nat_tests)) (λ h. grind (arith, nat_tests)) (greater-strict a b) e

precedes-strict : IsStrict precedes
precedes-strict c d p = grind (arith, nat_tests)

diagrams-strict : IsStrict diagram_before
diagrams-strict = by_number-strict greater greater-strict size

sets-strict : IsStrict set_before
sets-strict = by_number-strict (first_differs same precedes) (first_differs-strict precedes precedes-strict same same_cell) length

assignments-strict : IsStrict assignment_before
assignments-strict = first_differs-strict diagram_before diagrams-strict same_rows same_lists

at_corners-strict : IsStrict sets_before
at_corners-strict = first_differs-strict set_before sets-strict (pointwise same) (pointwise-tells same same_cell)

same_choice-tells : (a b : Assignment) → same_choice a b ≡ true → a ≡ b
same_choice-tells = pointwise-tells same_rows same_lists

configurations-strict : IsStrict configuration_before
configurations-strict c d e =
    either_strict (assignment_before c.diagrams d.diagrams) (same_choice c.diagrams d.diagrams) (sets_before c.extras d.extras)
    (assignment_before d.diagrams c.diagrams) (same_choice d.diagrams c.diagrams) (sets_before d.extras c.extras)
    (assignments-strict c.diagrams d.diagrams)
    (apart assignment_before assignments-strict same_choice same_choice-tells c.diagrams d.diagrams)
    (λ s. ap (assignment_before d.diagrams) (same_choice-tells c.diagrams d.diagrams s) ∙ not_itself assignment_before assignments-strict d.diagrams)
    (at_corners-strict c.extras d.extras) e

pub orders_are_strict : OrdersAreStrict
orders_are_strict = record {
  diagrams = diagrams-strict;
  extras = sets-strict;
  assignments = assignments-strict;
  configurations = configurations-strict;
}
