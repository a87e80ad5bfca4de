-- The orders in which diagrams, sets of extras, assignments and configurations are listed, each a test of two of them.
--
-- by_number f before x y == the lesser number f comes first; of two that have the same, as that order says
-- first_differs same before xs ys == at the first place where the two lists differ, xs has what comes before
-- diagram_before a b     == a has fewer cells; of two of one size, the greater row at the first place where they differ
-- set_before s t         == s has fewer cells; of two with as many, each written in the order of cells, the earlier cell at
--                           the first place where they differ: the least cell that only one of them has is of s
-- assignment_before a b  == at the first edge where they differ, a has the diagram that comes before
-- sets_before ss ts      == at the first corner where they differ, ss has the set that comes before
-- configuration_before c d == the assignment of c comes before; of two with the same, its sets at the corners do
-- IsInOrder before xs    == each member comes before every later one
-- IsStrict before        == of two no more than one comes before the other, and none before itself
use Rattle.std.specs.Prelude.{◌≡◌, ℕ, Bool, true, false, ◌&&◌, ◌||◌, List, ◌∷◌, length, nat_eq, nat_lt}
use Rattle.std.specs.Cmp.Lexicographic.{pointwise}
use Rattle.std.specs.List.{AllPairs}
use Rattle.tv_partition.specs.Rows.{size}
use Rattle.tv_partition.specs.Laws.{greater}
use Rattle.tv_cells.specs.declared.cell.Cell.{Cell}
use Rattle.tv_cells.specs.Cells.{same, precedes}
use Rattle.tv_spec_boxes.specs.Assignments.{Rows, Assignment, same_rows, same_choice}
use Rattle.tv_spec_boxes.specs.Configurations.{Configuration}

abbrev pub by_number : {A : Type 0} → (A → ℕ) → (A → A → Bool) → A → A → Bool
by_number f before x y = nat_lt (f x) (f y) || (nat_eq (f x) (f y) && before x y)

abbrev pub first_differs : {A : Type 0} → (A → A → Bool) → (A → A → Bool) → List A → List A → Bool
first_differs same before (x ∷ xs) (y ∷ ys) = before x y || (same x y && first_differs same before xs ys)
first_differs same before _ _ = false

abbrev pub diagram_before : Rows → Rows → Bool
diagram_before = by_number size greater

abbrev pub set_before : List Cell → List Cell → Bool
set_before = by_number length (first_differs same precedes)

abbrev pub assignment_before : Assignment → Assignment → Bool
assignment_before = first_differs same_rows diagram_before

abbrev pub sets_before : List (List Cell) → List (List Cell) → Bool
sets_before = first_differs (pointwise same) set_before

abbrev pub configuration_before : Configuration → Configuration → Bool
configuration_before c d =
    assignment_before c.diagrams d.diagrams || (same_choice c.diagrams d.diagrams && sets_before c.extras d.extras)

abbrev pub IsInOrder : {A : Type 0} → (A → A → Bool) → List A → Type 0
IsInOrder before xs = AllPairs (λ x y. before x y ≡ true) xs

abbrev pub IsStrict : {A : Type 0} → (A → A → Bool) → Type 0
IsStrict {A} before = (x y : A) → before x y ≡ true → before y x ≡ false
