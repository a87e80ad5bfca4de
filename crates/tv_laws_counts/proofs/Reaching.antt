-- Extras reach no further out than their number: beyond the extent each of them has its whole way back to the extent
-- among them.
use Rattle.std.proofs.Common.{◌≡◌, ℕ, zero, suc, ◌+◌, ◌-◌, ◌<◌, ◌≤◌, Bool, true, false, ◌||◌, List, length, slice_index, inl, inr, refl, arith}
use Rattle.std.specs.Prelude.{nat_eq, nat_lt, nat_le}
use Rattle.std.specs.List.{list_any}
use Rattle.std.proofs.lemmas.Bool.{cases_eq}
use Rattle.std.proofs.lemmas.Bool.Decides.{nat_tests}
use Rattle.tv_partition.specs.Rows.{has, reach, IsDiagram}
use Rattle.tv_partition.proofs.Bounds.{diagram-falls, falls-row}
use Rattle.tv_partition.proofs.Shapes.{row-past}
use Rattle.tv_cells.specs.declared.cell.Cell.{Cell}
use Rattle.tv_cells.specs.declared.legs.Legs.{Legs}
use Rattle.tv_cells.specs.Cells.{cell, same}
use Rattle.tv_cells.specs.Extras.{bit, in_union, is_extras, AreDiagrams, extent}
use Rattle.tv_cells.proofs.Downward.{extras_stand, step_down}
use Rattle.tv_laws_counts.specs.Cubes.{ExtrasReach}
use Rattle.tv_laws_counts.proofs.Lines.{AreDifferent, line_length}

-- no cell of a diagram has an entry at its reach or beyond
outside_first : (rows : List ℕ) (i j : ℕ) → reach rows ≤ i → has rows i j ≡ false
outside_first rows i j h = let e = row-past rows i (omega arith) in rw e (grind (arith, nat_tests))

outside_second : (rows : List ℕ) (i j : ℕ) → IsDiagram rows → reach rows ≤ j → has rows i j ≡ false
outside_second rows i j d h = let l : slice_index rows i ≤ slice_index rows 0 = falls-row (slice_index rows 0) rows (diagram-falls rows d) i in below (slice_index rows i) (omega arith)
  where
    below : (n : ℕ) → n ≤ j → nat_lt j n ≡ false
    below n l = grind (arith, nat_tests)

no_bits : (a b c : Bool) → nat_eq ((bit a + bit b) + bit c) 0 ≡ true → (a ≡ false) × (b ≡ false) × (c ≡ false)
no_bits false false false e = (refl, refl, refl)
no_bits true b c e = absurd (some (bit b) (bit c) e)
  where
    some : (m n : ℕ) → nat_eq ((1 + m) + n) 0 ≡ true → ⊥
    some m n e = grind (arith, nat_tests)
no_bits false true c e = absurd (some (bit c) e)
  where
    some : (n : ℕ) → nat_eq ((0 + 1) + n) 0 ≡ true → ⊥
    some n e = grind (arith, nat_tests)
no_bits false false true e = cc

-- a cell in no leg that is in the union is among the cells
among : (a b c m : Bool) → a ≡ false → b ≡ false → c ≡ false → (nat_lt 0 ((bit a + bit b) + bit c) || m) ≡ true → m ≡ true
among false false false m p q r h = h
among true b c m p q r h = cc
among false true c m p q r h = cc
among false false true m p q r h = cc

module _ (legs : Legs) (cells : List Cell) (diagrams : AreDiagrams legs) (extras : is_extras legs cells ≡ true) where
  legs_of_cell : (c : Cell) → list_any (same c) cells ≡ true → (has legs.along_x c.y c.z ≡ false) × (has legs.along_y c.x c.z ≡ false) × (has legs.along_z c.x c.y ≡ false)
  legs_of_cell c m = no_bits (has legs.along_x c.y c.z) (has legs.along_y c.x c.z) (has legs.along_z c.x c.y) (extras_stand legs cells c extras m).outside

  back_x : (x y z : ℕ) → extent legs ≤ x → list_any (same (cell (suc x) y z)) cells ≡ true → list_any (same (cell x y z)) cells ≡ true
  back_x x y z h m =
      among (has legs.along_x y z) (has legs.along_y x z) (has legs.along_z x y) (list_any (same (cell x y z)) cells)
      (legs_of_cell (cell (suc x) y z) m).0 (outside_first legs.along_y x z (omega arith)) (outside_first legs.along_z x y (omega arith))
      (step_down (λ v. in_union legs cells (cell v y z)) x (extras_stand legs cells (cell (suc x) y z) extras m).along_x)

  back_y : (x y z : ℕ) → extent legs ≤ y → list_any (same (cell x (suc y) z)) cells ≡ true → list_any (same (cell x y z)) cells ≡ true
  back_y x y z h m =
      among (has legs.along_x y z) (has legs.along_y x z) (has legs.along_z x y) (list_any (same (cell x y z)) cells)
      (outside_first legs.along_x y z (omega arith)) (legs_of_cell (cell x (suc y) z) m).1 (outside_second legs.along_z x y diagrams.along_z (omega arith))
      (step_down (λ v. in_union legs cells (cell x v z)) y (extras_stand legs cells (cell x (suc y) z) extras m).along_y)

  back_z : (x y z : ℕ) → extent legs ≤ z → list_any (same (cell x y (suc z))) cells ≡ true → list_any (same (cell x y z)) cells ≡ true
  back_z x y z h m =
      among (has legs.along_x y z) (has legs.along_y x z) (has legs.along_z x y) (list_any (same (cell x y z)) cells)
      (outside_second legs.along_x y z diagrams.along_x (omega arith)) (outside_second legs.along_y x z diagrams.along_y (omega arith)) (legs_of_cell (cell x y (suc z)) m).2
      (step_down (λ v. in_union legs cells (cell x y v)) z (extras_stand legs cells (cell x y (suc z)) extras m).along_z)

-- from a place that is reached, down to the place low
all_back : (P : ℕ → Bool) (low : ℕ) → ((x : ℕ) → low ≤ x → P (suc x) ≡ true → P x ≡ true) → (n : ℕ) → P (low + n) ≡ true → (j : ℕ) → j ≤ n → P (low + j) ≡ true
all_back P low back zero p j h = let e : low + zero ≡ low + j = omega arith in rw (← e) p
all_back P low back (suc n) p j h = elim (cases_eq j (suc n)) [
  | inl e ↦ rw e p
  | inr ne ↦ let up : low + suc n ≡ suc (low + n) = omega arith in
      all_back P low back n (back (low + n) (omega arith) (rw up at p)) j (omega (arith, ne))
]

different_x : (e y z : ℕ) → AreDifferent (λ j. cell (e + j) y z)
different_x e y z j k h = grind (arith, nat_tests)

different_y : (e x z : ℕ) → AreDifferent (λ j. cell x (e + j) z)
different_y e x z j k h = grind (arith, nat_tests)

different_z : (e x y : ℕ) → AreDifferent (λ j. cell x y (e + j))
different_z e x y j k h = grind (arith, nat_tests)

-- an entry that is reached along a line of different cells stands below their number beyond low
on_line : (f : ℕ → Cell) (low x : ℕ) (cells : List Cell) → AreDifferent (λ j. f (low + j)) → ((v : ℕ) → low ≤ v → list_any (same (f (suc v))) cells ≡ true → list_any (same (f v)) cells ≡ true) → list_any (same (f x)) cells ≡ true → low ≤ x → x < length cells + low
on_line f low x cells different back m h =
    let e : x ≡ low + (x - low) = omega arith in
    let top = rw e at m in
    let n : x - low < length cells = line_length (λ j. f (low + j)) different (x - low) cells (all_back (λ v. list_any (same (f v)) cells) low back (x - low) top) in
    omega arith

-- below low there is nothing to show
reached : (low x n : ℕ) → (low ≤ x → x < n + low) → x < n + low
reached low x n far = step (nat_le low x) refl
  where
    step : (b : Bool) → nat_le low x ≡ b → x < n + low
    step true e = far (grind (arith, nat_tests))
    step false e = grind (arith, nat_tests)

pub extras_within : ExtrasReach
extras_within legs cells c diagrams extras m = record {
  x = reached (extent legs) c.x (length cells) (on_line (λ v. cell v c.y c.z) (extent legs) c.x cells (different_x (extent legs) c.y c.z) (λ v h n. back_x legs cells diagrams extras v c.y c.z h n) m);
  y = reached (extent legs) c.y (length cells) (on_line (λ v. cell c.x v c.z) (extent legs) c.y cells (different_y (extent legs) c.x c.z) (λ v h n. back_y legs cells diagrams extras c.x v c.z h n) m);
  z = reached (extent legs) c.z (length cells) (on_line (λ v. cell c.x c.y v) (extent legs) c.z cells (different_z (extent legs) c.x c.y) (λ v h n. back_z legs cells diagrams extras c.x c.y v h n) m);
}
