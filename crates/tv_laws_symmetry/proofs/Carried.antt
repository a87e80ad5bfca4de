-- Legs that are carried to others by a map of cells which is its own way back: as many sets of extras, and the same overlap
-- cost.
--
-- Carries f legs other == f takes each cube to itself and the first legs to the others
use Rattle.std.specs.Prelude.{◌≡◌, ℕ, ◌+◌, ◌-◌, Bool, true, false, ◌&&◌, ◌||◌, List, [], ◌∷◌, map, length, nat_eq}
use Rattle.std.specs.List.{list_any}
use Rattle.std.proofs.Common.{refl, sym, ap, ◌∙◌, arith}
use Rattle.std.proofs.lemmas.List.{length-map}
use Rattle.std.proofs.lemmas.List.Folds.{list_all-map}
use Rattle.tv_lemmas.specs.Sums.{sum_of}
use Rattle.tv_lemmas.proofs.Permuted.{Permuted, places, permuted-sum_of}
use Rattle.tv_cells.specs.declared.cell.Cell.{Cell}
use Rattle.tv_cells.specs.declared.legs.Legs.{Legs}
use Rattle.tv_cells.specs.Cells.{same, rises, cube}
use Rattle.tv_cells.specs.Extras.{bit, legs_at, stands, is_extras, extent, count}
use Rattle.tv_cells.specs.Costs.{overlaps, overlap_cost}
use Rattle.tv_cells.proofs.Rising.{before_rising, rises-tail, absent}
use Rattle.tv_cells.proofs.Cubes.{cube-rises}
use Rattle.tv_laws_counts.proofs.Rises.{same_cell}
use Rattle.tv_laws_symmetry.proofs.Passing.{passing, are_extras, count-passing, passing-same, passing-map, passing-permuted}
use Rattle.tv_laws_symmetry.proofs.Passing.{cells-equality, extras-of_cells, list_all-same}

pub record Carries (f : Cell → Cell) (legs other : Legs) : Type 0 where
  pub back : (c d : Cell) → same c (f d) ≡ same (f c) d
  pub cubes : (n : ℕ) (c : Cell) → list_any (same (f c)) (cube n) ≡ list_any (same c) (cube n)
  pub many : (c : Cell) → legs_at other (f c) ≡ legs_at legs c
  pub standing : (s : List Cell) (c : Cell) → stands other (map f s) (f c) ≡ stands legs s c
  pub far : extent other ≡ extent legs

-- ---- a rising list has each of its cells once

places-head : (x y : Cell) (ys : List Cell) (b : Bool) → same x y ≡ b → (same x y ≡ true → list_any (same x) ys ≡ false) →
    places same x ys ≡ bit (list_any (same x) ys) → bit b + places same x ys ≡ bit (b || list_any (same x) ys)
places-head x y ys true e none rest = let no = ap bit (none e) in omega arith
places-head x y ys false e none rest = omega arith

places-rising : (x : Cell) (cells : List Cell) → rises cells ≡ true → places same x cells ≡ bit (list_any (same x) cells)
places-rising x [] r = refl
places-rising x (y ∷ ys) r = places-head x y ys (same x y) refl none (places-rising x ys (rises-tail y ys r))
  where
    none : same x y ≡ true → list_any (same x) ys ≡ false
    none e = ap (λ c. list_any (same c) ys) (same_cell x y e) ∙ absent y ys (before_rising y ys r)

module _ (f : Cell → Cell) (legs other : Legs) (carries : Carries f legs other) where
  -- ---- a cube is carried to itself

  places-map : (x : Cell) (cells : List Cell) → places same x (map f cells) ≡ places same (f x) cells
  places-map x [] = refl
  places-map x (c ∷ cells) = let here = ap bit (carries.back x c) in let rest = places-map x cells in omega arith

  cube-carried : (n : ℕ) → Permuted same (cube n) (map f (cube n))
  cube-carried n = record { each = each }
    where
      each : (x : Cell) → places same x (cube n) ≡ places same x (map f (cube n))
      each x =
          places-rising x (cube n) (cube-rises n)
          ∙ (ap bit (sym (carries.cubes n x))
          ∙ (sym (places-rising (f x) (cube n) (cube-rises n)) ∙ sym (places-map x (cube n))))

  -- ---- counts

  extras-carried : (s : List Cell) → is_extras other (map f s) ≡ is_extras legs s
  extras-carried s =
      list_all-map (stands other (map f s)) f s
      ∙ list_all-same (λ c. stands other (map f s) (f c)) (stands legs s) (carries.standing s) s

  tests-carried : (i : ℕ) (s : List Cell) → are_extras other i (map f s) ≡ are_extras legs i s
  tests-carried i s =
      ap (λ b. b && nat_eq (length (map f s)) i) (extras-carried s) ∙ ap (λ n. is_extras legs s && nat_eq n i) (length-map s f)

  passing-carried : (i n : ℕ) → passing (are_extras other i) (cube n) ≡ passing (are_extras legs i) (cube n)
  passing-carried i n =
      passing-permuted (are_extras other i) (extras-of_cells other i) (cube n) (map f (cube n)) (cube-carried n)
      ∙ (passing-map (are_extras other i) f (cube n)
      ∙ passing-same (λ s. are_extras other i (map f s)) (are_extras legs i) (tests-carried i) (cube n))

  pub count-carried : (i : ℕ) → count other i ≡ count legs i
  count-carried i =
      count-passing other i
      ∙ (ap (λ n. passing (are_extras other i) (cube (i + n))) carries.far
      ∙ (passing-carried i (i + extent legs) ∙ sym (count-passing legs i)))

  -- ---- overlap costs

  overlaps-map : (cells : List Cell) → sum_of (λ c. legs_at other c - 1) (map f cells) ≡ sum_of (λ c. legs_at legs c - 1) cells
  overlaps-map [] = refl
  overlaps-map (c ∷ cells) =
      ap (λ n. (n - 1) + sum_of (λ d. legs_at other d - 1) (map f cells)) (carries.many c)
      ∙ ap (λ n. (legs_at legs c - 1) + n) (overlaps-map cells)

  overlaps-carried : (n : ℕ) → sum_of (λ c. legs_at other c - 1) (cube n) ≡ sum_of (λ c. legs_at legs c - 1) (cube n)
  overlaps-carried n =
      permuted-sum_of (λ c. legs_at other c - 1) same cells-equality (cube n) (map f (cube n)) (cube-carried n)
      ∙ overlaps-map (cube n)

  pub overlap-carried : overlap_cost other ≡ overlap_cost legs
  unfolding overlap_cost overlaps
  overlap-carried = ap (λ n. sum_of (λ c. legs_at other c - 1) (cube n)) carries.far ∙ overlaps-carried (extent legs)
