-- What is true of each member of the lists of configurations: class and Euler characteristic are those asked for.
use Rattle.std.specs.Prelude.{◌≡◌, ℕ, zero, suc, ◌+◌, ◌-◌, ◌≤◌, Bool, true, false, cond, nat_eq, ℤ, pos, negsuc, List, [], ◌∷◌, map, length}
use Rattle.std.specs.List.{flat_map, AllByRecursion, range_with_len}
use Rattle.std.proofs.Common.{refl, ap, arith}
use Rattle.std.proofs.lemmas.Int.{ints}
use Rattle.std.proofs.lemmas.Bool.Decides.{nat_tests}
use Rattle.tv_lemmas.proofs.Members.{all-flat_map, all-map, all-filter, all-onto, all-any}
use Rattle.tv_spec_plane.specs.Web.{Web, below}
use Rattle.tv_cells.specs.declared.cell.Cell.{Cell}
use Rattle.tv_cells.specs.declared.legs.Legs.{Legs}
use Rattle.tv_cells.specs.Cells.{cube, sublists_of}
use Rattle.tv_cells.specs.Extras.{is_extras, extent}
use Rattle.tv_spec_boxes.specs.Assignments.{Rows, Assignment, all_legs, class_of, assignments_of, same_vector}
use Rattle.tv_cells.proofs.Sublists.{sublists_of-length}
use Rattle.tv_spec_boxes.proofs.Vectors.{same_vector_tells}
use Rattle.tv_spec_boxes.specs.Configurations.{Configuration, extras_of, fillings, fillings_of, boxes_left, boxes_of, chi_of, configurations, configurations_on}

pub numbers_at_most : (k n top : ℕ) → k + n ≤ top + 1 → AllByRecursion (λ i. i ≤ top) (range_with_len k n)
numbers_at_most k zero top h = tt
numbers_at_most k (suc n) top h = (omega arith, numbers_at_most (k + 1) n top (omega arith))

pub extras_long : (legs : Legs) (side i : ℕ) → AllByRecursion (λ s. length s ≡ i) (extras_of legs side i)
extras_long legs side i = all-filter (λ (s : List Cell). length s ≡ i) (λ (s : List Cell). length s ≡ i) (is_extras legs) (λ s e h. e) (sublists_of i (cube (side + extent legs))) (sublists_of-length i (cube (side + extent legs)))

no_boxes : (n : ℕ) (b : Bool) → nat_eq n 0 ≡ b → AllByRecursion (λ cells. boxes_of cells ≡ n) (cond b ([] ∷ []) [])
no_boxes n true e = (let z : 0 ≡ n = grind (arith, nat_tests) in z, tt)
no_boxes n false e = tt

abbrev HasBoxes : ℕ → List (List Cell) → Type 0
HasBoxes n cells = boxes_of cells ≡ n

fillings_full : (legs : List Legs) (side n : ℕ) → AllByRecursion (HasBoxes n) (fillings legs side n)
unfolding fillings
fillings_full [] side n = no_boxes n (nat_eq n 0) refl
fillings_full (l ∷ legs) side n =
    all-flat_map (λ (i : ℕ). i ≤ n) (HasBoxes n) (λ (i : ℕ). flat_map (λ (cells : List Cell). map (λ (others : List (List Cell)). cells ∷ others) (fillings legs side (n - i))) (extras_of l side i))
    (λ (i : ℕ) (h : i ≤ n). all-flat_map (λ (s : List Cell). length s ≡ i) (HasBoxes n) (λ (cells : List Cell). map (λ (others : List (List Cell)). cells ∷ others) (fillings legs side (n - i)))
    (λ (cells : List Cell) (long : length cells ≡ i). all-map (HasBoxes (n - i)) (HasBoxes n) (λ (others : List (List Cell)). cells ∷ others) (λ others e. filled cells others i n h long e) (fillings legs side (n - i)) (fillings_full legs side (n - i)))
    (extras_of l side i) (extras_long l side i))
    (below (suc n)) (numbers_at_most 0 (suc n) n (omega arith))
  where
    filled : (cells : List Cell) (others : List (List Cell)) (i n : ℕ) → i ≤ n → length cells ≡ i → boxes_of others ≡ n - i → boxes_of (cells ∷ others) ≡ n
    filled cells others i n h long e = omega arith

fillings_of_full : (legs : List Legs) (z : ℤ) → AllByRecursion (λ cells. pos (boxes_of cells) ≡ z) (fillings_of legs z)
fillings_of_full legs (pos n) = all-onto (HasBoxes n) (λ cells. pos (boxes_of cells) ≡ pos n) (λ cells e. ap pos e) (fillings legs n n) (fillings_full legs n n)
fillings_of_full legs (negsuc n) = tt

-- a configuration of that class and Euler characteristic
pub record IsOf (w : Web) (fixed : List Rows) (v : List ℤ) (n : ℤ) (c : Configuration) : Type 0 where
  pub class : class_of w c.diagrams ≡ v
  pub chi : chi_of w fixed c ≡ n

on_assignment : (w : Web) (fixed : List Rows) (v : List ℤ) (n : ℤ) (a : Assignment) → class_of w a ≡ v → AllByRecursion (IsOf w fixed v n) (configurations_on w fixed a n)
on_assignment w fixed v n a e = all-map (λ (cells : List (List Cell)). pos (boxes_of cells) ≡ boxes_left w fixed a n) (IsOf w fixed v n) (λ (cells : List (List Cell)). record { diagrams = a; extras = cells }) (λ cells h. record { class = e; chi = omega (arith, ints, h) }) (fillings_of (all_legs w a fixed) (boxes_left w fixed a n)) (fillings_of_full (all_legs w a fixed) (boxes_left w fixed a n))

pub configurations_are : (w : Web) (fixed : List Rows) (v : List ℤ) (n : ℤ) → AllByRecursion (IsOf w fixed v n) (configurations w fixed v n)
configurations_are w fixed v n = all-flat_map (λ (a : Assignment). class_of w a ≡ v) (IsOf w fixed v n) (λ (a : Assignment). configurations_on w fixed a n) (λ a e. on_assignment w fixed v n a e) (assignments_of w v) (all-filter (λ (a : Assignment). Unit {0}) (λ (a : Assignment). class_of w a ≡ v) (λ a. same_vector (class_of w a) v) (λ a none e. same_vector_tells (class_of w a) v e) _ (all-any (λ (a : Assignment). Unit {0}) (λ a. tt) _))
