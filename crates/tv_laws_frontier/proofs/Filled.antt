-- How many boxes a filling has, and how many fillings there are.
use Rattle.std.specs.Prelude.{◌≡◌, ℕ, zero, suc, ◌+◌, ◌-◌, ◌≤◌, Bool, true, false, cond, nat_eq, ℤ, pos, negsuc, List, [], ◌∷◌, map, length, take}
use Rattle.std.specs.List.{flat_map, AllByRecursion, range_with_len}
use Rattle.std.proofs.Common.{refl, ap, arith}
use Rattle.std.proofs.lemmas.Bool.Decides.{nat_tests}
use Rattle.tv_lemmas.proofs.Members.{all-flat_map, all-map, all-filter, all-onto}
use Rattle.tv_spec_plane.specs.Web.{below}
use Rattle.tv_cells.specs.declared.cell.Cell.{Cell}
use Rattle.tv_cells.specs.declared.legs.Legs.{Legs}
use Rattle.tv_cells.specs.Cells.{cube, sublists_of}
use Rattle.tv_cells.specs.Extras.{is_extras, AreDiagrams, extent}
use Rattle.tv_cells.proofs.Sublists.{sublists_of-length}
use Rattle.tv_spec_boxes.specs.Configurations.{extras_of, fillings, fillings_of, boxes_of}
use Rattle.tv_laws_counts.specs.Ways.{ways_at}
use Rattle.tv_laws_counts.proofs.Fillings.{fillings_counted}
use Rattle.tv_spec_boxes.proofs.Members.{numbers_at_most, extras_long}

-- a set for each corner, and n boxes in all
abbrev pub HasShape : List Legs → ℕ → List (List Cell) → Type 0
HasShape legs n sets = (length sets ≡ length legs) × (boxes_of sets ≡ n)

no_boxes : (n : ℕ) (b : Bool) → nat_eq n 0 ≡ b → AllByRecursion (HasShape [] n) (cond b ([] ∷ []) [])
no_boxes n true e = ((refl, let z : 0 ≡ n = grind (arith, nat_tests) in z), tt)
no_boxes n false e = tt

pub fillings-shaped : (legs : List Legs) (side n : ℕ) → AllByRecursion (HasShape legs n) (fillings legs side n)
unfolding fillings
fillings-shaped [] side n = no_boxes n (nat_eq n 0) refl
fillings-shaped (l ∷ legs) side n =
    all-flat_map (λ (i : ℕ). i ≤ n) (HasShape (l ∷ legs) n) (λ (i : ℕ). flat_map (λ (cells : List Cell). map (λ (others : List (List Cell)). cells ∷ others) (fillings legs side (n - i))) (extras_of l side i))
    (λ (i : ℕ) (h : i ≤ n). all-flat_map (λ (s : List Cell). length s ≡ i) (HasShape (l ∷ legs) n) (λ (cells : List Cell). map (λ (others : List (List Cell)). cells ∷ others) (fillings legs side (n - i)))
    (λ (cells : List Cell) (long : length cells ≡ i). all-map (HasShape legs (n - i)) (HasShape (l ∷ legs) n) (λ (others : List (List Cell)). cells ∷ others) (λ others e. (ap suc e.0, filled cells others i n h long e.1)) (fillings legs side (n - i)) (fillings-shaped legs side (n - i)))
    (extras_of l side i) (extras_long l side i))
    (below (suc n)) (numbers_at_most 0 (suc n) n (omega arith))
  where
    filled : (cells : List Cell) (others : List (List Cell)) (i n : ℕ) → i ≤ n → length cells ≡ i → boxes_of others ≡ n - i → boxes_of (cells ∷ others) ≡ n
    filled cells others i n h long e = omega arith

pub fillings_of-full : (legs : List Legs) (z : ℤ) → AllByRecursion (λ sets. pos (boxes_of sets) ≡ z) (fillings_of legs z)
fillings_of-full legs (pos n) = all-onto (HasShape legs n) (λ sets. pos (boxes_of sets) ≡ pos n) (λ sets e. ap pos e.1) (fillings legs n n) (fillings-shaped legs n n)
fillings_of-full legs (negsuc n) = tt

pub all-front_of : {A : Type 0} (P : A → Type 0) (t : ℕ) (xs : List A) → AllByRecursion P xs → AllByRecursion P (take t xs)
all-front_of P zero xs all = tt
all-front_of P (suc t) [] all = tt
all-front_of P (suc t) (x ∷ xs) all = (all.0, all-front_of P t xs all.1)
