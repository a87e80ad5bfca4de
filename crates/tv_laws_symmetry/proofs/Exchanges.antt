-- An exchange of two axes carries the legs to those that are exchanged.
--
-- swap_xy c, swap_yz c == the cell with two of its entries exchanged
-- step legs s n c      == n is 0, or c is in the union
-- low_x legs s c       == so it is with the cell one step lower along x; low_y, low_z, along y and z
use Rattle.std.specs.Prelude.{◌≡◌, ℕ, ◌+◌, ◌-◌, max, Bool, ◌&&◌, ◌||◌, List, [], ◌∷◌, map, nat_eq, nat_lt}
use Rattle.std.specs.List.{list_any}
use Rattle.std.proofs.Common.{refl, sym, ap, ◌∙◌, arith}
use Rattle.std.proofs.Math.Bool.{and_comm}
use Rattle.tv_lemmas.proofs.Lists.{list_any-map}
use Rattle.tv_partition.specs.Rows.{has, reach}
use Rattle.tv_partition.proofs.Flip.{flipped-diagram, flipped-has}
use Rattle.tv_cells.specs.declared.cell.Cell.{Cell}
use Rattle.tv_cells.specs.declared.legs.Legs.{Legs}
use Rattle.tv_cells.specs.Cells.{cell, same, cube}
use Rattle.tv_cells.specs.Extras.{AreDiagrams, bit, legs_at, in_union, stands}
use Rattle.tv_cells.specs.Costs.{overlap_cost}
use Rattle.tv_cells.proofs.Cubes.{cube-has}
use Rattle.tv_laws_symmetry.specs.Symmetry.{exchanged_xy, exchanged_yz, ExchangedCount}
use Rattle.tv_laws_symmetry.proofs.Flipped.{reach-flipped}
use Rattle.tv_laws_symmetry.proofs.Passing.{and-turned}
use Rattle.tv_laws_symmetry.proofs.Carried.{Carries, count-carried, overlap-carried}

abbrev pub swap_xy : Cell → Cell
swap_xy c = cell c.y c.x c.z

abbrev pub swap_yz : Cell → Cell
swap_yz c = cell c.x c.z c.y

abbrev step : Legs → List Cell → ℕ → Cell → Bool
step legs s n c = nat_eq n 0 || in_union legs s c

abbrev low_x : Legs → List Cell → Cell → Bool
low_x legs s c = step legs s c.x (cell (c.x - 1) c.y c.z)

abbrev low_y : Legs → List Cell → Cell → Bool
low_y legs s c = step legs s c.y (cell c.x (c.y - 1) c.z)

abbrev low_z : Legs → List Cell → Cell → Bool
low_z legs s c = step legs s c.z (cell c.x c.y (c.z - 1))

and-last_turned : (a b c : Bool) → (a && (b && c)) ≡ (a && (c && b))
and-last_turned a b c = ap (λ u. a && u) (and_comm b c)

all-four : (a b c e a' b' c' e' : Bool) → a ≡ a' → b ≡ b' → c ≡ c' → e ≡ e' → (a && (b && (c && e))) ≡ (a' && (b' && (c' && e')))
all-four a b c e a' b' c' e' p q r t = rw (p, q, r, t) refl

list_any-same : (p q : Cell → Bool) → ((c : Cell) → p c ≡ q c) → (cells : List Cell) → list_any p cells ≡ list_any q cells
list_any-same p q alike [] = refl
list_any-same p q alike (c ∷ cells) =
    ap (λ b. b || list_any p cells) (alike c) ∙ ap (λ b. q c || b) (list_any-same p q alike cells)

-- what is carried is in the union exactly if it was before
module _
    (f : Cell → Cell)
    (legs other : Legs)
    (keeps : (c d : Cell) → same (f c) (f d) ≡ same c d)
    (many : (c : Cell) → legs_at other (f c) ≡ legs_at legs c)
  where
    among-carried : (s : List Cell) (c : Cell) → list_any (same (f c)) (map f s) ≡ list_any (same c) s
    among-carried s c = list_any-map (same (f c)) f s ∙ list_any-same (λ d. same (f c) (f d)) (same c) (keeps c) s

    step-carried : (s : List Cell) (n : ℕ) (c : Cell) → step other (map f s) n (f c) ≡ step legs s n c
    step-carried s n c =
        ap (λ m. nat_eq n 0 || (nat_lt 0 m || list_any (same (f c)) (map f s))) (many c)
        ∙ ap (λ b. nat_eq n 0 || (nat_lt 0 (legs_at legs c) || b)) (among-carried s c)

module _ (legs : Legs) (d : AreDiagrams legs) where
  -- ---- x and y

  many_xy : (c : Cell) → legs_at (exchanged_xy legs) (swap_xy c) ≡ legs_at legs c
  many_xy c =
      sums (bit (has legs.along_y c.x c.z)) (bit (has legs.along_x c.y c.z))
      (ap bit (flipped-has legs.along_z d.along_z c.x c.y))
    where
      sums : (a b : ℕ) {m n : ℕ} → m ≡ n → (a + b) + m ≡ (b + a) + n
      sums a b e = omega arith

  step_xy : (s : List Cell) (n : ℕ) (c : Cell) → step (exchanged_xy legs) (map swap_xy s) n (swap_xy c) ≡ step legs s n c
  step_xy =
      step-carried swap_xy legs (exchanged_xy legs)
      (λ a b. and-turned (nat_eq a.y b.y) (nat_eq a.x b.x) (nat_eq a.z b.z)) many_xy

  standing_xy : (s : List Cell) (c : Cell) → stands (exchanged_xy legs) (map swap_xy s) (swap_xy c) ≡ stands legs s c
  standing_xy s c =
      all-four _ _ _ _ _ _ _ _ (ap (λ n. nat_eq n 0) (many_xy c))
      (step_xy s c.y (cell c.x (c.y - 1) c.z)) (step_xy s c.x (cell (c.x - 1) c.y c.z)) (step_xy s c.z (cell c.x c.y (c.z - 1)))
      ∙ ap (λ u. nat_eq (legs_at legs c) 0 && u) (and-turned (low_y legs s c) (low_x legs s c) (low_z legs s c))

  cubes_xy : (n : ℕ) (c : Cell) → list_any (same (swap_xy c)) (cube n) ≡ list_any (same c) (cube n)
  cubes_xy n c = cube-has n (swap_xy c) ∙ (and-turned (nat_lt c.y n) (nat_lt c.x n) (nat_lt c.z n) ∙ sym (cube-has n c))

  carries_xy : Carries swap_xy legs (exchanged_xy legs)
  carries_xy = record {
    back = λ a b. and-turned (nat_eq a.x b.y) (nat_eq a.y b.x) (nat_eq a.z b.z);
    cubes = cubes_xy;
    many = many_xy;
    standing = standing_xy;
    far = far (reach legs.along_x) (reach legs.along_y) (reach-flipped legs.along_z d.along_z);
  }
    where
      far : (a b : ℕ) {m n : ℕ} → m ≡ n → max b (max a m) ≡ max a (max b n)
      far a b e = omega arith

  -- ---- y and z

  many_yz : (c : Cell) → legs_at (exchanged_yz legs) (swap_yz c) ≡ legs_at legs c
  many_yz c =
      sums (bit (has legs.along_z c.x c.y)) (bit (has legs.along_y c.x c.z))
      (ap bit (flipped-has legs.along_x d.along_x c.y c.z))
    where
      sums : (a b : ℕ) {m n : ℕ} → m ≡ n → (m + a) + b ≡ (n + b) + a
      sums a b e = omega arith

  step_yz : (s : List Cell) (n : ℕ) (c : Cell) → step (exchanged_yz legs) (map swap_yz s) n (swap_yz c) ≡ step legs s n c
  step_yz =
      step-carried swap_yz legs (exchanged_yz legs)
      (λ a b. and-last_turned (nat_eq a.x b.x) (nat_eq a.z b.z) (nat_eq a.y b.y)) many_yz

  standing_yz : (s : List Cell) (c : Cell) → stands (exchanged_yz legs) (map swap_yz s) (swap_yz c) ≡ stands legs s c
  standing_yz s c =
      all-four _ _ _ _ _ _ _ _ (ap (λ n. nat_eq n 0) (many_yz c))
      (step_yz s c.x (cell (c.x - 1) c.y c.z)) (step_yz s c.z (cell c.x c.y (c.z - 1))) (step_yz s c.y (cell c.x (c.y - 1) c.z))
      ∙ ap (λ u. nat_eq (legs_at legs c) 0 && u) (and-last_turned (low_x legs s c) (low_z legs s c) (low_y legs s c))

  cubes_yz : (n : ℕ) (c : Cell) → list_any (same (swap_yz c)) (cube n) ≡ list_any (same c) (cube n)
  cubes_yz n c = cube-has n (swap_yz c) ∙ (and-last_turned (nat_lt c.x n) (nat_lt c.z n) (nat_lt c.y n) ∙ sym (cube-has n c))

  carries_yz : Carries swap_yz legs (exchanged_yz legs)
  carries_yz = record {
    back = λ a b. and-last_turned (nat_eq a.x b.x) (nat_eq a.y b.z) (nat_eq a.z b.y);
    cubes = cubes_yz;
    many = many_yz;
    standing = standing_yz;
    far = far (reach legs.along_z) (reach legs.along_y) (reach-flipped legs.along_x d.along_x);
  }
    where
      far : (a b : ℕ) {m n : ℕ} → m ≡ n → max m (max a b) ≡ max n (max b a)
      far a b e = omega arith

  -- ---- what is kept

  pub diagrams_xy : AreDiagrams (exchanged_xy legs)
  diagrams_xy = record { along_x = d.along_y; along_y = d.along_x; along_z = flipped-diagram legs.along_z }

  pub diagrams_yz : AreDiagrams (exchanged_yz legs)
  diagrams_yz = record { along_x = flipped-diagram legs.along_x; along_y = d.along_z; along_z = d.along_y }

  pub overlap_xy : overlap_cost (exchanged_xy legs) ≡ overlap_cost legs
  overlap_xy = overlap-carried swap_xy legs (exchanged_xy legs) carries_xy

  pub overlap_yz : overlap_cost (exchanged_yz legs) ≡ overlap_cost legs
  overlap_yz = overlap-carried swap_yz legs (exchanged_yz legs) carries_yz

pub exchanged_count : ExchangedCount
exchanged_count = record {
  xy = λ legs i d. count-carried swap_xy legs (exchanged_xy legs) (carries_xy legs d) i;
  yz = λ legs i d. count-carried swap_yz legs (exchanged_yz legs) (carries_yz legs d) i;
}
