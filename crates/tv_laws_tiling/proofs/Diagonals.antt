-- Either diagonal cuts the unit square into two triangles that tile it.
use Rattle.std.proofs.Common.{◌≡◌, ℕ, zero, suc, ◌<◌, ◌+ℤ◌, pos, ◌<ℤ◌, ◌⊎◌, inl, inr, refl, ap, arith}
use Rattle.std.proofs.lemmas.Int.{ints}
use Rattle.tv_spec_plane.specs.declared.records.RawPoint.{RawPoint}
use Rattle.tv_spec_plane.specs.Plane.{at}
use Rattle.tv_spec_plane.specs.Tiling.{Rational, side, IsGeneric, IsInHull, IsInTriangle, IsInOnly, Tiles, triangle_at}
use Rattle.tv_laws_tiling.specs.Squares.{square, rising, falling, DiagonalsTile}
use Rattle.tv_laws_tiling.proofs.SquareSides.{IsInside, hull_inside, inside_hull, other_side}

lower_holds : (p : Rational) → IsInside p → p.y <ℤ p.x → IsInTriangle square (record { a = 0; b = 1; c = 2 }) p
unfolding side
lower_holds p i h = inl (record { ab = omega (arith, ints); bc = omega (arith, ints); ca = omega (arith, ints) })

lower_is_inside : (p : Rational) → 0 < p.k → IsInTriangle square (record { a = 0; b = 1; c = 2 }) p → IsInside p × (p.y <ℤ p.x)
unfolding side
lower_is_inside p k (inl t) = let u = t.ab in let v = t.bc in let w = t.ca in (record { above = omega (arith, ints); before = omega (arith, ints); below = omega (arith, ints); behind = omega (arith, ints) }, omega (arith, ints))
lower_is_inside p k (inr t) = let u = t.ab in let v = t.bc in let w = t.ca in absurd (omega (arith, ints))

upper_holds : (p : Rational) → IsInside p → p.x <ℤ p.y → IsInTriangle square (record { a = 0; b = 2; c = 3 }) p
unfolding side
upper_holds p i h = inl (record { ab = omega (arith, ints); bc = omega (arith, ints); ca = omega (arith, ints) })

upper_is_inside : (p : Rational) → 0 < p.k → IsInTriangle square (record { a = 0; b = 2; c = 3 }) p → IsInside p × (p.x <ℤ p.y)
unfolding side
upper_is_inside p k (inl t) = let u = t.ab in let v = t.bc in let w = t.ca in (record { above = omega (arith, ints); before = omega (arith, ints); below = omega (arith, ints); behind = omega (arith, ints) }, omega (arith, ints))
upper_is_inside p k (inr t) = let u = t.ab in let v = t.bc in let w = t.ca in absurd (omega (arith, ints))

front_holds : (p : Rational) → IsInside p → (p.x +ℤ p.y) <ℤ pos p.k → IsInTriangle square (record { a = 0; b = 1; c = 3 }) p
unfolding side
front_holds p i h = inl (record { ab = omega (arith, ints); bc = omega (arith, ints); ca = omega (arith, ints) })

front_is_inside : (p : Rational) → 0 < p.k → IsInTriangle square (record { a = 0; b = 1; c = 3 }) p → IsInside p × ((p.x +ℤ p.y) <ℤ pos p.k)
unfolding side
front_is_inside p k (inl t) = let u = t.ab in let v = t.bc in let w = t.ca in (record { above = omega (arith, ints); before = omega (arith, ints); below = omega (arith, ints); behind = omega (arith, ints) }, omega (arith, ints))
front_is_inside p k (inr t) = let u = t.ab in let v = t.bc in let w = t.ca in absurd (omega (arith, ints))

back_holds : (p : Rational) → IsInside p → pos p.k <ℤ (p.x +ℤ p.y) → IsInTriangle square (record { a = 1; b = 2; c = 3 }) p
unfolding side
back_holds p i h = inl (record { ab = omega (arith, ints); bc = omega (arith, ints); ca = omega (arith, ints) })

back_is_inside : (p : Rational) → 0 < p.k → IsInTriangle square (record { a = 1; b = 2; c = 3 }) p → IsInside p × (pos p.k <ℤ (p.x +ℤ p.y))
unfolding side
back_is_inside p k (inl t) = let u = t.ab in let v = t.bc in let w = t.ca in (record { above = omega (arith, ints); before = omega (arith, ints); below = omega (arith, ints); behind = omega (arith, ints) }, omega (arith, ints))
back_is_inside p k (inr t) = let u = t.ab in let v = t.bc in let w = t.ca in absurd (omega (arith, ints))

-- the two triangles of `rising`

rising_only_first : (p : Rational) → 0 < p.k → p.y <ℤ p.x → (j : ℕ) → j < 2 → IsInTriangle square (triangle_at rising j) p → j ≡ 0
rising_only_first p k h zero l t = refl
rising_only_first p k h (suc zero) l t = let other : p.x <ℤ p.y = (upper_is_inside p k t).1 in absurd (omega (arith, ints))
rising_only_first p k h (suc (suc j)) l t = absurd (omega arith)

rising_only_second : (p : Rational) → 0 < p.k → p.x <ℤ p.y → (j : ℕ) → j < 2 → IsInTriangle square (triangle_at rising j) p → j ≡ 1
rising_only_second p k h zero l t = let other : p.y <ℤ p.x = (lower_is_inside p k t).1 in absurd (omega (arith, ints))
rising_only_second p k h (suc zero) l t = refl
rising_only_second p k h (suc (suc j)) l t = absurd (omega arith)

rising_sides : (p : Rational) → IsGeneric square p → (p.y <ℤ p.x) ⊎ (p.x <ℤ p.y)
unfolding side
rising_sides p g = elim (other_side (side (at square 0) (at square 2) p) (g.off_lines 0 2 (omega arith) (omega arith) (λ e. let q : pos 0 ≡ pos 1 = ap (λ (p : RawPoint). p.x) e in absurd (omega (arith, ints))))) [ inl h ↦ inr (omega (arith, ints)) | inr h ↦ inl (omega (arith, ints)) ]

rising_covers_at : (p : Rational) → 0 < p.k → IsInside p → (p.y <ℤ p.x) ⊎ (p.x <ℤ p.y) → (i : ℕ) × IsInOnly square rising p i
rising_covers_at p k i (inl h) = (0, record { listed = omega arith; within = lower_holds p i h; only = rising_only_first p k h })
rising_covers_at p k i (inr h) = (1, record { listed = omega arith; within = upper_holds p i h; only = rising_only_second p k h })

rising_within_at : (p : Rational) → 0 < p.k → (i : ℕ) → i < 2 → IsInTriangle square (triangle_at rising i) p → IsInHull square p
rising_within_at p k zero l t = inside_hull p (lower_is_inside p k t).0
rising_within_at p k (suc zero) l t = inside_hull p (upper_is_inside p k t).0
rising_within_at p k (suc (suc i)) l t = absurd (omega arith)

rising_tiles : Tiles square rising
rising_tiles = record {
  covered = λ p g h. rising_covers_at p g.positive (hull_inside p h) (rising_sides p g);
  within = λ p g. rising_within_at p g.positive;
}

-- the two triangles of `falling`

falling_only_first : (p : Rational) → 0 < p.k → (p.x +ℤ p.y) <ℤ pos p.k → (j : ℕ) → j < 2 → IsInTriangle square (triangle_at falling j) p → j ≡ 0
falling_only_first p k h zero l t = refl
falling_only_first p k h (suc zero) l t = let other : pos p.k <ℤ (p.x +ℤ p.y) = (back_is_inside p k t).1 in absurd (omega (arith, ints))
falling_only_first p k h (suc (suc j)) l t = absurd (omega arith)

falling_only_second : (p : Rational) → 0 < p.k → pos p.k <ℤ (p.x +ℤ p.y) → (j : ℕ) → j < 2 → IsInTriangle square (triangle_at falling j) p → j ≡ 1
falling_only_second p k h zero l t = let other : (p.x +ℤ p.y) <ℤ pos p.k = (front_is_inside p k t).1 in absurd (omega (arith, ints))
falling_only_second p k h (suc zero) l t = refl
falling_only_second p k h (suc (suc j)) l t = absurd (omega arith)

falling_sides : (p : Rational) → IsGeneric square p → ((p.x +ℤ p.y) <ℤ pos p.k) ⊎ (pos p.k <ℤ (p.x +ℤ p.y))
unfolding side
falling_sides p g = elim (other_side (side (at square 3) (at square 1) p) (g.off_lines 3 1 (omega arith) (omega arith) (λ e. let q : pos 0 ≡ pos 1 = ap (λ (p : RawPoint). p.x) e in absurd (omega (arith, ints))))) [ inl h ↦ inr (omega (arith, ints)) | inr h ↦ inl (omega (arith, ints)) ]

falling_covers_at : (p : Rational) → 0 < p.k → IsInside p → ((p.x +ℤ p.y) <ℤ pos p.k) ⊎ (pos p.k <ℤ (p.x +ℤ p.y)) → (i : ℕ) × IsInOnly square falling p i
falling_covers_at p k i (inl h) = (0, record { listed = omega arith; within = front_holds p i h; only = falling_only_first p k h })
falling_covers_at p k i (inr h) = (1, record { listed = omega arith; within = back_holds p i h; only = falling_only_second p k h })

falling_within_at : (p : Rational) → 0 < p.k → (i : ℕ) → i < 2 → IsInTriangle square (triangle_at falling i) p → IsInHull square p
falling_within_at p k zero l t = inside_hull p (front_is_inside p k t).0
falling_within_at p k (suc zero) l t = inside_hull p (back_is_inside p k t).0
falling_within_at p k (suc (suc i)) l t = absurd (omega arith)

falling_tiles : Tiles square falling
falling_tiles = record {
  covered = λ p g h. falling_covers_at p g.positive (hull_inside p h) (falling_sides p g);
  within = λ p g. falling_within_at p g.positive;
}

pub diagonals_tile : DiagonalsTile
diagonals_tile = (rising_tiles, falling_tiles)
