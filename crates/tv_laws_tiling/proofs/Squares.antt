-- Two overlapping triangles of the square are unimodular, their areas add up to the square's, the point (1/2, 1/5) lies in
-- both, and they do not tile it.
use Rattle.std.specs.List.{AllByRecursion}
use Rattle.std.proofs.Common.{◌≡◌, ◌≢◌, ℕ, zero, suc, ◌<◌, pos, inl, refl, arith}
use Rattle.std.proofs.lemmas.Int.{ints}
use Rattle.tv_spec_plane.specs.Plane.{at, turn}
use Rattle.tv_spec_plane.specs.Tiling.{side, IsGeneric, IsInHull, IsInTriangle, Tiles, triangle_at}
use Rattle.tv_laws_tiling.specs.Squares.{square, rising, overlapping, middle, IsUnit, area_of, OverlappingTrianglesDoNotTile}

off_line : (i j : ℕ) → i < 4 → j < 4 → at square i ≢ at square j → side (at square i) (at square j) middle ≢ pos 0
unfolding side
off_line zero zero p q apart = absurd (apart refl)
off_line zero (suc zero) p q apart = λ e. omega (arith, ints)
off_line zero (suc (suc zero)) p q apart = λ e. omega (arith, ints)
off_line zero (suc (suc (suc zero))) p q apart = λ e. omega (arith, ints)
off_line (suc zero) zero p q apart = λ e. omega (arith, ints)
off_line (suc zero) (suc zero) p q apart = absurd (apart refl)
off_line (suc zero) (suc (suc zero)) p q apart = λ e. omega (arith, ints)
off_line (suc zero) (suc (suc (suc zero))) p q apart = λ e. omega (arith, ints)
off_line (suc (suc zero)) zero p q apart = λ e. omega (arith, ints)
off_line (suc (suc zero)) (suc zero) p q apart = λ e. omega (arith, ints)
off_line (suc (suc zero)) (suc (suc zero)) p q apart = absurd (apart refl)
off_line (suc (suc zero)) (suc (suc (suc zero))) p q apart = λ e. omega (arith, ints)
off_line (suc (suc (suc zero))) zero p q apart = λ e. omega (arith, ints)
off_line (suc (suc (suc zero))) (suc zero) p q apart = λ e. omega (arith, ints)
off_line (suc (suc (suc zero))) (suc (suc zero)) p q apart = λ e. omega (arith, ints)
off_line (suc (suc (suc zero))) (suc (suc (suc zero))) p q apart = absurd (apart refl)
off_line zero (suc (suc (suc (suc j)))) p q apart = absurd (omega arith)
off_line (suc zero) (suc (suc (suc (suc j)))) p q apart = absurd (omega arith)
off_line (suc (suc zero)) (suc (suc (suc (suc j)))) p q apart = absurd (omega arith)
off_line (suc (suc (suc zero))) (suc (suc (suc (suc j)))) p q apart = absurd (omega arith)
off_line (suc (suc (suc (suc i)))) j p q apart = absurd (omega arith)

is_generic : IsGeneric square middle
is_generic = record { positive = omega arith; off_lines = off_line }

in_hull : IsInHull square middle
unfolding side turn
in_hull zero zero pair = absurd (pair.apart refl)
in_hull zero (suc zero) pair = omega (arith, ints)
in_hull zero (suc (suc zero)) pair = absurd (let h = pair.left 1 (omega arith) in omega (arith, ints))
in_hull zero (suc (suc (suc zero))) pair = absurd (let h = pair.left 1 (omega arith) in omega (arith, ints))
in_hull (suc zero) zero pair = absurd (let h = pair.left 2 (omega arith) in omega (arith, ints))
in_hull (suc zero) (suc zero) pair = absurd (pair.apart refl)
in_hull (suc zero) (suc (suc zero)) pair = omega (arith, ints)
in_hull (suc zero) (suc (suc (suc zero))) pair = omega (arith, ints)
in_hull (suc (suc zero)) zero pair = omega (arith, ints)
in_hull (suc (suc zero)) (suc zero) pair = absurd (let h = pair.left 0 (omega arith) in omega (arith, ints))
in_hull (suc (suc zero)) (suc (suc zero)) pair = absurd (pair.apart refl)
in_hull (suc (suc zero)) (suc (suc (suc zero))) pair = omega (arith, ints)
in_hull (suc (suc (suc zero))) zero pair = omega (arith, ints)
in_hull (suc (suc (suc zero))) (suc zero) pair = absurd (let h = pair.left 0 (omega arith) in omega (arith, ints))
in_hull (suc (suc (suc zero))) (suc (suc zero)) pair = absurd (let h = pair.left 0 (omega arith) in omega (arith, ints))
in_hull (suc (suc (suc zero))) (suc (suc (suc zero))) pair = absurd (pair.apart refl)
in_hull zero (suc (suc (suc (suc j)))) pair = absurd (let h = pair.second_listed in omega arith)
in_hull (suc zero) (suc (suc (suc (suc j)))) pair = absurd (let h = pair.second_listed in omega arith)
in_hull (suc (suc zero)) (suc (suc (suc (suc j)))) pair = absurd (let h = pair.second_listed in omega arith)
in_hull (suc (suc (suc zero))) (suc (suc (suc (suc j)))) pair = absurd (let h = pair.second_listed in omega arith)
in_hull (suc (suc (suc (suc i)))) j pair = absurd (let h = pair.first_listed in omega arith)

in_first : IsInTriangle square (triangle_at overlapping 0) middle
unfolding side
in_first = inl (record { ab = omega (arith, ints); bc = omega (arith, ints); ca = omega (arith, ints) })

in_second : IsInTriangle square (triangle_at overlapping 1) middle
unfolding side
in_second = inl (record { ab = omega (arith, ints); bc = omega (arith, ints); ca = omega (arith, ints) })

not_tiling : Tiles square overlapping → ⊥
not_tiling tiles =
    let one = tiles.covered middle is_generic in_hull in
    let first : 0 ≡ one.0 = one.1.only 0 (omega arith) in_first in
    let second : 1 ≡ one.0 = one.1.only 1 (omega arith) in_second in
    omega arith

units : AllByRecursion IsUnit overlapping
unfolding turn
units = (refl, (refl, tt))

same_areas : area_of overlapping ≡ area_of rising
unfolding turn
same_areas = refl

pub overlapping_do_not_tile : OverlappingTrianglesDoNotTile
overlapping_do_not_tile = record { unimodular = units; areas = same_areas; overlap = (in_first, (in_second, tt)); not_tiling = not_tiling }
