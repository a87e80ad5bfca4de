-- The unit square by coordinates: a rational point is in its hull where both lie between 0 and 1.
use Rattle.std.proofs.Common.{◌≡◌, ◌≢◌, ℕ, zero, suc, ◌<◌, ℤ, pos, negsuc, ◌≤ℤ◌, ◌<ℤ◌, ◌⊎◌, inl, inr, refl, ap, arith}
use Rattle.std.proofs.lemmas.Int.{ints}
use Rattle.tv_spec_plane.specs.declared.records.RawPoint.{RawPoint}
use Rattle.tv_spec_plane.specs.Plane.{at, turn}
use Rattle.tv_spec_plane.specs.Tiling.{Rational, side, IsHullPair, IsInHull}
use Rattle.tv_laws_tiling.specs.Squares.{square}

pub record IsInside (p : Rational) : Type 0 where
  pub above : pos 0 <ℤ p.y
  pub before : p.x <ℤ pos p.k
  pub below : p.y <ℤ pos p.k
  pub behind : pos 0 <ℤ p.x

bottom_leaves : (k : ℕ) → k < 4 → pos 0 ≤ℤ turn (at square 0) (at square 1) (at square k)
unfolding turn
bottom_leaves zero h = omega (arith, ints)
bottom_leaves (suc zero) h = omega (arith, ints)
bottom_leaves (suc (suc zero)) h = omega (arith, ints)
bottom_leaves (suc (suc (suc zero))) h = omega (arith, ints)
bottom_leaves (suc (suc (suc (suc k)))) h = absurd (omega arith)

bottom : IsHullPair square 0 1
bottom = record { first_listed = omega arith; second_listed = omega arith; apart = λ e. let q : pos 0 ≡ pos 1 = ap (λ (p : RawPoint). p.x) e in absurd (omega (arith, ints)); left = bottom_leaves }

right_leaves : (k : ℕ) → k < 4 → pos 0 ≤ℤ turn (at square 1) (at square 2) (at square k)
unfolding turn
right_leaves zero h = omega (arith, ints)
right_leaves (suc zero) h = omega (arith, ints)
right_leaves (suc (suc zero)) h = omega (arith, ints)
right_leaves (suc (suc (suc zero))) h = omega (arith, ints)
right_leaves (suc (suc (suc (suc k)))) h = absurd (omega arith)

right : IsHullPair square 1 2
right = record { first_listed = omega arith; second_listed = omega arith; apart = λ e. let q : pos 0 ≡ pos 1 = ap (λ (p : RawPoint). p.y) e in absurd (omega (arith, ints)); left = right_leaves }

top_leaves : (k : ℕ) → k < 4 → pos 0 ≤ℤ turn (at square 2) (at square 3) (at square k)
unfolding turn
top_leaves zero h = omega (arith, ints)
top_leaves (suc zero) h = omega (arith, ints)
top_leaves (suc (suc zero)) h = omega (arith, ints)
top_leaves (suc (suc (suc zero))) h = omega (arith, ints)
top_leaves (suc (suc (suc (suc k)))) h = absurd (omega arith)

top : IsHullPair square 2 3
top = record { first_listed = omega arith; second_listed = omega arith; apart = λ e. let q : pos 1 ≡ pos 0 = ap (λ (p : RawPoint). p.x) e in absurd (omega (arith, ints)); left = top_leaves }

left_leaves : (k : ℕ) → k < 4 → pos 0 ≤ℤ turn (at square 3) (at square 0) (at square k)
unfolding turn
left_leaves zero h = omega (arith, ints)
left_leaves (suc zero) h = omega (arith, ints)
left_leaves (suc (suc zero)) h = omega (arith, ints)
left_leaves (suc (suc (suc zero))) h = omega (arith, ints)
left_leaves (suc (suc (suc (suc k)))) h = absurd (omega arith)

left : IsHullPair square 3 0
left = record { first_listed = omega arith; second_listed = omega arith; apart = λ e. let q : pos 1 ≡ pos 0 = ap (λ (p : RawPoint). p.y) e in absurd (omega (arith, ints)); left = left_leaves }

pub hull_inside : (p : Rational) → IsInHull square p → IsInside p
unfolding side
hull_inside p h =
    let b = h 0 1 bottom in
    let r = h 1 2 right in
    let t = h 2 3 top in
    let l = h 3 0 left in
    record { above = omega (arith, ints); before = omega (arith, ints); below = omega (arith, ints); behind = omega (arith, ints) }

pub inside_hull : (p : Rational) → IsInside p → IsInHull square p
unfolding side turn
inside_hull p i zero zero pair = absurd (pair.apart refl)
inside_hull p i zero (suc zero) pair = omega (arith, ints)
inside_hull p i zero (suc (suc zero)) pair = absurd (let h = pair.left 1 (omega arith) in omega (arith, ints))
inside_hull p i zero (suc (suc (suc zero))) pair = absurd (let h = pair.left 1 (omega arith) in omega (arith, ints))
inside_hull p i (suc zero) zero pair = absurd (let h = pair.left 2 (omega arith) in omega (arith, ints))
inside_hull p i (suc zero) (suc zero) pair = absurd (pair.apart refl)
inside_hull p i (suc zero) (suc (suc zero)) pair = omega (arith, ints)
inside_hull p i (suc zero) (suc (suc (suc zero))) pair = absurd (let h = pair.left 2 (omega arith) in omega (arith, ints))
inside_hull p i (suc (suc zero)) zero pair = absurd (let h = pair.left 3 (omega arith) in omega (arith, ints))
inside_hull p i (suc (suc zero)) (suc zero) pair = absurd (let h = pair.left 0 (omega arith) in omega (arith, ints))
inside_hull p i (suc (suc zero)) (suc (suc zero)) pair = absurd (pair.apart refl)
inside_hull p i (suc (suc zero)) (suc (suc (suc zero))) pair = omega (arith, ints)
inside_hull p i (suc (suc (suc zero))) zero pair = omega (arith, ints)
inside_hull p i (suc (suc (suc zero))) (suc zero) pair = absurd (let h = pair.left 0 (omega arith) in omega (arith, ints))
inside_hull p i (suc (suc (suc zero))) (suc (suc zero)) pair = absurd (let h = pair.left 0 (omega arith) in omega (arith, ints))
inside_hull p i (suc (suc (suc zero))) (suc (suc (suc zero))) pair = absurd (pair.apart refl)
inside_hull p i zero (suc (suc (suc (suc b)))) pair = absurd (let h = pair.second_listed in omega arith)
inside_hull p i (suc zero) (suc (suc (suc (suc b)))) pair = absurd (let h = pair.second_listed in omega arith)
inside_hull p i (suc (suc zero)) (suc (suc (suc (suc b)))) pair = absurd (let h = pair.second_listed in omega arith)
inside_hull p i (suc (suc (suc zero))) (suc (suc (suc (suc b)))) pair = absurd (let h = pair.second_listed in omega arith)
inside_hull p i (suc (suc (suc (suc a)))) b pair = absurd (let h = pair.first_listed in omega arith)

pub other_side : (z : ℤ) → z ≢ pos 0 → (pos 0 <ℤ z) ⊎ (z <ℤ pos 0)
other_side (pos zero) n = absurd (n refl)
other_side (pos (suc k)) n = inl (omega (arith, ints))
other_side (negsuc k) n = inr (omega (arith, ints))
