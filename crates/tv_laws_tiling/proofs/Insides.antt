-- The test that a rational point is inside a turned triangle.
--
-- inside ps p t == p is strictly left of the three sides of t
use Rattle.std.specs.Prelude.{◌≡◌, Bool, true, false, ◌&&◌, ℤ, pos, ◌+ℤ◌, ◌*ℤ◌, neg_ℤ, ◌≤ℤ◌, ◌<ℤ◌, List}
use Rattle.std.proofs.Common.{refl, ap, ◌∙◌, arith, inl, inr}
use Rattle.std.proofs.lemmas.Int.{ints}
use Rattle.tv_spec_plane.specs.declared.records.Triple.{Triple}
use Rattle.tv_spec_plane.specs.Plane.{Point, at, turn}
use Rattle.tv_spec_plane.specs.Tiling.{Rational, side, IsGeneric, IsInHull, IsLeft, IsInTriangle}
use Rattle.tv_laws_tiling.specs.Edges.{IsTurned}
use Rattle.tv_lemmas.proofs.Signs.{nonneg-positive, mul-nonneg-nonneg, positive, positive-true, true-positive}
use Rattle.tv_spec_plane.proofs.Turns.{turn-exchange}
use Rattle.tv_laws_tiling.proofs.Turns.{side-sum, side-spread}
use Rattle.tv_lemmas.proofs.Tests.{and-left, and-right}

unfoldable pub inside : List Point → Rational → Triple → Bool
inside ps p t = positive (side (at ps t.c) (at ps t.a) p) && (positive (side (at ps t.a) (at ps t.b) p) && positive (side (at ps t.b) (at ps t.c) p))

and-true : (x y : Bool) → x ≡ true → y ≡ true → (x && y) ≡ true
and-true x y e f = rw (e, f)

pub inside-left : (ps : List Point) (p : Rational) (t : Triple) → inside ps p t ≡ true → IsLeft (at ps t.a) (at ps t.b) (at ps t.c) p
unfolding inside
inside-left ps p t e =
    let rest = and-right _ _ e in
    record {
      ab = true-positive _ (and-left _ _ rest);
      bc = true-positive _ (and-right _ _ rest);
      ca = true-positive _ (and-left _ _ e);
    }

pub left-inside : (ps : List Point) (p : Rational) (t : Triple) → IsLeft (at ps t.a) (at ps t.b) (at ps t.c) p → inside ps p t ≡ true
unfolding inside
left-inside ps p t h = and-true _ _ (positive-true _ h.ca) (and-true _ _ (positive-true _ h.ab) (positive-true _ h.bc))

-- the other orientation has no inside
no_sum : (u v w d k : ℤ) → u +ℤ (v +ℤ w) ≡ k *ℤ neg_ℤ d → d ≡ pos 1 → pos 0 ≤ℤ k → pos 0 <ℤ u → pos 0 <ℤ v → pos 0 <ℤ w → ⊥
no_sum u v w d k e one hk hu hv hw = let f = rw one at e in omega (arith, ints)

pub triangle-left : (ps : List Point) (p : Rational) (t : Triple) → IsTurned ps t → IsInTriangle ps t p → IsLeft (at ps t.a) (at ps t.b) (at ps t.c) p
triangle-left ps p t h (inl m) = m
triangle-left ps p t h (inr m) = absurd (no_sum (side (at ps t.a) (at ps t.c) p) (side (at ps t.c) (at ps t.b) p) (side (at ps t.b) (at ps t.a) p) (turn (at ps t.a) (at ps t.b) (at ps t.c)) (pos p.k)
    (side-sum (at ps t.a) (at ps t.c) (at ps t.b) p ∙ ap (λ d. pos p.k *ℤ d) (turn-exchange (at ps t.a) (at ps t.b) (at ps t.c))) h.turned (omega (arith, ints)) m.ab m.bc m.ca)

weak : (z : ℤ) → pos 0 <ℤ z → pos 0 ≤ℤ z
weak z h = omega (arith, ints)

three-nonneg : (s x y z : ℤ) → s ≡ x +ℤ (y +ℤ z) → pos 0 ≤ℤ x → pos 0 ≤ℤ y → pos 0 ≤ℤ z → pos 0 ≤ℤ s
three-nonneg s x y z e hx hy hz = omega (arith, ints)

-- the corners are on the left of each hull pair or on its line, and so is what is inside
pub left-in_hull : (ps : List Point) (p : Rational) (t : Triple) → IsTurned ps t → IsGeneric ps p → IsLeft (at ps t.a) (at ps t.b) (at ps t.c) p → IsInHull ps p
left-in_hull ps p t h generic left e f pair =
    nonneg-positive (side (at ps e) (at ps f) p)
    (three-nonneg _ _ _ _ (side-spread (at ps t.a) (at ps t.b) (at ps t.c) (at ps e) (at ps f) p h.turned)
    (mul-nonneg-nonneg _ _ (weak _ left.bc) (pair.left t.a h.listed.a))
    (mul-nonneg-nonneg _ _ (weak _ left.ca) (pair.left t.b h.listed.b))
    (mul-nonneg-nonneg _ _ (weak _ left.ab) (pair.left t.c h.listed.c)))
    (generic.off_lines e f pair.first_listed pair.second_listed pair.apart)
