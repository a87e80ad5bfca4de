-- The premise that the points are not all on a line is needed: two points alone are tiled by no triangles, but not matched by them.
use Rattle.std.specs.Prelude.{◌≡◌, ℕ, zero, suc, ◌<◌, pos, ◌≤ℤ◌, List, [], ◌∷◌}
use Rattle.std.proofs.Common.{refl, ap, sym, subst, arith, inl, inr}
use Rattle.std.proofs.lemmas.Int.{ints}
use Rattle.tv_spec_plane.specs.Plane.{Point, at, turn, Segment, IsBetween, IsHullSegment}
use Rattle.tv_spec_plane.specs.Tiling.{Rational, IsInHull, Tiles}
use Rattle.tv_laws_tiling.specs.Members.{Among}
use Rattle.tv_laws_tiling.specs.Hull.{IsHull}
use Rattle.tv_laws_tiling.specs.Edges.{IsMatched}
use Rattle.tv_laws_tiling.specs.Points.{AreSmall, AreDistinct}
use Rattle.tv_laws_tiling.proofs.Turns.{side-back}
use Rattle.tv_laws_tiling.proofs.Sides.{hull-pair}
use Rattle.tv_laws_tiling.proofs.Heights.{not-less}

abbrev couple : List Point
couple = record { x = pos 0; y = pos 0 } ∷ record { x = pos 1; y = pos 0 } ∷ []

abbrev couple_segments : List Segment
couple_segments = (0, 1) ∷ (1, 0) ∷ []

by_two : (P : ℕ → Type 0) → P 0 → P 1 → (k : ℕ) → k < 2 → P k
by_two P zeroth first zero h = zeroth
by_two P zeroth first (suc zero) h = first
by_two P zeroth first (suc (suc k)) h = absurd (omega arith)

couple_01 : IsHullSegment couple 0 1
unfolding turn
couple_01 = record {
  first_listed = omega arith;
  second_listed = omega arith;
  apart = λ e. let f : pos 0 ≡ pos 1 = ap (λ (p : Point). p.x) e in omega (arith, ints);
  left = by_two (λ k. pos 0 ≤ℤ turn (at couple 0) (at couple 1) (at couple k)) (omega (arith, ints)) (omega (arith, ints));
  bare = by_two (λ k. IsBetween couple 0 1 k → ⊥) (λ h. omega (arith, ints, h.inside)) (λ h. omega (arith, ints, h.inside));
}

couple_10 : IsHullSegment couple 1 0
unfolding turn
couple_10 = record {
  first_listed = omega arith;
  second_listed = omega arith;
  apart = λ e. let f : pos 1 ≡ pos 0 = ap (λ (p : Point). p.x) e in omega (arith, ints);
  left = by_two (λ k. pos 0 ≤ℤ turn (at couple 1) (at couple 0) (at couple k)) (omega (arith, ints)) (omega (arith, ints));
  bare = by_two (λ k. IsBetween couple 1 0 k → ⊥) (λ h. omega (arith, ints, h.inside)) (λ h. omega (arith, ints, h.inside));
}

couple-each : (a b : ℕ) → Among (a, b) couple_segments → IsHullSegment couple a b
couple-each a b (inl e) = subst (λ (s : Segment). IsHullSegment couple s.0 s.1) (sym e) couple_01
couple-each a b (inr (inl e)) = subst (λ (s : Segment). IsHullSegment couple s.0 s.1) (sym e) couple_10
couple-each a b (inr (inr m)) = elim m [ ]

couple-whole : (a : ℕ) → a < 2 → (b : ℕ) → b < 2 → IsHullSegment couple a b → Among (a, b) couple_segments
couple-whole = by_two (λ a. (b : ℕ) → b < 2 → IsHullSegment couple a b → Among (a, b) couple_segments)
    (by_two (λ b. IsHullSegment couple 0 b → Among (0, b) couple_segments) (λ h. absurd (h.apart refl)) (λ h. inl refl))
    (by_two (λ b. IsHullSegment couple 1 b → Among (1, b) couple_segments) (λ h. inr (inl refl)) (λ h. absurd (h.apart refl)))

couple_hull : IsHull couple couple_segments
couple_hull = record {
  round = record {
    least = 0;
    greatest = 1;
    up = (0, 1) ∷ [];
    back = (1, 0) ∷ [];
    whole = refl;
    first = record {
      listed = omega arith;
      least = by_two _
          (not-less (at couple 0) (at couple 0) (λ h. omega (arith, ints)) (λ e h. omega (arith, ints)))
          (not-less (at couple 1) (at couple 0) (λ h. omega (arith, ints)) (λ e h. omega (arith, ints)));
    };
    last = record {
      listed = omega arith;
      greatest = by_two _
          (not-less (at couple 1) (at couple 0) (λ h. omega (arith, ints)) (λ e h. omega (arith, ints)))
          (not-less (at couple 1) (at couple 1) (λ h. omega (arith, ints)) (λ e h. omega (arith, ints)));
    };
    climbs = (refl, inl (omega (arith, ints)), refl);
    descends = (refl, inl (omega (arith, ints)), refl);
  };
  each = couple-each;
  whole = λ a b h. couple-whole a h.first_listed b h.second_listed h;
  once = (
    λ m. elim m [
      | inl e ↦ let f : 0 ≡ 1 = ap (λ (s : Segment). s.0) e in omega arith
      | inr n ↦ n
    ],
    (λ n. n, tt),
  );
}

couple_small : AreSmall couple
couple_small = ((omega arith, omega arith), ((omega arith, omega arith), tt))

couple_distinct : AreDistinct couple
couple_distinct i j hi hj e = by_two (λ a. at couple a ≡ at couple j → a ≡ j)
    (by_two (λ b. at couple 0 ≡ at couple b → 0 ≡ b) (λ h. refl) (λ h. absurd (couple_01.apart h)) j hj)
    (by_two (λ b. at couple 1 ≡ at couple b → 1 ≡ b) (λ h. absurd (couple_10.apart h)) (λ h. refl) j hj) i hi e

couple-flat : (p : Rational) → IsInHull couple p → ⊥
couple-flat p within =
    let out = within 0 1 (hull-pair couple 0 1 couple_01) in
    let home = within 1 0 (hull-pair couple 1 0 couple_10) in
    let back = side-back (at couple 0) (at couple 1) p in
    omega (arith, ints)

couple_tiled : Tiles couple []
couple_tiled = record {
  covered = λ p generic within. absurd (couple-flat p within);
  within = λ p generic i h m. absurd (omega arith);
}

couple_not_matched : IsMatched couple_segments [] → ⊥
couple_not_matched matched = matched.covered (0, 1) (inl refl)
