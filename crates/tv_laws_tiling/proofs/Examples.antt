-- The premises of the laws can be met: the unit triangle has its hull, matches it and so tiles it.
use Rattle.std.specs.Prelude.{◌≡◌, ℕ, zero, suc, ◌<◌, pos, ◌≤ℤ◌, ◌<ℤ◌, List, [], ◌∷◌}
use Rattle.std.proofs.Common.{refl, ap, sym, subst, arith, inl, inr}
use Rattle.std.proofs.lemmas.Int.{ints}
use Rattle.tv_spec_plane.specs.declared.records.Triple.{Triple}
use Rattle.tv_spec_plane.specs.Plane.{Point, at, turn, Segment, IsBetween, IsHullSegment}
use Rattle.tv_spec_plane.specs.Tiling.{Tiles}
use Rattle.tv_laws_tiling.specs.Members.{Among}
use Rattle.tv_laws_tiling.specs.Hull.{IsLess, IsHull}
use Rattle.tv_laws_tiling.specs.Edges.{AreTurned, IsMatched}
use Rattle.tv_laws_tiling.specs.Points.{AreSmall, SpansPlane}
use Rattle.tv_laws_tiling.proofs.Heights.{not-less}
use Rattle.tv_laws_tiling.proofs.Matched.{matched_triangles_tile}

abbrev points : List Point
points = record { x = pos 0; y = pos 0 } ∷ record { x = pos 1; y = pos 0 } ∷ record { x = pos 0; y = pos 1 } ∷ []

abbrev triangles : List Triple
triangles = record { a = 0; b = 1; c = 2 } ∷ []

abbrev hull : List Segment
hull = (0, 1) ∷ (1, 2) ∷ (2, 0) ∷ []

by_three : (P : ℕ → Type 0) → P 0 → P 1 → P 2 → (k : ℕ) → k < 3 → P k
by_three P zeroth first second zero h = zeroth
by_three P zeroth first second (suc zero) h = first
by_three P zeroth first second (suc (suc zero)) h = second
by_three P zeroth first second (suc (suc (suc k))) h = absurd (omega arith)

-- ---- each side is a hull segment
segment_01 : IsHullSegment points 0 1
unfolding turn
segment_01 = record {
  first_listed = omega arith;
  second_listed = omega arith;
  apart = λ e. let f : pos 0 ≡ pos 1 = ap (λ (p : Point). p.x) e in omega (arith, ints);
  left = by_three (λ k. pos 0 ≤ℤ turn (at points 0) (at points 1) (at points k)) (omega (arith, ints)) (omega (arith, ints)) (omega (arith, ints));
  bare = by_three (λ k. IsBetween points 0 1 k → ⊥) (λ h. omega (arith, ints, h.inside)) (λ h. omega (arith, ints, h.inside)) (λ h. omega (arith, ints, h.on_line));
}

segment_12 : IsHullSegment points 1 2
unfolding turn
segment_12 = record {
  first_listed = omega arith;
  second_listed = omega arith;
  apart = λ e. let f : pos 1 ≡ pos 0 = ap (λ (p : Point). p.x) e in omega (arith, ints);
  left = by_three (λ k. pos 0 ≤ℤ turn (at points 1) (at points 2) (at points k)) (omega (arith, ints)) (omega (arith, ints)) (omega (arith, ints));
  bare = by_three (λ k. IsBetween points 1 2 k → ⊥) (λ h. omega (arith, ints, h.on_line)) (λ h. omega (arith, ints, h.inside)) (λ h. omega (arith, ints, h.inside));
}

segment_20 : IsHullSegment points 2 0
unfolding turn
segment_20 = record {
  first_listed = omega arith;
  second_listed = omega arith;
  apart = λ e. let f : pos 1 ≡ pos 0 = ap (λ (p : Point). p.y) e in omega (arith, ints);
  left = by_three (λ k. pos 0 ≤ℤ turn (at points 2) (at points 0) (at points k)) (omega (arith, ints)) (omega (arith, ints)) (omega (arith, ints));
  bare = by_three (λ k. IsBetween points 2 0 k → ⊥) (λ h. omega (arith, ints, h.inside)) (λ h. omega (arith, ints, h.on_line)) (λ h. omega (arith, ints, h.inside));
}

hull-each : (a b : ℕ) → Among (a, b) hull → IsHullSegment points a b
hull-each a b (inl e) = subst (λ (s : Segment). IsHullSegment points s.0 s.1) (sym e) segment_01
hull-each a b (inr (inl e)) = subst (λ (s : Segment). IsHullSegment points s.0 s.1) (sym e) segment_12
hull-each a b (inr (inr (inl e))) = subst (λ (s : Segment). IsHullSegment points s.0 s.1) (sym e) segment_20
hull-each a b (inr (inr (inr m))) = elim m [ ]

-- ---- and no other segment is
segment-not_back : (a b c : ℕ) → c < 3 → turn (at points a) (at points b) (at points c) <ℤ pos 0 → IsHullSegment points a b → Among (a, b) hull
segment-not_back a b c listed right h = absurd (let left = h.left c listed in omega (arith, ints))

hull-whole : (a : ℕ) → a < 3 → (b : ℕ) → b < 3 → IsHullSegment points a b → Among (a, b) hull
unfolding turn
hull-whole = by_three (λ a. (b : ℕ) → b < 3 → IsHullSegment points a b → Among (a, b) hull)
    (by_three (λ b. IsHullSegment points 0 b → Among (0, b) hull) (λ h. absurd (h.apart refl)) (λ h. inl refl) (segment-not_back 0 2 1 (omega arith) (omega (arith, ints))))
    (by_three (λ b. IsHullSegment points 1 b → Among (1, b) hull) (segment-not_back 1 0 2 (omega arith) (omega (arith, ints))) (λ h. absurd (h.apart refl)) (λ h. inr (inl refl)))
    (by_three (λ b. IsHullSegment points 2 b → Among (2, b) hull) (λ h. inr (inr (inl refl))) (segment-not_back 2 1 0 (omega arith) (omega (arith, ints))) (λ h. absurd (h.apart refl)))

-- ---- the sides go round, each once
hull_is_hull : IsHull points hull
hull_is_hull = record {
  round = record {
    least = 0;
    greatest = 1;
    up = (0, 1) ∷ [];
    back = (1, 2) ∷ (2, 0) ∷ [];
    whole = refl;
    first = record {
      listed = omega arith;
      least = by_three (λ k. IsLess (at points k) (at points 0) → ⊥)
          (not-less (at points 0) (at points 0) (λ h. omega (arith, ints)) (λ e h. omega (arith, ints)))
          (not-less (at points 1) (at points 0) (λ h. omega (arith, ints)) (λ e h. omega (arith, ints)))
          (not-less (at points 2) (at points 0) (λ h. omega (arith, ints)) (λ e h. omega (arith, ints)));
    };
    last = record {
      listed = omega arith;
      greatest = by_three (λ k. IsLess (at points 1) (at points k) → ⊥)
          (not-less (at points 1) (at points 0) (λ h. omega (arith, ints)) (λ e h. omega (arith, ints)))
          (not-less (at points 1) (at points 1) (λ h. omega (arith, ints)) (λ e h. omega (arith, ints)))
          (not-less (at points 1) (at points 2) (λ h. omega (arith, ints)) (λ e h. omega (arith, ints)));
    };
    climbs = (refl, inl (omega (arith, ints)), refl);
    descends = (refl, inl (omega (arith, ints)), (refl, inr (refl, omega (arith, ints)), refl));
  };
  each = hull-each;
  whole = λ a b h. hull-whole a h.first_listed b h.second_listed h;
  once = (
    λ m. elim m [
      | inl e ↦ let f : 0 ≡ 1 = ap (λ (s : Segment). s.0) e in omega arith
      | inr (inl e) ↦ let f : 0 ≡ 2 = ap (λ (s : Segment). s.0) e in omega arith
      | inr (inr n) ↦ n
    ],
    (
      λ m. elim m [
        | inl e ↦ let f : 1 ≡ 2 = ap (λ (s : Segment). s.0) e in omega arith
        | inr n ↦ n
      ],
      (λ n. n, tt),
    ),
  );
}

points_are_small : AreSmall points
points_are_small = ((omega arith, omega arith), ((omega arith, omega arith), ((omega arith, omega arith), tt)))

points_are_spread : SpansPlane points
unfolding turn
points_are_spread = λ flat. let e = flat 0 1 2 (omega arith) (omega arith) (omega arith) in omega (arith, ints)

triangles_are_turned : AreTurned points triangles
unfolding turn
triangles_are_turned = (record { listed = record { a = omega arith; b = omega arith; c = omega arith }; turned = refl }, tt)

triangles_are_matched : IsMatched hull triangles
triangles_are_matched = record { once = hull_is_hull.once; matched = λ s m. inr m; covered = λ s m. m }

triangles_tile : Tiles points triangles
triangles_tile = matched_triangles_tile points triangles hull points_are_small points_are_spread hull_is_hull triangles_are_turned triangles_are_matched
