-- The premise that the points are not all on a line is needed: one point alone is matched by no triangles, but not tiled by them.
use Rattle.std.specs.Prelude.{◌≡◌, ℕ, zero, suc, ◌<◌, pos, List, [], ◌∷◌}
use Rattle.std.proofs.Common.{refl, arith}
use Rattle.std.proofs.lemmas.Int.{ints}
use Rattle.tv_spec_plane.specs.Plane.{Point, at}
use Rattle.tv_spec_plane.specs.Tiling.{Rational, IsGeneric, Tiles}
use Rattle.tv_laws_tiling.specs.Hull.{IsHull}
use Rattle.tv_laws_tiling.specs.Edges.{AreTurned, IsMatched}
use Rattle.tv_laws_tiling.specs.Points.{AreSmall}
use Rattle.tv_laws_tiling.proofs.Heights.{not-less}

abbrev single : List Point
single = record { x = pos 0; y = pos 0 } ∷ []

by_one : (P : ℕ → Type 0) → P 0 → (k : ℕ) → k < 1 → P k
by_one P zeroth zero h = zeroth
by_one P zeroth (suc k) h = absurd (omega arith)

single-same : (a b : ℕ) → a < 1 → b < 1 → at single a ≡ at single b
single-same a b ha hb = by_one (λ i. at single i ≡ at single b) (by_one (λ j. at single 0 ≡ at single j) refl b hb) a ha

single_hull : IsHull single []
single_hull = record {
  round = record {
    least = 0;
    greatest = 0;
    up = [];
    back = [];
    whole = refl;
    first = record { listed = omega arith; least = by_one _ (not-less (at single 0) (at single 0) (λ h. omega (arith, ints)) (λ e h. omega (arith, ints))) };
    last = record { listed = omega arith; greatest = by_one _ (not-less (at single 0) (at single 0) (λ h. omega (arith, ints)) (λ e h. omega (arith, ints))) };
    climbs = refl;
    descends = refl;
  };
  each = λ a b m. elim m [ ];
  whole = λ a b h. h.apart (single-same a b h.first_listed h.second_listed);
  once = tt;
}

single_small : AreSmall single
single_small = ((omega arith, omega arith), tt)

single_turned : AreTurned single []
single_turned = tt

single_matched : IsMatched [] []
single_matched = record { once = tt; matched = λ s m. elim m [ ]; covered = λ s m. m }

single_not_tiled : Tiles single [] → ⊥
single_not_tiled tiles =
    let p : Rational = record { x = pos 0; y = pos 0; k = 1 } in
    let generic : IsGeneric single p = record { positive = omega arith; off_lines = λ i j hi hj apart. absurd (apart (single-same i j hi hj)) } in
    let place = tiles.covered p generic (λ a b pair. absurd (pair.apart (single-same a b pair.first_listed pair.second_listed))) in
    omega (arith, place.1.listed)
