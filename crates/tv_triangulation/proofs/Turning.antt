-- Unimodular triangles are turned counter-clockwise by an exchange of two points.
use Rattle.std.specs.Prelude.{◌≡◌, ℤ, pos, negsuc, neg_ℤ, Bool, true, false, cond, int_lt, List, [], ◌∷◌, unsigned_abs}
use Rattle.std.proofs.Common.{refl, ◌∙◌, arith}
use Rattle.std.proofs.lemmas.Int.{ints}
use Rattle.tv_spec_plane.specs.declared.records.Triple.{Triple}
use Rattle.tv_spec_plane.specs.Plane.{Point, at}
use Rattle.tv_laws_tiling.specs.Edges.{IsListed, IsTurned, AreTurned}
use Rattle.tv_spec_plane.proofs.Turns.{turn-exchange}
use Rattle.tv_triangulation.specs.Turned.{turn_of, turned_of, turned, IsUnit}
use Rattle.tv_triangulation.specs.Checks.{AreListed, AreUnit}

abs-negative : (z : ℤ) → int_lt z (pos 0) ≡ true → unsigned_abs z ≡ 1 → neg_ℤ z ≡ pos 1
abs-negative (pos n) less one = cc
abs-negative (negsuc n) less one = omega (arith, ints)

abs-positive : (z : ℤ) → int_lt z (pos 0) ≡ false → unsigned_abs z ≡ 1 → z ≡ pos 1
abs-positive (pos n) less one = omega (arith, ints)
abs-positive (negsuc n) less one = cc

turned_at : (ps : List Point) (t : Triple) (b : Bool) → int_lt (turn_of ps t) (pos 0) ≡ b → IsListed ps t → IsUnit ps t → IsTurned ps (cond b (record { a = t.a; b = t.c; c = t.b }) t)
turned_at ps t true negative listed unit = record {
  listed = record { a = listed.a; b = listed.c; c = listed.b };
  turned = turn-exchange (at ps t.a) (at ps t.b) (at ps t.c) ∙ abs-negative (turn_of ps t) negative unit;
}
turned_at ps t false positive listed unit = record { listed = listed; turned = abs-positive (turn_of ps t) positive unit }

pub turned-one : (ps : List Point) (t : Triple) → IsListed ps t → IsUnit ps t → IsTurned ps (turned_of ps t)
turned-one ps t listed unit = turned_at ps t (int_lt (turn_of ps t) (pos 0)) refl listed unit

pub turned-all : (ps : List Point) (ts : List Triple) → AreListed ps ts → AreUnit ps ts → AreTurned ps (turned ps ts)
turned-all ps [] listed unit = tt
turned-all ps (t ∷ ts) listed unit = (turned-one ps t listed.0 unit.0, turned-all ps ts listed.1 unit.1)
