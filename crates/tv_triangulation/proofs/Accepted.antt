-- The laws, from what the checks leave.
use Rattle.std.proofs.Common.{◌≡◌, ℕ, ℤ, pos, negsuc, neg_ℤ, List, [], ◌∷◌, unsigned_abs, Bool, true, false, cond, IsTrue, ◌||◌, nat_eq, refl, sym, ◌∙◌, arith, subst}
use Rattle.std.specs.Prelude.{int_lt}
use Rattle.std.proofs.lemmas.Int.{ints}
use Rattle.std.proofs.lemmas.Bool.Decides.{nat_tests}
use Rattle.tv_spec_plane.specs.declared.records.Triple.{Triple}
use Rattle.tv_spec_plane.specs.Plane.{Point, at}
use Rattle.tv_laws_tiling.specs.Edges.{IsListed, IsTurned, AreTurned}
use Rattle.tv_spec_plane.proofs.Turns.{turn-exchange}
use Rattle.tv_triangulation.specs.Mesh.{Mesh, IsTriangulated}
use Rattle.tv_triangulation.specs.Turned.{turn_of, turned_of, turned, IsUnit}
use Rattle.tv_triangulation.specs.Checks.{AreListed, AreUnit}
use Rattle.tv_triangulation.specs.Faults.{PassesChecks}
use Rattle.tv_spec_plane.specs.Web.{NamesAll}
use Rattle.tv_triangulation.specs.Laws.{PassingTrianglesTile, TilingTrianglesPass, OneTriangleIsACorner}
use Rattle.tv_triangulation.proofs.Tilings.{accepted-tiles}
use Rattle.tv_triangulation.proofs.Tiled.{tiled-no_fault}
use Rattle.tv_triangulation.proofs.OneTriangle.{one_triangle}

unit_of : (z : ℤ) → z ≡ pos 1 → unsigned_abs z ≡ 1
unit_of z e = rw e refl

unit_of_neg : (z : ℤ) → neg_ℤ z ≡ pos 1 → unsigned_abs z ≡ 1
unit_of_neg (pos n) e = omega (arith, ints)
unit_of_neg (negsuc n) e = omega (arith, ints)

-- a triangle that is turned counter-clockwise where it names listed points and is unimodular does and is
unturned_by : (ps : List Point) (t : Triple) (b : Bool) → IsTurned ps (cond b (record { a = t.a; b = t.c; c = t.b }) t) → IsListed ps t × IsUnit ps t
unturned_by ps t true h = (record { a = h.listed.a; b = h.listed.c; c = h.listed.b }, unit_of_neg (turn_of ps t) (sym (turn-exchange (at ps t.a) (at ps t.b) (at ps t.c)) ∙ h.turned))
unturned_by ps t false h = (h.listed, unit_of (turn_of ps t) h.turned)

unturned : (ps : List Point) (ts : List Triple) → AreTurned ps (turned ps ts) → AreListed ps ts × AreUnit ps ts
unturned ps [] h = (tt, tt)
unturned ps (t ∷ ts) h = let first = unturned_by ps t (int_lt (turn_of ps t) (pos 0)) h.0 in let rest = unturned ps ts h.1 in ((first.0, rest.0), (first.1, rest.1))

mesh_of : (ps : List Point) (ts : List Triple) (m : Mesh) → PassesChecks ps ts m → IsTriangulated (record { points = ps; triangles = turned ps ts })
mesh_of ps ts m h = subst IsTriangulated h.whole h.triangulated

pub passing_triangles_tile : PassingTrianglesTile
passing_triangles_tile ps ts m coordinates h = let mesh = mesh_of ps ts m h in let plain = unturned ps ts mesh.turned in
    record { distinct = mesh.distinct; spread = mesh.spread; listed = plain.0; unit = plain.1; tiles = accepted-tiles ps ts m coordinates h }

pub tiling_triangles_pass : TilingTrianglesPass
tiling_triangles_pass ps ts f coordinates tiled fault = tiled-no_fault ps ts coordinates tiled f fault

names_by : (t : Triple) (b : Bool) → NamesAll (cond b (record { a = t.a; b = t.c; c = t.b }) t) → NamesAll t
names_by t true h = record { first = swapped t.a t.b t.c 0 h.first; second = swapped t.a t.b t.c 1 h.second; third = swapped t.a t.b t.c 2 h.third }
  where
    swapped : (a b c k : ℕ) → IsTrue (nat_eq a k || (nat_eq c k || nat_eq b k)) → IsTrue (nat_eq a k || (nat_eq b k || nat_eq c k))
    swapped a b c k h = grind (arith, nat_tests)
names_by t false h = h

pub one_triangle_is_a_corner : OneTriangleIsACorner
one_triangle_is_a_corner ps t m h = let mesh = mesh_of ps (t ∷ []) m h in
    let found = one_triangle ps (turned_of ps t) mesh.hull mesh.turned.0 mesh.matched mesh.is_hull mesh.distinct in
    (found.0, names_by t (int_lt (turn_of ps t) (pos 0)) found.1)
