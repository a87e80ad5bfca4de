-- The directed edges of triangles, and how they fit together.
--
-- sides t            == the three sides, in the order of the points
-- edges ts           == the sides of all triangles
-- back s             == the segment in the other direction
-- IsListed ps t      == the triangle names listed points
-- IsTurned ps t      == the triangle names listed points and has the turn 1: it is unimodular and counter-clockwise
-- AreTurned ps ts    == all triangles are
-- IsMatched hull ts  == no directed edge stands twice; the back of each is an edge, or it is itself a hull segment; each
--                       hull segment is an edge
use Rattle.std.specs.Prelude.{◌≡◌, ◌<◌, pos, ◌⊎◌, List, [], ◌∷◌, length}
use Rattle.std.specs.List.{flat_map, AllByRecursion}
use Rattle.tv_spec_plane.specs.declared.records.Triple.{Triple}
use Rattle.tv_spec_plane.specs.Plane.{Point, at, turn, Segment}
use Rattle.tv_laws_tiling.specs.Members.{Among, Once}

abbrev pub sides : Triple → List Segment
sides t = (t.a, t.b) ∷ (t.b, t.c) ∷ (t.c, t.a) ∷ []

abbrev pub edges : List Triple → List Segment
edges ts = flat_map sides ts

abbrev pub back : Segment → Segment
back s = (s.1, s.0)

pub record IsListed (ps : List Point) (t : Triple) : Type 0 where
  pub a : t.a < length ps
  pub b : t.b < length ps
  pub c : t.c < length ps

pub record IsTurned (ps : List Point) (t : Triple) : Type 0 where
  pub listed : IsListed ps t
  pub turned : turn (at ps t.a) (at ps t.b) (at ps t.c) ≡ pos 1

abbrev pub AreTurned : List Point → List Triple → Type 0
AreTurned ps ts = AllByRecursion (IsTurned ps) ts

pub record IsMatched (hull : List Segment) (ts : List Triple) : Type 0 where
  pub once : Once (edges ts)
  pub matched : (s : Segment) → Among s (edges ts) → Among (back s) (edges ts) ⊎ Among s hull
  pub covered : (s : Segment) → Among s hull → Among s (edges ts)
