-- Triangles turned counter-clockwise.
--
-- turn_of ps t      == the turn of the triangle's three points
-- doubled_of ps t   == its doubled area
-- turned_of ps t    == the triangle, with its last two points exchanged if it turns clockwise
-- turned ps ts      == all triangles so turned, in their order
-- IsUnit ps t       == the doubled area is 1
use Rattle.std.specs.Prelude.{◌≡◌, ℕ, ℤ, pos, List, map, cond, int_lt}
use Rattle.tv_spec_plane.specs.declared.records.Triple.{Triple}
use Rattle.tv_spec_plane.specs.Plane.{Point, at, turn, doubled_area}

abbrev pub turn_of : List Point → Triple → ℤ
turn_of ps t = turn (at ps t.a) (at ps t.b) (at ps t.c)

abbrev pub doubled_of : List Point → Triple → ℕ
doubled_of ps t = doubled_area (at ps t.a) (at ps t.b) (at ps t.c)

abbrev pub turned_of : List Point → Triple → Triple
turned_of ps t = cond (int_lt (turn_of ps t) (pos 0)) (record { a = t.a; b = t.c; c = t.b }) t

abbrev pub turned : List Point → List Triple → List Triple
turned ps ts = map (turned_of ps) ts

abbrev pub IsUnit : List Point → Triple → Type 0
IsUnit ps t = doubled_of ps t ≡ 1
