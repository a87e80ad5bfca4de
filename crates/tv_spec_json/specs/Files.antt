-- The form of files in JSON, over the value that serde_json reads. In such a value each key of an object stands once, in
-- the order of its codes, and a number other than -0, without fraction and exponent, that 64 bits hold is a whole number.
--
-- whole z          == the value of a whole number
-- items, values f xs == the array of the values f x
-- point_value p    == the array of the two coordinates
-- triangle_value t == the array of the three numbers of points
-- heights_member w rest, points_member w rest, triangles_member w rest == that key of an object with its array, and the rest
-- file_value w     == the object that spells a web: its heights, its points, its triangles, and `tv` 1
-- SpellsValue d w  == the value d spells that web; the numbers are within those of a text
-- IsFileJson bytes w == the bytes are UTF-8, and read as a value that spells that web
-- is_json bytes    == the first byte is `{`, a space, a tab, LF or CR: such bytes are taken as JSON, all others as text
-- IsRefusedJson bytes == they number at most MOST_BYTES, and are no file in JSON: bytes without a reading, or of another form
use Rattle.std.specs.Prelude.{◌≡◌, ◌≤◌, ℕ, ℤ, pos, List, [], ◌∷◌, length, codes, Bool, false, nat_eq, Some, IsUtf8}
use Rattle.std.specs.List.{list_any}
use Rattle.serde_json.specs.Data.{Data, number, array, object, Items, no_items, item, Members, no_members, member}
use Rattle.serde_json.specs.Find.{of_integer}
use Rattle.serde_json.specs.Read.{read}
use Rattle.tv_spec_plane.specs.declared.records.Triple.{Triple}
use Rattle.tv_spec_plane.specs.Plane.{Point}
use Rattle.tv_spec_plane.specs.Web.{Web}
use Rattle.tv_spec_text.specs.Files.{Fits}
use Rattle.tv_spec_plane.specs.declared.limits.TheConstants.{MOST_BYTES}

abbrev pub whole : ℤ → Data
whole z = number (of_integer z)

abbrev pub items : {A : Type 0} → (A → Data) → List A → Items
items f [] = no_items
items f (x ∷ xs) = item (f x) (items f xs)

abbrev pub values : {A : Type 0} → (A → Data) → List A → Data
values f xs = array (items f xs)

abbrev pub point_value : Point → Data
point_value p = values whole (p.x ∷ p.y ∷ [])

abbrev pub triangle_value : Triple → Data
triangle_value t = values whole (pos t.a ∷ pos t.b ∷ pos t.c ∷ [])

abbrev pub heights_member : Web → Members → Members
heights_member w rest = member (codes "heights") (values whole w.heights) rest

abbrev pub points_member : Web → Members → Members
points_member w rest = member (codes "points") (values point_value w.points) rest

abbrev pub triangles_member : Web → Members → Members
triangles_member w rest = member (codes "triangles") (values triangle_value w.triangles) rest

abbrev pub file_value : Web → Data
file_value w = object (heights_member w (points_member w (triangles_member w (member (codes "tv") (whole (pos 1)) no_members))))

pub record SpellsValue (d : Data) (w : Web) : Type 0 where
  pub fits : Fits w
  pub same : d ≡ file_value w

pub record IsFileJson (bytes : List ℕ) (w : Web) : Type 0 where
  pub utf8 : IsUtf8 bytes
  pub value : Data
  pub reads : read bytes ≡ Some value
  pub spells : SpellsValue value w

abbrev pub is_json : List ℕ → Bool
is_json [] = false
is_json (byte ∷ bytes) = list_any (nat_eq byte) (codes "{ \t\n\r")

pub record IsRefusedJson (bytes : List ℕ) : Type 0 where
  pub short : length bytes ≤ MOST_BYTES
  pub other : (w : Web) → IsFileJson bytes w → ⊥
