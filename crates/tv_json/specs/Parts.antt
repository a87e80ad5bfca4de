-- What values of JSON spell.
--
-- IsValueOf f P d x   == x has the property P, and d is its value f x
-- IsValueOfNone f P d == d is the value of nothing with that property
-- file_object h p t   == the object with the values h, p and t of `heights`, `points` and `triangles`, and `tv` 1
use Rattle.std.specs.Prelude.{◌≡◌, ◌≢◌, pos, codes}
use Rattle.serde_json.specs.Data.{Data, object, no_members, member}
use Rattle.tv_spec_json.specs.Files.{whole}

abbrev pub IsValueOf : {A : Type 0} → (A → Data) → (A → Type 0) → Data → A → Type 0
IsValueOf f P d x = P x × (d ≡ f x)

abbrev pub IsValueOfNone : {A : Type 0} → (A → Data) → (A → Type 0) → Data → Type 0
IsValueOfNone {A} f P d = (x : A) → P x → d ≢ f x

abbrev pub file_object : Data → Data → Data → Data
file_object h p t = object (member (codes "heights") h (member (codes "points") p (member (codes "triangles") t
    (member (codes "tv") (whole (pos 1)) no_members))))
