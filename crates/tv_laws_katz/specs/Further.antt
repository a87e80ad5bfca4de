-- What one more integer changes in Katz's product, as laws.
--
-- IsPositive hs i == the class of the integer has a degree of at least 1
-- own_exponent i  == 1 - genus, the lowest exponent at which the integer adds to its own class
-- NewInteger      == at its own class and exponent a further integer adds exactly its value
-- IsEarlier hs i v n == v comes before the class of the integer, or is that class and n is below its own exponent
-- Unchanged       == at each earlier place a further integer changes nothing
use Rattle.std.specs.Prelude.{◌≡◌, ◌⊎◌, ℤ, pos, ◌+ℤ◌, ◌-ℤ◌, ◌≤ℤ◌, ◌<ℤ◌, List, ◌∷◌}
use Rattle.std.specs.List.{AllByRecursion}
use Rattle.tv_spec_plane.specs.Web.{degree_of}
use Rattle.tv_spec_boxes.specs.Classes.{IsBefore}
use Rattle.tv_spec_katz.specs.Katz.{Integer, katz}

abbrev pub IsPositive : List ℤ → Integer → Type 0
IsPositive hs i = pos 1 ≤ℤ degree_of hs i.class

abbrev pub own_exponent : Integer → ℤ
own_exponent i = pos 1 -ℤ pos i.genus

abbrev pub NewInteger : Type 0
NewInteger =
    (hs : List ℤ) (i : Integer) (is : List Integer) → AllByRecursion (IsPositive hs) (i ∷ is) →
    katz hs (i ∷ is) i.class (own_exponent i) ≡ katz hs is i.class (own_exponent i) +ℤ i.value

abbrev pub IsEarlier : List ℤ → Integer → List ℤ → ℤ → Type 0
IsEarlier hs i v n = IsBefore hs v i.class ⊎ ((v ≡ i.class) × (n <ℤ own_exponent i))

abbrev pub Unchanged : Type 0
Unchanged =
    (hs : List ℤ) (i : Integer) (is : List Integer) (v : List ℤ) (n : ℤ) → AllByRecursion (IsPositive hs) (i ∷ is) →
    IsEarlier hs i v n → katz hs (i ∷ is) v n ≡ katz hs is v n
