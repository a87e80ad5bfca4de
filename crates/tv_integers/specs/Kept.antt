-- Integers as they are kept: last class first, and in a class the least genus first.
--
-- Kept              == heights and integers
-- without_integers hs == these heights and no integer
-- AreKept hs is     == each has a positive class and a value other than 0, and comes later than all that follow it
-- comes_later hs i j == whether the class of i comes after that of j, or it is the same class and i has the lesser genus
-- has_place i j     == whether both have one class and one genus
-- set_in hs i is    == the list with the integer i where one of its class and genus stood, else at its place in that order
-- with_integer hs v g k == what is kept, with the integer of the class v in it
-- integer_at v g    == the integer of the class v with that genus and value
-- value_of i        == its genus and its value
-- values_of v is    == the genera and values of the integers of the class v, in the order of the list
-- classes_of hs is  == the classes of the integers, each once, in order
use Rattle.std.specs.Prelude.{◌≢◌, ⊤, ℤ, pos, List, [], ◌∷◌, map, nat_eq, nat_lt, Bool, ◌&&◌, ◌||◌, if◌then◌else◌}
use Rattle.std.specs.List.{AllByRecursion}
use Rattle.tv_spec_boxes.specs.Assignments.{same_vector}
use Rattle.tv_spec_series.specs.Families.{comes_before}
use Rattle.tv_spec_katz.specs.Katz.{Integer}
use Rattle.tv_spec_katz.specs.Integers.{sorted}
use Rattle.tv_spec_katz.specs.Relations.{IsPositiveClass, ComesLater}
use Rattle.tv_integers.specs.declared.genus_value.GenusValue.{GenusValue}

pub record Kept : Type 0 where
  pub heights : List ℤ
  pub integers : List Integer

abbrev pub without_integers : List ℤ → Kept
without_integers hs = record { heights = hs; integers = [] }

abbrev pub AreKept : List ℤ → List Integer → Type 0
AreKept hs [] = ⊤
AreKept hs (i ∷ is) = (IsPositiveClass hs i.class × (i.value ≢ pos 0)) × (AllByRecursion (ComesLater hs i) is × AreKept hs is)

abbrev pub comes_later : List ℤ → Integer → Integer → Bool
comes_later hs i j = comes_before hs j.class i.class || (same_vector i.class j.class && nat_lt i.genus j.genus)

abbrev pub has_place : Integer → Integer → Bool
has_place i j = same_vector i.class j.class && nat_eq i.genus j.genus

abbrev pub set_in : List ℤ → Integer → List Integer → List Integer
set_in hs i [] = i ∷ []
set_in hs i (j ∷ js) = if comes_later hs i j then i ∷ j ∷ js else if has_place i j then i ∷ js else j ∷ set_in hs i js

abbrev pub integer_at : List ℤ → GenusValue → Integer
integer_at v g = record { class = v; genus = g.genus; value = g.value }

abbrev pub with_integer : List ℤ → GenusValue → Kept → Kept
with_integer v g k = record k { integers = set_in k.heights (integer_at v g) k.integers }

abbrev pub value_of : Integer → GenusValue
value_of i = record { genus = i.genus; value = i.value }

abbrev pub values_of : List ℤ → List Integer → List GenusValue
values_of v [] = []
values_of v (i ∷ is) = if same_vector i.class v then value_of i ∷ values_of v is else values_of v is

abbrev pub classes_of : List ℤ → List Integer → List (List ℤ)
classes_of hs is = sorted hs (map (λ (i : Integer). i.class) is)
