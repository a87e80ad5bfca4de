-- Classes that were read, as numbers: what the recurrence takes of them.
--
-- ReadClass          == a class, its degree, its coefficients by weight, and its powers of 1 - X by the weight of X
-- find_row v ls      == the coefficients of the class v; none where it is not listed
-- CanBePart v l      == the class of l has as many entries as v, and a degree of at least 1
-- part_rows ls v B n == the coefficients of v - B, v - 2 B, .., v - n B
-- part_of ls v d l   == what the class of l adds to the class v of degree d
-- parts_of ls v d    == what each class but the first one adds
use Rattle.std.specs.Prelude.{◌≡◌, ℕ, suc, ◌/◌, ◌<◌, ℤ, List, [], ◌∷◌, length, map, drop, if◌then◌else◌}
use Rattle.tv_spec_boxes.specs.Assignments.{same_vector}
use Rattle.tv_laws_series.specs.Terms.{listed}
use Rattle.tv_recurrence.specs.declared.part.Power.{Power}
use Rattle.tv_recurrence.specs.Parts.{Addends}
use Rattle.tv_recurrence.specs.Products.{class_after}

pub record ReadClass : Type 0 where
  pub class : List ℤ
  pub degree : ℕ
  pub row : List ℤ
  pub powers : List Power

abbrev pub find_row : List ℤ → List ReadClass → List ℤ
find_row v [] = []
find_row v (l ∷ ls) = if same_vector l.class v then l.row else find_row v ls

pub record CanBePart (v : List ℤ) (l : ReadClass) : Type 0 where
  pub entries : length l.class ≡ length v
  pub positive : 0 < l.degree

abbrev pub part_rows : List ReadClass → List ℤ → List ℤ → ℕ → List (List ℤ)
part_rows ls v B n = listed (λ j. find_row (class_after (suc j) v B) ls) n

abbrev pub part_of : List ReadClass → List ℤ → ℕ → ReadClass → Addends
part_of ls v d l = record { degree = l.degree; powers = l.powers; rows = part_rows ls v l.class (d / l.degree) }

abbrev pub parts_of : List ReadClass → List ℤ → ℕ → List Addends
parts_of ls v d = map (part_of ls v d) (drop 1 ls)
