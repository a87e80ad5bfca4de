-- Where a class stands among sorted rows.
--
-- HaveEntries n rows      == each row's class has n entries
-- class_at rows k         == the class of row k, without entries where there is no such row
-- has_class v found       == whether a row was found, and has the class v
-- is_at v rows k          == whether row k is there, and has the class v
-- IsPlace hs v rows place == the rows that come before v are those in front of that place
use Rattle.std.specs.Prelude.{◌≡◌, ℕ, ◌<◌, ◌≤◌, ℤ, Bool, true, false, List, [], length, Option, Some, None, slice_get, slice_index_or}
use Rattle.std.specs.List.{AllByRecursion}
use Rattle.tv_spec_boxes.specs.Assignments.{same_vector}
use Rattle.tv_spec_series.specs.Families.{Row, classes, comes_before}

abbrev pub HaveEntries : {A : Type 0} → ℕ → List (Row A) → Type 0
HaveEntries n rows = AllByRecursion (λ x. length x.class ≡ n) rows

abbrev pub class_at : {A : Type 0} → List (Row A) → ℕ → List ℤ
class_at rows k = slice_index_or (classes rows) k []

abbrev pub has_class : {A : Type 0} → List ℤ → Option (Row A) → Bool
has_class v None = false
has_class v (Some x) = same_vector x.class v

abbrev pub is_at : {A : Type 0} → List ℤ → List (Row A) → ℕ → Bool
is_at v rows k = has_class v (slice_get rows k)

pub record IsPlace {A : Type 0} (hs v : List ℤ) (rows : List (Row A)) (place : ℕ) : Type 0 where
  pub within : place ≤ length rows
  pub earlier : (k : ℕ) → k < place → comes_before hs (class_at rows k) v ≡ true
  pub later : (k : ℕ) → place ≤ k → k < length rows → comes_before hs (class_at rows k) v ≡ false
