-- Integers by class: a row for each class that has some, in rising order.
--
-- ClassRow          == a class with its genera and values
-- classes rows      == the classes of the rows
-- row_integers r    == the integers of the row
-- listed rows       == the integers of all rows, last row first
-- put_value g gs    == the values with g where one of its genus stood, else before the first of a greater genus
-- put_row hs v g rows == the rows with g put into the class v
-- GeneraRise gs     == each genus is less than all that follow
-- IsKeptRow hs r    == a positive class, with at least one value, other than 0 each; genera rise
-- AreKeptRows hs rows == heights within their limits, and such rows, whose classes rise
-- class_at rows k   == the class of row k, without entries where there is no such row
-- is_at v rows k    == whether row k is there, and has the class v
-- IsPlace hs v rows place == the rows that come before v are those in front of that place
use Rattle.std.specs.Prelude.{◌≡◌, ◌≢◌, ⊤, ℕ, ◌<◌, ◌≤◌, ℤ, pos, Bool, true, false, List, [], ◌∷◌, ◌++◌, length, map, nat_eq, nat_lt, Option, Some, None, slice_get, slice_index_or, if◌then◌else◌}
use Rattle.std.specs.List.{AllByRecursion}
use Rattle.tv_lattice.specs.Limits.{IsHeight}
use Rattle.tv_spec_boxes.specs.Assignments.{same_vector}
use Rattle.tv_spec_boxes.specs.Classes.{ClassesRise}
use Rattle.tv_spec_series.specs.Families.{comes_before}
use Rattle.tv_spec_katz.specs.Katz.{Integer}
use Rattle.tv_spec_katz.specs.Relations.{IsPositiveClass}
use Rattle.tv_integers.specs.declared.genus_value.GenusValue.{GenusValue}
use Rattle.tv_integers.specs.Kept.{integer_at}

pub record ClassRow : Type 0 where
  pub class : List ℤ
  pub values : List GenusValue

abbrev pub classes : List ClassRow → List (List ℤ)
classes rows = map (λ (r : ClassRow). r.class) rows

abbrev pub row_integers : ClassRow → List Integer
row_integers r = map (integer_at r.class) r.values

abbrev pub listed : List ClassRow → List Integer
listed [] = []
listed (r ∷ rows) = listed rows ++ row_integers r

abbrev pub put_value : GenusValue → List GenusValue → List GenusValue
put_value g [] = g ∷ []
put_value g (h ∷ hs) = if nat_lt g.genus h.genus then g ∷ h ∷ hs else if nat_eq g.genus h.genus then g ∷ hs else h ∷ put_value g hs

abbrev pub put_row : List ℤ → List ℤ → GenusValue → List ClassRow → List ClassRow
put_row hs v g [] = record { class = v; values = g ∷ [] } ∷ []
put_row hs v g (r ∷ rows) =
    if comes_before hs r.class v then r ∷ put_row hs v g rows
    else if same_vector r.class v then record r { values = put_value g r.values } ∷ rows
    else record { class = v; values = g ∷ [] } ∷ r ∷ rows

abbrev pub GeneraRise : List GenusValue → Type 0
GeneraRise [] = ⊤
GeneraRise (g ∷ gs) = AllByRecursion (λ (h : GenusValue). g.genus < h.genus) gs × GeneraRise gs

pub record IsKeptRow (hs : List ℤ) (r : ClassRow) : Type 0 where
  pub class : IsPositiveClass hs r.class
  pub some : 1 ≤ length r.values
  pub rise : GeneraRise r.values
  pub values : AllByRecursion (λ (g : GenusValue). g.value ≢ pos 0) r.values

pub record AreKeptRows (hs : List ℤ) (rows : List ClassRow) : Type 0 where
  pub heights : AllByRecursion IsHeight hs
  pub rises : ClassesRise hs (classes rows)
  pub each : AllByRecursion (IsKeptRow hs) rows

abbrev pub class_at : List ClassRow → ℕ → List ℤ
class_at rows k = slice_index_or (classes rows) k []

abbrev pub has_class : List ℤ → Option ClassRow → Bool
has_class v None = false
has_class v (Some r) = same_vector r.class v

abbrev pub is_at : List ℤ → List ClassRow → ℕ → Bool
is_at v rows k = has_class v (slice_get rows k)

pub record IsPlace (hs v : List ℤ) (rows : List ClassRow) (place : ℕ) : Type 0 where
  pub within : place ≤ length rows
  pub earlier : (k : ℕ) → k < place → comes_before hs (class_at rows k) v ≡ true
  pub later : (k : ℕ) → place ≤ k → k < length rows → comes_before hs (class_at rows k) v ≡ false
