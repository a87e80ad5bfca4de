-- Families of series by class, in the order of classes, and sums into a class.
--
-- Row A                   == a class and its series
-- Family A                == heights, the greatest degree, the exponent through which each series is known, and the rows
-- row v s                 == the row of the class v with the series s
-- without_rows hs top n   == the family that has no row
-- classes rows            == the classes of the rows
-- entries_before u v      == whether, at the first entry where the vectors differ, that of u is the lesser
-- comes_before hs u v     == whether u has the lesser degree, or the same degree and the lesser entries
-- find v rows             == the first row of the class v, None where it is not there
-- put r hs n v s rows     == the rows with s added into the class v, through the exponent n
-- added r v s f           == the family with s added into the class v
-- divided_row r z x       == the row with its series divided by z
-- divided r z f           == the family with each series divided by z
-- cut_row n x             == the row with its series cut after n
-- cut n f                 == the family with each series cut after n
-- with_series r n s found == s, added to the series of the row that was found, through the exponent n
-- series_coefficient r n found == the coefficient at n of the series of the row that was found, and nought where there is none
-- coefficient_of r f v n  == the coefficient at n of the series of the class v, and nought where v is not there
-- HasPlace hs top v       == v has an entry for each height, and a degree from 0 to top
-- IsRow IsValue r hs top n row == the row's class has a place, and its series is one that is known through n and no further
-- IsFamily IsValue r f    == its exponent is within 2^60, the classes of the rows rise, and each row is one of the family
-- IsAddend IsValue r f v s == v has a place in f, and s is a series that is known at least as far as f is
use Rattle.std.specs.Prelude.{◌≡◌, ℤ, pos, ◌≤ℤ◌, int_lt, Bool, false, ◌&&◌, ◌||◌, if◌then◌else◌, List, [], ◌∷◌, map, length, Option, Some, None}
use Rattle.std.specs.List.{AllByRecursion}
use Rattle.std.specs.Ordering.{int_eq}
use Rattle.tv_ring.specs.Operations.{Operations}
use Rattle.tv_laws_series.specs.Terms.{Terms, upto, IsWithin}
unfoldable pub use Rattle.tv_laws_series.specs.Coefficients.{coefficient}
use Rattle.tv_laws_series.specs.Series.{series_sum, series_cut, IsSeries}
use Rattle.tv_laws_series.specs.Quotients.{series_quotient}
use Rattle.tv_spec_plane.specs.Web.{degree_of}
use Rattle.tv_spec_boxes.specs.Assignments.{same_vector}
use Rattle.tv_spec_boxes.specs.Classes.{ClassesRise}

pub record Row (A : Type 0) : Type 0 where
  pub class : List ℤ
  pub series : Terms A

pub record Family (A : Type 0) : Type 0 where
  pub heights : List ℤ
  pub top : ℤ
  pub upto : ℤ
  pub rows : List (Row A)

abbrev pub row : {A : Type 0} → List ℤ → Terms A → Row A
row v s = record { class = v; series = s }

abbrev pub without_rows : {A : Type 0} → List ℤ → ℤ → ℤ → Family A
without_rows hs top n = record { heights = hs; top = top; upto = n; rows = [] }

abbrev pub classes : {A : Type 0} → List (Row A) → List (List ℤ)
classes rows = map (λ row. row.class) rows

abbrev pub entries_before : List ℤ → List ℤ → Bool
entries_before [] v = false
entries_before (x ∷ u) [] = false
entries_before (x ∷ u) (y ∷ v) = int_lt x y || (int_eq x y && entries_before u v)

unfoldable pub comes_before : List ℤ → List ℤ → List ℤ → Bool
comes_before hs u v = int_lt (degree_of hs u) (degree_of hs v) || (int_eq (degree_of hs u) (degree_of hs v) && entries_before u v)

unfoldable pub find : {A : Type 0} → List ℤ → List (Row A) → Option (Row A)
find v [] = None
find v (x ∷ rows) = if same_vector x.class v then Some x else find v rows

unfoldable pub put : {A : Type 0} → Operations A → List ℤ → ℤ → List ℤ → Terms A → List (Row A) → List (Row A)
put r hs n v s [] = row v (series_cut n s) ∷ []
put r hs n v s (x ∷ rows) =
    if comes_before hs x.class v then x ∷ put r hs n v s rows
    else if same_vector x.class v then row v (series_cut n (series_sum r x.series s)) ∷ rows
    else row v (series_cut n s) ∷ x ∷ rows

abbrev pub added : {A : Type 0} → Operations A → List ℤ → Terms A → Family A → Family A
added r v s f = record f { rows = put r f.heights f.upto v s f.rows }

abbrev pub divided_row : {A : Type 0} → Operations A → Terms A → Row A → Row A
divided_row r z x = row x.class (series_quotient r x.series z)

abbrev pub divided : {A : Type 0} → Operations A → Terms A → Family A → Family A
divided r z f = record f { rows = map (divided_row r z) f.rows }

abbrev pub cut_row : {A : Type 0} → ℤ → Row A → Row A
cut_row n x = row x.class (series_cut n x.series)

abbrev pub cut : {A : Type 0} → ℤ → Family A → Family A
cut n f = record f { upto = n; rows = map (cut_row n) f.rows }

abbrev pub with_series : {A : Type 0} → Operations A → ℤ → Terms A → Option (Row A) → Terms A
with_series r n s None = series_cut n s
with_series r n s (Some x) = series_cut n (series_sum r x.series s)

abbrev pub series_coefficient : {A : Type 0} → Operations A → ℤ → Option (Row A) → A
series_coefficient r n None = r.nought
series_coefficient r n (Some x) = coefficient r x.series n

abbrev pub coefficient_of : {A : Type 0} → Operations A → Family A → List ℤ → ℤ → A
coefficient_of r f v n = series_coefficient r n (find v f.rows)

pub record HasPlace (hs : List ℤ) (top : ℤ) (v : List ℤ) : Type 0 where
  pub entries : length v ≡ length hs
  pub positive : pos 0 ≤ℤ degree_of hs v
  pub within : degree_of hs v ≤ℤ top

pub record IsRow {A : Type 0} (IsValue : A → Type 0) (r : Operations A) (hs : List ℤ) (top n : ℤ) (x : Row A) : Type 0 where
  pub place : HasPlace hs top x.class
  pub known : upto x.series ≡ n
  pub series : IsSeries IsValue r x.series

pub record IsFamily {A : Type 0} (IsValue : A → Type 0) (r : Operations A) (f : Family A) : Type 0 where
  pub within : IsWithin f.upto
  pub rises : ClassesRise f.heights (classes f.rows)
  pub rows : AllByRecursion (IsRow IsValue r f.heights f.top f.upto) f.rows

pub record IsAddend {A : Type 0} (IsValue : A → Type 0) (r : Operations A) (f : Family A) (v : List ℤ) (s : Terms A) : Type 0 where
  pub place : HasPlace f.heights f.top v
  pub known : f.upto ≤ℤ upto s
  pub series : IsSeries IsValue r s
