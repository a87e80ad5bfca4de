-- The integers of a family of reduced series, read off class by class, and where product and series differ.
--
-- positive_classes f == the classes of the family that have a degree of at least 1
-- sums n vs hs       == the sums of n of the classes, with repetition, in every order
-- insert_class hs v vs == the sorted list with v in it, once
-- sorted hs vs       == the list in order, each once
-- is_within D hs v   == the degree is from 1 to D
-- all_sums D f       == the sums of 1 to D classes of the family that have a degree of at least 1
-- candidates D f     == the classes of degree 1 to D that are sums of classes of the family, each once, in order
-- depth_from xs low  == how far the first coefficient other than 0 is below exponent 0, where they begin at low; 0 where there
--                       is none or it is not below
-- series_depth found == that of the series of the row that was found
-- genus_depth is     == the greatest of 0 and of g - 1 over the integers
-- depth f v is       == w: the greatest of 0, of g - 1 over the integers so far, and of minus the lowest exponent of the series
--                       of v where it isn't zero
-- first_genus f v is == 1 + degree * w, at which reading begins
-- new_integer f v g is == n_g(v): the coefficient of v at 1 - g less that of Katz's product over the integers so far
-- with_integer v g value is == the integers with that one, which is left out where it is 0
-- read_genus f v g is == the integers with n_g(v)
-- read_down f v g is == the same for the genera g, g - 1, .., 0
-- read_class f is v  == the same for the genera from the first one down
-- read_classes f is vs == the same for the classes, one after another
-- integers D f       == the integers of the candidates, class by class in order, the last one first
-- Agrees f is v n    == at the class v and the exponent n Katz's product over the integers and the family have one value
-- Differs f is v n   == at the class v and the exponent n Katz's product over the integers and the family differ
-- IsCompared D N f v n == v has an entry for each height and a degree of at most D, also 0 or below, and n is at most N
-- IsMismatch D N f is v n == the first class of degree at most D, and in it the first exponent at most N, at which Katz's
--                       product over the integers and the family differ
use Rattle.std.specs.Prelude.{◌≡◌, ◌≢◌, ◌⊎◌, ℕ, zero, suc, ◌+◌, ◌-◌, ◌*◌, ℤ, pos, negsuc, ◌-ℤ◌, ◌≤ℤ◌, max, int_le, int_lt, List, [], ◌∷◌, map, filter, length, Bool, ◌&&◌, if◌then◌else◌, Option, Some, None}
use Rattle.std.specs.List.{flat_map, range_with_len}
use Rattle.std.specs.Ordering.{int_eq}
use Rattle.tv_ring.specs.Whole.{wholes}
use Rattle.tv_lemmas.specs.Naturals.{as_natural}
use Rattle.tv_spec_plane.specs.Web.{degree_of}
use Rattle.tv_spec_boxes.specs.Assignments.{zeros, plus, same_vector}
use Rattle.tv_spec_boxes.specs.Classes.{IsBefore}
use Rattle.tv_spec_series.specs.Families.{Row, Family, classes, comes_before, coefficient_of, find}
use Rattle.tv_spec_katz.specs.Katz.{Integer, katz}

abbrev pub positive_classes : Family ℤ → List (List ℤ)
positive_classes f = filter (λ v. int_lt (pos 0) (degree_of f.heights v)) (classes f.rows)

abbrev pub sums : ℕ → List (List ℤ) → List ℤ → List (List ℤ)
sums zero vs hs = zeros (length hs) ∷ []
sums (suc n) vs hs = flat_map (λ u. map (plus u) (sums n vs hs)) vs

abbrev pub insert_class : List ℤ → List ℤ → List (List ℤ) → List (List ℤ)
insert_class hs v [] = v ∷ []
insert_class hs v (u ∷ us) = if comes_before hs u v then u ∷ insert_class hs v us else if same_vector u v then u ∷ us else v ∷ u ∷ us

abbrev pub sorted : List ℤ → List (List ℤ) → List (List ℤ)
sorted hs [] = []
sorted hs (v ∷ vs) = insert_class hs v (sorted hs vs)

abbrev pub is_within : ℕ → List ℤ → List ℤ → Bool
is_within D hs v = int_lt (pos 0) (degree_of hs v) && int_le (degree_of hs v) (pos D)

-- a sum of more than D classes has a degree of more than D
abbrev pub all_sums : ℕ → Family ℤ → List (List ℤ)
all_sums D f = flat_map (λ n. sums n (positive_classes f) f.heights) (range_with_len 1 D)

unfoldable pub candidates : ℕ → Family ℤ → List (List ℤ)
candidates D f = sorted f.heights (filter (is_within D f.heights) (all_sums D f))

abbrev pub depth_from : List ℤ → ℤ → ℕ
depth_from [] low = 0
depth_from (x ∷ xs) low = if int_eq x (pos 0) then depth_from xs (low -ℤ negsuc 0) else as_natural (pos 0 -ℤ low)

abbrev pub series_depth : Option (Row ℤ) → ℕ
series_depth None = 0
series_depth (Some x) = depth_from x.series.coefficients x.series.low

abbrev pub genus_depth : List Integer → ℕ
genus_depth [] = 0
genus_depth (i ∷ is) = max (i.genus - 1) (genus_depth is)

abbrev pub depth : Family ℤ → List ℤ → List Integer → ℕ
depth f v is = max (genus_depth is) (series_depth (find v f.rows))

abbrev pub first_genus : Family ℤ → List ℤ → List Integer → ℕ
first_genus f v is = 1 + as_natural (degree_of f.heights v) * depth f v is

abbrev pub new_integer : Family ℤ → List ℤ → ℕ → List Integer → ℤ
new_integer f v g is = coefficient_of wholes f v (pos 1 -ℤ pos g) -ℤ katz f.heights is v (pos 1 -ℤ pos g)

abbrev pub with_integer : List ℤ → ℕ → ℤ → List Integer → List Integer
with_integer v g value is = if int_eq value (pos 0) then is else (record { class = v; genus = g; value = value } ∷ is)

abbrev pub read_genus : Family ℤ → List ℤ → ℕ → List Integer → List Integer
read_genus f v g is = with_integer v g (new_integer f v g is) is

abbrev pub read_down : Family ℤ → List ℤ → ℕ → List Integer → List Integer
read_down f v zero is = read_genus f v zero is
read_down f v (suc g) is = read_down f v g (read_genus f v (suc g) is)

abbrev pub read_class : Family ℤ → List Integer → List ℤ → List Integer
read_class f is v = read_down f v (first_genus f v is) is

abbrev pub read_classes : Family ℤ → List Integer → List (List ℤ) → List Integer
read_classes f is [] = is
read_classes f is (v ∷ vs) = read_classes f (read_class f is v) vs

unfoldable pub integers : ℕ → Family ℤ → List Integer
integers D f = read_classes f [] (candidates D f)

abbrev pub Agrees : Family ℤ → List Integer → List ℤ → ℤ → Type 0
Agrees f is v n = katz f.heights is v n ≡ coefficient_of wholes f v n

abbrev pub Differs : Family ℤ → List Integer → List ℤ → ℤ → Type 0
Differs f is v n = katz f.heights is v n ≢ coefficient_of wholes f v n

pub record IsCompared (D : ℕ) (N : ℤ) (f : Family ℤ) (v : List ℤ) (n : ℤ) : Type 0 where
  pub entries : length v ≡ length f.heights
  pub degree : degree_of f.heights v ≤ℤ pos D
  pub exponent : n ≤ℤ N

pub record IsMismatch (D : ℕ) (N : ℤ) (f : Family ℤ) (is : List Integer) (v : List ℤ) (n : ℤ) : Type 0 where
  pub compared : IsCompared D N f v n
  pub differs : Differs f is v n
  pub first : (u : List ℤ) (m : ℤ) → IsCompared D N f u m → Differs f is u m → IsBefore f.heights v u ⊎ ((u ≡ v) × (n ≤ℤ m))
