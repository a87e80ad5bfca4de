-- A family of which the class 1 is read next: the series 1 at class zero, and q at the class 1, in degrees to 1, through exponent 1.
--
-- test_family       == that family, under one height of 1
-- test_way          == no class is read, and none is left after the class 1
-- zero_lines        == the table of class zero alone
-- is-given          what its reading asks
use Rattle.std.specs.Prelude.{◌≡◌, ◌≢◌, Contains, ℕ, zero, suc, ◌≤◌, ◌<◌, ℤ, pos, negsuc, ◌<ℤ◌, ◌≤ℤ◌, slice_index_or, List, [], ◌∷◌, Option, Some, None}
use Rattle.std.specs.List.{AllByRecursion}
use Rattle.std.proofs.Common.{refl, sym, subst, arith, inl, inr}
use Rattle.std.proofs.lemmas.Int.{ints}
use Rattle.tv_ring.specs.Whole.{wholes}
use Rattle.tv_ring.specs.Sums.{at}
use Rattle.tv_laws_series.specs.Terms.{terms, above, upto}
use Rattle.tv_laws_series.specs.Coefficients.{coefficient}
use Rattle.tv_laws_series.proofs.Coefficients.{coefficient_below, coefficient_beyond}
use Rattle.tv_spec_plane.specs.Web.{degree_of}
use Rattle.tv_spec_boxes.specs.Assignments.{plus}
use Rattle.tv_spec_series.specs.Families.{Row, Family, row, find, coefficient_of, series_coefficient}
use Rattle.tv_spec_series.proofs.Rows.{found_all}
use Rattle.tv_spec_katz.specs.Relations.{IsNormalized}
use Rattle.tv_laws_integers.specs.Closed.{IsClassTo, IsClosedList}
use Rattle.tv_laws_integers.proofs.Steps.{begun_none}
use Rattle.tv_class_integers.specs.NextClasses.{series_by_weight}
use Rattle.tv_class_parts.specs.ReadClasses.{ReadClass}
use Rattle.tv_class_parts.specs.Progress.{IsUnderWay}
use Rattle.tv_class_parts.specs.Ways.{Way, IsGiven}
use Rattle.tv_class_parts.proofs.ZeroLine.{zero-read}

abbrev pub one : List ℤ
one = pos 1 ∷ []

abbrev pub test_family : Family ℤ
test_family = record {
  heights = one;
  top = pos 1;
  upto = pos 1;
  rows = row (pos 0 ∷ []) (terms (pos 0) (pos 1 ∷ pos 0 ∷ [])) ∷ row one (terms (pos 1) one) ∷ [];
}

abbrev pub zero_lines : List ReadClass
zero_lines = record { class = pos 0 ∷ []; degree = 0; row = one; powers = [] } ∷ []

abbrev pub test_way : Way
test_way = record { D = 1; N = pos 1; f = test_family; w = 0; T = 1; read = []; back = []; integers = [] }

-- ---- the coefficients of the family

found-none : (n : ℤ) (x : Option (Row ℤ)) → ((r : Row ℤ) → x ≡ Some r → coefficient wholes r.series n ≡ pos 0) →
    series_coefficient wholes n x ≡ pos 0
found-none n None all = refl
found-none n (Some r) all = all r refl

abbrev IsBetween : Row ℤ → Type 0
IsBetween r = (pos 0 ≤ℤ r.series.low) × (upto r.series ≤ℤ pos 1)

are-between : AllByRecursion IsBetween test_family.rows
are-between = ((omega (arith, ints), omega (arith, ints)), ((omega (arith, ints), omega (arith, ints)), tt))

none-below : (v : List ℤ) (n : ℤ) → n <ℤ pos 0 → coefficient_of wholes test_family v n ≡ pos 0
none-below v n h = found-none n (find v test_family.rows) (λ r e.
    let there = found_all IsBetween v test_family.rows r are-between e in
    coefficient_below wholes r.series n (let low = there.0 in omega (arith, ints)))

none-beyond : (v : List ℤ) (n : ℤ) → pos 1 <ℤ n → coefficient_of wholes test_family v n ≡ pos 0
none-beyond v n h = found-none n (find v test_family.rows) (λ r e.
    let there = found_all IsBetween v test_family.rows r are-between e in
    coefficient_beyond wholes r.series n (let last = there.1 in omega (arith, ints)))

unit-is : coefficient_of wholes test_family (pos 0 ∷ []) (pos 0) ≡ pos 1
unfolding find coefficient above at
unit-is = refl

none-at-one : coefficient_of wholes test_family (pos 0 ∷ []) (pos 1) ≡ pos 0
unfolding find coefficient above at
none-at-one = refl

none-elsewhere : (n : ℤ) → n ≤ℤ pos 1 → n ≢ pos 0 → coefficient_of wholes test_family (pos 0 ∷ []) n ≡ pos 0
none-elsewhere (pos zero) within other = absurd (other refl)
none-elsewhere (pos (suc zero)) within other = none-at-one
none-elsewhere (pos (suc (suc k))) within other = absurd (omega (arith, ints))
none-elsewhere (negsuc k) within other = none-below (pos 0 ∷ []) (negsuc k) (omega (arith, ints))

normalized : IsNormalized (pos 1) test_family
normalized = record {
  unit = unit-is;
  none = none-elsewhere;
  others = (inl refl, (inr (record { entries = refl; degree = omega (arith, ints) }), tt));
}

-- ---- the closed list of the class 1 alone

first-to : IsClassTo 1 one one
first-to = record { positive = record { entries = refl; degree = omega (arith, ints) }; within = omega (arith, ints) }

only-at : (v u : List ℤ) (k : ℕ) → k < 1 → slice_index_or (v ∷ []) k u ≡ u → u ≡ v
only-at v u zero less e = sym e
only-at v u (suc k) less e = absurd (omega arith)

listed-at : (v : List ℤ) (k : ℕ) → k < 2 → slice_index_or ((pos 0 ∷ []) ∷ one ∷ []) k v ≡ v → IsClassTo 1 one v →
    Contains (one ∷ []) v
listed-at v zero less e to = absurd (let up = subst (λ u. pos 0 <ℤ degree_of one u) (sym e) to.positive.degree in omega (arith, ints))
listed-at v (suc zero) less e to = (0, omega arith, e)
listed-at v (suc (suc k)) less e to = absurd (omega arith)

two-above : degree_of one (plus one one) ≤ℤ pos 1 → ⊥
two-above h = omega (arith, ints)

closed : IsClosedList 1 test_family (one ∷ [])
closed = record {
  each = (first-to, tt);
  rises = tt;
  sums = λ u v first second within.
      absurd (two-above (subst (λ x. degree_of one (plus x one) ≤ℤ pos 1) (only-at one u first.0 first.1 first.2)
      (subst (λ y. degree_of one (plus u y) ≤ℤ pos 1) (only-at one v second.0 second.1 second.2) within)));
  whole = λ v there to. listed-at v there.0 there.1 there.2 to;
}

-- ---- the way

under-way : IsUnderWay 1 (pos 1) test_family 0 1 [] (one ∷ []) [] zero_lines
under-way = record {
  reach = refl;
  far = omega (arith, ints);
  normalized = normalized;
  known = none-beyond;
  begins = λ v n to h. none-below v n (omega (arith, ints));
  least = λ c h. omega arith;
  closed = closed;
  begun = begun_none 1 test_family;
  agrees = tt;
  table = record { classes = refl; each = (zero-read one 0 1, tt) };
}

series-at : (t : ℕ) → t ≤ 1 → at wholes (pos 0 ∷ pos 1 ∷ []) t ≡ series_by_weight test_family 0 one t
unfolding find coefficient above at
series-at zero h = refl
series-at (suc zero) h = refl
series-at (suc (suc t)) h = absurd (omega arith)

pub is-given : IsGiven test_way one 0 1 2 zero_lines (pos 0 ∷ pos 1 ∷ [])
is-given = record {
  later = record { way = under-way; place = refl };
  degree = refl;
  count = refl;
  each = series-at;
  after = refl;
  low = omega arith;
  short = omega arith;
  least = omega arith;
  most = omega arith;
}
