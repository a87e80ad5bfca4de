-- Families of tests that can be extracted.
--
-- IsSmallAt d v     == each entry is at most 9 times the degree d
-- IsSmallEntry x    == so it is at the class and the degree of a listed row
-- IsNoneTo n s      == the series is 0 at the exponents from 1 to n - 1
-- IsZeroOrPositive hs v == the class is zero, or positive
use Rattle.std.specs.Prelude.{◌≡◌, ◌≢◌, ◌⊎◌, ℕ, ◌+◌, ◌*◌, ◌≤◌, ◌<◌, ℤ, pos, negsuc, ◌*ℤ◌, ◌≤ℤ◌, unsigned_abs, slice_get, List, [], ◌∷◌, length, map, Some}
use Rattle.std.specs.List.{AllByRecursion}
use Rattle.std.proofs.Common.{refl, sym, ◌∙◌, ap, subst, arith, inl, inr}
use Rattle.std.proofs.lemmas.Int.{ints, by_lt_z}
use Rattle.tv_lemmas.specs.Naturals.{as_natural}
use Rattle.tv_lemmas.proofs.Members.{all-onto}
use Rattle.tv_ring.specs.Whole.{wholes, IsAny}
use Rattle.tv_laws_series.specs.Terms.{Terms, upto}
use Rattle.tv_laws_series.proofs.Coefficients.{coefficient_below, coefficient_beyond}
use Rattle.tv_spec_plane.specs.Web.{degree_of}
use Rattle.tv_spec_boxes.specs.Assignments.{zeros}
use Rattle.tv_spec_series.specs.Families.{Row, row, classes, find, coefficient, series_coefficient, IsRow}
use Rattle.tv_spec_series.proofs.Rows.{find-class}
use Rattle.tv_spec_katz.specs.Relations.{IsPositiveClass}
use Rattle.tv_graded.specs.Listing.{with_degree}
use Rattle.tv_candidates.specs.Closing.{entries_by_degree, HasSmallEntries}
use Rattle.tv_gv.proofs.Zero.{first-entries}

-- ---- a series that is 1

abbrev pub IsNoneTo : ℕ → Terms ℤ → Type 0
IsNoneTo n s = (k : ℕ) → 1 ≤ k → k < n → coefficient wholes s (pos k) ≡ pos 0

pub none-more : (n : ℕ) (s : Terms ℤ) → IsNoneTo n s → coefficient wholes s (pos n) ≡ pos 0 → IsNoneTo (n + 1) s
none-more n s none here k h less = below-or (grind arith)
  where
    below-or : (k < n) ⊎ (k ≡ n) → coefficient wholes s (pos k) ≡ pos 0
    below-or (inl before) = none k h before
    below-or (inr same) = rw same here

pub none-elsewhere : (s : Terms ℤ) → pos 0 ≤ℤ s.low → upto s ≤ℤ pos 99 → IsNoneTo 100 s → (n : ℤ) → n ≢ pos 0 →
    coefficient wholes s n ≡ pos 0
none-elsewhere s low last none (negsuc k) other = coefficient_below wholes s (negsuc k) (omega (arith, ints))
none-elsewhere s low last none (pos k) other = by_lt_z (pos 99) (pos k)
    (λ past. coefficient_beyond wholes s (pos k) (omega (arith, ints)))
    (λ within. none k (omega (arith, ints)) (omega (arith, ints)))

-- ---- classes of small entries

abbrev pub IsSmallAt : ℤ → List ℤ → Type 0
IsSmallAt d v = AllByRecursion (λ x. unsigned_abs x ≤ 9 * as_natural d) v

abbrev pub IsSmallEntry : Row ℤ × ℤ → Type 0
IsSmallEntry x = IsSmallAt x.1 x.0.class

pub small-zeros : (v : List ℤ) → IsSmallAt (pos 0) v → v ≡ zeros (length v)
small-zeros [] all = refl
small-zeros (x ∷ v) all = let none : x ≡ pos 0 = omega (arith, ints) in rw none (ap (λ u. pos 0 ∷ u) (small-zeros v all.1))

abbrev pub IsZeroOrPositive : List ℤ → List ℤ → Type 0
IsZeroOrPositive hs v = (v ≡ zeros (length hs)) ⊎ IsPositiveClass hs v

zero-or-positive : (hs v : List ℤ) → length v ≡ length hs → pos 0 ≤ℤ degree_of hs v → IsSmallAt (degree_of hs v) v →
    IsZeroOrPositive hs v
zero-or-positive hs v entries up all = by_lt_z (pos 0) (degree_of hs v)
    (λ positive. inr (record { entries = entries; degree = positive }))
    (λ not_above.
    let none : degree_of hs v ≡ pos 0 = omega (arith, ints) in
    inl (rw (← entries) (small-zeros v (subst (λ d. IsSmallAt d v) none all))))

pub all-zero-or-positive : (hs : List ℤ) (top n : ℤ) (rows : List (Row ℤ)) → AllByRecursion (IsRow IsAny wholes hs top n) rows →
    AllByRecursion IsSmallEntry (map (with_degree hs) rows) → AllByRecursion (IsZeroOrPositive hs) (classes rows)
all-zero-or-positive hs top n [] are all = tt
all-zero-or-positive hs top n (x ∷ rows) are all =
    (zero-or-positive hs x.class are.0.place.entries are.0.place.positive all.0, all-zero-or-positive hs top n rows are.1 all.1)

entry-small : (a : ℕ) (d : ℤ) → pos 0 ≤ℤ d → a ≤ 9 * as_natural d → pos a ≤ℤ (pos entries_by_degree *ℤ d)
entry-small a (pos m) up h = omega (arith, ints)
entry-small a (negsuc m) up h = absurd (omega (arith, ints))

pub all-small : (hs : List ℤ) (top n : ℤ) (rows : List (Row ℤ)) → AllByRecursion (IsRow IsAny wholes hs top n) rows →
    AllByRecursion IsSmallEntry (map (with_degree hs) rows) → AllByRecursion (HasSmallEntries hs) (classes rows)
all-small hs top n [] are all = tt
all-small hs top n (x ∷ rows) are all =
    let d = degree_of hs x.class in (
      all-onto (λ z. unsigned_abs z ≤ 9 * as_natural d) (λ z. pos (unsigned_abs z) ≤ℤ (pos entries_by_degree *ℤ d))
          (λ z less. entry-small (unsigned_abs z) d are.0.place.positive less) x.class all.0,
      all-small hs top n rows are.1 all.1,
    )

-- ---- the first row

pub first-coefficient : (rows : List (Row ℤ)) (v : List ℤ) (s : Terms ℤ) (n : ℤ) → slice_get rows 0 ≡ Some (row v s) →
    series_coefficient wholes n (find v rows) ≡ coefficient wholes s n
first-coefficient [] v s n e = absurd (cc)
first-coefficient (x ∷ rows) v s n e =
    let same : x ≡ row v s = cc in
    subst (λ y. series_coefficient wholes n (find v (y ∷ rows)) ≡ coefficient wholes s n) (sym same)
    (rw (find-class (row v s) rows) refl)

pub zero-first : (hs : List ℤ) (top n : ℤ) (rows : List (Row ℤ)) (v : List ℤ) (s : Terms ℤ) →
    AllByRecursion (IsRow IsAny wholes hs top n) rows → slice_get rows 0 ≡ Some (row v s) → IsSmallAt (pos 0) v → (m : ℤ) →
    series_coefficient wholes m (find (zeros (length hs)) rows) ≡ coefficient wholes s m
zero-first hs top n rows v s are first small m =
    let zero : v ≡ zeros (length hs) = small-zeros v small ∙ ap zeros (first-entries hs top n rows v s are first) in
    subst (λ u. series_coefficient wholes m (find u rows) ≡ coefficient wholes s m) zero (first-coefficient rows v s m first)
