-- Small entries of a listed class of degree at least 1.
--
-- IsSmallEntry entry == each entry of the class is small for its degree
use Rattle.std.proofs.Common.{◌≡◌, ◌≤◌, ℤ, pos, ◌*ℤ◌, ◌≤ℤ◌, unsigned_abs, List, [], ◌∷◌, map, arith}
use Rattle.std.proofs.lemmas.Int.{ints}
use Rattle.std.specs.List.{AllByRecursion}
use Rattle.tv_lemmas.proofs.Members.{all-onto}
use Rattle.tv_spec_series.specs.Families.{Row, classes}
use Rattle.tv_graded.specs.Listing.{with_degree}
use Rattle.tv_candidates.specs.Closing.{entries_by_degree, HasSmallEntries}

abbrev pub IsSmallEntry : Row ℤ × ℤ → Type 0
IsSmallEntry entry = AllByRecursion (λ x. pos (unsigned_abs x) ≤ℤ (pos entries_by_degree *ℤ entry.1)) entry.0.class

pub small_classes : (hs : List ℤ) (rows : List (Row ℤ)) → AllByRecursion IsSmallEntry (map (with_degree hs) rows) →
    AllByRecursion (HasSmallEntries hs) (classes rows)
small_classes hs [] all = tt
small_classes hs (x ∷ rows) all = (all.0, small_classes hs rows all.1)

pub small_one : (v : List ℤ) (d : ℤ) → pos 1 ≤ℤ d → AllByRecursion (λ x. unsigned_abs x ≤ 9) v →
    AllByRecursion (λ x. pos (unsigned_abs x) ≤ℤ (pos entries_by_degree *ℤ d)) v
small_one v d up all = all-onto (λ x. unsigned_abs x ≤ 9) (λ x. pos (unsigned_abs x) ≤ℤ (pos entries_by_degree *ℤ d))
    (λ x less. omega (arith, ints)) v all
