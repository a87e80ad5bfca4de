-- A full family, divided by the series of class zero, is the family of reduced series.
use Rattle.std.proofs.Common.{◌≡◌, ℕ, refl, ap}
use Rattle.std.specs.Prelude.{ℤ, pos, ◌+ℤ◌, ◌≤ℤ◌, List, [], ◌∷◌, map}
use Rattle.std.specs.List.{AllByRecursion}
use Rattle.tv_ring.specs.Operations.{Operations, RingLaws}
use Rattle.tv_laws_series.specs.Terms.{Terms, upto}
use Rattle.tv_laws_series.specs.SeriesLaws.{HasValues}
use Rattle.tv_spec_plane.specs.Web.{Web}
use Rattle.tv_partition.specs.Rows.{IsDiagram}
use Rattle.tv_spec_plane.specs.Graded.{IsGraded}
use Rattle.tv_spec_boxes.specs.Assignments.{Rows}
use Rattle.tv_spec_boxes.specs.Numbers.{lowest}
use Rattle.tv_spec_series.specs.Families.{Row, Family, classes, divided_row, divided, IsRow, IsFamily}
use Rattle.tv_spec_series.specs.Reduced.{full_coefficient, zero_coefficient}
use Rattle.tv_spec_series.specs.Full.{IsFullRow, IsFull}
use Rattle.tv_spec_series.specs.ReducedFamilies.{IsReducedRow, IsReducedFamily, IsDivisor}
use Rattle.tv_laws_families.specs.Laws.{HasUnit}
use Rattle.tv_laws_families.proofs.Lowest.{nothing_below}
use Rattle.tv_laws_families.proofs.Rows.{IsGiven, quotient_value, given_quotient, quotient_known}

-- the divisor is known far enough for each row
abbrev pub Reaches : {A : Type 0} → ℤ → Terms A → Row A → Type 0
Reaches n b x = n ≤ℤ (x.series.low +ℤ upto b)

module _ {A : Type 0} {IsValue : A → Type 0} {r : Operations A} (laws : RingLaws IsValue r) (w : Web) (fixed : List Rows) (d : ℕ) (n : ℤ) (b : Terms A) (graded : IsGraded w) (diagrams : AllByRecursion IsDiagram fixed) (starts : HasUnit (zero_coefficient w fixed)) (values : HasValues IsValue r b) (divisor : IsDivisor r w fixed b) where
  pub row_given : (x : Row A) → IsRow IsValue r w.heights (pos d) n x → IsFullRow r w fixed d n x → Reaches n b x → IsGiven IsValue r n (full_coefficient w fixed x.class) (zero_coefficient w fixed) x.series b
  row_given x is full reaches = record {
    dividend_values = is.series.values;
    divisor_values = values;
    unit = divisor.unit;
    known = is.known;
    reaches = reaches;
    dividend = full.counts;
    divisor = divisor.values;
    one = starts.unit;
    begins = starts.none;
    least = lowest w fixed d;
    none = λ i below. nothing_below w fixed d x.class i graded diagrams is.place.within below;
  }

  reduced_row : (x : Row A) → IsRow IsValue r w.heights (pos d) n x → IsFullRow r w fixed d n x → Reaches n b x → IsReducedRow r w fixed d n (divided_row r b x)
  reduced_row x is full reaches = let given = row_given x is full reaches in record {
    series = _;
    reduced = given_quotient laws n (full_coefficient w fixed x.class) (zero_coefficient w fixed) x.series b given;
    values = quotient_value laws n (full_coefficient w fixed x.class) (zero_coefficient w fixed) x.series b given;
    known = quotient_known laws n (full_coefficient w fixed x.class) (zero_coefficient w fixed) x.series b given;
    low = full.low;
  }

  reduced_rows : (xs : List (Row A)) → AllByRecursion (IsRow IsValue r w.heights (pos d) n) xs → AllByRecursion (IsFullRow r w fixed d n) xs → AllByRecursion (Reaches n b) xs → AllByRecursion (IsReducedRow r w fixed d n) (map (divided_row r b) xs)
  reduced_rows [] is full reaches = tt
  reduced_rows (x ∷ xs) is full reaches = (reduced_row x is.0 full.0 reaches.0, reduced_rows xs is.1 full.1 reaches.1)

  same_classes : (xs : List (Row A)) → classes (map (divided_row r b) xs) ≡ classes xs
  same_classes [] = refl
  same_classes (x ∷ xs) = ap (λ vs. x.class ∷ vs) (same_classes xs)

  pub divided_is_reduced : (f : Family A) → IsFamily IsValue r f → IsFull r w fixed d n f → AllByRecursion (Reaches n b) f.rows → IsReducedFamily r w fixed d n (divided r b f)
  divided_is_reduced f is full reaches = record {
    heights = full.heights;
    top = full.top;
    upto = full.upto;
    classes = rw (same_classes f.rows) full.classes;
    rows = reduced_rows f.rows (rw (full.heights, full.top, full.upto) at is.rows) full.rows reaches;
  }
