-- What a report of a web within the limits of files prints has at most nine digits: entries are at most 402 * 24 in absolute
-- value, no series begins below -10000000, and so no genus is above 24 * 10000000 + 1.
use Rattle.std.proofs.Common.{◌≡◌, ◌*ℤ◌, unsigned_abs, ℕ, ℤ, pos, negsuc, ◌+ℤ◌, ◌≤ℤ◌, ◌<ℤ◌, List, [], ◌∷◌, map, Option, Some, None, refl, ◌∙◌, arith}
use Rattle.std.specs.Int.{int_min}
use Rattle.std.proofs.lemmas.Int.{ints, by_lt_z}
use Rattle.std.specs.List.{AllByRecursion}
use Rattle.tv_lemmas.proofs.Members.{all-onto, all-both}
use Rattle.tv_ring.specs.Whole.{wholes}
use Rattle.tv_ring.specs.WholeLaws.{whole_laws}
use Rattle.tv_laws_series.proofs.Coefficients.{coefficient_below}
use Rattle.tv_spec_plane.specs.Limits.{HasCoordinates}
use Rattle.tv_spec_plane.specs.Web.{Web, compact, edge_class, degree_of}
use Rattle.tv_laws_edges.specs.Rule.{HasRule}
use Rattle.tv_degrees.proofs.Bounds.{class_entries-small}
use Rattle.tv_spec_boxes.specs.Assignments.{no_legs}
use Rattle.tv_spec_boxes.specs.Classes.{IsClass}
use Rattle.tv_spec_boxes.specs.Numbers.{lowest}
use Rattle.tv_spec_series.specs.Families.{Row, Family, classes, coefficient_of, series_coefficient, find}
use Rattle.tv_spec_series.specs.ReducedFamilies.{IsReducedFamily, IsReducedRow}
use Rattle.tv_spec_series.proofs.Rows.{found_all}
use Rattle.tv_spec_katz.specs.Katz.{Integer}
use Rattle.tv_spec_katz.specs.Relations.{IsInteger, AreIntegers}
use Rattle.tv_lattice.specs.declared.fault.ReportFault.TheVariants.{TooLong, Line as AtLine}
use Rattle.tv_spec_text.specs.Lines.{IsNumber, IsCount, word_lines}
use Rattle.tv_spec_text.proofs.Places.{IsPlace-none}
use Rattle.tv_spec_reports.specs.Grammar.{IsGv}
use Rattle.tv_spec_text.specs.Reports.{Term, IsTerm}
use Rattle.tv_spec_reports.specs.IntegerLines.{GvSection}
use Rattle.tv_spec_reports.specs.IntegersReport.{TellsClass}
use Rattle.tv_reduced.proofs.LowestBound.{lowest-bound}
use Rattle.tv_laws_families.specs.Laws.{AreAtMost, HasReducedClasses}
use Rattle.tv_laws_families.proofs.ReducedClasses.{reduced_classes}
use Rattle.tv_laws_integers.specs.Reading.{BeginsAbove}
use Rattle.tv_laws_integers.proofs.Existence.{each_integer}
use Rattle.tv_laws_integers.proofs.Slopes.{integers_within}
use Rattle.tv_laws_katz.specs.Weights.{IsWithinSlope}
use Rattle.tv_report_reader.proofs.Spelled.{small_number}
use Rattle.tv_laws_reports.specs.Laws.{IsReportable, HasShortNumbers, HasReportSizes, AllReportsReadBack, OnlyLengthIsRefused, report_data}
use Rattle.tv_laws_reports.proofs.Fitting.{class_within, reports_read_back}
use Rattle.tv_laws_reports.proofs.Told.{told_all}

edges_small : (w : Web) → AllByRecursion HasCoordinates w.points → AllByRecursion (HasRule w) (compact w)
    → AllByRecursion (λ e. AreAtMost 402 (edge_class w e)) (compact w)
edges_small w coordinates rule =
    all-onto (HasRule w) (λ e. AreAtMost 402 (edge_class w e)) (λ e r. class_entries-small w e coordinates r) (compact w) rule

number-between : (z : ℤ) → negsuc 9999999 ≤ℤ z → z ≤ℤ pos 64 → IsNumber z
number-between (pos n) low high = omega (arith, ints)
number-between (negsuc n) low high = omega (arith, ints)

least-of : (x y : ℤ) → negsuc 9999999 ≤ℤ x → negsuc 9999999 ≤ℤ y → negsuc 9999999 ≤ℤ int_min x y
least-of x y h k = grind (arith, ints)

module _ (w : Web) (D : ℕ) (N : ℤ) (f : Family ℤ) (limits : IsReportable w D N) (reduced : IsReducedFamily wholes w (no_legs w) D N f) where
  low : negsuc 9999999 ≤ℤ lowest w (no_legs w) D
  low = lowest-bound w D limits.within.coordinates limits.rule limits.graded limits.within.triangles limits.asked.degree

  -- ---- entries

  entries_short : AllByRecursion (AllByRecursion IsNumber) (classes f.rows)
  entries_short =
      let found : HasReducedClasses wholes w 402 N f =
      reduced_classes whole_laws w 402 D N f limits.graded (edges_small w limits.within.coordinates limits.rule) reduced in
      let top = limits.asked.degree in
      all-both (IsClass w D) (λ v. AllByRecursion (λ x. pos (unsigned_abs x) ≤ℤ (pos 402 *ℤ degree_of w.heights v)) v) (AllByRecursion IsNumber)
      (λ v class all.
      let within = class_within w D v limits.graded class in
      all-onto (λ x. pos (unsigned_abs x) ≤ℤ (pos 402 *ℤ degree_of w.heights v)) IsNumber (λ x h. small_number x (omega (arith, ints))) v all)
      (classes f.rows) reduced.classes.each found.entries

  -- ---- exponents

  row_low : (x : Row ℤ) → IsReducedRow wholes w (no_legs w) D N x → negsuc 9999999 ≤ℤ x.series.low
  row_low x row =
      let from = row.low in
      let order = limits.asked.least in
      let least = least-of (lowest w (no_legs w) D) (N +ℤ pos 1) low (omega (arith, ints)) in omega (arith, ints)

  none_below : (v : List ℤ) (m : ℤ) → m <ℤ negsuc 9999999 → coefficient_of wholes f v m ≡ pos 0
  none_below v m h = found (find v f.rows) refl
    where
      found : (x : Option (Row ℤ)) → find v f.rows ≡ x → series_coefficient wholes m x ≡ pos 0
      found None e = refl
      found (Some x) e =
          let from = row_low x (found_all (IsReducedRow wholes w (no_legs w) D N) v f.rows x reduced.rows e) in
          coefficient_below wholes x.series m (omega (arith, ints))

  exponent_short : (v : List ℤ) (t : Term) → IsTerm (coefficient_of wholes f v) f.upto t → IsNumber t.exponent
  exponent_short v t is = by_lt_z t.exponent (negsuc 9999999)
      (λ below. absurd (is.nonzero (is.value ∙ none_below v t.exponent below)))
      (λ above.
      let last = is.within in
      let same = reduced.upto in
      let order = limits.asked.greatest in number-between t.exponent above (omega (arith, ints)))

  -- ---- genera

  begins : BeginsAbove D f 10000000
  begins v n class h = let up = class.positive.degree in none_below v n (omega (arith, ints))

  genera_short : (is : List Integer) → AreIntegers D f is → AllByRecursion (λ i. IsCount i.genus) is
  genera_short is are =
      let top = limits.asked.degree in
      all-both (IsWithinSlope f.heights 10000000) (IsInteger D f.heights) (λ i. IsCount i.genus)
      (λ i steep integer. let slope = steep.slope in let within = integer.within in omega (arith, ints)) is
      (integers_within D f 10000000 begins is are) (each_integer D f.heights is are.ordered)

  -- ---- sections

  section_short : (is : List Integer) → AreIntegers D f is → (s : GvSection) → AllByRecursion IsNumber s.section.entries → TellsClass f is s
      → HasShortNumbers s
  section_short is are s entries tells = record {
    entries = entries;
    exponents = all-onto (IsTerm (coefficient_of wholes f s.section.entries) f.upto) (λ t. IsNumber t.exponent)
        (exponent_short s.section.entries) s.section.terms tells.terms.each;
    genera = rw tells.integers (told_all s.section.entries (λ j. IsCount j.genus) (λ i. IsCount i.genus) (λ i h same. h) is (genera_short is are));
  }

  sections_short : (is : List Integer) → AreIntegers D f is → (ss : List GvSection)
      → AllByRecursion (AllByRecursion IsNumber) (map (λ s. s.section.entries) ss) → AllByRecursion (TellsClass f is) ss
      → AllByRecursion HasShortNumbers ss
  sections_short is are [] entries tells = tt
  sections_short is are (s ∷ ss) entries tells =
      (section_short is are s entries.0 tells.0, sections_short is are ss entries.1 tells.1)

  pub has_sizes : (is : List Integer) → AreIntegers D f is → (ss : List GvSection) → map (λ s. s.section.entries) ss ≡ classes f.rows
      → AllByRecursion (TellsClass f is) ss → HasReportSizes D N w.heights ss
  has_sizes is are ss same tells =
      let each = limits.heights in
      let some = limits.some in
      let few = limits.within.points in
      record {
        some = omega arith;
        few = omega arith;
        heights = limits.within.sizes;
        asked = limits.asked;
        numbers = sections_short is are ss (rw same entries_short) tells;
      }

pub all_reports_read_back : AllReportsReadBack
all_reports_read_back w D N text limits r = reports_read_back w D N text limits.graded limits.heights r
    (has_sizes w D N r.family limits r.reduced r.integers r.are r.tells.sections r.tells.classes r.tells.each)

pub only_length_refused : OnlyLengthIsRefused
only_length_refused w D N text limits r TooLong fault = refl
only_length_refused w D N text limits r (AtLine n) fault =
    let reads = all_reports_read_back w D N text limits r in
    absurd (IsPlace-none IsGv (word_lines text) fault.1.0 (report_data D N w.heights r.tells.sections, reads.spells) fault.1.2)
