-- The report of the integers of a graded web fits the grammar, where its sizes do.
use Rattle.std.proofs.Common.{◌≡◌, ◌≢◌, ℕ, ℤ, pos, ◌≤ℤ◌, List, [], ◌∷◌, length, map, sym, ◌∙◌, ap, subst, arith}
use Rattle.std.proofs.lemmas.Int.{ints}
use Rattle.std.specs.List.{AllByRecursion}
use Rattle.tv_lemmas.proofs.Members.{all-onto, all-both}
use Rattle.tv_ring.specs.Whole.{wholes}
use Rattle.tv_spec_plane.specs.Web.{Web, compact, degree_of}
use Rattle.tv_spec_plane.specs.Graded.{IsGraded}
use Rattle.tv_spec_boxes.specs.Assignments.{zeros, assignments}
use Rattle.tv_spec_boxes.specs.Classes.{IsClass, ClassesRise}
use Rattle.tv_spec_series.specs.Families.{Family, classes, coefficient_of}
use Rattle.tv_spec_katz.specs.Katz.{Integer}
use Rattle.tv_spec_katz.specs.Relations.{IsPositiveClass, IsNormalized, AreIntegers}
use Rattle.tv_spec_text.specs.Lines.{IsNumber, IsCount, word_lines}
use Rattle.tv_spec_text.specs.Reports.{IsTerm, IsSmallTerm}
use Rattle.tv_spec_reports.specs.IntegerLines.{GvSection, IsSmallInteger, gv_text}
use Rattle.tv_spec_reports.specs.IntegersReport.{TellsClass}
use Rattle.tv_spec_reports.specs.Grammar.{GvTermFits, IntegerFits, FirstSection, SectionFits, SectionsFit, GvFits}
use Rattle.tv_laws_counts.proofs.Choices.{degree_by, IsChoice, choices_are}
use Rattle.tv_laws_counts.proofs.Degrees.{weights, class_of-degree}
use Rattle.tv_lemmas.proofs.Members.{all-contains}
use Rattle.tv_laws_families.proofs.ZeroClass.{degree-zeros}
use Rattle.tv_laws_integers.proofs.Existence.{each_integer}
use Rattle.tv_laws_integers.proofs.Normalized.{reduced_normalized}
use Rattle.tv_laws_reports.specs.Laws.{ReadsAs, HasShortNumbers, HasReportSizes, ReportsReadBack, report_data}
use Rattle.tv_laws_reports.proofs.Printed.{sections_read_back}
use Rattle.tv_laws_reports.proofs.Firsts.{IsFirst, there, first_of, only_unit}
use Rattle.tv_laws_reports.proofs.Told.{none_told, told_other, told_rise}

pub class_within : (w : Web) (D : ℕ) (v : List ℤ) → IsGraded w → IsClass w D v → degree_of w.heights v ≤ℤ pos D
unfolding assignments
class_within w D v graded is =
    let gs = weights w (compact w) in
    let choice : IsChoice gs D is.witness = all-contains (IsChoice gs D) _ is.witness (choices_are gs D) is.listed in
    let few = choice.within in
    let degree : degree_of w.heights v ≡ pos (degree_by gs is.witness) =
    ap (degree_of w.heights) (sym is.same) ∙ class_of-degree w graded is.witness in
    omega (arith, ints)

module _ (D : ℕ) (f : Family ℤ) (is : List Integer) (up : pos 0 ≤ℤ f.upto) (normal : IsNormalized f.upto f) (are : AreIntegers D f is) where
  zero : List ℤ
  zero = zeros (length f.heights)

  first_fits : (s : GvSection) → s.section.entries ≡ zeros (length f.heights) → TellsClass f is s → FirstSection f.heights s
  first_fits s same tells =
      let none : degree_of f.heights s.section.entries ≡ pos 0 = ap (degree_of f.heights) same ∙ degree-zeros f.heights (length f.heights) in
      record {
        degree = tells.degree ∙ none;
        entries = same;
        terms = only_unit (coefficient_of wholes f (zeros (length f.heights))) f.upto up normal.unit normal.none s.section.terms
            (rw same at tells.terms);
        integers = tells.integers ∙ none_told D f.heights s.section.entries none is (each_integer D f.heights is are.ordered);
      }

  terms_fit : (s : GvSection) → TellsClass f is s → HasShortNumbers s → AllByRecursion (GvTermFits f.upto) s.section.terms
  terms_fit s tells short =
      let g = coefficient_of wholes f s.section.entries in
      all-both (λ t. IsTerm g f.upto t × IsSmallTerm t) (λ t. IsNumber t.exponent) (GvTermFits f.upto)
      (λ t h k. record { exponent = k; within = h.0.within; coefficient = record { other = h.0.nonzero; within = h.1 } }) s.section.terms
      (all-both (IsTerm g f.upto) IsSmallTerm (λ t. IsTerm g f.upto t × IsSmallTerm t) (λ t h k. (h, k)) s.section.terms
      tells.terms.each tells.small.terms)
      short.exponents

  integers_fit : (s : GvSection) → TellsClass f is s → HasShortNumbers s → AllByRecursion IntegerFits s.integers
  integers_fit s tells short =
      let others : AllByRecursion (λ j. j.value ≢ pos 0) s.integers =
      rw tells.integers (told_other D f.heights s.section.entries is (each_integer D f.heights is are.ordered)) in
      all-both (λ j. (j.value ≢ pos 0) × IsSmallInteger j) (λ j. IsCount j.genus) IntegerFits
      (λ j h k. record { genus = k; value = record { other = h.0; within = h.1.value } }) s.integers
      (all-both (λ j. j.value ≢ pos 0) IsSmallInteger (λ j. (j.value ≢ pos 0) × IsSmallInteger j) (λ j h k. (h, k)) s.integers
      others tells.small.integers)
      short.genera

  later_fits : (ss : List GvSection) (s : GvSection) → IsPositiveClass f.heights s.section.entries → degree_of f.heights s.section.entries ≤ℤ pos D
      → TellsClass f is s → HasShortNumbers s → SectionFits (report_data D f.upto f.heights ss) s
  later_fits ss s positive within tells short =
      let degree = tells.degree in
      let least = positive.degree in
      record {
        entries = positive.entries;
        numbers = short.entries;
        degree = degree;
        positive = omega (arith, ints);
        within = omega (arith, ints);
        terms = terms_fit s tells short;
        rises = tells.terms.rises;
        integers = integers_fit s tells short;
        genera = rw tells.integers (told_rise D f.heights s.section.entries is are.ordered);
      }

  further_fit : (all ss : List GvSection) → AllByRecursion (IsPositiveClass f.heights) (map (λ s. s.section.entries) ss)
      → AllByRecursion (λ v. degree_of f.heights v ≤ℤ pos D) (map (λ s. s.section.entries) ss)
      → AllByRecursion (TellsClass f is) ss → AllByRecursion HasShortNumbers ss
      → AllByRecursion (SectionFits (report_data D f.upto f.heights all)) ss
  further_fit all [] positive within tells short = tt
  further_fit all (s ∷ ss) positive within tells short = (
    later_fits all s positive.0 within.0 tells.0 short.0,
    further_fit all ss positive.1 within.1 tells.1 short.1,
  )

  sections_fit : (all ss : List GvSection) → IsFirst f.heights (zeros (length f.heights)) (map (λ s. s.section.entries) ss)
      → AllByRecursion (λ v. degree_of f.heights v ≤ℤ pos D) (map (λ s. s.section.entries) ss)
      → AllByRecursion (TellsClass f is) ss → AllByRecursion HasShortNumbers ss
      → SectionsFit (report_data D f.upto f.heights all) ss
  sections_fit all [] first within tells short = absurd first
  sections_fit all (s ∷ ss) first within tells short =
      (first_fits s first.0 tells.0, further_fit all ss first.1 within.1 tells.1 short.1)

  is_first : ClassesRise f.heights (classes f.rows) → IsFirst f.heights (zeros (length f.heights)) (classes f.rows)
  is_first rises =
      let unit = normal.unit in
      first_of f.heights (zeros (length f.heights)) (classes f.rows) (degree-zeros f.heights (length f.heights))
      (there (zeros (length f.heights)) (pos 0) f.rows (λ e. let clash = sym unit ∙ e in absurd (cc))) rises normal.others

  pub report_fits : (ss : List GvSection) → map (λ s. s.section.entries) ss ≡ classes f.rows → ClassesRise f.heights (classes f.rows)
      → AllByRecursion (λ v. degree_of f.heights v ≤ℤ pos D) (classes f.rows) → AllByRecursion (TellsClass f is) ss
      → HasReportSizes D f.upto f.heights ss → GvFits (report_data D f.upto f.heights ss)
  report_fits ss same rises within tells sizes =
      let few = sizes.asked.degree in
      record {
        some = sizes.some;
        few = sizes.few;
        heights = sizes.heights;
        least_degree = omega (arith, ints);
        greatest_degree = omega (arith, ints);
        least_order = sizes.asked.least;
        greatest_order = sizes.asked.greatest;
        sections = sections_fit ss ss (rw same (is_first rises)) (rw same within) tells sizes.numbers;
        order = rw same rises;
      }

pub reports_read_back : ReportsReadBack
reports_read_back w D N text graded each r sizes =
    let f = r.family in
    let ss = r.tells.sections in
    let reduced = r.reduced in
    let up : pos 0 ≤ℤ N = let least = sizes.asked.least in omega (arith, ints) in
    let normal : IsNormalized N f = reduced_normalized w D N f graded each up reduced in
    let within : AllByRecursion (λ v. degree_of w.heights v ≤ℤ pos D) (classes f.rows) =
    all-onto (IsClass w D) (λ v. degree_of w.heights v ≤ℤ pos D) (λ v class. class_within w D v graded class) (classes f.rows)
    reduced.classes.each in
    let normal_here = subst (λ (n : ℤ). IsNormalized n f) (sym reduced.upto) normal in
    let rises = subst (λ (hs : List ℤ). ClassesRise hs (classes f.rows)) (sym reduced.heights) reduced.classes.rises in
    let within_here = subst (λ (hs : List ℤ). AllByRecursion (λ v. degree_of hs v ≤ℤ pos D) (classes f.rows)) (sym reduced.heights) within in
    let sizes_here = subst (λ (n : ℤ). HasReportSizes D n f.heights ss) (sym reduced.upto)
    (subst (λ (hs : List ℤ). HasReportSizes D N hs ss) (sym reduced.heights) sizes) in
    let fits : GvFits (report_data D f.upto f.heights ss) =
    report_fits D f r.integers (rw reduced.upto up) normal_here r.are ss r.tells.classes rises within_here r.tells.each sizes_here in
    let reads : ReadsAs (word_lines (gv_text f.heights (pos D) f.upto ss)) (report_data D f.upto f.heights ss) =
    sections_read_back (report_data D f.upto f.heights ss) fits in
    let printed : ReadsAs (word_lines text) (report_data D f.upto f.heights ss) =
    subst (λ (t : List ℕ). ReadsAs (word_lines t) (report_data D f.upto f.heights ss)) (sym r.tells.printed) reads in
    subst (λ (hs : List ℤ). ReadsAs (word_lines text) (report_data D N hs ss)) reduced.heights
    (subst (λ (n : ℤ). ReadsAs (word_lines text) (report_data D n f.heights ss)) reduced.upto printed)
