-- Lines spell at most one report, and bytes are refused for one reason at most.
use Rattle.std.proofs.Common.{◌≡◌, ℕ, ℤ, pos, suc, ◌≤ℤ◌, List, [], ◌∷◌, ◌++◌, length, map, refl, sym, ◌∙◌, ap, subst, arith}
use Rattle.std.proofs.lemmas.Int.{ints}
use Rattle.std.specs.List.{AllByRecursion}
use Rattle.tv_lemmas.proofs.Members.{all-onto}
use Rattle.tv_spec_text.specs.Lines.{Line, IsNumber, word_lines}
use Rattle.tv_spec_text.specs.Reports.{Term, term_line}
use Rattle.tv_spec_text.proofs.Readings.{kind}
use Rattle.tv_spec_text.proofs.Places.{IsPlace-unique, IsPlace-none}
use Rattle.tv_spec_reports.specs.IntegerLines.{GenusValue, GvSection, integer_line}
use Rattle.tv_spec_reports.specs.Grammar.{GvData, GvTermFits, IntegerFits, FirstSection, SectionFits, SectionsFit, GvFits, SpellsGv, IsGv}
use Rattle.tv_lattice.specs.declared.fault.ReportFault.{ReportFault}
use Rattle.tv_lattice.specs.declared.fault.ReportFault.TheVariants.{TooLong, Line as AtLine}
use Rattle.tv_integers.specs.declared.report.Report.{Report}
use Rattle.tv_report_reader.specs.declared.fault.ReportError.TheVariants.{Fault}
use Rattle.tv_report_reader.specs.Rows.{TermFits}
use Rattle.tv_report_reader.specs.Faults.{IsReport, IsReportFault}
use Rattle.tv_report_reader.specs.Stages.{lines_from}
use Rattle.tv_report_reader.proofs.Spelled.{small_numbers, bounded_number, zeros_numbers, heights_injective, degree_injective, upto_injective, class_injective, term_injective, integer_injective, first, others}
use Rattle.tv_report_reader.proofs.Sections.{lines-none, lines-some}
use Rattle.tv_report_reader.proofs.HeadSteps.{section-same}
use Rattle.tv_report_reader.proofs.BodySteps.{no-term-integers, no-integer-later}
use Rattle.tv_report_reader.proofs.LinesRead.{all_lines}

-- the numbers of a section have a spelling
record HasNumbers (s : GvSection) : Type 0 where
  degree : IsNumber s.section.degree
  entries : AllByRecursion IsNumber s.section.entries
  terms : AllByRecursion TermFits s.section.terms
  integers : AllByRecursion IntegerFits s.integers

same-integers : (is js : List GenusValue) (ss ps : List GvSection) → AllByRecursion IntegerFits is → AllByRecursion IntegerFits js → map integer_line is ++ lines_from ss ≡ map integer_line js ++ lines_from ps → (is ≡ js) × (lines_from ss ≡ lines_from ps)
same-integers [] [] ss ps h k e = (refl, e)
same-integers [] (j ∷ js) ss ps h k e = absurd (no-integer-later ss (ap kind e))
same-integers (i ∷ is) [] ss ps h k e = absurd (no-integer-later ps (sym (ap kind e)))
same-integers (i ∷ is) (j ∷ js) ss ps h k e =
    let equal = integer_injective i j h.0 k.0 (first _ _ _ _ e) in
    let rest = same-integers is js ss ps h.1 k.1 (others _ _ _ _ e) in
    let more : is ≡ js = rest.0 in (cc, rest.1)

same-terms : (ts us : List Term) (is js : List GenusValue) (ss ps : List GvSection) → AllByRecursion TermFits ts → AllByRecursion TermFits us → map term_line ts ++ (map integer_line is ++ lines_from ss) ≡ map term_line us ++ (map integer_line js ++ lines_from ps) → (ts ≡ us) × (map integer_line is ++ lines_from ss ≡ map integer_line js ++ lines_from ps)
same-terms [] [] is js ss ps h k e = (refl, e)
same-terms [] (u ∷ us) is js ss ps h k e = absurd (no-term-integers is ss (ap kind e))
same-terms (t ∷ ts) [] is js ss ps h k e = absurd (no-term-integers js ps (sym (ap kind e)))
same-terms (t ∷ ts) (u ∷ us) is js ss ps h k e =
    let equal = term_injective t u h.0 k.0 (first _ _ _ _ e) in
    let rest = same-terms ts us is js ss ps h.1 k.1 (others _ _ _ _ e) in
    let more : ts ≡ us = rest.0 in (cc, rest.1)

same-sections : (ss ps : List GvSection) → AllByRecursion HasNumbers ss → AllByRecursion HasNumbers ps → lines_from ss ≡ lines_from ps → ss ≡ ps
same-sections [] [] h k e = refl
same-sections [] (p ∷ ps) h k e = absurd (omega (arith, ap kind (sym lines-none ∙ e ∙ lines-some p ps)))
same-sections (s ∷ ss) [] h k e = absurd (omega (arith, ap kind (sym (lines-some s ss) ∙ e ∙ lines-none)))
same-sections (s ∷ ss) (p ∷ ps) h k e =
    let lines = sym (lines-some s ss) ∙ e ∙ lines-some p ps in
    let a = h.0 in
    let b = k.0 in
    let class = class_injective s.section.degree p.section.degree s.section.entries p.section.entries a.degree b.degree a.entries b.entries (first _ _ _ _ lines) in
    let terms = same-terms s.section.terms p.section.terms s.integers p.integers ss ps a.terms b.terms (others _ _ _ _ lines) in
    let integers = same-integers s.integers p.integers ss ps a.integers b.integers terms.1 in
    ap (λ q. q ∷ ss) (section-same s p class.0 class.1 terms.0 integers.0) ∙ ap (λ qs. p ∷ qs) (same-sections ss ps h.1 k.1 integers.1)

section-numbers : (d : GvData) (p : GvSection) → d.degree ≤ℤ pos 24 → SectionFits d p → HasNumbers p
section-numbers d p top f = let a = f.positive in let b = f.within in record {
  degree = bounded_number p.section.degree (omega (arith, ints)) (omega (arith, ints));
  entries = f.numbers;
  terms = all-onto (GvTermFits d.upto) TermFits (λ t g. (g.exponent, g.coefficient)) p.section.terms f.terms;
  integers = f.integers;
}

first-numbers : (hs : List ℤ) (p : GvSection) → FirstSection hs p → HasNumbers p
first-numbers hs p f = record {
  degree = subst IsNumber (sym f.degree) (omega arith);
  entries = subst (AllByRecursion IsNumber) (sym f.entries) (zeros_numbers (length hs));
  terms = subst (AllByRecursion TermFits) (sym f.terms) ((omega arith, record { other = λ e. absurd (cc); within = omega arith }), tt);
  integers = subst (AllByRecursion IntegerFits) (sym f.integers) tt;
}

all-numbers : (d : GvData) (ss : List GvSection) → d.degree ≤ℤ pos 24 → SectionsFit d ss → AllByRecursion HasNumbers ss
all-numbers d [] top none = absurd none
all-numbers d (p ∷ ps) top fits = (first-numbers d.heights p fits.0, all-onto (SectionFits d) HasNumbers (λ q f. section-numbers d q top f) ps fits.1)

top-number : (d : GvData) → GvFits d → IsNumber d.degree
top-number d f = let a = f.least_degree in let b = f.greatest_degree in bounded_number d.degree a (omega (arith, ints))

last-number : (d : GvData) → GvFits d → IsNumber d.upto
last-number d f = let a = f.least_order in let b = f.greatest_order in bounded_number d.upto (omega (arith, ints)) b

make : List ℤ → ℤ → ℤ → List GvSection → GvData
make hs z n ss = record { heights = hs; degree = z; upto = n; sections = ss }

same-data : (c d : GvData) → c.heights ≡ d.heights → c.degree ≡ d.degree → c.upto ≡ d.upto → c.sections ≡ d.sections → c ≡ d
unfolding make
same-data c d h z n s = ap (λ hs. make hs c.degree c.upto c.sections) h ∙ ap (λ y. make d.heights y c.upto c.sections) z ∙ ap (λ m. make d.heights d.degree m c.sections) n ∙ ap (λ ss. make d.heights d.degree d.upto ss) s

pub SpellsGv-unique : (ls : List Line) (c d : GvData) → SpellsGv ls c → SpellsGv ls d → c ≡ d
SpellsGv-unique ls c d s t =
    let f = s.fits in
    let g = t.fits in
    let heights = others _ _ _ _ (sym (s.same ∙ all_lines c) ∙ t.same ∙ all_lines d) in
    let degree = others _ _ _ _ heights in
    let upto = others _ _ _ _ degree in
    same-data c d
    (heights_injective c.heights d.heights (small_numbers c.heights f.heights) (small_numbers d.heights g.heights) (first _ _ _ _ heights))
    (degree_injective c.degree d.degree (top-number c f) (top-number d g) (first _ _ _ _ degree))
    (upto_injective c.upto d.upto (last-number c f) (last-number d g) (first _ _ _ _ upto))
    (same-sections c.sections d.sections (all-numbers c c.sections f.greatest_degree f.sections) (all-numbers d d.sections g.greatest_degree g.sections) (others _ _ _ _ upto))

pub IsReportFault-unique : (bytes : List ℕ) (f g : ReportFault) → IsReportFault bytes (Fault f) → IsReportFault bytes (Fault g) → f ≡ g
IsReportFault-unique bytes TooLong TooLong x y = refl
IsReportFault-unique bytes TooLong (AtLine n) x y = absurd (omega (arith, x, y.0))
IsReportFault-unique bytes (AtLine m) TooLong x y = absurd (omega (arith, y, x.0))
IsReportFault-unique bytes (AtLine m) (AtLine n) x y = ap AtLine (x.1.1 ∙ ap suc (IsPlace-unique IsGv (word_lines bytes) x.1.0 y.1.0 x.1.2 y.1.2) ∙ sym y.1.1)

pub IsReport-accepted : (bytes : List ℕ) (r : Report) (f : ReportFault) → IsReport bytes r → IsReportFault bytes (Fault f) → ⊥
IsReport-accepted bytes r TooLong t x = omega (arith, x, t.0)
IsReport-accepted bytes r (AtLine n) t x = IsPlace-none IsGv (word_lines bytes) x.1.0 (t.1.0, t.1.1) x.1.2
