-- A report that bytes spell is one that can be checked.
use Rattle.std.proofs.Common.{◌≡◌, ℕ, zero, suc, ◌<◌, ◌≤◌, ℤ, pos, negsuc, ◌+ℤ◌, ◌*ℤ◌, ◌≤ℤ◌, unsigned_abs, ◌⊎◌, false, if◌then◌else◌, List, [], ◌∷◌, length, map, Some, inl, inr, refl, sym, ap, ◌∙◌, subst, arith}
use Rattle.std.proofs.lemmas.Int.{ints}
use Rattle.std.specs.List.{AllByRecursion}
use Rattle.std.specs.Ordering.{int_eq}
use Rattle.std.proofs.lemmas.Bool.{cases_Bool}
use Rattle.std.proofs.lemmas.Bool.Decides.{Decides-int_eq}
use Rattle.tv_lemmas.proofs.Members.{all-append, all-onto}
use Rattle.tv_ring.specs.Sums.{at}
use Rattle.tv_ring.specs.Whole.{wholes}
use Rattle.tv_laws_series.specs.Terms.{above, listed}
use Rattle.tv_laws_series.proofs.Listed.{at-listed}
use Rattle.tv_laws_series.proofs.Coefficients.{coefficient_at}
use Rattle.tv_spec_plane.specs.Web.{degree_of}
use Rattle.tv_spec_boxes.specs.Assignments.{zeros}
use Rattle.tv_spec_boxes.proofs.OneCornerCrowd.{degree_zero}
use Rattle.tv_spec_text.specs.Lines.{IsNumber}
use Rattle.tv_spec_text.specs.Reports.{Term}
use Rattle.tv_spec_series.specs.Families.{Family, classes, find, coefficient, coefficient_of, series_coefficient}
use Rattle.tv_spec_katz.specs.Katz.{Integer}
use Rattle.tv_spec_katz.specs.Relations.{IsNormalized, IsPositiveClass}
use Rattle.tv_integers.specs.declared.report.Report.{Report}
use Rattle.tv_gv.specs.Extracted.{HasSmallEntries, IsExtractable}
use Rattle.tv_cert.specs.Verified.{IsCheckable}
use Rattle.tv_spec_reports.specs.IntegerLines.{GenusValue, GvSection}
use Rattle.tv_spec_reports.specs.Grammar.{GvData, FirstSection, SectionFits, SectionsFit, GvFits}
use Rattle.tv_laws_families.proofs.ZeroClass.{same-zeros}
use Rattle.tv_report_reader.specs.Told.{value_at, series_of, row_of, family_of, integer_of, section_integers, integers_of}
use Rattle.tv_report_reader.specs.Faults.{IsReport}

-- ---- class zero

one_term : List Term
one_term = record { exponent = pos 0; coefficient = pos 1 } ∷ []

abbrev one_at : ℤ → ℕ → ℤ
one_at N k = value_at one_term (pos 0 +ℤ pos k)

within_series : (N : ℤ) (k : ℕ) → pos k ≤ℤ N → k < above (pos 0) (N +ℤ pos 1)
unfolding above
within_series (pos m) k h = omega (arith, ints)
within_series (negsuc m) k h = absurd (omega (arith, ints))

place_is : (k : ℕ) → above (pos 0) (pos k) ≡ k
unfolding above
place_is k = omega (arith, ints)

one_series : (N : ℤ) (k : ℕ) → pos k ≤ℤ N → coefficient wholes (series_of N one_term) (pos k) ≡ one_at N k
unfolding series_of one_term
one_series N k h = coefficient_at wholes (series_of N one_term) (pos k) (omega (arith, ints)) ∙ (ap (at wholes (listed (one_at N) (above (pos 0) (N +ℤ pos 1)))) (place_is k) ∙ at-listed wholes (one_at N) (above (pos 0) (N +ℤ pos 1)) k (within_series N k h))

apart : (x y : ℤ) → (x ≡ y → ⊥) → int_eq x y ≡ false
apart x y other = elim (cases_Bool (int_eq x y)) [
  | inl on ↦ absurd (other ((Decides-int_eq x y).0 on))
  | inr off ↦ off
]

one_further : (N : ℤ) (k : ℕ) → one_at N (suc k) ≡ pos 0
unfolding value_at one_term
one_further N k = ap (λ b. if b then pos 1 else pos 0) (apart (pos 0) (pos 0 +ℤ pos (suc k)) (λ e. omega (arith, ints)))

one_at_zero : (N : ℤ) → pos 0 ≤ℤ N → coefficient wholes (series_of N one_term) (pos 0) ≡ pos 1
unfolding value_at one_term
one_at_zero N h = one_series N 0 h ∙ refl

none_elsewhere : (N n : ℤ) → n ≤ℤ N → (n ≡ pos 0 → ⊥) → coefficient wholes (series_of N one_term) n ≡ pos 0
unfolding value_at one_term coefficient series_of
none_elsewhere N (pos zero) h other = absurd (other refl)
none_elsewhere N (pos (suc k)) h other = one_series N (suc k) h ∙ one_further N k
none_elsewhere N (negsuc k) h other = refl

found : (hs : List ℤ) (N : ℤ) (s : GvSection) (ss : List GvSection) → FirstSection hs s → find (zeros (length hs)) (map (row_of N) (s ∷ ss)) ≡ Some (row_of N s)
unfolding find
found hs N s ss first = rw (first.entries, same-zeros (length hs)) refl

abbrev with_sections : GvData → List GvSection → Family ℤ
with_sections d ss = record { heights = d.heights; top = d.degree; upto = d.upto; rows = map (row_of d.upto) ss }

zero_coefficient : (d : GvData) (s : GvSection) (ss : List GvSection) (n : ℤ) → FirstSection d.heights s
    → coefficient_of wholes (with_sections d (s ∷ ss)) (zeros (length d.heights)) n ≡ coefficient wholes (series_of d.upto one_term) n
unfolding one_term
zero_coefficient d s ss n first =
    ap (series_coefficient wholes n) (found d.heights d.upto s ss first) ∙ ap (λ ts. coefficient wholes (series_of d.upto ts) n) first.terms

-- ---- the other classes

others_positive : (d : GvData) (ss : List GvSection) → AllByRecursion (SectionFits d) ss
    → AllByRecursion (λ v. (v ≡ zeros (length d.heights)) ⊎ IsPositiveClass d.heights v) (classes (map (row_of d.upto) ss))
others_positive d [] all = tt
others_positive d (s ∷ ss) all =
    let least = all.0.positive in let degree = all.0.degree in
    (inr (record { entries = all.0.entries; degree = omega (arith, ints) }), others_positive d ss all.1)

normalized : (d : GvData) (ss : List GvSection) → SectionsFit d ss → pos 1 ≤ℤ d.upto → IsNormalized d.upto (with_sections d ss)
normalized d [] fit order = absurd fit
normalized d (s ∷ ss) fit order = record {
  unit = zero_coefficient d s ss (pos 0) fit.0 ∙ one_at_zero d.upto (omega (arith, ints));
  none = λ n within other. zero_coefficient d s ss n fit.0 ∙ none_elsewhere d.upto n within other;
  others = (inl fit.0.entries, others_positive d ss fit.1);
}

-- ---- degrees and entries

abbrev IsGood : GvData → GvSection → Type 0
IsGood d s = (degree_of d.heights s.section.entries ≤ℤ d.degree) × HasSmallEntries d.heights s.section.entries

few_zeros : (z : ℤ) (n : ℕ) → pos 0 ≤ℤ z → AllByRecursion (λ x. pos (unsigned_abs x) ≤ℤ z) (zeros n)
few_zeros z zero h = tt
few_zeros z (suc n) h = (h, few_zeros z n h)

number_small : (x : ℤ) → IsNumber x → pos (unsigned_abs x) ≤ℤ pos 1000000000
number_small (pos n) h = omega (arith, ints)
number_small (negsuc n) h = omega (arith, ints)

numbers_small : (hs v : List ℤ) → pos 1 ≤ℤ degree_of hs v → AllByRecursion IsNumber v → HasSmallEntries hs v
numbers_small hs v positive all = all-onto IsNumber (λ x. pos (unsigned_abs x) ≤ℤ (pos 1000000000 *ℤ degree_of hs v)) (λ x h. let small = number_small x h in omega (arith, ints)) v all

zero_good : (d : GvData) (s : GvSection) → FirstSection d.heights s → pos 0 ≤ℤ d.degree → IsGood d s
zero_good d s first least =
    let none = degree_zero d.heights (length d.heights) in
    rw first.entries (omega (arith, ints), few_zeros (pos 1000000000 *ℤ degree_of d.heights (zeros (length d.heights))) (length d.heights) (omega (arith, ints)))

section_good : (d : GvData) (s : GvSection) → SectionFits d s → IsGood d s
section_good d s fits =
    let least = fits.positive in let most = fits.within in let degree = fits.degree in
    (omega (arith, ints), numbers_small d.heights s.section.entries (omega (arith, ints)) fits.numbers)

sections_good : (d : GvData) (ss : List GvSection) → SectionsFit d ss → pos 0 ≤ℤ d.degree → AllByRecursion (IsGood d) ss
sections_good d [] fit least = absurd fit
sections_good d (s ∷ ss) fit least = (zero_good d s fit.0 least, all-onto (SectionFits d) (IsGood d) (section_good d) ss fit.1)

classes_small : (d : GvData) (ss : List GvSection) → AllByRecursion (IsGood d) ss → AllByRecursion (HasSmallEntries d.heights) (classes (map (row_of d.upto) ss))
classes_small d [] all = tt
classes_small d (s ∷ ss) all = (all.0.1, classes_small d ss all.1)

-- what is true of each class is true of each integer's
of_section : (P : List ℤ → Type 0) (v : List ℤ) (is : List GenusValue) → P v → AllByRecursion (λ (i : Integer). P i.class) (map (integer_of v) is)
of_section P v [] h = tt
of_section P v (i ∷ is) h = (h, of_section P v is h)

of_integers : (P : List ℤ → Type 0) (ss : List GvSection) → AllByRecursion (λ s. P s.section.entries) ss → AllByRecursion (λ (i : Integer). P i.class) (integers_of ss)
unfolding integers_of
of_integers P [] all = tt
of_integers P (s ∷ ss) all = all-append (λ (i : Integer). P i.class) (integers_of ss) (section_integers s) (of_integers P ss all.1) (of_section P s.section.entries s.integers all.0)

-- ---- the whole report

data_extractable : (d : GvData) → GvFits d → IsExtractable (family_of d)
data_extractable d fits = record {
  least = fits.least_order;
  most = fits.greatest_order;
  least_degree = fits.least_degree;
  most_degree = fits.greatest_degree;
  normalized = normalized d d.sections fits.sections fits.least_order;
  entries = classes_small d d.sections (sections_good d d.sections fits.sections fits.least_degree);
}

data_checkable : (d : GvData) → GvFits d → IsCheckable (family_of d) (record { heights = d.heights; integers = integers_of d.sections })
data_checkable d fits =
    let good = sections_good d d.sections fits.sections fits.least_degree in
    record {
      extractable = data_extractable d fits;
      heights = refl;
      within = of_integers (λ v. degree_of d.heights v ≤ℤ d.degree) d.sections (all-onto (IsGood d) (λ s. degree_of d.heights s.section.entries ≤ℤ d.degree) (λ s h. h.0) d.sections good);
      entries = of_integers (HasSmallEntries d.heights) d.sections (all-onto (IsGood d) (λ s. HasSmallEntries d.heights s.section.entries) (λ s h. h.1) d.sections good);
    }

pub report_checkable : (bytes : List ℕ) (r : Report) → IsReport bytes r → IsCheckable r.series r.integers
report_checkable bytes r is =
    let told = is.1.2 in
    subst (λ f. IsCheckable f r.integers) (sym told.series) (subst (IsCheckable (family_of is.1.0)) (sym told.integers) (data_checkable is.1.0 is.1.1.fits))
