-- The report by residues of two families over remainders is that of the series whose remainders they have.
use Rattle.std.proofs.Common.{◌≡◌, ℕ, ◌≤◌, ℤ, pos, ◌≤ℤ◌, List, [], ◌∷◌, map, Result, Ok, Err, inr, refl, sym, ap, ◌∙◌, subst, arith}
use Rattle.std.specs.List.{AllByRecursion, zip}
use Rattle.tv_ring.specs.Residue.{residues, modulus}
use Rattle.tv_ring.specs.Sums.{whole_times}
use Rattle.tv_spec_plane.specs.Web.{Web, degree_of}
use Rattle.tv_spec_boxes.specs.Assignments.{no_legs}
use Rattle.tv_spec_boxes.specs.Classes.{AreClasses}
use Rattle.tv_spec_series.specs.Families.{Row, Family, classes, coefficient}
use Rattle.tv_spec_series.specs.Reduced.{IsReduced, full_coefficient, zero_coefficient}
use Rattle.tv_spec_series.specs.Full.{IsFull, IsFullRow}
use Rattle.tv_spec_series.specs.FamilyOf.{IsFamilyOf}
use Rattle.tv_spec_series.specs.ReducedFamilies.{IsReducedFamily, IsReducedRow}
use Rattle.tv_laws_families.proofs.Only.{same_classes}
use Rattle.tv_laws_families.proofs.Products.{only_quotient_is}
use Rattle.tv_lemmas.proofs.Members.{all-onto}
use Rattle.tv_spec_reports.specs.Residues.{first_modulus, second_modulus, remainder, ResidueSection, AreResidueTerms, residues_text}
use Rattle.tv_text.specs.declared.series.Kind.{Kind}
use Rattle.tv_text.specs.declared.series.Kind.TheVariants.{Full, Reduced}
use Rattle.tv_text.specs.Sections.{kind_word}
use Rattle.tv_reports.specs.Residues.{residue_section, residue_sections, AreRemainders, TellsResidues}
use Rattle.tv_reports.proofs.LeastRemainders.{whole_times-residues}
use Rattle.tv_reports.proofs.ResidueTerms.{residue_sections_tell}
use Rattle.tv_answers.specs.SeriesReport.{IsFullByResidues, IsReducedByResidues, IsReportByResidues, IsSeriesByResidues, IsSeriesWide}
use Rattle.tv_answers.specs.Carried.{CarriesOut, IsCarriedOut}
use Rattle.tv_answers.specs.Residues.{AreAlike, IsPrintedByResidues, PrintsByResidues, TellsByResidues}
use Rattle.tv_words.specs.declared.command.Command.TheVariants.{Series}
use Rattle.tv_answers.specs.declared.answer.Answer.{Answer}
use Rattle.tv_answers.specs.declared.answer.Failure.{Failure}

-- two families of one web have the same heights, degree, order and classes
pub alike : (P Q : Row ℕ → Type 0) (w : Web) (d : ℕ) (n : ℤ) (f g : Family ℕ) → IsFamilyOf P w d n f → IsFamilyOf Q w d n g → AreAlike f g
alike P Q w d n f g a b = record {
  heights = a.heights ∙ sym b.heights;
  top = a.top ∙ sym b.top;
  upto = a.upto ∙ sym b.upto;
  classes = same_classes w d (classes f.rows) (classes g.rows) a.classes b.classes;
}

-- a whole number times one, among the remainders modulo m of at least 1
times_is : (m : ℕ) (z : ℤ) → 1 ≤ m → whole_times (residues m) z ≡ remainder m z
times_is m z some = let same : modulus m ≡ m = omega arith in whole_times-residues m z ∙ ap (λ (k : ℕ). remainder k z) same

-- the row has the remainders of a series of its class, of which `Is` says that it is one
record HasSeries (Is : List ℤ → (ℤ → ℤ) → Type 0) (m : ℕ) (n : ℤ) (row : Row ℕ) : Type 0 where
  pub series : ℤ → ℤ
  pub is : Is row.class series
  pub values : (i : ℤ) → i ≤ℤ n → coefficient (residues m) row.series i ≡ whole_times (residues m) (series i)

-- the section has the terms of such a series
record HasTerms (Is : List ℤ → (ℤ → ℤ) → Type 0) (w : Web) (n : ℤ) (s : ResidueSection) : Type 0 where
  pub degree : s.degree ≡ degree_of w.heights s.entries
  pub series : ℤ → ℤ
  pub is : Is s.entries series
  pub terms : AreResidueTerms series n s.terms

module _ (Is : List ℤ → (ℤ → ℤ) → Type 0) (w : Web) (n : ℤ)
    (only : (v : List ℤ) (h k : ℤ → ℤ) → Is v h → Is v k → (i : ℤ) → i ≤ℤ n → h i ≡ k i) where
  pair_terms : (f : Family ℕ) (x y : Row ℕ) (s : ResidueSection) → f.heights ≡ w.heights → f.upto ≡ n → HasSeries Is first_modulus n x → HasSeries Is second_modulus n y → TellsResidues f (x, y) s → HasTerms Is w n s
  pair_terms f x y s heights upto a b t =
      let within : (i : ℤ) → i ≤ℤ f.upto → i ≤ℤ n = λ i h. subst (λ (u : ℤ). i ≤ℤ u) upto h in
      let other : Is x.class b.series = subst (λ (v : List ℤ). Is v b.series) t.shared b.is in
      let remainders : AreRemainders a.series x.series y.series f.upto = record {
        first = λ i h. sym (a.values i (within i h) ∙ times_is first_modulus (a.series i) (omega arith));
        second = λ i h. ap (remainder second_modulus) (only x.class a.series b.series a.is other i (within i h)) ∙ sym (b.values i (within i h) ∙ times_is second_modulus (b.series i) (omega arith));
      } in
      record {
        degree = t.degree ∙ ap (λ (hs : List ℤ). degree_of hs x.class) heights ∙ ap (degree_of w.heights) (sym t.entries);
        series = a.series;
        is = subst (λ (v : List ℤ). Is v a.series) (sym t.entries) a.is;
        terms = subst (λ (u : ℤ). AreResidueTerms a.series u s.terms) upto (t.terms a.series remainders);
      }

  all_terms : (f : Family ℕ) (xs ys : List (Row ℕ)) → f.heights ≡ w.heights → f.upto ≡ n → AllByRecursion (HasSeries Is first_modulus n) xs → AllByRecursion (HasSeries Is second_modulus n) ys
      → AllByRecursion (λ rows. TellsResidues f rows (residue_section f.heights f.upto rows)) (zip xs ys) → AllByRecursion (HasTerms Is w n) (map (residue_section f.heights f.upto) (zip xs ys))
  all_terms f [] ys heights upto a b t = tt
  all_terms f (x ∷ xs) [] heights upto a b t = tt
  all_terms f (x ∷ xs) (y ∷ ys) heights upto a b t =
      (pair_terms f x y (residue_section f.heights f.upto (x, y)) heights upto a.0 b.0 t.0, all_terms f xs ys heights upto a.1 b.1 t.1)

abbrev IsFullOf : Web → List ℤ → (ℤ → ℤ) → Type 0
IsFullOf w v h = h ≡ full_coefficient w (no_legs w) v

abbrev IsReducedOf : Web → ℤ → List ℤ → (ℤ → ℤ) → Type 0
IsReducedOf w n v h = IsReduced w (no_legs w) n v h

only_full : (w : Web) (n : ℤ) (v : List ℤ) (h k : ℤ → ℤ) → IsFullOf w v h → IsFullOf w v k → (i : ℤ) → i ≤ℤ n → h i ≡ k i
only_full w n v h k p q i within = ap (λ (z : ℤ → ℤ). z i) (p ∙ sym q)

only_reduced : (w : Web) (n : ℤ) (v : List ℤ) (h k : ℤ → ℤ) → IsReducedOf w n v h → IsReducedOf w n v k → (i : ℤ) → i ≤ℤ n → h i ≡ k i
only_reduced w n v h k = only_quotient_is n (full_coefficient w (no_legs w) v) (zero_coefficient w (no_legs w)) h k

full_rows : (m : ℕ) (w : Web) (d : ℕ) (n : ℤ) (rows : List (Row ℕ)) → AllByRecursion (IsFullRow (residues m) w (no_legs w) d n) rows → AllByRecursion (HasSeries (IsFullOf w) m n) rows
full_rows m w d n [] all = tt
full_rows m w d n (row ∷ rows) all = (record { series = full_coefficient w (no_legs w) row.class; is = refl; values = all.0.counts }, full_rows m w d n rows all.1)

reduced_rows : (m : ℕ) (w : Web) (d : ℕ) (n : ℤ) (rows : List (Row ℕ)) → AllByRecursion (IsReducedRow (residues m) w (no_legs w) d n) rows → AllByRecursion (HasSeries (IsReducedOf w n) m n) rows
reduced_rows m w d n [] all = tt
reduced_rows m w d n (row ∷ rows) all = (record { series = all.0.series; is = all.0.reduced; values = all.0.values }, reduced_rows m w d n rows all.1)

entries_of_pairs : (hs : List ℤ) (n : ℤ) (xs ys : List (Row ℕ)) → classes xs ≡ classes ys → map (λ (s : ResidueSection). s.entries) (map (residue_section hs n) (zip xs ys)) ≡ classes xs
entries_of_pairs hs n [] ys e = refl
entries_of_pairs hs n (x ∷ xs) [] e = absurd (cc)
entries_of_pairs hs n (x ∷ xs) (y ∷ ys) e = let rest : classes xs ≡ classes ys = cc in ap (λ vs. x.class ∷ vs) (entries_of_pairs hs n xs ys rest)

-- ---- the report of two families, of whichever kind

report_of : (P : ResidueSection → Type 0) (kind : Kind) (w : Web) (d : ℕ) (n : ℤ) (f g : Family ℕ) (text : List ℕ) → f.heights ≡ w.heights → f.top ≡ pos d → f.upto ≡ n → AreClasses w d (classes f.rows) → classes f.rows ≡ classes g.rows
    → AllByRecursion P (residue_sections f g) → IsPrintedByResidues kind f g text → IsReportByResidues P (kind_word kind) w d n text
report_of P kind w d n f g text heights top upto are same all printed = record {
  sections = residue_sections f g;
  classes = subst (AreClasses w d) (sym (entries_of_pairs f.heights f.upto f.rows g.rows same)) are;
  each = all;
  printed = printed.same
      ∙ ap (λ (hs : List ℤ). residues_text (kind_word kind) hs f.top f.upto (residue_sections f g)) heights
      ∙ ap (λ (k : ℤ). residues_text (kind_word kind) w.heights k f.upto (residue_sections f g)) top
      ∙ ap (λ (k : ℤ). residues_text (kind_word kind) w.heights (pos d) k (residue_sections f g)) upto;
}

module _ (w : Web) (d : ℕ) (n : ℤ) (f g : Family ℕ) where
  sections_have : (Is : List ℤ → (ℤ → ℤ) → Type 0) → ((v : List ℤ) (h k : ℤ → ℤ) → Is v h → Is v k → (i : ℤ) → i ≤ℤ n → h i ≡ k i) → (kind : Kind) (text : List ℕ) → f.heights ≡ w.heights → f.upto ≡ n → AreAlike f g → IsPrintedByResidues kind f g text
      → AllByRecursion (HasSeries Is first_modulus n) f.rows → AllByRecursion (HasSeries Is second_modulus n) g.rows → AllByRecursion (HasTerms Is w n) (residue_sections f g)
  sections_have Is only kind text heights upto are printed a b =
      all_terms Is w n only f f.rows g.rows heights upto a b (residue_sections_tell f g printed.first printed.second are.heights are.classes are.upto)

  full_text : (text : List ℕ) → IsFull (residues first_modulus) w (no_legs w) d n f → IsFull (residues second_modulus) w (no_legs w) d n g → IsPrintedByResidues Full f g text → IsSeriesByResidues Full w d n text
  full_text text a b printed =
      let are = alike (IsFullRow (residues first_modulus) w (no_legs w) d n) (IsFullRow (residues second_modulus) w (no_legs w) d n) w d n f g a b in
      let all = sections_have (IsFullOf w) (only_full w n) Full text a.heights a.upto are printed (full_rows first_modulus w d n f.rows a.rows) (full_rows second_modulus w d n g.rows b.rows) in
      let sections = all-onto (HasTerms (IsFullOf w) w n) (IsFullByResidues w n) (λ s h. record { degree = h.degree; terms = subst (λ (z : ℤ → ℤ). AreResidueTerms z n s.terms) h.is h.terms }) (residue_sections f g) all in
      report_of (IsFullByResidues w n) Full w d n f g text a.heights a.top a.upto a.classes are.classes sections printed

  reduced_text : (text : List ℕ) → IsReducedFamily (residues first_modulus) w (no_legs w) d n f → IsReducedFamily (residues second_modulus) w (no_legs w) d n g → IsPrintedByResidues Reduced f g text → IsSeriesByResidues Reduced w d n text
  reduced_text text a b printed =
      let are = alike (IsReducedRow (residues first_modulus) w (no_legs w) d n) (IsReducedRow (residues second_modulus) w (no_legs w) d n) w d n f g a b in
      let all = sections_have (IsReducedOf w n) (only_reduced w n) Reduced text a.heights a.upto are printed (reduced_rows first_modulus w d n f.rows a.rows) (reduced_rows second_modulus w d n g.rows b.rows) in
      let sections = all-onto (HasTerms (IsReducedOf w n) w n) (IsReducedByResidues w n) (λ s h. record { degree = h.degree; series = h.series; reduced = h.is; terms = h.terms }) (residue_sections f g) all in
      report_of (IsReducedByResidues w n) Reduced w d n f g text a.heights a.top a.upto a.classes are.classes sections printed

  -- ---- what is told

  pub full_told : (r : Result Answer Failure) → IsFull (residues first_modulus) w (no_legs w) d n f → IsFull (residues second_modulus) w (no_legs w) d n g → PrintsByResidues Full f g r → TellsByResidues Full w d n r
  full_told (Ok a) x y h = (h.0, full_text a.text.items x y h.1)
  full_told (Err e) x y h = h

  pub reduced_told : (r : Result Answer Failure) → IsReducedFamily (residues first_modulus) w (no_legs w) d n f → IsReducedFamily (residues second_modulus) w (no_legs w) d n g → PrintsByResidues Reduced f g r → TellsByResidues Reduced w d n r
  reduced_told (Ok a) x y h = (h.0, reduced_text a.text.items x y h.1)
  reduced_told (Err e) x y h = h

-- the report by residues answers where a bound passes
pub by_residues_carried_out : (kind : Kind) (w : Web) (d : ℕ) (n : ℤ) (r : Result Answer Failure) → IsSeriesWide kind w d n → TellsByResidues kind w d n r → IsCarriedOut (Series kind d n) w r
by_residues_carried_out kind w d n (Ok a) wide h = subst (λ s. CarriesOut (Series kind d n) w s a.text.items) (sym h.0) (inr (h.1, wide))
by_residues_carried_out kind w d n (Err e) wide h = h
