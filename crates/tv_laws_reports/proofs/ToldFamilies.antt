-- The sections of a report of integers tell its family.
use Rattle.std.proofs.Common.{◌≡◌, ◌⊎◌, inl, inr, Contains, ℤ, pos, ◌≤ℤ◌, List, [], ◌∷◌, map, false, sym, ◌∙◌, ap, subst, arith}
use Rattle.std.proofs.lemmas.Bool.Decides.{Decides-int_eq}
use Rattle.std.specs.List.{AllByRecursion}
use Rattle.std.specs.Ordering.{int_eq}
use Rattle.tv_lemmas.proofs.Members.{contains-cases}
use Rattle.tv_ring.specs.Whole.{wholes}
use Rattle.tv_laws_series.proofs.NormalForm.{bool_cases}
use Rattle.tv_spec_boxes.specs.Assignments.{same_vector}
use Rattle.tv_spec_boxes.proofs.Vectors.{same_vector_tells, same_vector-same}
use Rattle.tv_spec_series.specs.Families.{Family, classes, find, coefficient_of, series_coefficient}
use Rattle.tv_spec_series.proofs.Rows.{find-nil, find-here, find-next}
use Rattle.tv_spec_katz.specs.Katz.{Integer}
use Rattle.tv_spec_text.specs.Reports.{Term}
use Rattle.tv_spec_reports.specs.IntegerLines.{GvSection}
use Rattle.tv_spec_reports.specs.IntegersReport.{TellsClass}
use Rattle.tv_report_reader.specs.Told.{row_of}
use Rattle.tv_laws_reports.specs.Verdicts.{FamiliesAreTold}
use Rattle.tv_laws_reports.proofs.Firsts.{there}
use Rattle.tv_laws_reports.proofs.ToldSeries.{series_have_their_terms, terms_tell}

is_zero_or : (x : ℤ) (P : Type 0) → ((x ≡ pos 0 → ⊥) → P) → P ⊎ (x ≡ pos 0)
is_zero_or x P other = bool_cases (int_eq x (pos 0))
    (λ b. inr ((Decides-int_eq x (pos 0)).0 b))
    (λ b. inl (other (λ e. let yes = (Decides-int_eq x (pos 0)).1 e in absurd (cc))))

module _ (f : Family ℤ) (is : List Integer) (n : ℤ) (within : n ≤ℤ f.upto) where
  section_tells : (s : GvSection) → TellsClass f is s
      → series_coefficient wholes n (find s.section.entries (row_of f.upto s ∷ [])) ≡ coefficient_of wholes f s.section.entries n
  section_tells s tells =
      let g = coefficient_of wholes f s.section.entries in
      let named = is_zero_or (g n) (Contains (map (λ (t : Term). t.exponent) s.section.terms) n) (tells.terms.whole n within) in
      ap (series_coefficient wholes n) (find-here s.section.entries (row_of f.upto s) [] (same_vector-same s.section.entries))
      ∙ series_have_their_terms f.upto s.section.terms n tells.terms.rises within
      ∙ terms_tell g f.upto n s.section.terms tells.terms.each named

  -- the sections have the coefficient of a class that they name, and of one without
  sections_tell : (v : List ℤ) (ss : List GvSection) → AllByRecursion (TellsClass f is) ss
      → Contains (map (λ (s : GvSection). s.section.entries) ss) v ⊎ (coefficient_of wholes f v n ≡ pos 0)
      → series_coefficient wholes n (find v (map (row_of f.upto) ss)) ≡ coefficient_of wholes f v n
  sections_tell v [] tells (inl has) = let no = has.1 in absurd (omega arith)
  sections_tell v [] tells (inr none) = ap (series_coefficient wholes n) (find-nil v) ∙ sym none
  sections_tell v (s ∷ ss) tells has = bool_cases (same_vector s.section.entries v)
      (λ b.
      let own = find-here s.section.entries (row_of f.upto s) [] (same_vector-same s.section.entries) in
      ap (series_coefficient wholes n) (find-here v (row_of f.upto s) (map (row_of f.upto) ss) b ∙ sym own)
      ∙ section_tells s tells.0
      ∙ ap (λ u. coefficient_of wholes f u n) (same_vector_tells s.section.entries v b))
      (λ b. ap (series_coefficient wholes n) (find-next v (row_of f.upto s) (map (row_of f.upto) ss) b)
      ∙ sections_tell v ss tells.1 (behind b has))
    where
      behind : same_vector s.section.entries v ≡ false
          → Contains (map (λ (p : GvSection). p.section.entries) (s ∷ ss)) v ⊎ (coefficient_of wholes f v n ≡ pos 0)
          → Contains (map (λ (p : GvSection). p.section.entries) ss) v ⊎ (coefficient_of wholes f v n ≡ pos 0)
      behind b (inr none) = inr none
      behind b (inl has) = elim (contains-cases v s.section.entries (map (λ (p : GvSection). p.section.entries) ss) has) as
          (λ _. Contains (map (λ (p : GvSection). p.section.entries) ss) v ⊎ (coefficient_of wholes f v n ≡ pos 0)) [
            | inl same ↦ let own = same_vector-same v in let yes = ap (λ u. same_vector u v) same in absurd (cc)
            | inr later ↦ inl later
          ]

  pub all_told : (v : List ℤ) (ss : List GvSection) → map (λ (s : GvSection). s.section.entries) ss ≡ classes f.rows
      → AllByRecursion (TellsClass f is) ss
      → series_coefficient wholes n (find v (map (row_of f.upto) ss)) ≡ coefficient_of wholes f v n
  all_told v ss same tells = sections_tell v ss tells
      (rw same (is_zero_or (coefficient_of wholes f v n) (Contains (classes f.rows) v) (there v n f.rows)))

pub families_are_told : FamiliesAreTold
families_are_told w D N text r v n within =
    let upto = r.reduced.upto in
    subst (λ (m : ℤ). series_coefficient wholes n (find v (map (row_of m) r.tells.sections)) ≡ coefficient_of wholes r.family v n) upto
    (all_told r.family r.integers n (rw upto within) v r.tells.sections r.tells.classes r.tells.each)
