-- What is read back from the text of a report of integers is verified, so no difference can be told of it.
use Rattle.std.proofs.Common.{ℕ, ℤ, pos, ◌≤ℤ◌, List, length, refl, sym, ◌∙◌, ap, subst}
use Rattle.tv_spec_plane.specs.Web.{Web, degree_of}
use Rattle.tv_spec_series.specs.Families.{Family}
use Rattle.tv_spec_katz.specs.Katz.{Integer, katz}
use Rattle.tv_spec_katz.specs.Integers.{IsCompared}
use Rattle.tv_spec_reports.specs.IntegersReport.{IsIntegersReport}
use Rattle.tv_spec_reports.specs.Grammar.{GvData}
use Rattle.tv_integers.specs.Kept.{Kept}
use Rattle.tv_report_reader.specs.Told.{family_of, integers_of}
use Rattle.tv_cert.specs.declared.verdict.Verdict.TheVariants.{Yes, Differs as DiffersAt}
use Rattle.tv_cert.specs.Verified.{IsVerified}
use Rattle.tv_laws_reports.specs.Laws.{report_data}
use Rattle.tv_laws_reports.specs.Verdicts.{ReportsAreVerified, OnlyYesIsTold}
use Rattle.tv_laws_reports.proofs.Short.{all_reports_read_back}
use Rattle.tv_laws_reports.proofs.ToldFamilies.{families_are_told}
use Rattle.tv_laws_reports.proofs.ToldIntegers.{integers_are_told}

-- Katz's product over the integers that the sections tell is the family that they tell
data_verified : (w : Web) (D : ℕ) (N : ℤ) (text : List ℕ) (r : IsIntegersReport w D N text)
    → IsVerified (family_of (report_data D N w.heights r.tells.sections)) (integers_of r.tells.sections)
data_verified w D N text r v n compared =
    let own : IsCompared D N r.family v n = record {
      entries = compared.entries ∙ ap length (sym r.reduced.heights);
      degree = subst (λ (hs : List ℤ). degree_of hs v ≤ℤ pos D) (sym r.reduced.heights) compared.degree;
      exponent = compared.exponent;
    } in
    ap (λ (is : List Integer). katz w.heights is v n) (integers_are_told w D N text r)
    ∙ ap (λ (hs : List ℤ). katz hs r.integers v n) (sym r.reduced.heights)
    ∙ r.agrees v n own
    ∙ sym (families_are_told w D N text r v n compared.exponent)

pub reports_are_verified : ReportsAreVerified
reports_are_verified w D N text limits r q is =
    let d = is.1.0 in
    let same = (all_reports_read_back w D N text limits r).only d is.1.1 in
    let told = is.1.2 in
    let whole = subst (λ (c : GvData). IsVerified (family_of c) (integers_of c.sections)) (sym same) (data_verified w D N text r) in
    subst (λ (f : Family ℤ). IsVerified f q.integers.integers) (sym told.series)
    (subst (λ (k : Kept). IsVerified (family_of d) k.integers) (sym told.integers) whole)

pub only_yes_is_told : OnlyYesIsTold
only_yes_is_told w D N text limits r q is Yes verdict = refl
only_yes_is_told w D N text limits r q is (DiffersAt v n x y) verdict =
    let compared = verdict.mismatch.compared in
    absurd (verdict.mismatch.differs (reports_are_verified w D N text limits r q is v n compared))
