-- The series of rising terms has their coefficients.
use Rattle.std.proofs.Common.{◌≡◌, ◌⊎◌, inl, inr, Contains, ◌<◌, ℤ, pos, ◌+ℤ◌, ◌≤ℤ◌, ◌<ℤ◌, List, [], ◌∷◌, map, sym, ◌∙◌, ap, arith}
use Rattle.std.proofs.lemmas.Int.{ints, by_lt_z}
use Rattle.std.proofs.lemmas.Bool.Decides.{Decides-int_eq}
use Rattle.std.specs.List.{AllByRecursion}
use Rattle.std.specs.Ordering.{int_eq}
use Rattle.tv_lemmas.proofs.Members.{all-onto, contains-cases}
use Rattle.tv_ring.specs.Whole.{wholes}
use Rattle.tv_laws_series.specs.Terms.{above}
use Rattle.tv_laws_series.proofs.Coefficients.{coefficient_below, coefficient_at}
use Rattle.tv_laws_series.proofs.Exponents.{above_is, above_adds}
use Rattle.tv_laws_series.proofs.Listed.{at-listed}
use Rattle.tv_laws_series.proofs.NormalForm.{bool_cases}
use Rattle.tv_spec_text.specs.Reports.{Term, Rises, IsTerm}
use Rattle.tv_report_reader.specs.Told.{value_at, lowest, series_of}
use Rattle.tv_report_reader.proofs.Dense.{value-nil, value-here, value-apart, value-none, cursor-start}
use Rattle.tv_laws_reports.specs.Verdicts.{SeriesHaveTheirTerms}

value-below : (N : ℤ) (ts : List Term) (n : ℤ) → Rises ts → n <ℤ lowest N ts → value_at ts n ≡ pos 0
value-below N ts n rises below = value-none ts n (all-onto (λ (t : Term). lowest N ts ≤ℤ t.exponent) (λ (t : Term). (n +ℤ pos 1) ≤ℤ t.exponent)
    (λ t h. omega (arith, ints)) ts (cursor-start ts N rises).above)

pub series_have_their_terms : SeriesHaveTheirTerms
unfolding series_of
series_have_their_terms N ts n rises within = by_lt_z n (lowest N ts)
    (λ below. coefficient_below wholes (series_of N ts) n below ∙ sym (value-below N ts n rises below))
    (λ from_low.
    let low = lowest N ts in
    let known : above low n < above low (N +ℤ pos 1) = omega (arith, ints, above_is low n, above_is low (N +ℤ pos 1)) in
    coefficient_at wholes (series_of N ts) n from_low
    ∙ at-listed wholes (λ k. value_at ts (low +ℤ pos k)) (above low (N +ℤ pos 1)) (above low n) known
    ∙ ap (value_at ts) (above_adds low n from_low))

-- terms of a function have its value where they name the exponent, and where it is 0
pub terms_tell : (g : ℤ → ℤ) (N n : ℤ) (ts : List Term) → AllByRecursion (IsTerm g N) ts
    → Contains (map (λ (t : Term). t.exponent) ts) n ⊎ (g n ≡ pos 0) → value_at ts n ≡ g n
terms_tell g N n [] each (inl has) = let no = has.1 in absurd (omega arith)
terms_tell g N n [] each (inr none) = value-nil n ∙ sym none
terms_tell g N n (t ∷ ts) each has = bool_cases (int_eq t.exponent n)
    (λ b. let same = (Decides-int_eq t.exponent n).0 b in value-here t ts n same ∙ (each.0.value ∙ ap g same))
    (λ b.
    let apart : t.exponent ≡ n → ⊥ = λ same. let yes = (Decides-int_eq t.exponent n).1 same in absurd (cc) in
    value-apart t ts n apart ∙ terms_tell g N n ts each.1 (behind apart has))
  where
    behind : (t.exponent ≡ n → ⊥) → Contains (map (λ (u : Term). u.exponent) (t ∷ ts)) n ⊎ (g n ≡ pos 0)
        → Contains (map (λ (u : Term). u.exponent) ts) n ⊎ (g n ≡ pos 0)
    behind apart (inr none) = inr none
    behind apart (inl has) = elim (contains-cases n t.exponent (map (λ (u : Term). u.exponent) ts) has) as
        (λ _. Contains (map (λ (u : Term). u.exponent) ts) n ⊎ (g n ≡ pos 0)) [
          | inl same ↦ absurd (apart same)
          | inr later ↦ inl later
        ]
