-- The terms of equal functions, and the entries of sections.
use Rattle.std.proofs.Common.{◌≡◌, ℤ, ◌≤ℤ◌, List, [], ◌∷◌, map, refl, sym, ap, ◌∙◌}
use Rattle.std.specs.List.{AllByRecursion}
use Rattle.tv_spec_text.specs.Reports.{Term, Section, IsTerm, AreTerms}
use Rattle.tv_spec_series.specs.Families.{Row, classes}
use Rattle.tv_reports.specs.Sections.{section_of}

-- the terms of a function are those of one that is equal through the last exponent
pub terms-onto : (f g : ℤ → ℤ) (u : ℤ) → ((n : ℤ) → n ≤ℤ u → g n ≡ f n) → (ts : List Term) → AreTerms f u ts → AreTerms g u ts
terms-onto f g u same ts h = record {
  rises = h.rises;
  each = each_onto ts h.each;
  whole = λ n p q. h.whole n p (λ z. q (same n p ∙ z));
}
  where
    each_onto : (ts : List Term) → AllByRecursion (IsTerm f u) ts → AllByRecursion (IsTerm g u) ts
    each_onto [] h = tt
    each_onto (t ∷ ts) h = (record { within = h.0.within; value = h.0.value ∙ sym (same t.exponent h.0.within); nonzero = h.0.nonzero }, each_onto ts h.1)

pub entries_of : (hs : List ℤ) (rows : List (Row ℤ)) → map (λ (s : Section). s.entries) (map (section_of hs) rows) ≡ classes rows
entries_of hs [] = refl
entries_of hs (row ∷ rows) = ap (λ vs. row.class ∷ vs) (entries_of hs rows)
