-- What is not in the grammar of a report of integers, part by part.
use Rattle.std.proofs.Common.{arith, inl, inr, suc}
use Rattle.std.proofs.lemmas.Int.{ints}
use Rattle.std.specs.Prelude.{◌≡◌, ◌<◌, ℕ, ℤ, pos, ◌≤ℤ◌, ◌<ℤ◌, ◌⊎◌, List, [], ◌∷◌, refl}
use Rattle.tv_spec_boxes.specs.Classes.{ClassesRise, EntriesBefore}
use Rattle.tv_spec_katz.proofs.Samples.{conifold_heights, conifold_class, conifold_twice}
use Rattle.tv_spec_reports.specs.IntegerLines.{GvSection}
use Rattle.tv_spec_reports.specs.Grammar.{GvData, GvTermFits, IntegerFits, GeneraRise, SectionFits, SectionsFit}
use Rattle.tv_spec_reports.proofs.Values.{term}

-- a term beyond the order, and a coefficient or an integer 0
no_late_term : GvTermFits (pos 5) (term (pos 6) (pos 1)) → ⊥
unfolding term
no_late_term fits = let h : pos 6 ≤ℤ pos 5 = fits.within in omega (arith, ints)

no_zero_term : GvTermFits (pos 5) (term (pos 1) (pos 0)) → ⊥
unfolding term
no_zero_term fits = fits.coefficient.other refl

no_zero_integer : IntegerFits (record { genus = 1; value = pos 0 }) → ⊥
no_zero_integer fits = fits.value.other refl

-- genera that fall, or stand twice
no_other_genera : (g : ℕ) (x y : ℤ) → GeneraRise (record { genus = suc g; value = x } ∷ record { genus = g; value = y } ∷ []) → ⊥
no_other_genera g x y rise = let h : suc g < g = rise.0 in omega arith

no_genus_twice : (g : ℕ) (x y : ℤ) → GeneraRise (record { genus = g; value = x } ∷ record { genus = g; value = y } ∷ []) → ⊥
no_genus_twice g x y rise = let h : g < g = rise.0 in omega arith

-- no section at all
no_sections : (d : GvData) → SectionsFit d [] → ⊥
no_sections d none = none

-- another degree than the heights give, and a second class of degree 0
section_of : ℤ → List ℤ → GvSection
section_of degree v = record { section = record { degree = degree; entries = v; terms = [] }; integers = [] }

no_other_degree : (d : GvData) → d.heights ≡ conifold_heights → SectionFits d (section_of (pos 2) conifold_class) → ⊥
unfolding section_of
no_other_degree d same fits = let other : pos 2 ≡ pos 1 = cc in cc

no_second_zero : (d : GvData) (v : List ℤ) → SectionFits d (section_of (pos 0) v) → ⊥
unfolding section_of
no_second_zero d v fits = let h : pos 1 ≤ℤ pos 0 = fits.positive in omega (arith, ints)

-- the greater degree first
no_other_order : ClassesRise conifold_heights (conifold_twice ∷ conifold_class ∷ []) → ⊥
no_other_order rise = falls rise.0 where
  falls : (pos 2 <ℤ pos 1) ⊎ ((pos 2 ≡ pos 1) × EntriesBefore conifold_twice conifold_class) → ⊥
  falls (inl h) = omega (arith, ints)
  falls (inr h) = let same : pos 2 ≡ pos 1 = h.0 in cc
