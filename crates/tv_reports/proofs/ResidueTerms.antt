-- What the sections by residues tell.
use Rattle.std.proofs.Common.{◌≡◌, ℕ, zero, suc, ◌+◌, ◌<◌, ℤ, pos, ◌+ℤ◌, ◌≤ℤ◌, ◌<ℤ◌, List, [], ◌∷◌, map, filter, Bool, true, false, cond, refl, sym, ◌∙◌, arith, subst, ◌&&◌, ◌==◌, not}
use Rattle.std.specs.List.{AllByRecursion, Contains, range_with_len, zip}
use Rattle.std.proofs.lemmas.Bool.Decides.{nat_tests}
use Rattle.std.proofs.lemmas.Int.{ints, clamps, by_lt_z}
use Rattle.tv_ring.specs.Residue.{residues}
use Rattle.tv_laws_series.specs.Terms.{Terms, above}
use Rattle.tv_laws_series.proofs.Exponents.{above_is}
use Rattle.tv_laws_series.proofs.Coefficients.{coefficient_below}
use Rattle.tv_lemmas.proofs.Members.{contains-head, contains-later}
use Rattle.tv_spec_series.specs.Families.{Row, Family, classes}
use Rattle.tv_spec_reports.specs.Residues.{first_modulus, second_modulus, ResidueTerm, RiseBy, AreBothZero, IsResidueTerm, AreResidueTerms}
use Rattle.tv_reports.specs.Residues.{first_coefficient, second_coefficient, residue_term, has_remainder, lesser_low, residue_terms_below, residue_section, AreRemainders, TellsResidues, ResidueSectionsTell}

zero_is : (r s : ℕ) → not (r == 0 && s == 0) ≡ false → AreBothZero r s
zero_is r s h = grind (arith, nat_tests)

some_is : (r s : ℕ) → not (r == 0 && s == 0) ≡ true → AreBothZero r s → ⊥
some_is r s h none = grind (arith, nat_tests)

-- P holds of the terms where it holds in both cases
by_term : (P : List ResidueTerm → Type 0) (t : ResidueTerm) (ts : List ResidueTerm) → (AreBothZero t.first t.second → P ts) → ((AreBothZero t.first t.second → ⊥) → P (t ∷ ts)) → P (cond (has_remainder t) (t ∷ ts) ts)
by_term P t ts none some = by (has_remainder t) refl
  where
    by : (b : Bool) → has_remainder t ≡ b → P (cond b (t ∷ ts) ts)
    by true e = some (some_is t.first t.second e)
    by false e = none (zero_is t.first t.second e)

-- ---- the terms of an exponent on

abbrev IsFrom : ℤ → ResidueTerm → Type 0
IsFrom low t = low ≤ℤ t.exponent

from_earlier : (low m : ℤ) (ts : List ResidueTerm) → low ≤ℤ m → AllByRecursion (IsFrom m) ts → AllByRecursion (IsFrom low) ts
from_earlier low m [] h all = tt
from_earlier low m (t ∷ ts) h all = let a = all.0 in (omega (arith, ints), from_earlier low m ts h all.1)

rises_onto : (t : ResidueTerm) (ts : List ResidueTerm) → AllByRecursion (IsFrom (t.exponent +ℤ pos 1)) ts → RiseBy ts → RiseBy (t ∷ ts)
rises_onto t [] all h = tt
rises_onto t (u ∷ ts) all h = let a = all.0 in (omega (arith, ints), h)

abbrev exponents : List ResidueTerm → List ℤ
exponents ts = map (λ (t : ResidueTerm). t.exponent) ts

module _ (x y : Terms ℕ) (low : ℤ) where
  -- the term at a place, and the terms of n places from a on
  abbrev pub here : ℕ → ResidueTerm
  here k = residue_term x y (low +ℤ pos k)

  abbrev pub terms_within : ℕ → ℕ → List ResidueTerm
  terms_within a n = filter has_remainder (map here (range_with_len a n))

  all_from : (a n : ℕ) → AllByRecursion (IsFrom (low +ℤ pos a)) (terms_within a n)
  all_from a zero = tt
  all_from a (suc n) =
      let later : AllByRecursion (IsFrom (low +ℤ pos a)) (terms_within (a + 1) n) = from_earlier (low +ℤ pos a) (low +ℤ pos (a + 1)) (terms_within (a + 1) n) (omega (arith, ints)) (all_from (a + 1) n) in
      by_term (AllByRecursion (IsFrom (low +ℤ pos a))) (here a) (terms_within (a + 1) n) (λ _. later) (λ _. (omega (arith, ints), later))

  rises : (a n : ℕ) → RiseBy (terms_within a n)
  rises a zero = tt
  rises a (suc n) =
      let later = rises (a + 1) n in
      let above_a = from_earlier ((low +ℤ pos a) +ℤ pos 1) (low +ℤ pos (a + 1)) (terms_within (a + 1) n) (omega (arith, ints)) (all_from (a + 1) n) in
      by_term RiseBy (here a) (terms_within (a + 1) n) (λ _. later) (λ _. rises_onto (here a) (terms_within (a + 1) n) above_a later)

  each_is : (h : ℤ → ℤ) (u : ℤ) → AreRemainders h x y u → (a n : ℕ) → ((k : ℕ) → k < a + n → (low +ℤ pos k) ≤ℤ u) → AllByRecursion (IsResidueTerm h u) (terms_within a n)
  each_is h u are a zero within = tt
  each_is h u are a (suc n) within =
      let later = each_is h u are (a + 1) n (λ k less. within k (omega arith)) in
      let first_within = within a (omega arith) in
      by_term (AllByRecursion (IsResidueTerm h u)) (here a) (terms_within (a + 1) n) (λ _. later)
      (λ some. (record { within = first_within; first = sym (are.first (low +ℤ pos a) first_within); second = sym (are.second (low +ℤ pos a) first_within); some = some }, later))

  among : (m : ℤ) (a n : ℕ) → (low +ℤ pos a) ≤ℤ m → m <ℤ (low +ℤ pos (a + n)) → (AreBothZero (first_coefficient x m) (second_coefficient y m) → ⊥) → Contains (exponents (terms_within a n)) m
  among m a zero from_a less some = absurd (omega (arith, ints))
  among m a (suc n) from_a less some = by_lt_z (low +ℤ pos a) m
      (λ over.
      let later = among m (a + 1) n (omega (arith, ints)) (omega (arith, ints)) some in
      by_term (λ ts. Contains (exponents ts) m) (here a) (terms_within (a + 1) n) (λ _. later) (λ _. contains-later m (low +ℤ pos a) (exponents (terms_within (a + 1) n)) later))
      (λ at_low.
      let same : m ≡ low +ℤ pos a = omega (arith, ints) in
      by_term (λ ts. Contains (exponents ts) m) (here a) (terms_within (a + 1) n)
      (λ none. absurd (some (subst (λ k. AreBothZero (first_coefficient x k) (second_coefficient y k)) (sym same) none)))
      (λ _. contains-head m (low +ℤ pos a) (exponents (terms_within (a + 1) n)) (sym same)))

-- below both lowest exponents
none_below : (x y : Terms ℕ) (n : ℤ) → n <ℤ lesser_low x y → AreBothZero (first_coefficient x n) (second_coefficient y n)
none_below x y n h = (coefficient_below (residues first_modulus) x n (omega (arith, ints, clamps)), coefficient_below (residues second_modulus) y n (omega (arith, ints, clamps)))

are_terms : (x y : Terms ℕ) (h : ℤ → ℤ) (u : ℤ) → AreRemainders h x y u → AreResidueTerms h u (residue_terms_below x y (u +ℤ pos 1))
are_terms x y h u are =
    let low = lesser_low x y in
    let n = above low (u +ℤ pos 1) in
    record {
      rises = rises x y low 0 n;
      each = each_is x y low h u are 0 n (λ k less. omega (arith, ints, above_is low (u +ℤ pos 1)));
      whole = λ m within some.
          let other : AreBothZero (first_coefficient x m) (second_coefficient y m) → ⊥ = λ none. some (are.first m within ∙ none.0, are.second m within ∙ none.1) in
          by_lt_z m low (λ below. absurd (other (none_below x y m below)))
          (λ from_low. among x y low m 0 n (omega (arith, ints)) (omega (arith, ints, above_is low (u +ℤ pos 1))) other);
    }

-- ---- the sections

tells_rows : (f : Family ℕ) (xs ys : List (Row ℕ)) → classes xs ≡ classes ys → AllByRecursion (λ rows. TellsResidues f rows (residue_section f.heights f.upto rows)) (zip xs ys)
tells_rows f [] ys same = tt
tells_rows f (x ∷ xs) [] same = tt
tells_rows f (x ∷ xs) (y ∷ ys) same = (
  record {
    shared = cc;
    degree = refl;
    entries = refl;
    terms = λ h are. are_terms x.series y.series h f.upto are;
  },
  tells_rows f xs ys (cc),
)

pub residue_sections_tell : ResidueSectionsTell
residue_sections_tell f g first second heights same upto = tells_rows f f.rows g.rows same
