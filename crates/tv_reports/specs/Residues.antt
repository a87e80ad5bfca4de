-- The sections of two families of series, of which one has remainders modulo each prime: one for each pair of rows, with the
-- coefficients that aren't 0 in both.
--
-- first_coefficient x n, second_coefficient y n == the coefficient at n, a remainder modulo the first prime, modulo the second; 0
--                               below the lowest exponent and beyond the last
-- residue_term x y n         == the exponent n with both coefficients there
-- has_remainder t            == not both remainders are 0
-- told n r s                 == the term of the exponent n with the remainders r and s, and none where both are 0
-- told_at x y n              == that of the exponent n with both coefficients there
-- lesser_low x y             == the lesser of the lowest exponents
-- residue_terms_below x y n  == the terms of the exponents from the lesser low on that are less than n
-- residue_section hs n (x, y) == the class of the row x with its degree, and the terms of both through n
-- residue_sections f g       == the sections of the pairs of rows, in their order
-- AreRemainders h x y n      == the remainders of the values of h are the coefficients of x and of y, at each exponent through n
-- TellsResidues f (x, y) s   == the section has the class of both rows, its degree, and the terms through the exponent of the family
--                               of each function whose remainders are the coefficients
-- ResidueSectionsTell        == in two families of remainders with the same heights, classes and last exponent the section of each
--                               pair of rows tells it
-- residues_head w hs d n     == the lines before the sections
use Rattle.std.specs.Prelude.{◌≡◌, ℕ, ℤ, pos, ◌+ℤ◌, ◌≤ℤ◌, Bool, cond, ◌&&◌, ◌==◌, not, List, [], ◌∷◌, map, filter}
use Rattle.std.specs.Int.{int_min}
use Rattle.std.specs.List.{AllByRecursion, range_with_len, zip}
use Rattle.tv_ring.specs.Residue.{residues, IsRemainder}
use Rattle.tv_laws_series.specs.Terms.{Terms, above}
use Rattle.tv_spec_plane.specs.Web.{degree_of}
use Rattle.tv_spec_series.specs.Families.{Row, Family, classes, coefficient, IsFamily}
use Rattle.tv_spec_text.specs.Files.{heights_line}
use Rattle.tv_spec_text.specs.Lines.{Word, Line}
use Rattle.tv_spec_reports.specs.Residues.{first_modulus, second_modulus, remainder, ResidueTerm, ResidueSection, AreResidueTerms, residues_line}
use Rattle.tv_text.specs.Sections.{degree_line, upto_line}

abbrev pub first_coefficient : Terms ℕ → ℤ → ℕ
first_coefficient x n = coefficient (residues first_modulus) x n

abbrev pub second_coefficient : Terms ℕ → ℤ → ℕ
second_coefficient y n = coefficient (residues second_modulus) y n

abbrev pub residue_term : Terms ℕ → Terms ℕ → ℤ → ResidueTerm
residue_term x y n = record { exponent = n; first = first_coefficient x n; second = second_coefficient y n }

abbrev pub has_remainder : ResidueTerm → Bool
has_remainder t = not (t.first == 0 && t.second == 0)

abbrev pub told : ℤ → ℕ → ℕ → List ResidueTerm
told n r s = let t : ResidueTerm = record { exponent = n; first = r; second = s } in cond (has_remainder t) (t ∷ []) []

abbrev pub told_at : Terms ℕ → Terms ℕ → ℤ → List ResidueTerm
told_at x y n = told n (first_coefficient x n) (second_coefficient y n)

abbrev pub lesser_low : Terms ℕ → Terms ℕ → ℤ
lesser_low x y = int_min x.low y.low

abbrev pub residue_terms_below : Terms ℕ → Terms ℕ → ℤ → List ResidueTerm
residue_terms_below x y n =
    filter has_remainder (map (λ k. residue_term x y (lesser_low x y +ℤ pos k)) (range_with_len 0 (above (lesser_low x y) n)))

abbrev pub residue_section : List ℤ → ℤ → Row ℕ × Row ℕ → ResidueSection
residue_section hs n rows = record {
  degree = degree_of hs rows.0.class;
  entries = rows.0.class;
  terms = residue_terms_below rows.0.series rows.1.series (n +ℤ pos 1);
}

abbrev pub residue_sections : Family ℕ → Family ℕ → List ResidueSection
residue_sections f g = map (residue_section f.heights f.upto) (zip f.rows g.rows)

pub record AreRemainders (h : ℤ → ℤ) (x y : Terms ℕ) (n : ℤ) : Type 0 where
  pub first : (k : ℤ) → k ≤ℤ n → remainder first_modulus (h k) ≡ first_coefficient x k
  pub second : (k : ℤ) → k ≤ℤ n → remainder second_modulus (h k) ≡ second_coefficient y k

pub record TellsResidues (f : Family ℕ) (rows : Row ℕ × Row ℕ) (s : ResidueSection) : Type 0 where
  pub shared : rows.1.class ≡ rows.0.class
  pub degree : s.degree ≡ degree_of f.heights rows.0.class
  pub entries : s.entries ≡ rows.0.class
  pub terms : (h : ℤ → ℤ) → AreRemainders h rows.0.series rows.1.series f.upto → AreResidueTerms h f.upto s.terms

abbrev pub ResidueSectionsTell : Type 0
ResidueSectionsTell =
    (f g : Family ℕ) → IsFamily (IsRemainder first_modulus) (residues first_modulus) f
    → IsFamily (IsRemainder second_modulus) (residues second_modulus) g
    → f.heights ≡ g.heights → classes f.rows ≡ classes g.rows → f.upto ≡ g.upto
    → AllByRecursion (λ rows. TellsResidues f rows (residue_section f.heights f.upto rows)) (zip f.rows g.rows)

abbrev pub residues_head : Word → List ℤ → ℤ → ℤ → List Line
residues_head w hs d n = residues_line w ∷ heights_line hs ∷ degree_line d ∷ upto_line n ∷ []
