-- The report of a series by residues: of each coefficient its remainders modulo two primes, where these aren't both 0.
--
-- first_modulus, second_modulus == 1000000007 and 998244353
-- remainder m z      == the least remainder of z modulo m from 0 on, for a modulus of at least 1
-- ResidueTerm        == an exponent and the two remainders of its coefficient
-- ResidueSection     == a class by its degree and entries, and the terms of its series
-- RiseBy ts          == the exponents rise
-- AreBothZero r s    == both remainders are 0
-- IsResidueTerm f upto t == the exponent is at most upto, the remainders are those of the value of f there, and not both are 0
-- AreResidueTerms f upto ts == the exponents through upto at which the remainders of f aren't both 0, rising, each with both
-- residue_term_line t, residue_class_line s == the line of a term, of a class
-- residue_section_lines s == a line for the class and a line for each term
-- residues_line title == the first line, `report series TITLE residues` and the moduli
-- residues_lines title heights degree upto ss == the lines of the report
-- residues_text       == the text of those lines
use Rattle.std.specs.Prelude.{◌≡◌, ℕ, suc, ◌-◌, ◌%◌, ℤ, pos, negsuc, ◌≤ℤ◌, ◌<ℤ◌, List, [], ◌∷◌, ◌++◌, map, codes, ⊤}
use Rattle.std.specs.List.{flat_map, AllByRecursion, Contains}
use Rattle.tv_spec_text.specs.Lines.{Word, Line, text_of, spelled}
use Rattle.tv_spec_text.specs.Files.{heights_line, end_line}

abbrev pub first_modulus : ℕ
first_modulus = 1000000007

abbrev pub second_modulus : ℕ
second_modulus = 998244353

abbrev pub remainder : ℕ → ℤ → ℕ
remainder m (pos n) = n % m
remainder m (negsuc n) = (m - suc n % m) % m

pub record ResidueTerm : Type 0 where
  pub exponent : ℤ
  pub first : ℕ
  pub second : ℕ

pub record ResidueSection : Type 0 where
  pub degree : ℤ
  pub entries : List ℤ
  pub terms : List ResidueTerm

abbrev pub RiseBy : List ResidueTerm → Type 0
RiseBy [] = ⊤
RiseBy (t ∷ []) = ⊤
RiseBy (t ∷ u ∷ ts) = (t.exponent <ℤ u.exponent) × RiseBy (u ∷ ts)

abbrev pub AreBothZero : ℕ → ℕ → Type 0
AreBothZero r s = (r ≡ 0) × (s ≡ 0)

pub record IsResidueTerm (f : ℤ → ℤ) (upto : ℤ) (t : ResidueTerm) : Type 0 where
  pub within : t.exponent ≤ℤ upto
  pub first : t.first ≡ remainder first_modulus (f t.exponent)
  pub second : t.second ≡ remainder second_modulus (f t.exponent)
  pub some : AreBothZero t.first t.second → ⊥

pub record AreResidueTerms (f : ℤ → ℤ) (upto : ℤ) (ts : List ResidueTerm) : Type 0 where
  pub rises : RiseBy ts
  pub each : AllByRecursion (IsResidueTerm f upto) ts
  pub whole : (n : ℤ) → n ≤ℤ upto
      → (AreBothZero (remainder first_modulus (f n)) (remainder second_modulus (f n)) → ⊥)
      → Contains (map (λ (t : ResidueTerm). t.exponent) ts) n

abbrev pub residue_term_line : ResidueTerm → Line
residue_term_line t = codes "term" ∷ spelled t.exponent ∷ spelled (pos t.first) ∷ spelled (pos t.second) ∷ []

abbrev pub residue_class_line : ResidueSection → Line
residue_class_line s = codes "class" ∷ spelled s.degree ∷ map spelled s.entries

abbrev pub residue_section_lines : ResidueSection → List Line
residue_section_lines s = residue_class_line s ∷ map residue_term_line s.terms

abbrev pub residues_line : Word → Line
residues_line title =
    codes "report" ∷ codes "series" ∷ title ∷ codes "residues" ∷ spelled (pos first_modulus) ∷ spelled (pos second_modulus) ∷ []

abbrev pub residues_lines : Word → List ℤ → ℤ → ℤ → List ResidueSection → List Line
residues_lines title heights degree upto ss =
    residues_line title
    ∷ heights_line heights
    ∷ (codes "degree" ∷ spelled degree ∷ [])
    ∷ (codes "upto" ∷ spelled upto ∷ [])
    ∷ (flat_map residue_section_lines ss ++ (end_line ∷ []))

abbrev pub residues_text : Word → List ℤ → ℤ → ℤ → List ResidueSection → List ℕ
residues_text title heights degree upto ss = text_of (residues_lines title heights degree upto ss)
