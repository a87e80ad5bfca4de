-- The report of a series, over plain data.
--
-- Term            == an exponent and its coefficient
-- Section         == a class by its degree and entries, and the terms of its series
-- Rises ts        == exponents rise
-- IsTerm f upto t == the exponent is at most upto, and the coefficient is the value of f there, and not 0
-- AreTerms f upto ts == the exponents through upto at which f isn't 0, rising, each with the value of f
-- IsPrintable z   == at most 2^127 - 1 in absolute value: a text spells such a number whole
-- IsSmallTerm t   == its coefficient is so; IsSmall s, each coefficient of the section is
-- term_line t, class_line s == the line of a term, of a class
-- section_lines s == a line for the class and a line for each term
-- series_lines title heights degree upto ss == the lines of the report whose first line is `report series TITLE`
-- series_text     == the text of those lines
use Rattle.std.specs.Prelude.{◌≡◌, ◌≢◌, ℕ, ◌-◌, ◌^◌, ◌≤◌, ℤ, pos, unsigned_abs, ◌≤ℤ◌, ◌<ℤ◌, List, [], ◌∷◌, ◌++◌, map, codes, ⊤}
use Rattle.std.specs.List.{flat_map, AllByRecursion, Contains}
use Rattle.tv_spec_text.specs.Lines.{Word, Line, text_of, spelled}

pub record Term : Type 0 where
  pub exponent : ℤ
  pub coefficient : ℤ

pub record Section : Type 0 where
  pub degree : ℤ
  pub entries : List ℤ
  pub terms : List Term

abbrev pub Rises : List Term → Type 0
Rises [] = ⊤
Rises (t ∷ []) = ⊤
Rises (t ∷ u ∷ ts) = (t.exponent <ℤ u.exponent) × Rises (u ∷ ts)

pub record IsTerm (f : ℤ → ℤ) (upto : ℤ) (t : Term) : Type 0 where
  pub within : t.exponent ≤ℤ upto
  pub value : t.coefficient ≡ f t.exponent
  pub nonzero : t.coefficient ≢ pos 0

pub record AreTerms (f : ℤ → ℤ) (upto : ℤ) (ts : List Term) : Type 0 where
  pub rises : Rises ts
  pub each : AllByRecursion (IsTerm f upto) ts
  pub whole : (n : ℤ) → n ≤ℤ upto → f n ≢ pos 0 → Contains (map (λ (t : Term). t.exponent) ts) n

abbrev pub IsPrintable : ℤ → Type 0
IsPrintable z = unsigned_abs z ≤ 2 ^ 127 - 1

abbrev pub IsSmallTerm : Term → Type 0
IsSmallTerm t = IsPrintable t.coefficient

abbrev pub IsSmall : Section → Type 0
IsSmall s = AllByRecursion IsSmallTerm s.terms

abbrev pub term_line : Term → Line
term_line t = codes "term" ∷ spelled t.exponent ∷ spelled t.coefficient ∷ []

abbrev pub class_line : Section → Line
class_line s = codes "class" ∷ spelled s.degree ∷ map spelled s.entries

abbrev pub section_lines : Section → List Line
section_lines s = class_line s ∷ map term_line s.terms

abbrev pub series_lines : Word → List ℤ → ℤ → ℤ → List Section → List Line
series_lines title heights degree upto ss =
    (codes "report" ∷ codes "series" ∷ title ∷ [])
    ∷ (codes "heights" ∷ map spelled heights)
    ∷ (codes "degree" ∷ spelled degree ∷ [])
    ∷ (codes "upto" ∷ spelled upto ∷ [])
    ∷ (flat_map section_lines ss ++ ((codes "end" ∷ []) ∷ []))

abbrev pub series_text : Word → List ℤ → ℤ → ℤ → List Section → List ℕ
series_text title heights degree upto ss = text_of (series_lines title heights degree upto ss)
