-- The summary of a full series on a grid.
--
-- Summary        == the grid's number, degree and order; how many classes and terms the report of the full series has; the
--                   coefficient of its first class, which is class zero, at the order; and the sum of all coefficients modulo
--                   1000000007
-- terms_in ss, sum_in ss == the number of terms of the sections, and the sum of their coefficients
-- sum_of_terms ts == the sum of the coefficients of these terms
-- value_at n ts  == the coefficient at the exponent n, 0 where no term has it
-- zero_in n ss   == that of the first section
-- IsSummary k D N ss s == the summary is that of grid k in degree D through N with these sections: it counts and sums them, and
--                   has the coefficient of the first of them at N
-- HasSmallCounts s == there are fewer than 2^64 classes, and the number of terms and the coefficient are printable; the sum is
--                   below 1000000007, by IsSummary
-- summary_lines, summary_text == its lines, its text
use Rattle.std.specs.Prelude.{◌≡◌, ℕ, ◌+◌, ◌^◌, ◌<◌, ℤ, pos, ◌+ℤ◌, ◌*ℤ◌, List, [], ◌∷◌, length, codes, cond}
use Rattle.std.specs.Ordering.{int_eq}
use Rattle.tv_spec_text.specs.Lines.{Line, text_of, spelled}
use Rattle.tv_spec_text.specs.Reports.{Term, Section, IsPrintable}

pub record Summary : Type 0 where
  pub grid : ℕ
  pub degree : ℕ
  pub upto : ℤ
  pub classes : ℕ
  pub terms : ℕ
  pub zero : ℤ
  pub sum : ℕ

abbrev pub terms_in : List Section → ℕ
terms_in [] = 0
terms_in (s ∷ ss) = length s.terms + terms_in ss

abbrev pub sum_of_terms : List Term → ℤ
sum_of_terms [] = pos 0
sum_of_terms (t ∷ ts) = t.coefficient +ℤ sum_of_terms ts

abbrev pub sum_in : List Section → ℤ
sum_in [] = pos 0
sum_in (s ∷ ss) = sum_of_terms s.terms +ℤ sum_in ss

abbrev pub value_at : ℤ → List Term → ℤ
value_at n [] = pos 0
value_at n (t ∷ ts) = cond (int_eq t.exponent n) t.coefficient (value_at n ts)

abbrev pub zero_in : ℤ → List Section → ℤ
zero_in n [] = pos 0
zero_in n (s ∷ ss) = value_at n s.terms

-- the least remainder
pub record IsSummary (k D : ℕ) (N : ℤ) (ss : List Section) (s : Summary) : Type 0 where
  pub grid : s.grid ≡ k
  pub degree : s.degree ≡ D
  pub upto : s.upto ≡ N
  pub classes : s.classes ≡ length ss
  pub terms : s.terms ≡ terms_in ss
  pub zero : s.zero ≡ zero_in N ss
  pub least : s.sum < 1000000007
  pub multiple : ℤ
  pub sum : sum_in ss ≡ pos s.sum +ℤ (multiple *ℤ pos 1000000007)

pub record HasSmallCounts (s : Summary) : Type 0 where
  pub classes : s.classes < 2 ^ 64
  pub terms : IsPrintable (pos s.terms)
  pub zero : IsPrintable s.zero

abbrev pub summary_lines : Summary → List Line
summary_lines s =
    (codes "report" ∷ codes "summary" ∷ [])
    ∷ (codes "grid" ∷ spelled (pos s.grid) ∷ [])
    ∷ (codes "degree" ∷ spelled (pos s.degree) ∷ [])
    ∷ (codes "upto" ∷ spelled s.upto ∷ [])
    ∷ (codes "classes" ∷ spelled (pos s.classes) ∷ [])
    ∷ (codes "terms" ∷ spelled (pos s.terms) ∷ [])
    ∷ (codes "zero" ∷ spelled s.zero ∷ [])
    ∷ (codes "sum" ∷ spelled (pos s.sum) ∷ [])
    ∷ (codes "end" ∷ [])
    ∷ []

abbrev pub summary_text : Summary → List ℕ
summary_text s = text_of (summary_lines s)
