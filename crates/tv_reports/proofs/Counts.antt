-- The coefficient that a summary tells is one of the sections.
use Rattle.std.proofs.Common.{ℤ, List, [], ◌∷◌, arith}
use Rattle.std.specs.List.{AllByRecursion}
use Rattle.std.specs.Ordering.{int_eq}
use Rattle.tv_laws_series.proofs.NormalForm.{bool_cases}
use Rattle.tv_spec_text.specs.Reports.{Term, Section, IsPrintable, IsSmallTerm, IsSmall}
use Rattle.tv_spec_reports.specs.Summaries.{value_at, zero_in}

value_small : (n : ℤ) (ts : List Term) → AllByRecursion IsSmallTerm ts → IsPrintable (value_at n ts)
value_small n [] small = omega arith
value_small n (t ∷ ts) small = let rest = value_small n ts small.1 in bool_cases (int_eq t.exponent n) (λ e. rw e small.0) (λ e. rw e rest)

pub zero_small : (n : ℤ) (ss : List Section) → AllByRecursion IsSmall ss → IsPrintable (zero_in n ss)
zero_small n [] small = omega arith
zero_small n (s ∷ ss) small = value_small n s.terms small.0
