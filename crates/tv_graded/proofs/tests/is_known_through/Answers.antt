use Rattle.std.proofs.Common.{◌≡◌, ℕ, suc, ◌<◌, ◌≤ℤ◌, List, [], ◌∷◌, length, Some, slice_get, refl, arith, inl, inr}
use Rattle.std.specs.List.{AllByRecursion}
use Rattle.std.proofs.lemmas.Int.{ints, clamps}
use Rattle.std.proofs.lemmas.Bool.{cases_lt}
use Rattle.tv_laws_series.specs.Quotients.{quotient_upto}
use Rattle.tv_spec_series.specs.Families.{row}
use Rattle.tv_graded.proofs.tests.is_known_through.Goals as goal

each_row : {X : Type 0} (P : X → Type 0) (rows : List X) → ((i : ℕ) (x : X) → i < length rows → slice_get rows i ≡ Some x → P x) → AllByRecursion P rows
each_row P [] each = tt
each_row P (x ∷ rows) each = (each 0 x (omega arith) refl, each_row P rows (λ i y h e. each (suc i) y (omega arith) e))

pub loop-k-preserved : goal.loop-k-preserved
loop-k-preserved c i x h e = elim (cases_lt i c.loop-k.k) as (λ _. c.args.family.now.upto ≤ℤ quotient_upto x.series c.args.zero.now) [
  | inl less ↦ c.loop-k.invariant i x less e
  | inr last ↦
      let same : i ≡ c.loop-k.k = omega arith in let there = c.in-Some.ensures.row in
      let here : row c.in-Some.entry.class.now c.in-Some.entry.series.now ≡ x = cc in
      let value = c.min.ensures.value in let test = c.if-min-upto.false in
      rw (← here) (omega (arith, ints, clamps))
]

pub returns : goal.returns
returns c = record { known = λ _. each_row _ c.args.family.now.rows (λ i x h e. c.loop-k.invariant i x (let end = c.loop-k-test.false in let count = c.len-k-end.ensures in omega arith) e) }
