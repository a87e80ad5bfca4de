-- What a place takes from rows, as a sum over how often it is taken off.
--
-- IsReadFrom f rows s t D == for j below D, f j is the coefficient of the row j at t - (j + 1) s, and 0 where that is below 0
-- read-next       so without the first row
-- taken_sum-is    the sum of the coefficients taken is f 0 + .. + f (D - 1); taken_size-is, the same of the sizes
use Rattle.std.specs.Prelude.{◌≡◌, ℕ, zero, suc, ◌-◌, ◌*◌, ◌<◌, ◌≤◌, ℤ, pos, unsigned_abs, List, [], ◌∷◌, length}
use Rattle.std.proofs.Common.{refl, sym, ap, arith, ◌∙◌, inl, inr, suc-mul}
use Rattle.std.proofs.lemmas.Int.{ints}
use Rattle.std.proofs.lemmas.Bool.{cases_lt}
use Rattle.tv_ring.specs.Whole.{wholes}
use Rattle.tv_ring.specs.Sums.{at, total_below}
use Rattle.tv_laws_series.proofs.Listed.{at_past}
use Rattle.tv_spec_katz.specs.Binomials.{sum_below}
use Rattle.tv_laws_katz.proofs.BelowSums.{sum_below-none, sum_below-front}
use Rattle.tv_recurrence.proofs.NumberSums.{total_below-zero, total_below-front}
use Rattle.tv_recurrence.specs.Parts.{taken_sum, taken_size}
use Rattle.tv_recurrence.specs.Products.{row_at}
use Rattle.tv_recurrence.proofs.TakenSums.{taken_sum-step, taken_size-step, taken_sum-stop, taken_size-stop}

pub record IsReadFrom (f : ℕ → ℤ) (rows : List (List ℤ)) (s t D : ℕ) : Type 0 where
  pub count : length rows ≤ D
  pub read : (j : ℕ) → j < D → suc j * s ≤ t → f j ≡ at wholes (row_at rows j) (t - suc j * s)
  pub none : (j : ℕ) → j < D → t < suc j * s → f j ≡ pos 0

pub at-empty : (k : ℕ) → at wholes [] k ≡ pos 0
at-empty k = at_past wholes [] k (omega arith)

-- without rows nothing is taken
none-read : (f : ℕ → ℤ) (s t D : ℕ) → IsReadFrom f [] s t D → (j : ℕ) → j < D → f j ≡ pos 0
none-read f s t D is j h = elim (cases_lt t (suc j * s)) [
  | inr room ↦ is.read j h room ∙ at-empty (t - suc j * s)
  | inl past ↦ is.none j h (omega arith)
]

read-next : (f : ℕ → ℤ) (row : List ℤ) (rows : List (List ℤ)) (s t D : ℕ) → s ≤ t → IsReadFrom f (row ∷ rows) s t (suc D) →
    IsReadFrom (λ j. f (suc j)) rows s (t - s) D
read-next f row rows s t D h is = record {
  count = omega (arith, is.count);
  read = λ j l room.
      let next = suc-mul (suc j) s in
      let place : (t - s) - suc j * s ≡ t - suc (suc j) * s = omega (arith, next) in
      rw place (is.read (suc j) (omega arith) (omega (arith, next)));
  none = λ j l past. is.none (suc j) (omega arith) (omega (arith, suc-mul (suc j) s));
}

past-read : (f : ℕ → ℤ) (rows : List (List ℤ)) (s t D : ℕ) → t < s → IsReadFrom f rows s t D → (j : ℕ) → j < D → f j ≡ pos 0
past-read f rows s t D past is j h = is.none j h (omega (arith, suc-mul j s))

first-read : (f : ℕ → ℤ) (row : List ℤ) (rows : List (List ℤ)) (s t D : ℕ) → s ≤ t → IsReadFrom f (row ∷ rows) s t (suc D) →
    f 0 ≡ at wholes row (t - s)
first-read f row rows s t D h is =
    let one : suc 0 * s ≡ s = omega arith in
    let value = is.read 0 (omega arith) (omega arith) in
    value ∙ ap (λ n. at wholes row (t - n)) one

pub taken_sum-is : (f : ℕ → ℤ) (rows : List (List ℤ)) (s t D : ℕ) → IsReadFrom f rows s t D → taken_sum rows s t ≡ sum_below f D
taken_sum-is f [] s t D is = sym (sum_below-none f D (none-read f s t D is))
taken_sum-is f (row ∷ rows) s t zero is = absurd (omega (arith, is.count))
taken_sum-is f (row ∷ rows) s t (suc D) is = elim (cases_lt t s) [
  | inr room ↦
      taken_sum-step row rows s t room ∙
      omega (
        arith,
        ints,
        sum_below-front f D,
        first-read f row rows s t D room is,
        taken_sum-is (λ j. f (suc j)) rows s (t - s) D (read-next f row rows s t D room is),
      )
  | inl past ↦
      let less : t < s = omega arith in
      taken_sum-stop (row ∷ rows) s t less ∙ sym (sum_below-none f (suc D) (past-read f (row ∷ rows) s t (suc D) less is))
]

zero-size : (z : ℤ) → z ≡ pos 0 → unsigned_abs z ≡ 0
zero-size z e = rw e refl

pub taken_size-is : (f : ℕ → ℤ) (rows : List (List ℤ)) (s t D : ℕ) → IsReadFrom f rows s t D →
    taken_size rows s t ≡ total_below (λ j. unsigned_abs (f j)) D
taken_size-is f [] s t D is =
    sym (total_below-zero (λ j. unsigned_abs (f j)) D (λ j h. zero-size (f j) (none-read f s t D is j h)))
taken_size-is f (row ∷ rows) s t zero is = absurd (omega (arith, is.count))
taken_size-is f (row ∷ rows) s t (suc D) is = elim (cases_lt t s) [
  | inr room ↦
      taken_size-step row rows s t room ∙
      omega (
        arith,
        total_below-front (λ j. unsigned_abs (f j)) D,
        ap unsigned_abs (first-read f row rows s t D room is),
        taken_size-is (λ j. f (suc j)) rows s (t - s) D (read-next f row rows s t D room is),
      )
  | inl past ↦
      let less : t < s = omega arith in
      taken_size-stop (row ∷ rows) s t less ∙
      sym (total_below-zero (λ j. unsigned_abs (f j)) (suc D) (λ j h.
      zero-size (f j) (past-read f (row ∷ rows) s t (suc D) less is j h)))
]
