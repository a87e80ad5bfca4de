-- What a place takes from rows of coefficients, as far as a loop has come.
--
-- taken_sum-size    the sum is at most as large as the sizes add up to
-- taken_sum-step    the first row apart; taken_sum-stop, where the weight is below the step
-- IsTaken f rows s t i left sum == of the rows f of a list, sum is what is taken from the first i, at the weights t - s, .., left
-- taken-none, taken-more  no row yet, and one row more
-- taken-end, taken-all    the whole sum, where the weight is below the step, or all rows were read
-- taken-wide        where a sum exceeds the limit, the sizes do
use Rattle.std.specs.Prelude.{◌≡◌, ℕ, suc, ◌+◌, ◌-◌, ◌<◌, ◌≤◌, ℤ, pos, ◌+ℤ◌, unsigned_abs, List, [], ◌∷◌, length, map, nat_lt, true, false}
use Rattle.std.proofs.Common.{refl, sym, ap, arith, ◌∙◌, drop, get_or, inl, inr}
use Rattle.std.proofs.Math.Seq.{drop-cons}
use Rattle.std.proofs.lemmas.Int.{ints}
use Rattle.std.proofs.lemmas.List.{drop_all}
use Rattle.std.proofs.lemmas.Bool.{cases_Bool}
use Rattle.std.proofs.lemmas.Bool.Decides.{nat_tests}
use Rattle.tv_ring.specs.Operations.{limit}
use Rattle.tv_ring.specs.Whole.{wholes}
use Rattle.tv_ring.specs.Sums.{at}
use Rattle.tv_recurrence.specs.Parts.{taken_sum, taken_size}
use Rattle.tv_lemmas.proofs.Naturals.{nat_lt-tells}
use Rattle.tv_lemmas.proofs.Tests.{below-on, below-off}

above-tells : (t s : ℕ) → nat_lt t s ≡ false → s ≤ t
above-tells t s h = grind (arith, nat_tests)

pub taken_sum-step : (row : List ℤ) (rows : List (List ℤ)) (s t : ℕ) → s ≤ t →
    taken_sum (row ∷ rows) s t ≡ at wholes row (t - s) +ℤ taken_sum rows s (t - s)
taken_sum-step row rows s t h = rw (below-off t s h) refl

pub taken_size-step : (row : List ℤ) (rows : List (List ℤ)) (s t : ℕ) → s ≤ t →
    taken_size (row ∷ rows) s t ≡ unsigned_abs (at wholes row (t - s)) + taken_size rows s (t - s)
taken_size-step row rows s t h = rw (below-off t s h) refl

pub taken_sum-stop : (rows : List (List ℤ)) (s t : ℕ) → t < s → taken_sum rows s t ≡ pos 0
taken_sum-stop [] s t h = refl
taken_sum-stop (row ∷ rows) s t h = rw (below-on t s h) refl

pub taken_size-stop : (rows : List (List ℤ)) (s t : ℕ) → t < s → taken_size rows s t ≡ 0
taken_size-stop [] s t h = refl
taken_size-stop (row ∷ rows) s t h = rw (below-on t s h) refl

pub taken_sum-size : (rows : List (List ℤ)) (s t : ℕ) → unsigned_abs (taken_sum rows s t) ≤ taken_size rows s t
taken_sum-size [] s t = omega (arith, ints)
taken_sum-size (row ∷ rows) s t = elim (cases_Bool (nat_lt t s)) [
  | inl on ↦ let h = nat_lt-tells t s on in
      rw (taken_sum-stop (row ∷ rows) s t h, taken_size-stop (row ∷ rows) s t h) (omega (arith, ints))
  | inr off ↦ let h = above-tells t s off in
      rw (taken_sum-step row rows s t h, taken_size-step row rows s t h) (omega (arith, ints, taken_sum-size rows s (t - s)))
]

pub record IsTaken {A : Type 0} (f : A → List ℤ) (rows : List A) (s t i left : ℕ) (sum : ℤ) : Type 0 where
  pub value : taken_sum (map f rows) s t ≡ sum +ℤ taken_sum (map f (drop i rows)) s left
  pub size : unsigned_abs sum + taken_size (map f (drop i rows)) s left ≤ taken_size (map f rows) s t

module _ {A : Type 0} (f : A → List ℤ) (rows : List A) (s t : ℕ) where
  pub taken-none : (sum : ℤ) → sum ≡ pos 0 → IsTaken f rows s t 0 t sum
  taken-none sum e = rw e (record { value = omega (arith, ints); size = omega (arith, ints) })

  pub taken-more : (i left : ℕ) (row : A) (sum next : ℤ) → IsTaken f rows s t i left sum → row ≡ get_or rows i row →
      i < length rows → s ≤ left → next ≡ sum +ℤ at wholes (f row) (left - s) → IsTaken f rows s t (i + 1) (left - s) next
  taken-more i left row sum next was read within room en =
      let here : drop i rows ≡ row ∷ drop (suc i) rows =
      drop-cons rows i row within ∙ ap (λ y. y ∷ drop (suc i) rows) (sym read) in
      let one : i + 1 ≡ suc i = omega arith in
      let v = ap (λ (ys : List A). taken_sum (map f ys) s left) here in
      let z = ap (λ (ys : List A). taken_size (map f ys) s left) here in
      let v' = taken_sum-step (f row) (map f (drop (suc i) rows)) s left room in
      let z' = taken_size-step (f row) (map f (drop (suc i) rows)) s left room in
      rw one (record { value = omega (arith, ints, was.value, v, v'); size = omega (arith, ints, was.size, z, z') })

  pub taken-wide : (i left : ℕ) (row : A) (sum x : ℤ) → IsTaken f rows s t i left sum → row ≡ get_or rows i row →
      i < length rows → s ≤ left → x ≡ at wholes (f row) (left - s) → limit < unsigned_abs (sum +ℤ x) → limit < taken_size (map f rows) s t
  taken-wide i left row sum x was read within room e wide =
      let here : drop i rows ≡ row ∷ drop (suc i) rows =
      drop-cons rows i row within ∙ ap (λ y. y ∷ drop (suc i) rows) (sym read) in
      let z = ap (λ (ys : List A). taken_size (map f ys) s left) here in
      let z' = taken_size-step (f row) (map f (drop (suc i) rows)) s left room in
      omega (arith, ints, was.size, z, z', ap unsigned_abs e)

  pub taken-end : (i left : ℕ) (sum : ℤ) → IsTaken f rows s t i left sum → left < s → sum ≡ taken_sum (map f rows) s t
  taken-end i left sum was h = omega (arith, ints, was.value, taken_sum-stop (map f (drop i rows)) s left h)

  pub taken-all : (i left : ℕ) (sum : ℤ) → IsTaken f rows s t i left sum → length rows ≤ i → sum ≡ taken_sum (map f rows) s t
  taken-all i left sum was all =
      let none = ap (λ (ys : List A). taken_sum (map f ys) s left) (drop_all i rows all) in omega (arith, ints, was.value, none)
