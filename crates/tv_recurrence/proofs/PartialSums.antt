-- Sums over a list as far as a loop has come, with a bound of their terms.
--
-- IsPartial f g xs i sum == sum is the total of f over the first i members, and its size at most that of g over them
-- partial-none, partial-more  no member yet, and one member more
-- wide-one, wide-sum          where one bound, or the sum with one term more, exceeds the limit, so does the total of the bounds
-- partial-all                 the whole sum
use Rattle.std.specs.Prelude.{◌≡◌, ℕ, suc, ◌+◌, ◌<◌, ◌≤◌, ℤ, pos, ◌+ℤ◌, unsigned_abs, List, ◌∷◌, length}
use Rattle.std.proofs.Common.{sym, ap, arith, ◌∙◌, drop, get_or}
use Rattle.std.proofs.Math.Seq.{drop-cons}
use Rattle.std.proofs.lemmas.Int.{ints}
use Rattle.std.proofs.lemmas.List.{drop_all}
use Rattle.tv_ring.specs.Operations.{limit}
use Rattle.tv_lemmas.specs.Sums.{total, sum_of}

pub record IsPartial {A : Type 0} (f : A → ℤ) (g : A → ℕ) (xs : List A) (i : ℕ) (sum : ℤ) : Type 0 where
  pub value : total f xs ≡ sum +ℤ total f (drop i xs)
  pub size : unsigned_abs sum + sum_of g (drop i xs) ≤ sum_of g xs

module _ {A : Type 0} (f : A → ℤ) (g : A → ℕ) (xs : List A) where
  pub partial-none : (sum : ℤ) → sum ≡ pos 0 → IsPartial f g xs 0 sum
  partial-none sum e = rw e (record { value = omega (arith, ints); size = omega (arith, ints) })

  pub partial-more : (i : ℕ) (x : A) (sum term next : ℤ) → IsPartial f g xs i sum → x ≡ get_or xs i x → i < length xs →
      term ≡ f x → unsigned_abs term ≤ g x → next ≡ sum +ℤ term → IsPartial f g xs (i + 1) next
  partial-more i x sum term next was read within e small en =
      let here : drop i xs ≡ x ∷ drop (suc i) xs = drop-cons xs i x within ∙ ap (λ y. y ∷ drop (suc i) xs) (sym read) in
      let one : i + 1 ≡ suc i = omega arith in
      let v = ap (total f) here in let s = ap (sum_of g) here in
      rw one (record { value = omega (arith, ints, was.value, v); size = omega (arith, ints, was.size, s) })

  pub wide-one : (i : ℕ) (x : A) (sum : ℤ) → IsPartial f g xs i sum → x ≡ get_or xs i x → i < length xs → limit < g x →
      limit < sum_of g xs
  wide-one i x sum was read within wide =
      let here : drop i xs ≡ x ∷ drop (suc i) xs = drop-cons xs i x within ∙ ap (λ y. y ∷ drop (suc i) xs) (sym read) in
      let s = ap (sum_of g) here in
      omega (arith, was.size, s)

  pub wide-sum : (i : ℕ) (x : A) (sum term : ℤ) → IsPartial f g xs i sum → x ≡ get_or xs i x → i < length xs →
      unsigned_abs term ≤ g x → limit < unsigned_abs (sum +ℤ term) → limit < sum_of g xs
  wide-sum i x sum term was read within small wide =
      let here : drop i xs ≡ x ∷ drop (suc i) xs = drop-cons xs i x within ∙ ap (λ y. y ∷ drop (suc i) xs) (sym read) in
      let s = ap (sum_of g) here in
      omega (arith, ints, was.size, s)

  pub partial-all : (i : ℕ) (sum : ℤ) → IsPartial f g xs i sum → length xs ≤ i → sum ≡ total f xs
  partial-all i sum was all =
      let none = ap (total f) (drop_all i xs all) in omega (arith, ints, was.value, none)
