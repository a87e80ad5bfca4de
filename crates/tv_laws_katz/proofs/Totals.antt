-- Sums over lists exchanged with other sums, and sums in which one term is picked out.
--
-- total-add, total-scale     the sum of two sums, and a factor in front
-- total-sum_below            a sum over a list and one of terms may be exchanged; total-swap, two over lists
-- sum_below-pick             of terms that are 0 unless x is at their place, the one there; total-pick, of a list
-- int_eq-apart               the test of numbers that are not equal; when-on, when-off, a value under a test
-- pick-or_none               the same of a term that may be 0; at-most-or, what holds above T, or at most T
-- spread                     values at scattered places, gathered place by place
use Rattle.std.specs.Prelude.{◌≡◌, ◌⊎◌, Contains, ℕ, zero, suc, ◌<◌, ◌≤◌, ℤ, pos, ◌+ℤ◌, ◌-ℤ◌, ◌*ℤ◌, Bool, true, false, List, [], ◌∷◌}
use Rattle.std.specs.List.{AllByRecursion, IsDistinct}
use Rattle.std.specs.Ordering.{int_eq}
use Rattle.std.proofs.Common.{refl, sym, ap, arith, ◌∙◌, inl, inr}
use Rattle.std.proofs.Math.IntN.{*ℤ-zero, zero-*ℤ}
use Rattle.std.proofs.lemmas.Int.{ints}
use Rattle.std.proofs.lemmas.Bool.{cases_eq, cases_Bool}
use Rattle.std.proofs.lemmas.Bool.Decides.{Decides-int_eq}
use Rattle.tv_lemmas.specs.Sums.{total}
use Rattle.tv_lemmas.proofs.Integers.{mul-add}
use Rattle.tv_lemmas.proofs.Members.{all-any, all-onto, contains-cases}
use Rattle.tv_lemmas.proofs.Signs.{sign}
use Rattle.tv_spec_katz.specs.Binomials.{sum_below}
use Rattle.tv_laws_katz.specs.Logarithm.{when}
use Rattle.tv_laws_katz.proofs.BelowSums.{sum_below-same, sum_below-none, sum_below-add, sum_below-scale, sum_below-swap}

pub total-add : {A : Type 0} (f g : A → ℤ) (xs : List A) → total (λ x. f x +ℤ g x) xs ≡ total f xs +ℤ total g xs
total-add f g [] = omega (arith, ints)
total-add f g (x ∷ xs) = omega (arith, ints, total-add f g xs)

pub total-none : {A : Type 0} (f : A → ℤ) (xs : List A) → AllByRecursion (λ x. f x ≡ pos 0) xs → total f xs ≡ pos 0
total-none f [] all = refl
total-none f (x ∷ xs) all = omega (arith, ints, all.0, total-none f xs all.1)

pub total-scale : {A : Type 0} (c : ℤ) (f : A → ℤ) (xs : List A) → c *ℤ total f xs ≡ total (λ x. c *ℤ f x) xs
total-scale c f [] = *ℤ-zero c
total-scale c f (x ∷ xs) = mul-add c (f x) (total f xs) ∙ ap (λ s. (c *ℤ f x) +ℤ s) (total-scale c f xs)

pub total-sum_below : {A : Type 0} (f : A → ℕ → ℤ) (n : ℕ) (xs : List A) →
    total (λ x. sum_below (f x) n) xs ≡ sum_below (λ k. total (λ x. f x k) xs) n
total-sum_below f n [] = sym (sum_below-none (λ k. pos 0) n (λ k h. refl))
total-sum_below f n (x ∷ xs) = ap (λ s. sum_below (f x) n +ℤ s) (total-sum_below f n xs) ∙
    sym (sum_below-add (f x) (λ k. total (λ y. f y k) xs) n)

pub total-swap : {A B : Type 0} (f : A → B → ℤ) (xs : List A) (ys : List B) →
    total (λ x. total (f x) ys) xs ≡ total (λ y. total (λ x. f x y) xs) ys
total-swap f [] ys = sym (total-none (λ y. pos 0) ys (all-any (λ y. pos 0 ≡ pos 0) (λ y. refl) ys))
total-swap f (x ∷ xs) ys = ap (λ s. total (f x) ys +ℤ s) (total-swap f xs ys) ∙
    sym (total-add (f x) (λ y. total (λ z. f z y) xs) ys)

-- a test that fails, before a factor
pub when-false : (b : Bool) (y x : ℤ) → b ≡ false → y *ℤ when b x ≡ pos 0
when-false b y x e = rw e (*ℤ-zero y)

pub when-true : (b : Bool) (y x : ℤ) → b ≡ true → y *ℤ when b x ≡ y *ℤ x
when-true b y x e = rw e refl

abbrev at : (ℤ → ℤ) → ℤ → ℤ → ℤ → ℕ → ℤ
at F c x low t = F (low +ℤ pos t) *ℤ when (int_eq x (low +ℤ pos t)) c

pub int_eq-apart : (x y : ℤ) → (x ≡ y → ⊥) → int_eq x y ≡ false
int_eq-apart x y apart = elim (cases_Bool (int_eq x y)) [
  | inl e ↦ absurd (apart ((Decides-int_eq x y).0 e))
  | inr off ↦ off
]

apart-false : (x low : ℤ) (r t : ℕ) → x ≡ low +ℤ pos r → (r ≡ t → ⊥) → int_eq x (low +ℤ pos t) ≡ false
apart-false x low r t is apart = int_eq-apart x (low +ℤ pos t) (λ same. apart (omega (arith, ints, same)))

pick-none : (F : ℤ → ℤ) (c x low : ℤ) (r n : ℕ) → x ≡ low +ℤ pos r → n ≤ r → sum_below (at F c x low) n ≡ pos 0
pick-none F c x low r n is h =
    sum_below-none _ n (λ t l. when-false (int_eq x (low +ℤ pos t)) (F (low +ℤ pos t)) c (apart-false x low r t is (λ e. absurd (omega (arith, e)))))

sum_below-pick : (F : ℤ → ℤ) (c x low : ℤ) (r n : ℕ) → x ≡ low +ℤ pos r → r < n → sum_below (at F c x low) n ≡ F x *ℤ c
unfolding sum_below
sum_below-pick F c x low r zero is h = absurd (omega arith)
sum_below-pick F c x low r (suc n) is h = elim (cases_eq r n) [
  | inl e ↦
      let here : low +ℤ pos n ≡ x = omega (arith, ints, e) in
      let on : int_eq x (low +ℤ pos n) ≡ true = (Decides-int_eq x (low +ℤ pos n)).1 (omega (arith, ints, here)) in
      let value = ap (λ z. F z *ℤ c) here in
      omega (arith, ints, pick-none F c x low r n is (omega (arith, e)), when-true (int_eq x (low +ℤ pos n)) (F (low +ℤ pos n)) c on, value)
  | inr apart ↦ omega (arith, ints, sum_below-pick F c x low r n is (omega (arith, apart)), when-false (int_eq x (low +ℤ pos n)) (F (low +ℤ pos n)) c (apart-false x low r n is apart))
]

-- where the place of x is further than T and its value is 0, both sides are 0
pub pick-or_none : (F : ℤ → ℤ) (c x low : ℤ) (r T : ℕ) → x ≡ low +ℤ pos r → (r ≤ T) ⊎ (F x ≡ pos 0) →
    sum_below (at F c x low) (suc T) ≡ F x *ℤ c
pick-or_none F c x low r T is (inl h) = sum_below-pick F c x low r (suc T) is (omega arith)
pick-or_none F c x low r T is (inr none) = elim (sign (pos T -ℤ pos r)) [
  | inl less ↦ pick-none F c x low r (suc T) is (omega (arith, ints)) ∙ (let e : F x *ℤ c ≡ pos 0 = rw none (zero-*ℤ c) in sym e)
  | inr (inl same) ↦ sum_below-pick F c x low r (suc T) is (omega (arith, ints))
  | inr (inr more) ↦ sum_below-pick F c x low r (suc T) is (omega (arith, ints))
]

pub at-most-or : (T r : ℕ) (Z : Type 0) → (T < r → Z) → (r ≤ T) ⊎ Z
at-most-or T r Z more = elim (sign (pos T -ℤ pos r)) [
  | inl less ↦ inr (more (omega (arith, ints)))
  | inr (inl same) ↦ inl (omega (arith, ints))
  | inr (inr above) ↦ inl (omega (arith, ints))
]

-- values at places from low on, where those further than T are 0
pub spread : (F : ℤ → ℤ) (low : ℤ) (T N : ℕ) (x c : ℕ → ℤ) →
    ((j : ℕ) → j < N → (r : ℕ) × (x j ≡ low +ℤ pos r) × ((r ≤ T) ⊎ (F (x j) ≡ pos 0))) →
    sum_below (λ j. F (x j) *ℤ c j) N ≡ sum_below (λ t. F (low +ℤ pos t) *ℤ sum_below (λ j. when (int_eq (x j) (low +ℤ pos t)) (c j)) N) (suc T)
spread F low T N x c places =
    sum_below-same _ _ N (λ j h. let r = places j h in sym (pick-or_none F (c j) (x j) low r.0 T r.1 r.2)) ∙
    (sum_below-swap (λ j t. at F (c j) (x j) low t) N (suc T) ∙
    sum_below-same _ _ (suc T) (λ t h. sym (sum_below-scale (F (low +ℤ pos t)) (λ j. when (int_eq (x j) (low +ℤ pos t)) (c j)) N)))

pub when-off : (b : Bool) (x : ℤ) → b ≡ false → when b x ≡ pos 0
when-off b x e = rw e refl

pub when-on : (b : Bool) (x : ℤ) → b ≡ true → when b x ≡ x
when-on b x e = rw e refl

pub total-pick : {A : Type 0} (same : A → A → Bool) → ((x y : A) → same x y ≡ true → x ≡ y) → ((x : A) → same x x ≡ true) →
    (G : A → ℤ) (x : A) (ys : List A) → IsDistinct same ys → Contains ys x ⊎ (G x ≡ pos 0) →
    total (λ y. when (same x y) (G y)) ys ≡ G x
unfolding IsDistinct
total-pick same tells own G x [] once (inl (k, h, e)) = absurd (omega arith)
total-pick same tells own G x [] once (inr none) = sym none
total-pick same tells own G x (y ∷ ys) once listed = elim (cases_Bool (same x y)) [
  | inl e ↦
      let equal = tells x y e in
      let rest = total-none (λ z. when (same x z) (G z)) ys (all-onto (λ z. same y z ≡ false) (λ z. when (same x z) (G z) ≡ pos 0) (λ z off. when-off (same x z) (G z) (rw equal off)) ys once.0) in
      omega (arith, ints, when-on (same x y) (G y) e, rest, ap G equal)
  | inr off ↦ omega (arith, ints, when-off (same x y) (G y) off, total-pick same tells own G x ys once.1 (later listed off))
]
  where
    later : Contains (y ∷ ys) x ⊎ (G x ≡ pos 0) → same x y ≡ false → Contains ys x ⊎ (G x ≡ pos 0)
    later (inr none) off = inr none
    later (inl among) off = elim (contains-cases x y ys among) [
      | inl e ↦ absurd (let twice : same x y ≡ true = rw e (own x) in cc)
      | inr more ↦ inl more
    ]
