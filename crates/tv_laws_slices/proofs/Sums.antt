-- Sums of natural numbers over lists.
--
-- sum_of-map     the sum over values of a function; sum_of-filter, over what passes a test
-- sum_of-same    equal values make equal sums
-- sum_of-zero    the sum of zeros; sum_of-zeros, over a range
-- sum_of-range   the sum over a range in two parts
-- sum_of-down    of n, .., 0 the one number with b more that is h
use Rattle.std.specs.Prelude.{◌≡◌, ℕ, zero, suc, ◌+◌, ◌-◌, ◌<◌, ◌≤◌, Bool, true, false, cond, ◌&&◌, nat_eq, nat_le, List, [], ◌∷◌, map, filter}
use Rattle.std.specs.List.{range_with_len}
use Rattle.std.proofs.Common.{refl, ap, ◌∙◌, arith, inl, inr}
use Rattle.std.proofs.lemmas.Bool.{cases_eq}
use Rattle.std.proofs.lemmas.Bool.Decides.{nat_tests}
use Rattle.tv_lemmas.specs.Sums.{sum_of}
use Rattle.tv_spec_slices.specs.Paths.{down}
use Rattle.tv_lemmas.proofs.Sums.{sum_of-map}

pub sum_of-same : {A : Type 0} (f g : A → ℕ) → ((x : A) → f x ≡ g x) → (xs : List A) → sum_of f xs ≡ sum_of g xs
sum_of-same f g same [] = refl
sum_of-same f g same (x ∷ xs) = let here = same x in let rest = sum_of-same f g same xs in omega arith

pub sum_of-zero : {A : Type 0} (f : A → ℕ) → ((x : A) → f x ≡ 0) → (xs : List A) → sum_of f xs ≡ 0
sum_of-zero f none [] = refl
sum_of-zero f none (x ∷ xs) = let here = none x in let rest = sum_of-zero f none xs in omega arith

filter-step : {A : Type 0} (f : A → ℕ) (b : Bool) (x : A) (xs : List A) → sum_of f (cond b (x ∷ xs) xs) ≡ cond b (f x) 0 + sum_of f xs
filter-step f true x xs = refl
filter-step f false x xs = omega arith

pub sum_of-filter : {A : Type 0} (f : A → ℕ) (p : A → Bool) (xs : List A) → sum_of f (filter p xs) ≡ sum_of (λ x. cond (p x) (f x) 0) xs
sum_of-filter f p [] = refl
sum_of-filter f p (x ∷ xs) = filter-step f (p x) x (filter p xs) ∙ ap (λ s. cond (p x) (f x) 0 + s) (sum_of-filter f p xs)

pub sum_of-zeros : (f : ℕ → ℕ) (k n : ℕ) → ((i : ℕ) → k ≤ i → i < k + n → f i ≡ 0) → sum_of f (range_with_len k n) ≡ 0
sum_of-zeros f k zero none = refl
sum_of-zeros f k (suc n) none =
    let here = none k (omega arith) (omega arith) in
    let rest = sum_of-zeros f (k + 1) n (λ i l h. none i (omega arith) (omega arith)) in
    omega arith

pub sum_of-range : (f : ℕ → ℕ) (k m n : ℕ) → sum_of f (range_with_len k (m + n)) ≡ sum_of f (range_with_len k m) + sum_of f (range_with_len (k + m) n)
sum_of-range f k zero n =
    let e : k + 0 ≡ k = omega arith in let z : 0 + n ≡ n = omega arith in rw (e, z) (omega arith)
sum_of-range f k (suc m) n =
    let e : suc m + n ≡ suc (m + n) = omega arith in
    let s : k + suc m ≡ (k + 1) + m = omega arith in
    let rest = sum_of-range f (k + 1) m n in
    rw (e, s) (omega arith)

down-step : (b h n : ℕ) (v : ℕ → ℕ) → cond (nat_eq h (b + suc n)) (v (suc n)) 0 + cond (nat_le b h && nat_le h (b + n)) (v (h - b)) 0 ≡ cond (nat_le b h && nat_le h (b + suc n)) (v (h - b)) 0
down-step b h n v = elim (cases_eq h (b + suc n)) [
  | inl e ↦ let k : h - b ≡ suc n = omega arith in rw k (tests (v (suc n)) e)
  | inr ne ↦ others (v (suc n)) (v (h - b)) ne
]
  where
    tests : (w : ℕ) → h ≡ b + suc n → cond (nat_eq h (b + suc n)) w 0 + cond (nat_le b h && nat_le h (b + n)) w 0 ≡ cond (nat_le b h && nat_le h (b + suc n)) w 0
    tests w e = grind (arith, nat_tests)

    others : (w x : ℕ) → (h ≡ b + suc n → ⊥) → cond (nat_eq h (b + suc n)) w 0 + cond (nat_le b h && nat_le h (b + n)) x 0 ≡ cond (nat_le b h && nat_le h (b + suc n)) x 0
    others w x ne = grind (arith, nat_tests)

down-none : (b h : ℕ) (v : ℕ → ℕ) → cond (nat_eq h (b + 0)) (v 0) 0 + 0 ≡ cond (nat_le b h && nat_le h (b + 0)) (v (h - b)) 0
down-none b h v = elim (cases_eq h b) [
  | inl e ↦ let k : h - b ≡ 0 = omega arith in rw k (tests (v 0) e)
  | inr ne ↦ others (v 0) (v (h - b)) ne
]
  where
    tests : (w : ℕ) → h ≡ b → cond (nat_eq h (b + 0)) w 0 + 0 ≡ cond (nat_le b h && nat_le h (b + 0)) w 0
    tests w e = grind (arith, nat_tests)

    others : (w x : ℕ) → (h ≡ b → ⊥) → cond (nat_eq h (b + 0)) w 0 + 0 ≡ cond (nat_le b h && nat_le h (b + 0)) x 0
    others w x ne = grind (arith, nat_tests)

pub sum_of-down : (b h n : ℕ) (v : ℕ → ℕ) → sum_of (λ e. cond (nat_eq h (b + e)) (v e) 0) (down n) ≡ cond (nat_le b h && nat_le h (b + n)) (v (h - b)) 0
sum_of-down b h zero v = down-none b h v
sum_of-down b h (suc n) v = ap (λ s. cond (nat_eq h (b + suc n)) (v (suc n)) 0 + s) (sum_of-down b h n v) ∙ down-step b h n v
