-- Which whole numbers are even, and how sums and products are.
--
-- is_even z == the test of the sign's definition: the remainder by 2 is 0
-- eqv a b   == both or neither
-- sign_by even == 1 where even holds, else -1
use Rattle.std.specs.Prelude.{◌≡◌, ℕ, zero, suc, ◌+◌, ◌%◌, Bool, true, false, cond, ◌||◌, ℤ, pos, negsuc, ◌+ℤ◌, ◌-ℤ◌, ◌*ℤ◌, neg_ℤ, ◌⊎◌, nat_eq, unsigned_abs}
use Rattle.std.proofs.Common.{refl, sym, ap, ◌∙◌, inl, inr, arith}
use Rattle.std.proofs.lemmas.Int.{ints}
use Rattle.std.proofs.lemmas.Bool.Decides.{nat_tests}
use Rattle.tv_lemmas.proofs.Integers.{diff_of, diff-pos, diff-same, diffs}

abbrev pub is_even : ℤ → Bool
is_even z = nat_eq (unsigned_abs z % 2) 0

abbrev pub eqv : Bool → Bool → Bool
eqv true b = b
eqv false true = false
eqv false false = true

abbrev pub sign_by : Bool → ℤ
sign_by even = cond even (pos 1) (negsuc 0)

-- a natural, doubled
twice_even : (n : ℕ) → nat_eq ((n + n) % 2) 0 ≡ true
twice_even n = grind (arith, nat_tests)

twice_odd : (n : ℕ) → nat_eq ((n + n + 1) % 2) 0 ≡ false
twice_odd n = grind (arith, nat_tests)

double_even_at : (m : ℕ) (z : ℤ) → unsigned_abs z ≡ m + m → is_even z ≡ true
double_even_at m z e = rw e (twice_even m)

double_odd_at : (m : ℕ) (z : ℤ) → unsigned_abs z ≡ m + m + 1 → is_even z ≡ false
double_odd_at m z e = rw e (twice_odd m)

abs_pos : (z : ℤ) (n : ℕ) → z ≡ pos n → unsigned_abs z ≡ n
abs_pos z n e = rw e refl

abs_negsuc : (z : ℤ) (n : ℕ) → z ≡ negsuc n → unsigned_abs z ≡ n + 1
abs_negsuc z n e = rw e (omega arith)

pub even_double : (k z : ℤ) → z ≡ k +ℤ k → is_even z ≡ true
even_double (pos n) z e = double_even_at n z (abs_pos z (n + n) (omega (arith, ints)))
even_double (negsuc n) z e = double_even_at (suc n) z (abs_negsuc z (suc (n + n)) (omega (arith, ints)) ∙ omega arith)

pub odd_double : (k z : ℤ) → z ≡ (k +ℤ k) +ℤ pos 1 → is_even z ≡ false
odd_double (pos n) z e = double_odd_at n z (abs_pos z (n + n + 1) (omega (arith, ints)))
odd_double (negsuc n) z e = double_odd_at n z (abs_negsuc z (n + n) (omega (arith, ints)))

-- a whole number is twice another, or one more
abbrev pub Halves : ℤ → Type 0
Halves z = ((k : ℤ) × (z ≡ k +ℤ k)) ⊎ ((k : ℤ) × (z ≡ (k +ℤ k) +ℤ pos 1))

halves_next : (z : ℤ) → Halves z → Halves (z +ℤ pos 1)
halves_next z (inl even) = inr (even.0, omega (arith, ints, even.1))
halves_next z (inr odd) = inl (odd.0 +ℤ pos 1, omega (arith, ints, odd.1))

halves_before : (z : ℤ) → Halves z → Halves (z -ℤ pos 1)
halves_before z (inl even) = inr (even.0 -ℤ pos 1, omega (arith, ints, even.1))
halves_before z (inr odd) = inl (odd.0, omega (arith, ints, odd.1))

halves_same : (y z : ℤ) → y ≡ z → Halves y → Halves z
halves_same y z e (inl even) = inl (even.0, sym e ∙ even.1)
halves_same y z e (inr odd) = inr (odd.0, sym e ∙ odd.1)

pub halves : (z : ℤ) → Halves z
halves (pos zero) = inl (pos 0, omega (arith, ints))
halves (pos (suc n)) = halves_same (pos n +ℤ pos 1) (pos (suc n)) (omega (arith, ints)) (halves_next (pos n) (halves (pos n)))
halves (negsuc zero) = inr (negsuc 0, omega (arith, ints))
halves (negsuc (suc n)) = halves_same (negsuc n -ℤ pos 1) (negsuc (suc n)) (omega (arith, ints)) (halves_before (negsuc n) (halves (negsuc n)))

add_by : (x y : ℤ) → Halves x → Halves y → is_even (x +ℤ y) ≡ eqv (is_even x) (is_even y)
add_by x y (inl p) (inl q) = rw (even_double p.0 x p.1, even_double q.0 y q.1) (even_double (p.0 +ℤ q.0) (x +ℤ y) (omega (arith, ints, p.1, q.1)))
add_by x y (inl p) (inr q) = rw (even_double p.0 x p.1, odd_double q.0 y q.1) (odd_double (p.0 +ℤ q.0) (x +ℤ y) (omega (arith, ints, p.1, q.1)))
add_by x y (inr p) (inl q) = rw (odd_double p.0 x p.1, even_double q.0 y q.1) (odd_double (p.0 +ℤ q.0) (x +ℤ y) (omega (arith, ints, p.1, q.1)))
add_by x y (inr p) (inr q) = rw (odd_double p.0 x p.1, odd_double q.0 y q.1) (even_double ((p.0 +ℤ q.0) +ℤ pos 1) (x +ℤ y) (omega (arith, ints, p.1, q.1)))

pub is_even-add : (x y : ℤ) → is_even (x +ℤ y) ≡ eqv (is_even x) (is_even y)
is_even-add x y = add_by x y (halves x) (halves y)

pub is_even-neg : (x : ℤ) → is_even (neg_ℤ x) ≡ is_even x
is_even-neg (pos zero) = refl
is_even-neg (pos (suc n)) = refl
is_even-neg (negsuc n) = refl

pub is_even-sub : (x y : ℤ) → is_even (x -ℤ y) ≡ eqv (is_even x) (is_even y)
is_even-sub x y =
    let e : x -ℤ y ≡ x +ℤ neg_ℤ y = omega (arith, ints) in
    ap is_even e ∙ (is_even-add x (neg_ℤ y) ∙ ap (eqv (is_even x)) (is_even-neg y))

-- products of doubles
left_double : (k y : ℤ) → (k +ℤ k) *ℤ y ≡ (k *ℤ y) +ℤ (k *ℤ y)
left_double k y =
    let r = diff_of k in let s = diff_of y in
    rw (r.2, s.2) (simp diffs (diff-same _ _ _ _ (omega arith)))

right_double : (x k : ℤ) → x *ℤ (k +ℤ k) ≡ (x *ℤ k) +ℤ (x *ℤ k)
right_double x k =
    let r = diff_of x in let s = diff_of k in
    rw (r.2, s.2) (simp diffs (diff-same _ _ _ _ (omega arith)))

odd_product : (k l : ℤ) → ((k +ℤ k) +ℤ pos 1) *ℤ ((l +ℤ l) +ℤ pos 1) ≡ ((((k *ℤ l) +ℤ (k *ℤ l)) +ℤ (k +ℤ l)) +ℤ (((k *ℤ l) +ℤ (k *ℤ l)) +ℤ (k +ℤ l))) +ℤ pos 1
odd_product k l =
    let r = diff_of k in let s = diff_of l in
    rw (r.2, s.2, diff-pos 1) (simp diffs (diff-same _ _ _ _ (omega arith)))

mul_by : (x y : ℤ) → Halves x → Halves y → is_even (x *ℤ y) ≡ is_even x || is_even y
mul_by x y (inl p) q = rw (even_double p.0 x p.1) (even_double (p.0 *ℤ y) (x *ℤ y) (ap (λ z. z *ℤ y) p.1 ∙ left_double p.0 y))
mul_by x y (inr p) (inl q) = rw (odd_double p.0 x p.1, even_double q.0 y q.1) (even_double (x *ℤ q.0) (x *ℤ y) (ap (λ z. x *ℤ z) q.1 ∙ right_double x q.0))
mul_by x y (inr p) (inr q) = rw (odd_double p.0 x p.1, odd_double q.0 y q.1) (odd_double (((p.0 *ℤ q.0) +ℤ (p.0 *ℤ q.0)) +ℤ (p.0 +ℤ q.0)) (x *ℤ y) (ap (λ z. z *ℤ y) p.1 ∙ (ap (λ z. ((p.0 +ℤ p.0) +ℤ pos 1) *ℤ z) q.1 ∙ odd_product p.0 q.0)))

pub is_even-mul : (x y : ℤ) → is_even (x *ℤ y) ≡ is_even x || is_even y
is_even-mul x y = mul_by x y (halves x) (halves y)

-- the remainder is known by the test
pub remainder-is : (n : ℕ) → n % 2 ≡ cond (nat_eq (n % 2) 0) 0 1
remainder-is n = grind (arith, nat_tests)

pub same_parity : (x y : ℤ) → is_even x ≡ is_even y → unsigned_abs x % 2 ≡ unsigned_abs y % 2
same_parity x y e = remainder-is (unsigned_abs x) ∙ (ap (λ b. cond b 0 1) e ∙ sym (remainder-is (unsigned_abs y)))

pub parity_same : (x y : ℤ) → unsigned_abs x % 2 ≡ unsigned_abs y % 2 → is_even x ≡ is_even y
parity_same x y e = ap (λ n. nat_eq n 0) e
