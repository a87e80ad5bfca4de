-- Binomial coefficients, signs of powers, and the powers of 1 - X.
--
-- choose-step      (k + 1) C(n, k + 1) + k C(n, k) = n C(n, k); choose-next, (k + 1) C(n + 1, k + 1) = (n + 1) C(n, k)
-- choose-beyond    C(n, k) = 0 for k above n; choose-whole, C(n, n) = 1; choose-more, C(n, k) grows with n
-- power_sign-next  the sign changes from one power to the next; power_sign-square, its square is 1; twice_signed, so that
--                  twice the sign in front is none; power_sign-same, the sign goes by parity; power_sign-size, a sign in
--                  front does not count for the size; power_sign-add, power_sign-split, signs of sums and of differences
-- power_at-zero    the coefficient of X^0 is 1; power_at-one, that of X^1 is minus the exponent
-- power_at-next    the coefficient of X^(k + 1) by that of X^k
use Rattle.std.specs.Prelude.{◌≡◌, ◌⊎◌, ℕ, zero, suc, ◌+◌, ◌-◌, ◌*◌, ◌%◌, ◌≤◌, ◌<◌, ℤ, pos, negsuc, ◌-ℤ◌, ◌*ℤ◌, neg_ℤ, unsigned_abs, Bool, true, false, cond, nat_eq}
use Rattle.std.proofs.Common.{refl, ap, arith, ◌∙◌, sym, inl, inr}
use Rattle.std.proofs.lemmas.Int.{ints, unsigned_abs-mul}
use Rattle.std.proofs.lemmas.Bool.Decides.{nat_tests}
use Rattle.tv_lemmas.proofs.Integers.{sub-mul, neg-mul}
use Rattle.tv_lemmas.proofs.Multiplied.{mul-mul, mul-middle, mul-neg, neg-pull, one-mul}
use Rattle.tv_spec_katz.specs.Binomials.{choose, power_sign, binomial, power_at}

pub choose-step : (n k : ℕ) → suc k * choose n (suc k) + k * choose n k ≡ n * choose n k
unfolding choose
choose-step zero zero = omega arith
choose-step zero (suc k) = omega arith
choose-step (suc n) zero = omega (arith, choose-step n zero)
choose-step (suc n) (suc k) = omega (arith, choose-step n (suc k), choose-step n k)

pub choose-next : (n k : ℕ) → suc k * choose (suc n) (suc k) ≡ suc n * choose n k
unfolding choose
choose-next n k = omega (arith, choose-step n k)

pub choose-beyond : (n k : ℕ) → n < k → choose n k ≡ 0
unfolding choose
choose-beyond zero zero h = absurd (omega arith)
choose-beyond zero (suc k) h = refl
choose-beyond (suc n) zero h = absurd (omega arith)
choose-beyond (suc n) (suc k) h = omega (arith, choose-beyond n k (omega arith), choose-beyond n (suc k) (omega arith))

pub choose-whole : (n : ℕ) → choose n n ≡ 1
unfolding choose
choose-whole zero = refl
choose-whole (suc n) = omega (arith, choose-whole n, choose-beyond n (suc n) (omega arith))

choose-next_row : (n k : ℕ) → choose n k ≤ choose (suc n) k
unfolding choose
choose-next_row n zero = omega arith
choose-next_row n (suc k) = omega arith

more_by : (m d n k : ℕ) → n ≡ d + m → choose m k ≤ choose n k
more_by m zero n k e = let same : n ≡ m = omega (arith, e) in rw same (omega arith)
more_by m (suc d) zero k e = absurd (omega (arith, e))
more_by m (suc d) (suc n) k e = omega (arith, more_by m d n k (omega arith), choose-next_row n k)

pub choose-more : (m n k : ℕ) → m ≤ n → choose m k ≤ choose n k
choose-more m n k h = more_by m (n - m) n k (omega arith)

pub choose-one : (n : ℕ) → choose n 1 ≡ n
unfolding choose
choose-one n = omega (arith, choose-step n 0)

sign_by : (a b : ℕ) → b % 2 ≡ suc a % 2 →
    cond (nat_eq (b % 2) 0) (pos 1) (negsuc 0) ≡ neg_ℤ (cond (nat_eq (a % 2) 0) (pos 1) (negsuc 0))
sign_by a b e = grind (arith, nat_tests, ints)

pub power_sign-next : (k : ℕ) → power_sign (suc k) ≡ neg_ℤ (power_sign k)
power_sign-next k = sign_by k (suc k) refl

-- a product with one of the two signs
square_by : (s : ℤ) → ((s ≡ pos 1) ⊎ (s ≡ negsuc 0)) → s *ℤ s ≡ pos 1
square_by s (inl e) = rw e refl
square_by s (inr e) = rw e refl

sign_is : (b : Bool) → (cond b (pos 1) (negsuc 0) ≡ pos 1) ⊎ (cond b (pos 1) (negsuc 0) ≡ negsuc 0)
sign_is true = inl refl
sign_is false = inr refl

size_of_sign : (b : Bool) → unsigned_abs (cond b (pos 1) (negsuc 0)) ≡ 1
size_of_sign true = refl
size_of_sign false = refl

pub power_sign-size : (k : ℕ) (z : ℤ) → unsigned_abs (power_sign k *ℤ z) ≡ unsigned_abs z
power_sign-size k z =
    let one : unsigned_abs (power_sign k) ≡ 1 = size_of_sign (nat_eq (k % 2) 0) in
    unsigned_abs-mul (power_sign k) z ∙ (ap (λ n. n * unsigned_abs z) one ∙ omega arith)

pub power_sign-square : (k : ℕ) → power_sign k *ℤ power_sign k ≡ pos 1
power_sign-square k = square_by (power_sign k) (sign_is (nat_eq (k % 2) 0))

pub power_sign-same : (j k : ℕ) → j % 2 ≡ k % 2 → power_sign j ≡ power_sign k
power_sign-same j k e = ap (λ r. cond (nat_eq r 0) (pos 1) (negsuc 0)) e

-- the product of the two signs in front is 1
pub twice_signed : (s z : ℤ) → s *ℤ s ≡ pos 1 → s *ℤ (s *ℤ z) ≡ z
twice_signed s z e = sym (mul-mul s s z) ∙ rw e (one-mul z)

pub power_at-negsuc : (n k : ℕ) → power_at (negsuc n) k ≡ pos (choose (n + k) k)
unfolding power_at binomial
power_at-negsuc n k = twice_signed (power_sign k) (pos (choose (n + k) k)) (power_sign-square k)

pub power_at-zero : (e : ℤ) → power_at e 0 ≡ pos 1
unfolding power_at binomial choose
power_at-zero (pos n) = refl
power_at-zero (negsuc n) = refl

pub power_at-one : (e : ℤ) → power_at e 1 ≡ neg_ℤ e
unfolding power_at binomial choose
power_at-one (pos n) = omega (arith, ints, choose-one n)
power_at-one (negsuc n) = power_at-negsuc n 1 ∙ omega (arith, ints, choose-one (n + 1))

-- (k + 1) times the next coefficient, where s is the sign, c and d the binomial coefficients
next_by : (s : ℤ) (n k c d : ℕ) → suc k * d + k * c ≡ n * c →
    pos (suc k) *ℤ (neg_ℤ s *ℤ pos d) ≡ (pos k -ℤ pos n) *ℤ (s *ℤ pos c)
next_by s n k c d e =
    let here : pos (suc k) *ℤ pos d ≡ neg_ℤ ((pos k -ℤ pos n) *ℤ pos c) = omega (arith, ints, sub-mul (pos k) (pos n) (pos c)) in
    neg-pull s (pos (suc k)) (pos d) ∙ (rw here (omega (arith, ints, mul-neg s ((pos k -ℤ pos n) *ℤ pos c), mul-middle (pos k -ℤ pos n) s (pos c))))

next_above : (n k : ℕ) → pos (suc k) *ℤ pos (choose (n + suc k) (suc k)) ≡ (pos k -ℤ negsuc n) *ℤ pos (choose (n + k) k)
next_above n k =
    let up : n + suc k ≡ suc (n + k) = omega arith in
    rw up (omega (arith, ints, choose-next (n + k) k))

pub power_at-next : (e : ℤ) (k : ℕ) → pos (suc k) *ℤ power_at e (suc k) ≡ (pos k -ℤ e) *ℤ power_at e k
unfolding power_at binomial
power_at-next (pos n) k = rw (power_sign-next k) (next_by (power_sign k) n k (choose n k) (choose n (suc k)) (choose-step n k))
power_at-next (negsuc n) k = rw (power_at-negsuc n (suc k), power_at-negsuc n k) (next_above n k)

pub power_sign-add : (j k : ℕ) → power_sign (j + k) ≡ power_sign j *ℤ power_sign k
power_sign-add zero k = let none : 0 + k ≡ k = omega arith in ap power_sign none ∙ sym (one-mul (power_sign k))
power_sign-add (suc j) k =
    let up : suc j + k ≡ suc (j + k) = omega arith in
    ap power_sign up ∙ (power_sign-next (j + k) ∙ (ap neg_ℤ (power_sign-add j k) ∙ (sym (neg-mul (power_sign j) (power_sign k)) ∙ ap (λ s. s *ℤ power_sign k) (sym (power_sign-next j)))))

size-parity : (n m d : ℤ) → d ≡ n -ℤ m → unsigned_abs n % 2 ≡ (unsigned_abs d + unsigned_abs m) % 2
size-parity (pos n) (pos m) (pos d) e = omega (arith, ints)
size-parity (pos n) (pos m) (negsuc d) e = omega (arith, ints)
size-parity (pos n) (negsuc m) (pos d) e = omega (arith, ints)
size-parity (pos n) (negsuc m) (negsuc d) e = absurd (omega (arith, ints))
size-parity (negsuc n) (pos m) (pos d) e = absurd (omega (arith, ints))
size-parity (negsuc n) (pos m) (negsuc d) e = omega (arith, ints)
size-parity (negsuc n) (negsuc m) (pos d) e = omega (arith, ints)
size-parity (negsuc n) (negsuc m) (negsuc d) e = omega (arith, ints)

-- the sign of a power is the product of those of its parts
pub power_sign-split : (n m : ℤ) →
    power_sign (unsigned_abs n) ≡ power_sign (unsigned_abs (n -ℤ m)) *ℤ power_sign (unsigned_abs m)
power_sign-split n m =
    power_sign-same (unsigned_abs n) (unsigned_abs (n -ℤ m) + unsigned_abs m) (size-parity n m (n -ℤ m) refl) ∙
    power_sign-add (unsigned_abs (n -ℤ m)) (unsigned_abs m)
