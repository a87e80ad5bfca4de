-- Quotients without remainder.
--
-- quotient-exact    where a number is a multiple of the divisor, the divisor times the quotient is the number
-- by-one            each number is a multiple of 1
use Rattle.std.specs.Prelude.{◌≡◌, ℕ, zero, suc, ◌*◌, ◌<◌, ◌≤◌, ℤ, pos, negsuc, ◌+ℤ◌, ◌-ℤ◌, ◌*ℤ◌, unsigned_abs, int_div, int_rem}
use Rattle.std.proofs.Common.{refl, sym, ap, arith, ◌∙◌, mul-le-mul_left}
use Rattle.std.proofs.lemmas.Int.{ints, quot-rem, rem_below, unsigned_abs-mul}
use Rattle.tv_lemmas.proofs.Integers.{mul-sub, mul-swap}
use Rattle.tv_lemmas.proofs.Multiplied.{one-mul}
use Rattle.tv_recurrence.specs.Parts.{IsMultiple}

-- a multiple of d that is smaller than d is 0
small-multiple : (d : ℕ) (z : ℤ) → unsigned_abs (pos d *ℤ z) < d → z ≡ pos 0
small-multiple d (pos zero) h = refl
small-multiple d (pos (suc n)) h =
    let more : d * 1 ≤ d * suc n = mul-le-mul_left d (omega arith) in
    absurd (omega (arith, ints, unsigned_abs-mul (pos d) (pos (suc n)), more))
small-multiple d (negsuc n) h =
    let more : d * 1 ≤ d * suc n = mul-le-mul_left d (omega arith) in
    absurd (omega (arith, ints, unsigned_abs-mul (pos d) (negsuc n), more))

pub quotient-exact : (d : ℕ) (a : ℤ) → 0 < d → IsMultiple d a → pos d *ℤ int_div a (pos d) ≡ a
quotient-exact d a h is =
    let q = int_div a (pos d) in
    let parts : (q *ℤ pos d) +ℤ int_rem a (pos d) ≡ a = quot-rem a (pos d) in
    let swap = mul-swap q (pos d) in
    let left : pos d *ℤ (is.quotient -ℤ q) ≡ int_rem a (pos d) =
    omega (arith, ints, mul-sub (pos d) is.quotient q, is.exact, parts, swap) in
    let below = rem_below a (pos d) (omega (arith, ints)) in
    let none = small-multiple d (is.quotient -ℤ q) (rw left (omega (arith, ints, below))) in
    let same : is.quotient ≡ q = omega (arith, ints, none) in
    ap (λ z. pos d *ℤ z) (sym same) ∙ is.exact

pub by-one : (x : ℤ) → IsMultiple 1 x
by-one x = record { quotient = x; exact = one-mul x }
