-- Remainders of whole numbers, and the multiples of one among remainders.
use Rattle.std.proofs.Common.{◌≡◌, ℕ, zero, suc, ◌+◌, ◌-◌, ◌*◌, ◌<◌, ◌≤◌, ◌%◌, ◌/◌, pos, negsuc, ◌*ℤ◌, neg_ℤ, refl, sym, ap, ◌∙◌, arith, mod-eq_of_lt}
use Rattle.std.proofs.Math.Nat.{mod_self, zero-mod, mod-add-mod, add-mod-mod}
use Rattle.std.proofs.Math.IntN.{negsuc-*ℤ-pos}
use Rattle.std.proofs.lemmas.Nat.{mod_below, div-add-mod'}
use Rattle.std.proofs.lemmas.Int.{ints}
use Rattle.tv_lemmas.proofs.Integers.{neg-mul}
use Rattle.tv_ring.specs.Sums.{times}
use Rattle.tv_ring.specs.Residue.{modulus, residues}
use Rattle.tv_ring.proofs.Times.{times-none, times-more, whole_times-pos, whole_times-negsuc}
use Rattle.tv_reports.specs.LeastRemainders.{IsLeastRemainder, RemainderIsLeast, TimesOfResidues}

-- a number below 0, by the quotient and the remainder of its absolute value
divided_evenly : (m n q : ℕ) → suc n ≡ q * m + 0 → 1 ≤ m → IsLeastRemainder m (m % m) (negsuc n)
divided_evenly m n q e h =
    let none : m % m ≡ 0 = mod_self m in
    let product : neg_ℤ (pos q) *ℤ pos m ≡ neg_ℤ (pos (q * m)) = neg-mul (pos q) (pos m) in
    record { least = omega arith; multiple = neg_ℤ (pos q); same = rw (none, product) (omega (arith, ints)) }

with_rest : (m n q r : ℕ) → suc n ≡ q * m + r → 0 < r → r < m → IsLeastRemainder m ((m - r) % m) (negsuc n)
with_rest m n q r e some less =
    let same : (m - r) % m ≡ m - r = mod-eq_of_lt (omega arith) in
    let product : negsuc q *ℤ pos m ≡ neg_ℤ (pos (suc q * m)) = negsuc-*ℤ-pos q m in
    let more : suc q * m ≡ q * m + m = omega arith in
    rw same (record { least = omega arith; multiple = negsuc q; same = rw (product, more) (omega (arith, ints)) })

below_zero : (m n r : ℕ) → 1 ≤ m → r ≡ suc n % m → IsLeastRemainder m ((m - r) % m) (negsuc n)
below_zero m n zero h e =
    let whole : m - 0 ≡ m = omega arith in
    rw whole (divided_evenly m n (suc n / m) (sym (div-add-mod' (suc n) m) ∙ ap (λ k. suc n / m * m + k) (sym e)) h)
below_zero m n (suc r) h e =
    let less : suc n % m < m = mod_below (suc n) m (omega arith) in
    with_rest m n (suc n / m) (suc r) (sym (div-add-mod' (suc n) m) ∙ ap (λ k. suc n / m * m + k) (sym e)) (omega arith) (omega arith)

pub least_remainder : RemainderIsLeast
least_remainder m (pos n) h =
    let whole : n / m * m + n % m ≡ n = div-add-mod' n m in
    record { least = mod_below n m (omega arith); multiple = pos (n / m); same = omega (arith, ints) }
least_remainder m (negsuc n) h = below_zero m n (suc n % m) h refl

times-residues : (m n : ℕ) → times (residues m) n ≡ n % modulus m
times-residues m zero = times-none (residues m) ∙ sym (zero-mod (modulus m))
times-residues m (suc n) =
    times-more (residues m) n ∙ ap (λ k. (k + 1 % modulus m) % modulus m) (times-residues m n)
    ∙ mod-add-mod n (modulus m) (1 % modulus m) ∙ add-mod-mod n 1 (modulus m) ∙ ap (λ k. k % modulus m) (omega arith)

pub whole_times-residues : TimesOfResidues
whole_times-residues m (pos n) = whole_times-pos (residues m) n ∙ times-residues m n
whole_times-residues m (negsuc n) = whole_times-negsuc (residues m) n ∙ ap (λ k. (modulus m - k) % modulus m) (times-residues m (suc n))
