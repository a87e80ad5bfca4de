-- How far one exponent is above another.
use Rattle.std.proofs.Common.{◌≡◌, ◌+◌, ◌-◌, ℤ, pos, negsuc, ◌+ℤ◌, ◌-ℤ◌, ◌≤ℤ◌, arith, ◌∙◌, refl}
use Rattle.std.proofs.lemmas.Int.{ints}
use Rattle.tv_lemmas.specs.Naturals.{as_natural}
use Rattle.tv_laws_series.specs.Terms.{above}
use borrow.Author.Differences.{up, down}

natural_is : (z : ℤ) → as_natural z ≡ up z - down z
natural_is (pos n) = omega arith
natural_is (negsuc n) = omega arith

above_natural : (m n : ℤ) → above m n ≡ as_natural (n -ℤ m)
unfolding above
above_natural m n = refl

-- as `omega` reads it
pub above_is : (m n : ℤ) → above m n ≡ (up n + down m) - (up m + down n)
above_is m n = above_natural m n ∙ natural_is (n -ℤ m) ∙ omega (arith, ints)

pub above_same : (n : ℤ) → above n n ≡ 0
above_same n = omega (arith, above_is n n)

pub above_adds : (m n : ℤ) → m ≤ℤ n → m +ℤ pos (above m n) ≡ n
above_adds m n h = omega (arith, ints, above_is m n)

pub above_over : (l m n : ℤ) → l ≤ℤ m → m ≤ℤ n → above l m + above m n ≡ above l n
above_over l m n h k = omega (arith, ints, above_is l m, above_is m n, above_is l n)

-- how far sums of exponents are apart
pub above-+ℤ : (l m l' m' : ℤ) → l ≤ℤ m → l' ≤ℤ m' → above (l +ℤ l') (m +ℤ m') ≡ above l m + above l' m'
above-+ℤ l m l' m' h h' = omega (arith, ints, above_is l m, above_is l' m', above_is (l +ℤ l') (m +ℤ m'))
