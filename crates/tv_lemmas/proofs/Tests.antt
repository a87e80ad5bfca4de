-- Tests: what a test that holds tells, and when a test holds.
--
-- and-left, and-right  the parts of a conjunction
-- not-off              what is not false; never, what can't be true
-- eq-on, eq-off        of equal and of different numbers
-- below-on, below-off  of the less of two numbers, and of one that isn't
-- most_tells, most-true  of whole numbers
use Rattle.std.specs.Prelude.{◌≡◌, ℕ, ◌<◌, ◌≤◌, ℤ, ◌≤ℤ◌, int_le, Bool, true, false, not, ◌&&◌, nat_eq, nat_lt}
use Rattle.std.proofs.Common.{refl, arith}
use Rattle.std.proofs.lemmas.Int.{ints}
use Rattle.std.proofs.lemmas.Bool.Decides.{nat_tests}

pub and-left : (p q : Bool) → (p && q) ≡ true → p ≡ true
and-left true q h = refl
and-left false q h = h

pub and-right : (p q : Bool) → (p && q) ≡ true → q ≡ true
and-right true q h = h
and-right false q h = cc

pub not-off : (b : Bool) → not b ≡ false → b ≡ true
not-off true h = refl
not-off false h = cc

pub never : (b : Bool) → (b ≡ true → ⊥) → b ≡ false
never true h = absurd (h refl)
never false h = refl

pub eq-on : (r s : ℕ) → r ≡ s → nat_eq r s ≡ true
eq-on r s h = grind (arith, nat_tests)

pub eq-off : (r s : ℕ) → (r ≡ s → ⊥) → nat_eq r s ≡ false
eq-off r s h = grind (arith, nat_tests)

pub below-on : (t s : ℕ) → t < s → nat_lt t s ≡ true
below-on t s h = grind (arith, nat_tests)

pub below-off : (t s : ℕ) → s ≤ t → nat_lt t s ≡ false
below-off t s h = grind (arith, nat_tests)

pub most_tells : (a b : ℤ) → int_le a b ≡ true → a ≤ℤ b
most_tells a b h = grind (arith, ints)

pub most-true : (a b : ℤ) → a ≤ℤ b → int_le a b ≡ true
most-true a b h = grind (arith, ints)
