-- A test of all numbers below one.
use Rattle.std.proofs.Common.{◌≡◌, ℕ, zero, suc, ◌+◌, ◌<◌, Bool, true, false, refl, ap, ◌∙◌, arith, inl, inr}
use Rattle.std.proofs.lemmas.Bool.{cases_eq, cases_Bool}
use Rattle.tv_spec_slices.specs.Slices.{all_below}
use Rattle.tv_lemmas.proofs.Tests.{and-left, and-right}

pub all-at : (n : ℕ) (test : ℕ → Bool) → all_below n test ≡ true → (i : ℕ) → i < n → test i ≡ true
all-at zero test h i l = absurd (omega arith)
all-at (suc n) test h i l = elim (cases_eq i n) [
  | inl e ↦ ap test e ∙ and-right (all_below n test) (test n) h
  | inr ne ↦ all-at n test (and-left (all_below n test) (test n) h) i (omega (arith, ne))
]

pub all-fails : (n : ℕ) (test : ℕ → Bool) (i : ℕ) → i < n → test i ≡ false → all_below n test ≡ false
all-fails n test i l off = elim (cases_Bool (all_below n test)) [
  | inl on ↦ let here = all-at n test on i l in absurd (cc)
  | inr none ↦ none
]

pub all-next : (n : ℕ) (test : ℕ → Bool) → all_below n test ≡ true → test n ≡ true → all_below (n + 1) test ≡ true
all-next n test below here = let e : n + 1 ≡ suc n = omega arith in rw e (rw (below, here) refl)
