-- The ring of the integers, by pairs of naturals: an equation between sums and products holds if it holds of the
-- naturals that its integers are differences of.
--
-- diff m n   == m - n
-- diff_of z  == naturals whose difference is z
use Rattle.std.specs.Prelude.{◌≡◌, ℕ, suc, ◌+◌, ◌*◌, ℤ, pos, negsuc, ◌+ℤ◌, ◌-ℤ◌, ◌*ℤ◌, neg_ℤ}
use Rattle.std.proofs.Common.{refl, arith}
use Rattle.std.proofs.lemmas.Int.{ints}

unfoldable pub diff : ℕ → ℕ → ℤ
diff m n = pos m -ℤ pos n

pub diff_of : (z : ℤ) → (m : ℕ) × (n : ℕ) × (z ≡ diff m n)
unfolding diff
diff_of (pos m) = (m, 0, omega (arith, ints))
diff_of (negsuc n) = (0, suc n, omega (arith, ints))

pub diff-pos : (m : ℕ) → pos m ≡ diff m 0
unfolding diff
diff-pos m = omega (arith, ints)

pub diff-add : (a b c d : ℕ) → diff a b +ℤ diff c d ≡ diff (a + c) (b + d)
unfolding diff
diff-add a b c d = omega (arith, ints)

pub diff-neg : (a b : ℕ) → neg_ℤ (diff a b) ≡ diff b a
unfolding diff
diff-neg a b = omega (arith, ints)

pub diff-same : (a b c d : ℕ) → a + d ≡ c + b → diff a b ≡ diff c d
unfolding diff
diff-same a b c d e = omega (arith, ints)

-- a factor is a natural or the negative of one
diff-mul_at : (a b c d : ℕ) (y z : ℤ) → y ≡ diff a b → z ≡ diff c d → y *ℤ z ≡ diff (a * c + b * d) (a * d + b * c)
unfolding diff
diff-mul_at a b c d (pos m) (pos n) e f =
    let p : a ≡ b + m = omega (arith, ints) in
    let q : c ≡ d + n = omega (arith, ints) in
    rw (p, q) (omega (arith, ints))
diff-mul_at a b c d (pos m) (negsuc n) e f =
    let p : a ≡ b + m = omega (arith, ints) in
    let q : d ≡ c + suc n = omega (arith, ints) in
    rw (p, q) (omega (arith, ints))
diff-mul_at a b c d (negsuc m) (pos n) e f =
    let p : b ≡ a + suc m = omega (arith, ints) in
    let q : c ≡ d + n = omega (arith, ints) in
    rw (p, q) (omega (arith, ints))
diff-mul_at a b c d (negsuc m) (negsuc n) e f =
    let p : b ≡ a + suc m = omega (arith, ints) in
    let q : d ≡ c + suc n = omega (arith, ints) in
    rw (p, q) (omega (arith, ints))

pub diff-mul : (a b c d : ℕ) → diff a b *ℤ diff c d ≡ diff (a * c + b * d) (a * d + b * c)
diff-mul a b c d = diff-mul_at a b c d (diff a b) (diff c d) refl refl

-- with a goal over integers z, rewritten by (diff_of z).2 for each of them:
-- rw ((diff_of y).2, (diff_of z).2) (simp diffs (diff-same _ _ _ _ (omega arith)))
pub ruleset diffs = (diff-add, diff-neg, diff-mul)

pub mul-sub : (a b c : ℤ) → a *ℤ (b -ℤ c) ≡ (a *ℤ b) -ℤ (a *ℤ c)
mul-sub a b c =
    let r = diff_of a in let s = diff_of b in let t = diff_of c in
    rw (r.2, s.2, t.2) (simp diffs (diff-same _ _ _ _ (omega arith)))

pub sub-mul : (a b c : ℤ) → (a -ℤ b) *ℤ c ≡ (a *ℤ c) -ℤ (b *ℤ c)
sub-mul a b c =
    let r = diff_of a in let s = diff_of b in let t = diff_of c in
    rw (r.2, s.2, t.2) (simp diffs (diff-same _ _ _ _ (omega arith)))

pub mul-swap : (a b : ℤ) → a *ℤ b ≡ b *ℤ a
mul-swap a b =
    let r = diff_of a in let s = diff_of b in
    rw (r.2, s.2) (simp diffs (diff-same _ _ _ _ (omega arith)))

pub mul-add : (a b c : ℤ) → a *ℤ (b +ℤ c) ≡ (a *ℤ b) +ℤ (a *ℤ c)
mul-add a b c =
    let r = diff_of a in let s = diff_of b in let t = diff_of c in
    rw (r.2, s.2, t.2) (simp diffs (diff-same _ _ _ _ (omega arith)))

pub neg-mul : (a b : ℤ) → neg_ℤ a *ℤ b ≡ neg_ℤ (a *ℤ b)
neg-mul a b =
    let r = diff_of a in let s = diff_of b in
    rw (r.2, s.2) (simp diffs (diff-same _ _ _ _ (omega arith)))
