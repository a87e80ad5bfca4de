-- Products of whole numbers.
--
-- mul-mul      a product of three; mul-middle, with the first two exchanged; product-pairs, two products of two
-- add-mul      a sum in front; mul-neg, an opposite behind; neg-pull, one in the middle
-- one-mul      1 in front; mul-one, 1 behind; suc-times, k + 1 in front
use Rattle.std.specs.Prelude.{◌≡◌, ℕ, suc, ℤ, pos, ◌+ℤ◌, ◌*ℤ◌, neg_ℤ}
use Rattle.std.proofs.Common.{sym, ap, arith, ◌∙◌}
use Rattle.std.proofs.Math.IntN.{one, *ℤ-one}
use Rattle.std.proofs.lemmas.Int.{ints}
use Rattle.tv_lemmas.proofs.Integers.{diff_of, diffs, diff-same, mul-swap}

pub mul-mul : (a b c : ℤ) → (a *ℤ b) *ℤ c ≡ a *ℤ (b *ℤ c)
mul-mul a b c =
    let r = diff_of a in let s = diff_of b in let t = diff_of c in
    rw (r.2, s.2, t.2) (simp diffs (diff-same _ _ _ _ (omega arith)))

pub mul-middle : (a b c : ℤ) → a *ℤ (b *ℤ c) ≡ b *ℤ (a *ℤ c)
mul-middle a b c =
    let r = diff_of a in let s = diff_of b in let t = diff_of c in
    rw (r.2, s.2, t.2) (simp diffs (diff-same _ _ _ _ (omega arith)))

pub product-pairs : (a b c d : ℤ) → (a *ℤ b) *ℤ (c *ℤ d) ≡ (a *ℤ c) *ℤ (b *ℤ d)
product-pairs a b c d = mul-mul a b (c *ℤ d) ∙ (ap (λ z. a *ℤ z) (mul-middle b c d) ∙ sym (mul-mul a c (b *ℤ d)))

pub add-mul : (a b c : ℤ) → (a +ℤ b) *ℤ c ≡ (a *ℤ c) +ℤ (b *ℤ c)
add-mul a b c =
    let r = diff_of a in let s = diff_of b in let t = diff_of c in
    rw (r.2, s.2, t.2) (simp diffs (diff-same _ _ _ _ (omega arith)))

pub mul-neg : (a b : ℤ) → a *ℤ neg_ℤ b ≡ neg_ℤ (a *ℤ b)
mul-neg a b =
    let r = diff_of a in let s = diff_of b in
    rw (r.2, s.2) (simp diffs (diff-same _ _ _ _ (omega arith)))

pub neg-pull : (s x d : ℤ) → x *ℤ (neg_ℤ s *ℤ d) ≡ neg_ℤ (s *ℤ (x *ℤ d))
neg-pull s x d =
    let r = diff_of s in let t = diff_of x in let u = diff_of d in
    rw (r.2, t.2, u.2) (simp diffs (diff-same _ _ _ _ (omega arith)))

pub mul-one : (z : ℤ) → z *ℤ pos 1 ≡ z
unfolding one
mul-one z = *ℤ-one z

pub one-mul : (z : ℤ) → pos 1 *ℤ z ≡ z
one-mul z = mul-swap (pos 1) z ∙ mul-one z

pub suc-times : (k : ℕ) (z : ℤ) → pos (suc k) *ℤ z ≡ z +ℤ (pos k *ℤ z)
suc-times k z =
    let more : pos (suc k) ≡ pos 1 +ℤ pos k = omega (arith, ints) in
    rw more (add-mul (pos 1) (pos k) z ∙ ap (λ y. y +ℤ (pos k *ℤ z)) (one-mul z))
