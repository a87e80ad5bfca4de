-- Remainders of sums.
use Rattle.std.proofs.Common.{◌≡◌, ℕ, ◌+◌, ◌-◌, ◌*◌, ◌<◌, ◌%◌, ◌/◌, ℤ, pos, negsuc, ◌+ℤ◌, List, ◌∷◌, drop, length, get_or, refl, sym, ap, ◌∙◌, arith, subst, unsigned_abs}
use Rattle.std.specs.Int.{int_rem_euclid}
use Rattle.std.proofs.Math.Nat.{div-add-mod}
use Rattle.std.proofs.lemmas.Int.{ints}
use Rattle.tv_reports.proofs.Printing.{drop_next}
use Rattle.tv_reports.specs.Sums.{IsRemainder}

pub zero_remainder : IsRemainder 0 (pos 0)
zero_remainder = record { least = omega arith; multiple = pos 0; same = refl }

added : (a b q r : ℕ) (x y : ℤ) → 1000000007 * q + r ≡ a + b → r < 1000000007 → IsRemainder a x → IsRemainder b y → IsRemainder r (x +ℤ y)
added a b q r x y e l p s =
    let first = p.same in
    let second = s.same in
    record { least = l; multiple = (p.multiple +ℤ s.multiple) +ℤ pos q; same = omega (arith, ints) }

pub remainder-add : (a b : ℕ) (x y : ℤ) → IsRemainder a x → IsRemainder b y → IsRemainder ((a + b) % 1000000007) (x +ℤ y)
remainder-add a b x y p s = added a b ((a + b) / 1000000007) ((a + b) % 1000000007) x y (div-add-mod (a + b) 1000000007) (omega arith) p s

natural_remainder : (a q r : ℕ) → 1000000007 * q + r ≡ a → r < 1000000007 → IsRemainder r (pos a)
natural_remainder a q r e l = record { least = l; multiple = pos q; same = omega (arith, ints) }

negative_remainder : (a q r n : ℕ) → 1000000007 * q + r ≡ a → r < 1000000007 → n + r + 1 ≡ 1000000007 → IsRemainder n (negsuc a)
negative_remainder a q r n e l s = record { least = omega arith; multiple = negsuc q; same = omega (arith, ints) }

natural_of : (z : ℤ) (n : ℕ) → pos n ≡ int_rem_euclid z (pos 1000000007) → IsRemainder n z
natural_of (pos a) n e =
    let same : n ≡ a % 1000000007 = omega (arith, ints) in
    subst (λ k. IsRemainder k (pos a)) (sym same) (natural_remainder a (a / 1000000007) (a % 1000000007) (div-add-mod a 1000000007) (omega arith))
natural_of (negsuc a) n e =
    let less : a % 1000000007 < 1000000007 = omega arith in
    let same : n ≡ 1000000007 - 1 - a % 1000000007 = omega (arith, ints) in
    negative_remainder a (a / 1000000007) (a % 1000000007) n (div-add-mod a 1000000007) less (omega arith)

least_natural : (z : ℤ) → pos (unsigned_abs (int_rem_euclid z (pos 1000000007))) ≡ int_rem_euclid z (pos 1000000007)
least_natural (pos a) = refl
least_natural (negsuc a) = refl

pub euclid_remainder : (z r : ℤ) → r ≡ int_rem_euclid z (pos 1000000007) → IsRemainder (unsigned_abs r) z
euclid_remainder z r e = rw e (natural_of z (unsigned_abs (int_rem_euclid z (pos 1000000007))) (least_natural z))

-- a remainder of what was summed, and what is left to be summed
pub record IsSummed {A : Type 0} (f : List A → ℤ) (xs : List A) (i n : ℕ) : Type 0 where
  pub done : ℤ
  pub remainder : IsRemainder n done
  pub left : done +ℤ f (drop i xs) ≡ f xs

pub summed_none : {A : Type 0} (f : List A → ℤ) (xs : List A) → IsSummed f xs 0 0
summed_none f xs = record { done = pos 0; remainder = zero_remainder; left = omega (arith, ints) }

pub summed_one : {A : Type 0} (f : List A → ℤ) (g : A → ℤ) → ((x : A) (rest : List A) → f (x ∷ rest) ≡ g x +ℤ f rest)
    → (xs : List A) (i n k : ℕ) (x : A) → i < length xs → x ≡ get_or xs i x → IsRemainder k (g x) → IsSummed f xs i n → IsSummed f xs (i + 1) ((n + k) % 1000000007)
summed_one f g step xs i n k x h e r s =
    let first : f (drop i xs) ≡ g x +ℤ f (drop (i + 1) xs) = ap f (drop_next xs i x h ∙ ap (λ y. y ∷ drop (i + 1) xs) (sym e)) ∙ step x (drop (i + 1) xs) in
    let before = s.left in
    record { done = s.done +ℤ g x; remainder = remainder-add n k s.done (g x) s.remainder r; left = omega (arith, ints) }
