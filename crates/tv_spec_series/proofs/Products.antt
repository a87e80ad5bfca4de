-- The sum of a product's coefficient is the convolution of the two sequences of coefficients.
--
-- from f m k == f at the exponent m + k
use Rattle.std.proofs.Common.{◌≡◌, ℕ, zero, suc, ◌+◌, ◌-◌, ◌<◌, ◌≤◌, refl, sym, ap, ◌∙◌, arith}
use Rattle.std.specs.Prelude.{ℤ, pos, negsuc, ◌+ℤ◌, ◌-ℤ◌, ◌*ℤ◌, ◌≤ℤ◌, ◌<ℤ◌, unsigned_abs, ◌*◌}
use Rattle.std.specs.List.{range_with_len}
use Rattle.std.proofs.lemmas.Int.{ints}
use Rattle.tv_lemmas.specs.Naturals.{as_natural}
use Rattle.tv_lemmas.specs.Sums.{total, sum_of}
use Rattle.tv_ring.specs.Whole.{wholes}
use Rattle.tv_ring.specs.Sums.{sum_below, term, convolution, total_below}
use Rattle.tv_ring.proofs.Sums.{sum_below-none, sum_below-more, sum_below-same, total_below-none, total_below-more}
use Rattle.tv_ring.proofs.Products.{term_is, convolution_is}
use Rattle.tv_laws_series.specs.Terms.{above}
use Rattle.tv_spec_plane.specs.Web.{below}
use Rattle.tv_spec_series.specs.Reduced.{product_at, quotient_size}
use Rattle.tv_lemmas.proofs.Naturals.{as_natural-none}

abbrev pub from : (ℤ → ℤ) → ℤ → ℕ → ℤ
from f m k = f (m +ℤ pos k)

-- ---- sums over a range from its last term on

total-last : (f : ℕ → ℤ) (k n : ℕ) → total f (range_with_len k (suc n)) ≡ total f (range_with_len k n) +ℤ f (k + n)
total-last f k zero =
    let e : f k ≡ f (k + 0) = ap f (omega arith) in
    omega (arith, ints)
total-last f k (suc n) =
    let rest = total-last f (k + 1) n in
    let e : f ((k + 1) + n) ≡ f (k + suc n) = ap f (omega arith) in
    omega (arith, ints)

total-below : (f : ℕ → ℤ) (n : ℕ) → total f (below n) ≡ sum_below wholes f n
total-below f zero = sym (sum_below-none wholes f)
total-below f (suc n) =
    let last : total f (below (suc n)) ≡ total f (below n) +ℤ f (0 + n) = total-last f 0 n in
    let e : f (0 + n) ≡ f n = ap f (omega arith) in
    last ∙ (ap (λ s. total f (below n) +ℤ s) e ∙ (ap (λ s. s +ℤ f n) (total-below f n) ∙ sym (sum_below-more wholes f n)))

sum_of-last : (f : ℕ → ℕ) (k n : ℕ) → sum_of f (range_with_len k (suc n)) ≡ sum_of f (range_with_len k n) + f (k + n)
sum_of-last f k zero =
    let e : f k ≡ f (k + 0) = ap f (omega arith) in
    omega arith
sum_of-last f k (suc n) =
    let rest = sum_of-last f (k + 1) n in
    let e : f ((k + 1) + n) ≡ f (k + suc n) = ap f (omega arith) in
    omega arith

sum_of-below : (f : ℕ → ℕ) (n : ℕ) → sum_of f (below n) ≡ total_below f n
sum_of-below f zero = sym (total_below-none f)
sum_of-below f (suc n) =
    let last : sum_of f (below (suc n)) ≡ sum_of f (below n) + f (0 + n) = sum_of-last f 0 n in
    let e : f (0 + n) ≡ f n = ap f (omega arith) in
    last ∙ (ap (λ s. sum_of f (below n) + s) e ∙ (ap (λ s. s + f n) (sum_of-below f n) ∙ sym (total_below-more f n)))

-- ---- the product

as_natural-above : (low n : ℤ) → as_natural (n -ℤ low) ≡ above low n
unfolding above
as_natural-above low n = refl

-- a term of the sum
abbrev piece : ℤ → (ℤ → ℤ) → (ℤ → ℤ) → ℤ → ℕ → ℤ
piece low f g n k = f (low +ℤ pos k) *ℤ g ((n -ℤ low) -ℤ pos k)

pub product-below : (low first : ℤ) (f g : ℤ → ℤ) (n : ℤ) → n <ℤ (low +ℤ first) → product_at low first f g n ≡ pos 0
unfolding product_at
product-below low first f g n h =
    let none : as_natural (((n -ℤ low) -ℤ first) +ℤ pos 1) ≡ 0 = as_natural-none (((n -ℤ low) -ℤ first) +ℤ pos 1) (omega (arith, ints)) in
    ap (λ i. total (piece low f g n) (below i)) none

pub product-at : (low first : ℤ) (f g : ℤ → ℤ) (k : ℕ) → product_at low first f g ((low +ℤ first) +ℤ pos k) ≡ convolution wholes (from f low) (from g first) k
unfolding product_at
product-at low first f g k =
    let n : ℤ = (low +ℤ first) +ℤ pos k in
    let many : as_natural (((n -ℤ low) -ℤ first) +ℤ pos 1) ≡ suc k = ap as_natural (let e : ((n -ℤ low) -ℤ first) +ℤ pos 1 ≡ pos (suc k) = omega (arith, ints) in e) in
    let terms : (i : ℕ) → i < suc k → piece low f g n i ≡ term wholes (from f low) (from g first) k i = λ i h.
    (let e : (n -ℤ low) -ℤ pos i ≡ first +ℤ pos (k - i) = omega (arith, ints) in
    ap (λ (x : ℤ). f (low +ℤ pos i) *ℤ g x) e ∙ sym (term_is wholes (from f low) (from g first) k i)) in
    ap (λ i. total (piece low f g n) (below i)) many
    ∙ (total-below (piece low f g n) (suc k)
    ∙ (sum_below-same wholes (piece low f g n) (term wholes (from f low) (from g first) k) (suc k) terms
    ∙ sym (convolution_is wholes (from f low) (from g first) k)))

-- ---- the size of a step of a division

pub quotient_size_is : (z g f : ℤ → ℤ) (low first m : ℤ) → quotient_size z g f low first m ≡ unsigned_abs (z (first +ℤ m)) + total_below (λ j. unsigned_abs (g (first +ℤ pos (suc j))) * unsigned_abs (f (m -ℤ pos (suc j)))) (above low m)
unfolding quotient_size
quotient_size_is z g f low first m =
    ap (λ s. unsigned_abs (z (first +ℤ m)) + s)
    (sum_of-below (λ j. unsigned_abs (g (first +ℤ pos (suc j))) * unsigned_abs (f (m -ℤ pos (suc j)))) (as_natural (m -ℤ low))
    ∙ ap (total_below (λ j. unsigned_abs (g (first +ℤ pos (suc j))) * unsigned_abs (f (m -ℤ pos (suc j))))) (as_natural-above low m))
