-- The quotient of a series by itself is 1 at exponent 0, and 0 elsewhere.
use Rattle.std.proofs.Common.{◌≡◌, ℕ, zero, suc, ◌-◌, refl, sym, ap, ◌∙◌, arith}
use Rattle.std.specs.Prelude.{ℤ, pos, negsuc, ◌+ℤ◌, ◌*ℤ◌, ◌≤ℤ◌, ◌<ℤ◌}
use Rattle.std.proofs.lemmas.Int.{ints, by_lt_z}
use Rattle.tv_ring.specs.Whole.{wholes}
use Rattle.tv_ring.specs.WholeLaws.{whole_laws}
use Rattle.tv_ring.specs.Sums.{term, convolution}
use Rattle.tv_ring.proofs.Sums.{sum-nought}
use Rattle.tv_ring.proofs.Products.{term_is, convolution_comm}
use Rattle.tv_laws_series.specs.Terms.{above}
use Rattle.tv_laws_series.specs.Quotients.{owed}
use Rattle.tv_laws_series.proofs.Exponents.{above_adds}
use Rattle.tv_laws_series.proofs.Quotients.{owed_is}
use Rattle.tv_spec_series.specs.Reduced.{product_at, BeginsAt, IsQuotient}
use Rattle.tv_spec_series.proofs.Products.{from, product-below, product-at}
use Rattle.tv_laws_families.proofs.Products.{convolution-last}

abbrev pub one_at : ℤ → ℤ
one_at (pos zero) = pos 1
one_at (pos (suc n)) = pos 0
one_at (negsuc n) = pos 0

times-zero : (x : ℤ) → x *ℤ pos 0 ≡ pos 0
times-zero x = omega (arith, ints)

-- one, and then noughts
convolution-one : (f g : ℕ → ℤ) (k : ℕ) → f 0 ≡ pos 1 → ((i : ℕ) → f (suc i) ≡ pos 0) → convolution wholes f g k ≡ g k
convolution-one f g k one none =
    let owed_none : owed wholes g f k ≡ pos 0 = owed_is wholes g f k ∙ sum-nought whole_laws (term wholes g f k) k (λ i h.
    let later : k - i ≡ suc (k - i - 1) = omega arith in
    term_is wholes g f k i ∙ (ap (λ j. g i *ℤ f j) later ∙ (ap (λ x. g i *ℤ x) (none (k - i - 1)) ∙ times-zero (g i)))) in
    let last : g k *ℤ f 0 ≡ g k = ap (λ x. g k *ℤ x) one ∙ omega (arith, ints) in
    convolution_comm whole_laws f g k (λ i. tt) (λ i. tt) ∙ (convolution-last g f k ∙ omega (arith, ints))

one-later : (i : ℕ) → from one_at (pos 0) (suc i) ≡ pos 0
one-later i = let e : pos 0 +ℤ pos (suc i) ≡ pos (suc i) = omega (arith, ints) in ap one_at e

pub one_is_quotient : (n : ℤ) (g : ℤ → ℤ) (first : ℤ) → BeginsAt first g → IsQuotient n g g one_at
one_is_quotient n g first begins = record {
  low = pos 0;
  first = first;
  none = below;
  begins = begins;
  product = λ m h. by_lt_z m first
      (λ early. product-below (pos 0) first one_at g m (omega (arith, ints)) ∙ sym (begins.none m early))
      (λ reached. let e : first +ℤ pos (above first m) ≡ m = above_adds first m reached in
      let at : (pos 0 +ℤ first) +ℤ pos (above first m) ≡ m = omega (arith, ints) in
      ap (product_at (pos 0) first one_at g) (sym at)
      ∙ (product-at (pos 0) first one_at g (above first m)
      ∙ (convolution-one (from one_at (pos 0)) (from g first) (above first m) refl one-later ∙ ap g e)));
}
  where
    below : (m : ℤ) → m <ℤ pos 0 → one_at m ≡ pos 0
    below (pos m) h = absurd (omega (arith, ints))
    below (negsuc m) h = refl
