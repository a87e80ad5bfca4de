-- In a ring the multiples of one by counts convolve as the counts do.
use Rattle.std.specs.Prelude.{◌≡◌, ℕ, zero, suc, ◌-◌}
use Rattle.std.proofs.Common.{refl, sym, ap, ◌∙◌}
use Rattle.tv_ring.specs.Operations.{Operations, RingLaws}
use Rattle.tv_ring.specs.Sums.{sum_below, term, convolution, total_below, times}
use Rattle.tv_ring.proofs.Sums.{sum_below-none, sum_below-more, sum_below-same, total_below-none, total_below-more}
use Rattle.tv_ring.proofs.Products.{term_is, convolution_is}
use Rattle.tv_ring.proofs.Times.{times-none, times-add, times-mul}
use Rattle.tv_laws_counts.specs.Ways.{split, convolved}
use Rattle.tv_laws_counts.proofs.Convolutions.{split_is, convolved_is}

abbrev pub multiples : {A : Type 0} → Operations A → (ℕ → ℕ) → ℕ → A
multiples r c i = times r (c i)

module _ {A : Type 0} {IsValue : A → Type 0} {r : Operations A} (laws : RingLaws IsValue r) where
  pub sum_below-multiples : (c : ℕ → ℕ) (n : ℕ) → sum_below r (multiples r c) n ≡ times r (total_below c n)
  sum_below-multiples c zero = rw (sum_below-none r (multiples r c), total_below-none c) (sym (times-none r))
  sum_below-multiples c (suc n) = rw (sum_below-more r (multiples r c) n, total_below-more c n, times-add laws (total_below c n) (c n), sum_below-multiples c n) refl

  term-multiples : (c f : ℕ → ℕ) (k i : ℕ) → term r (multiples r c) (multiples r f) k i ≡ multiples r (split c f k) i
  term-multiples c f k i = rw (term_is r (multiples r c) (multiples r f) k i, split_is c f k i) (sym (times-mul laws (c i) (f (k - i))))

  pub convolution-multiples : (c f : ℕ → ℕ) (k : ℕ) → convolution r (multiples r c) (multiples r f) k ≡ times r (convolved c f k)
  convolution-multiples c f k =
      convolution_is r (multiples r c) (multiples r f) k
      ∙ (sum_below-same r (term r (multiples r c) (multiples r f) k) (multiples r (split c f k)) (suc k) (λ i h. term-multiples c f k i)
      ∙ (sum_below-multiples (split c f k) (suc k) ∙ ap (times r) (sym (convolved_is c f k))))
