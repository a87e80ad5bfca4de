-- The length of a list whose pieces are made number by number is the sum of theirs.
use Rattle.std.specs.Prelude.{◌≡◌, ℕ, zero, suc, ◌+◌, List, length}
use Rattle.std.specs.List.{flat_map, range_with_len}
use Rattle.std.proofs.Common.{sym, ap, ◌∙◌, arith, length-append}
use Rattle.tv_ring.specs.Sums.{total_below}
use Rattle.tv_ring.proofs.Sums.{total_below-none, total_below-same}
use Rattle.tv_laws_counts.proofs.Convolutions.{after_first, total_below-front}

pub length-numbered : {A : Type 0} (f : ℕ → List A) (k n : ℕ) → length (flat_map f (range_with_len k n)) ≡ total_below (λ i. length (f (k + i))) n
length-numbered f k zero = sym (total_below-none (λ i. length (f (k + i))))
length-numbered f k (suc n) =
    length-append (f k) (flat_map f (range_with_len (k + 1) n))
    ∙ (ap (λ s. length (f k) + s) (length-numbered f (k + 1) n ∙ total_below-same (λ i. length (f ((k + 1) + i))) (after_first (λ i. length (f (k + i)))) n (λ i h. ap (λ j. length (f j)) (omega arith)))
    ∙ (ap (λ j. length (f j) + total_below (after_first (λ i. length (f (k + i)))) n) (omega arith)
    ∙ sym (total_below-front (λ i. length (f (k + i))) n)))
