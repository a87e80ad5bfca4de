-- Convolutions of sequences of numbers: their first and last terms, their order, and convolutions of lists of them.
use Rattle.std.specs.Prelude.{◌≡◌, ℕ, zero, suc, ◌+◌, ◌-◌, ◌*◌, ◌≤◌, ◌<◌, [], ◌∷◌, ◌++◌}
use Rattle.std.proofs.Common.{refl, sym, ap, ◌∙◌, arith, inl, inr, add-mul}
use Rattle.std.proofs.Math.Nat.{mul-le-mul_left}
use Rattle.std.proofs.lemmas.Bool.{cases_eq}
use Rattle.tv_ring.specs.Sums.{total_below}
use Rattle.tv_ring.proofs.Sums.{total_below-none, total_below-more, total_below-same, total_below-≤}
use Rattle.tv_laws_counts.specs.Ways.{split, convolved, ways}
use Rattle.tv_laws_counts.specs.Laws.{WaysSwap, WaysLast}

-- the sequence from its second term on
abbrev pub after_first : (ℕ → ℕ) → ℕ → ℕ
after_first f i = f (suc i)

pub total_below-front : (f : ℕ → ℕ) (n : ℕ) → total_below f (suc n) ≡ f 0 + total_below (after_first f) n
unfolding total_below
total_below-front f zero = omega arith
total_below-front f (suc n) = let rest = total_below-front f n in omega arith

pub total_below-times : (f : ℕ → ℕ) (s n : ℕ) → total_below (λ i. f i * s) n ≡ total_below f n * s
total_below-times f s zero = rw (total_below-none (λ i. f i * s), total_below-none f) (omega arith)
total_below-times f s (suc n) = rw (total_below-more (λ i. f i * s) n, total_below-more f n, add-mul (total_below f n) (f n) s, total_below-times f s n) refl

pub split_is : (c f : ℕ → ℕ) (n i : ℕ) → split c f n i ≡ c i * f (n - i)
unfolding split
split_is c f n i = refl

pub convolved_is : (c f : ℕ → ℕ) (n : ℕ) → convolved c f n ≡ total_below (split c f n) (suc n)
unfolding convolved
convolved_is c f n = refl

pub convolved-same : (b c f g : ℕ → ℕ) (n : ℕ) → ((i : ℕ) → i ≤ n → b i ≡ c i) → ((i : ℕ) → i ≤ n → f i ≡ g i) → convolved b f n ≡ convolved c g n
unfolding convolved split
convolved-same b c f g n first others = total_below-same (split b f n) (split c g n) (suc n) (λ i h. ap (λ x. x * f (n - i)) (first i (omega arith)) ∙ ap (λ x. c i * x) (others (n - i) (omega arith)))

pub convolved-none : (c f : ℕ → ℕ) → convolved c f 0 ≡ c 0 * f 0
unfolding convolved split total_below
convolved-none c f = omega arith

pub convolved-first : (c f : ℕ → ℕ) (n : ℕ) → convolved c f (suc n) ≡ c 0 * f (suc n) + convolved (after_first c) f n
unfolding convolved split
convolved-first c f n =
    total_below-front (split c f (suc n)) (suc n)
    ∙ ap (λ x. c 0 * f (suc n - 0) + x) (total_below-same (after_first (split c f (suc n))) (split (after_first c) f n) (suc n) (λ i h. ap (λ k. c (suc i) * f k) (omega arith)))
    ∙ ap (λ k. c 0 * f k + convolved (after_first c) f n) (omega arith)

pub convolved-last : (c f : ℕ → ℕ) (n : ℕ) → convolved c f (suc n) ≡ convolved c (after_first f) n + c (suc n) * f 0
unfolding convolved split
convolved-last c f n =
    total_below-more (split c f (suc n)) (suc n)
    ∙ (ap (λ x. x + c (suc n) * f (suc n - suc n)) (total_below-same (split c f (suc n)) (split c (after_first f) n) (suc n) (λ i h. ap (λ k. c i * f k) (omega arith)))
    ∙ ap (λ k. convolved c (after_first f) n + c (suc n) * f k) (omega arith))

pub convolved-swap : (c f : ℕ → ℕ) (n : ℕ) → convolved c f n ≡ convolved f c n
convolved-swap c f zero = convolved-none c f ∙ (omega arith ∙ sym (convolved-none f c))
convolved-swap c f (suc n) =
    let first = convolved-first c f n in let last = convolved-last f c n in let rest = convolved-swap (after_first c) f n in omega arith

convolved-add : (x : ℕ) (b c f : ℕ → ℕ) (n : ℕ) → convolved (λ i. x * b i + c i) f n ≡ x * convolved b f n + convolved c f n
convolved-add x b c f zero = rw (convolved-none (λ i. x * b i + c i) f, convolved-none b f, convolved-none c f) (omega arith)
convolved-add x b c f (suc n) =
    rw (convolved-first (λ i. x * b i + c i) f n, convolved-first b f n, convolved-first c f n, convolved-add x (after_first b) (after_first c) f n) (omega arith)

pub convolved-convolved : (b c f : ℕ → ℕ) (n : ℕ) → convolved (convolved b c) f n ≡ convolved b (convolved c f) n
convolved-convolved b c f zero = rw (convolved-none (convolved b c) f, convolved-none b c, convolved-none b (convolved c f), convolved-none c f) (omega arith)
convolved-convolved b c f (suc n) =
    let later : convolved (after_first (convolved b c)) f n ≡ b 0 * convolved (after_first c) f n + convolved (convolved (after_first b) c) f n =
    convolved-same (after_first (convolved b c)) (λ i. b 0 * after_first c i + convolved (after_first b) c i) f f n (λ i h. convolved-first b c i) (λ i h. refl)
    ∙ convolved-add (b 0) (after_first c) (convolved (after_first b) c) f n in
    rw (convolved-first (convolved b c) f n, later, convolved-none b c, convolved-first b (convolved c f) n, convolved-first c f n, convolved-convolved (after_first b) c f n) (omega arith)

-- the order of the first two counts
pub ways_swap : WaysSwap
unfolding ways
ways_swap b c cs n =
    sym (convolved-convolved b c (ways cs) n)
    ∙ (convolved-same (convolved b c) (convolved c b) (ways cs) (ways cs) n (λ i h. convolved-swap b c i) (λ i h. refl)
    ∙ convolved-convolved c b (ways cs) n)

pub ways_last : WaysLast
unfolding ways
ways_last [] c n = convolved-swap c (ways []) n
ways_last (b ∷ cs) c n =
    convolved-same b b (ways (cs ++ c ∷ [])) (convolved (ways cs) c) n (λ i h. refl) (λ i h. ways_last cs c i)
    ∙ sym (convolved-convolved b (ways cs) c n)

-- a term of a sum
pub total_below-term : (f : ℕ → ℕ) (n i : ℕ) → i < n → f i ≤ total_below f n
total_below-term f zero i h = absurd (omega arith)
total_below-term f (suc n) i h =
    let more = total_below-more f n in elim (cases_eq i n) [
      | inl e ↦ let here : f i ≡ f n = ap f e in omega arith
      | inr ne ↦ let rest = total_below-term f n i (omega (arith, ne)) in omega arith
    ]

pub convolved-≤ : (c f g : ℕ → ℕ) (n : ℕ) → ((i : ℕ) → f i ≤ g i) → convolved c f n ≤ convolved c g n
unfolding convolved split
convolved-≤ c f g n h = total_below-≤ (split c f n) (split c g n) (suc n) (λ i k. mul-le-mul_left (c i) (h (n - i)))
