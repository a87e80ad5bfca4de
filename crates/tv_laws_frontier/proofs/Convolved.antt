-- Convolutions at whole numbers, with more terms than are needed.
use Rattle.std.specs.Prelude.{◌≡◌, ℕ, zero, suc, ◌+◌, ◌-◌, ◌*◌, ◌≤◌, ℤ, pos, negsuc, ◌-ℤ◌, ◌≤ℤ◌, ◌<ℤ◌}
use Rattle.std.proofs.Common.{refl, sym, ap, ◌∙◌, arith}
use Rattle.std.proofs.lemmas.Int.{ints}
use Rattle.tv_ring.specs.Sums.{total_below}
use Rattle.tv_ring.proofs.Sums.{total_below-none, total_below-more, total_below-same}
use Rattle.tv_laws_counts.specs.Ways.{split, convolved}
use Rattle.tv_laws_counts.proofs.Convolutions.{convolved_is, split_is}
use Rattle.tv_laws_frontier.specs.Frontier.{at_number}

pub at-below : (f : ℕ → ℕ) (z : ℤ) → z <ℤ pos 0 → at_number f z ≡ 0
at-below f (pos n) h = absurd (omega (arith, ints))
at-below f (negsuc n) h = refl

at-less : (f : ℕ → ℕ) (b j : ℕ) → j ≤ b → at_number f (pos b -ℤ pos j) ≡ f (b - j)
at-less f b j h = let e : pos b -ℤ pos j ≡ pos (b - j) = omega (arith, ints) in ap (at_number f) e

pub at-same : (f g : ℕ → ℕ) → ((n : ℕ) → f n ≡ g n) → (z : ℤ) → at_number f z ≡ at_number g z
at-same f g same (pos n) = same n
at-same f g same (negsuc n) = refl

-- a term of the convolution at z
abbrev pub term_at : (ℕ → ℕ) → (ℕ → ℕ) → ℤ → ℕ → ℕ
term_at c f z j = c j * at_number f (z -ℤ pos j)

none-left : (c f : ℕ → ℕ) (z : ℤ) (j : ℕ) → z <ℤ pos j → term_at c f z j ≡ 0
none-left c f z j h = ap (λ x. c j * x) (at-below f (z -ℤ pos j) (omega (arith, ints))) ∙ omega arith

within : (c f : ℕ → ℕ) (b r : ℕ) → convolved c f b ≡ total_below (term_at c f (pos b)) (suc (b + r))
within c f b zero =
    convolved_is c f b
    ∙ (total_below-same (split c f b) (term_at c f (pos b)) (suc b) (λ j h. split_is c f b j ∙ ap (λ x. c j * x) (sym (at-less f b j (omega arith))))
    ∙ ap (total_below (term_at c f (pos b))) (omega arith))
within c f b (suc r) =
    let last = none-left c f (pos b) (suc (b + r)) (omega (arith, ints)) in
    let more = total_below-more (term_at c f (pos b)) (suc (b + r)) in
    let rest = within c f b r in
    let up : suc (b + suc r) ≡ suc (suc (b + r)) = omega arith in
    rest ∙ (let e : total_below (term_at c f (pos b)) (suc (b + r)) ≡ total_below (term_at c f (pos b)) (suc (suc (b + r))) = omega arith in e ∙ ap (total_below (term_at c f (pos b))) (sym up))

all-none : (c f : ℕ → ℕ) (n k : ℕ) → 0 ≡ total_below (term_at c f (negsuc n)) k
all-none c f n zero = sym (total_below-none (term_at c f (negsuc n)))
all-none c f n (suc k) =
    let last = none-left c f (negsuc n) k (omega (arith, ints)) in
    let more = total_below-more (term_at c f (negsuc n)) k in
    let rest = all-none c f n k in omega arith

pub convolved-at : (c f : ℕ → ℕ) (z : ℤ) (k : ℕ) → z ≤ℤ pos k → at_number (convolved c f) z ≡ total_below (term_at c f z) (suc k)
convolved-at c f (pos b) k h =
    let up : suc (b + (k - b)) ≡ suc k = omega (arith, ints) in
    within c f b (k - b) ∙ ap (total_below (term_at c f (pos b))) up
convolved-at c f (negsuc n) k h = all-none c f n (suc k)
