-- A made-up series that no integers give: q^2 in degree 1.
use Rattle.std.proofs.lemmas.Int.{ints}
use Rattle.std.proofs.Common.{◌≡◌, ◌⊎◌, inr, ℕ, zero, suc, ℤ, pos, negsuc, ◌*ℤ◌, ◌≤ℤ◌, ◌<ℤ◌, unsigned_abs, List, [], ◌∷◌, length, Bool, true, false, ◌&&◌, if◌then◌else◌, refl, ◌∙◌, ap, arith}
use Rattle.std.proofs.Math.IntN.{*ℤ-zero}
use Rattle.std.specs.Ordering.{int_eq}
use Rattle.tv_spec_plane.specs.Web.{degree_of}
use Rattle.tv_ring.specs.Whole.{wholes}
use Rattle.tv_ring.specs.Sums.{at}
use Rattle.tv_laws_series.specs.Terms.{terms, above}
use Rattle.tv_spec_boxes.specs.Classes.{IsBefore}
use Rattle.tv_spec_series.specs.Families.{Family, row, coefficient, coefficient_of, find, comes_before}
use Rattle.tv_spec_katz.specs.Binomials.{choose, binomial, power_sign, power_at, sum_below}
use Rattle.tv_spec_katz.specs.Places.{difference_by, unit}
use Rattle.tv_spec_katz.specs.Product.{times, product}
use Rattle.tv_spec_katz.specs.Katz.{katz}
use Rattle.tv_spec_katz.specs.Integers.{integers, candidates, Agrees, Differs, IsCompared, IsMismatch}

abbrev heights : List ℤ
heights = pos 1 ∷ []

abbrev pub curve : List ℤ
curve = pos 1 ∷ []

abbrev pub made_up : Family ℤ
made_up = record {
  heights = heights;
  top = pos 1;
  upto = pos 3;
  rows = row (pos 0 ∷ []) (terms (pos 0) (pos 1 ∷ pos 0 ∷ pos 0 ∷ pos 0 ∷ [])) ∷ row curve (terms (pos 2) (pos 1 ∷ pos 0 ∷ [])) ∷ [];
}

-- it has no integers
made_up_integers : integers 1 made_up ≡ []
unfolding integers candidates comes_before find coefficient at above katz product times unit difference_by power_at binomial choose sum_below
made_up_integers = refl

none : (b : Bool) → (if b && false then pos 1 else pos 0) ≡ pos 0
none true = refl
none false = refl

-- the product is 1 at class zero and exponent 0, and 0 elsewhere
pub agrees_below_zero : (x : ℕ) (n : ℤ) → Agrees made_up [] (negsuc x ∷ []) n
unfolding katz product unit find coefficient
agrees_below_zero x n = ap (λ z. power_sign (unsigned_abs n) *ℤ z) (none (int_eq (degree_of heights (negsuc x ∷ [])) (pos 0))) ∙ *ℤ-zero (power_sign (unsigned_abs n))

pub agrees_at_zero : (n : ℤ) → n ≤ℤ pos 3 → Agrees made_up [] (pos 0 ∷ []) n
unfolding katz product unit find coefficient at above
agrees_at_zero (negsuc n) h = *ℤ-zero (power_sign (suc n))
agrees_at_zero (pos zero) h = refl
agrees_at_zero (pos (suc zero)) h = refl
agrees_at_zero (pos (suc (suc zero))) h = refl
agrees_at_zero (pos (suc (suc (suc zero)))) h = refl
agrees_at_zero (pos (suc (suc (suc (suc n))))) h = absurd (omega (arith, ints))

pub agrees_below_two : (n : ℤ) → n <ℤ pos 2 → Agrees made_up [] (pos 1 ∷ []) n
unfolding katz product unit find coefficient at above
agrees_below_two (negsuc n) h = *ℤ-zero (power_sign (suc n))
agrees_below_two (pos zero) h = refl
agrees_below_two (pos (suc zero)) h = refl
agrees_below_two (pos (suc (suc n))) h = absurd (omega (arith, ints))

-- at the exponent 2, where the product is 0 and the series 1
differs : Differs made_up [] curve (pos 2)
unfolding katz product unit find coefficient at above
differs e = cc

-- and not before
abbrev First : ℤ → ℤ → Type 0
First x n = IsBefore heights curve (x ∷ []) ⊎ (((x ∷ []) ≡ curve) × (pos 2 ≤ℤ n))

from_two : (n : ℤ) → Differs made_up [] curve n → First (pos 1) n
from_two (negsuc n) d = absurd (d (agrees_below_two (negsuc n) (omega (arith, ints))))
from_two (pos zero) d = absurd (d (agrees_below_two (pos zero) (omega (arith, ints))))
from_two (pos (suc zero)) d = absurd (d (agrees_below_two (pos (suc zero)) (omega (arith, ints))))
from_two (pos (suc (suc n))) d = inr (refl, omega (arith, ints))

first_at : (x n : ℤ) → IsCompared 1 (pos 3) made_up (x ∷ []) n → Differs made_up [] (x ∷ []) n → First x n
first_at (negsuc x) n c d = absurd (d (agrees_below_zero x n))
first_at (pos zero) n c d = absurd (d (agrees_at_zero n c.exponent))
first_at (pos (suc zero)) n c d = from_two n d
first_at (pos (suc (suc x))) n c d = let low : degree_of heights (pos (suc (suc x)) ∷ []) ≤ℤ pos 1 = c.degree in absurd (omega (arith, ints))

first : (u : List ℤ) (n : ℤ) → IsCompared 1 (pos 3) made_up u n → Differs made_up [] u n → IsBefore heights curve u ⊎ ((u ≡ curve) × (pos 2 ≤ℤ n))
first [] n c d = let few : 0 ≡ 1 = c.entries in absurd (omega (arith, few))
first (x ∷ []) n c d = first_at x n c d
first (x ∷ y ∷ u) n c d = let many : suc (suc (length u)) ≡ 1 = c.entries in absurd (omega (arith, many))

pub made_up_mismatch : IsMismatch 1 (pos 3) made_up [] curve (pos 2)
made_up_mismatch = record { compared = record { entries = refl; degree = omega (arith, ints); exponent = omega (arith, ints) }; differs = differs; first = first }

-- both values there
made_up_values : (coefficient_of wholes made_up curve (pos 2) ≡ pos 1) × (katz heights [] curve (pos 2) ≡ pos 0)
unfolding katz product unit find coefficient at above
made_up_values = (refl, refl)
