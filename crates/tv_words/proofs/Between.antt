-- Words that spell no number between two others.
use Rattle.std.proofs.Common.{◌≡◌, ◌≢◌, ◌^◌, ◌<◌, ℤ, pos, negsuc, ◌<ℤ◌, ◌≤ℤ◌, sym, ◌∙◌, arith, subst}
use Rattle.std.proofs.lemmas.Int.{ints}
use Rattle.std.proofs.lemmas.Fmt.{signed_decimal_injective}
use lib.Signed.{mag}
use Rattle.tv_spec_text.specs.Lines.{Word, spelled, IsNumber}
use Rattle.tv_words.specs.Commands.{IsBetween}

-- what is between two numbers of at most nine digits has at most nine
number_between : (low high z : ℤ) → IsNumber low → IsNumber high → low ≤ℤ z → z ≤ℤ high → IsNumber z
number_between low (pos h) (pos n) l k p q = omega (arith, ints)
number_between low (negsuc h) (pos n) l k p q = absurd (omega (arith, ints))
number_between (negsuc l) high (negsuc n) p k q r = omega (arith, ints)
number_between (pos l) high (negsuc n) p k q r = absurd (omega (arith, ints))

pub between_is_number : (low high z : ℤ) → IsNumber low → IsNumber high → IsBetween low high z → IsNumber z
between_is_number low high z l k b = number_between low high z l k b.0 b.1

small : (z : ℤ) → IsNumber z → mag z < 2 ^ 63
small (pos n) h = omega arith
small (negsuc n) h = omega arith

module _ (low high : ℤ) (l : IsNumber low) (k : IsNumber high) where
  pub no_number_none_between : (w : Word) → ((z : ℤ) → IsNumber z → w ≢ spelled z) → (z : ℤ) → IsBetween low high z → w ≢ spelled z
  no_number_none_between w h z b = h z (between_is_number low high z l k b)

  pub other_number_none_between : (w : Word) (y : ℤ) → IsNumber y → w ≡ spelled y → (IsBetween low high y → ⊥) → (z : ℤ) → IsBetween low high z → w ≢ spelled z
  other_number_none_between w y n e h z b s = h (subst (IsBetween low high) (sym (signed_decimal_injective y z (small y n) (small z (between_is_number low high z l k b)) (sym e ∙ s))) b)

pub too_low : (low high z : ℤ) → z <ℤ low → IsBetween low high z → ⊥
too_low low high z l b = let least = b.0 in absurd (omega (arith, ints))

pub too_high : (low high z : ℤ) → high <ℤ z → IsBetween low high z → ⊥
too_high low high z l b = let greatest = b.1 in absurd (omega (arith, ints))
