-- Which words are the decimal text of a number of at most nine digits.
use Rattle.std.proofs.Common.{◌≡◌, ◌≢◌, ℕ, ℤ, pos, negsuc, suc, zero, ◌^◌, ◌<◌, ◌≤◌, List, ◌∷◌, length, take, drop, get_or, sym, ◌∙◌, ap, subst, arith, lit<, length-take}
use Rattle.std.specs.Prelude.{Option, Some, None, MatchOption}
use Rattle.std.specs.Str.Parse.{AllDigits, digits_value}
use Rattle.std.specs.Fmt.{decimal, signed_decimal}
use Rattle.std.specs.Int.{IsInRange}
use Rattle.tv_spec_text.specs.Lines.{IsNumber}
use Rattle.std.proofs.lemmas.Fmt.{decimal_is_IsNumeral, decimal_digit, decimal_injective, length-decimal-le, decimal_nonempty, first_decimal, decimal-digits_value}
use Rattle.std.proofs.lemmas.Str.Parse.{IsNumeralModel, numerals_by_value, tells_digits, digits_value_short, digit_at}

own : IsNumeralModel (AllDigits 10) (digits_value 10)
own = numerals_by_value (AllDigits 10) tells_digits

pub wide : (n : ℕ) → n < 10 ^ 9 → n < 2 ^ 64
wide n h = omega arith

pub decimal-length : (n : ℕ) (w : List ℕ) → n < 10 ^ 9 → w ≡ decimal n → length w ≤ 9
decimal-length n w h e = subst (λ (v : List ℕ). length v ≤ 9) (sym e) (length-decimal-le 9 n (lit< tt) h (wide n h))

pub decimal-some : (n : ℕ) (w : List ℕ) → n < 10 ^ 9 → w ≡ decimal n → 0 < length w
decimal-some n w h e = subst (λ (v : List ℕ). 0 < length v) (sym e) (decimal_nonempty n (wide n h))

pub decimal-first : (n : ℕ) (w : List ℕ) → n < 10 ^ 9 → w ≡ decimal n → 1 < length w → get_or w 0 0 ≢ 48
decimal-first zero w h e long = λ starts. let one : length w ≡ 1 = ap length (e ∙ decimal_digit 0 (lit< tt)) in absurd (omega arith)
decimal-first (suc n) w h e long = let first : 48 < get_or (decimal (suc n)) 0 0 = first_decimal (suc n) (omega arith) (wide (suc n) h) in
    let same : get_or w 0 0 ≡ get_or (decimal (suc n)) 0 0 = ap (λ v. get_or v 0 0) e in λ starts. omega arith

pub decimal-digits : (n : ℕ) (w : List ℕ) → n < 10 ^ 9 → w ≡ decimal n → AllDigits 10 w
decimal-digits n w h e = subst (AllDigits 10) (sym e) (decimal_is_IsNumeral n (wide n h)).0.1

pub digits-value : (w : List ℕ) → AllDigits 10 w → 0 < length w → length w ≤ 9 → (get_or w 0 0 ≡ 48 → length w ≡ 1) → (digits_value 10 w < 10 ^ 9) × (w ≡ decimal (digits_value 10 w))
digits-value w all some short first =
    let small : digits_value 10 w < 10 ^ 9 = digits_value_short own w 9 all short in
    (small, sym (decimal-digits_value own w all some first (wide _ small)))

-- the word of a number below 0 begins with 45, and no other does
pub minus : (m : List ℕ) (z : ℤ) → IsNumber z → 45 ∷ m ≡ signed_decimal z → (n : ℕ) × (0 < n) × (n < 10 ^ 9) × (m ≡ decimal n)
minus m (pos n) h e =
    let digit : IsInRange 48 57 (get_or (45 ∷ m) 0 0) = digit_at (45 ∷ m) 0 (decimal-digits n (45 ∷ m) h e) (omega arith) in
    absurd (omega arith)
minus m (negsuc n) h e = (suc n, omega arith, h, ap (drop 1) e)

pub no_minus : (w : List ℕ) (z : ℤ) → IsNumber z → w ≡ signed_decimal z → get_or w 0 0 ≢ 45 → (n : ℕ) × (n < 10 ^ 9) × (w ≡ decimal n)
no_minus w (pos n) h e first = (n, h, e)
no_minus w (negsuc n) h e first = absurd (first (ap (λ v. get_or v 0 0) e))

pub small_value : (w : List ℕ) (i : ℕ) → AllDigits 10 (take i w) → i ≤ 8 → digits_value 10 (take i w) < 10 ^ 8
small_value w i all h = digits_value_short own (take i w) 8 all (omega (arith, length-take i w))

pub count_answer : (w : List ℕ) (r : Option ℕ) → 0 < length w → length w ≤ 9 → (get_or w 0 0 ≡ 48 → length w ≡ 1) → MatchOption r (¬ (AllDigits 10 w)) (λ n. AllDigits 10 w × (n ≡ digits_value 10 w)) → MatchOption r ((n : ℕ) → n < 10 ^ 9 → w ≢ decimal n) (λ n. (n < 10 ^ 9) × (w ≡ decimal n))
count_answer w None some short first m = λ n h e. m (decimal-digits n w h e)
count_answer w (Some n) some short first m =
    let value = digits-value w m.0 some short first in
    subst (λ (k : ℕ). (k < 10 ^ 9) × (w ≡ decimal k)) (sym m.1) value

pub decimal_zero : (n : ℕ) (w : List ℕ) → 0 < n → n < 10 ^ 9 → w ≡ decimal n → w ≡ decimal 0 → ⊥
decimal_zero n w some h e z = let same : n ≡ 0 = decimal_injective n 0 (wide n h) (lit< tt) (sym e ∙ z) in omega arith
