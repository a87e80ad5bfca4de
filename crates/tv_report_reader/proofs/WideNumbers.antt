-- Which words are the decimal text of a wide number.
use Rattle.std.proofs.Common.{◌≡◌, ◌≢◌, ℕ, ℤ, pos, negsuc, zero, suc, ◌+◌, ◌-◌, ◌*◌, ◌^◌, ◌<◌, ◌≤◌, ◌/◌, ◌%◌, List, [], ◌∷◌, ◌++◌, length, drop, get_or, refl, sym, ◌∙◌, ap, subst, arith, drop-cons, add-one, append_assoc, append-nil}
use Rattle.std.specs.Prelude.{Option, Some, None, MatchOption}
use Rattle.std.specs.Str.Parse.{AllDigits, digits_value, digits_value_after}
use Rattle.std.specs.Char.{digit_value}
use Rattle.std.specs.Fmt.{decimal, signed_decimal}
use Rattle.std.specs.Int.{IsInRange}
use Rattle.std.proofs.lemmas.Fmt.{decimal_is_IsNumeral_wide, decimal_digit, decimal_step_wide, decimal_by_steps_wide}
use Rattle.std.proofs.lemmas.Str.Parse.{digit_from_value, digit_at}
use Rattle.std.proofs.lemmas.Str.{digit_value_digit}
use Rattle.std.proofs.lemmas.List.{length-append}
use Rattle.tv_spec_text.specs.Lines.{spelled}
use Rattle.tv_spec_reports.specs.Grammar.{IsWideValue}

-- a number does not fall as digits are added
pub value_grows : (n : ℕ) (ds : List ℕ) → n ≤ digits_value_after 10 n ds
value_grows n [] = omega arith
value_grows n (c ∷ cs) = omega (arith, value_grows (n * 10 + digit_value c) cs)

pub value_left : (n i : ℕ) (ds : List ℕ) → i < length ds → digits_value_after 10 n (drop i ds) ≡ digits_value_after 10 (n * 10 + digit_value (get_or ds i 0)) (drop (i + 1) ds)
value_left n i ds h = ap (digits_value_after 10 n) (drop-cons ds i 0 h) ∙ ap (λ k. digits_value_after 10 (n * 10 + digit_value (get_or ds i 0)) (drop k ds)) (sym (add-one i))

-- numbers and their texts

wide_bound : (n : ℕ) → n ≤ 2 ^ 127 - 1 → n < 10 ^ 64
wide_bound n h = omega arith

pub decimal-digits : (n : ℕ) (w : List ℕ) → n ≤ 2 ^ 127 - 1 → w ≡ decimal n → AllDigits 10 w
decimal-digits n w h e = subst (AllDigits 10) (sym e) (decimal_is_IsNumeral_wide n (wide_bound n h)).0.1

pub decimal-value : (n : ℕ) (w : List ℕ) → n ≤ 2 ^ 127 - 1 → w ≡ decimal n → digits_value 10 w ≡ n
decimal-value n w h e = ap (digits_value 10) e ∙ (decimal_is_IsNumeral_wide n (wide_bound n h)).1

pub decimal-some : (n : ℕ) (w : List ℕ) → n ≤ 2 ^ 127 - 1 → w ≡ decimal n → 0 < length w
decimal-some n w h e = subst (λ (v : List ℕ). 0 < length v) (sym e) (decimal_is_IsNumeral_wide n (wide_bound n h)).0.0

begins_above : (n : ℕ) → n < 10 ^ 64 → (0 < length (decimal n)) × (0 < n → 48 < get_or (decimal n) 0 0)
begins_above = decimal_by_steps_wide (λ m ds. (0 < length ds) × (0 < m → 48 < get_or ds 0 0)) (λ m l. (omega arith, λ a. omega arith))
    (λ m ds l h. (omega (arith, length-append ds ((48 + m % 10) ∷ [])), λ a. omega (arith, front ds ((48 + m % 10) ∷ []) h.0, h.1 (omega arith))))
  where
    front : (xs ys : List ℕ) → 0 < length xs → get_or (xs ++ ys) 0 0 ≡ get_or xs 0 0
    front [] ys h = absurd (omega arith)
    front (x ∷ xs) ys h = refl

pub decimal-first : (n : ℕ) (w : List ℕ) → 0 < n → n ≤ 2 ^ 127 - 1 → w ≡ decimal n → get_or w 0 0 ≢ 48
decimal-first n w some h e = λ starts. let above = (begins_above n (wide_bound n h)).1 some in let same : get_or w 0 0 ≡ get_or (decimal n) 0 0 = ap (λ v. get_or v 0 0) e in omega arith

value_text : (n : ℕ) (ds : List ℕ) → 0 < n → AllDigits 10 ds → digits_value_after 10 n ds < 10 ^ 64 → decimal (digits_value_after 10 n ds) ≡ decimal n ++ ds
value_text n [] some d small = sym (append-nil (decimal n))
value_text n (c ∷ cs) some d small =
    let m : ℕ = n * 10 + digit_value c in
    let k = digit_value_digit c (digit_from_value c d.0) in
    let front : m / 10 ≡ n = omega (arith, d.0) in
    let end : 48 + m % 10 ≡ c = omega (arith, d.0) in
    value_text m cs (omega arith) d.1 small
    ∙ ap (λ x. x ++ cs) (decimal_step_wide m (omega arith) (omega (arith, value_grows m cs)) ∙ (λ i. decimal (front i) ++ (end i ∷ [])))
    ∙ append_assoc (decimal n) (c ∷ []) cs

-- digits of which the first isn't 0 are the text of their value
pub digits-text : (ds : List ℕ) → AllDigits 10 ds → 0 < length ds → get_or ds 0 0 ≢ 48 → digits_value 10 ds ≤ 2 ^ 127 - 1 → (0 < digits_value 10 ds) × (ds ≡ decimal (digits_value 10 ds))
digits-text [] d some lead small = absurd (omega arith)
digits-text (c ∷ cs) d some lead small =
    let k = digit_value_digit c (digit_from_value c d.0) in
    let no : c ≡ 48 → ⊥ = lead in
    let positive : 0 < 0 * 10 + digit_value c = grind arith in
    let is : 48 + (0 * 10 + digit_value c) ≡ c = omega arith in
    (omega (arith, value_grows (0 * 10 + digit_value c) cs), sym (value_text (0 * 10 + digit_value c) cs positive d.1 (omega arith) ∙ ap (λ x. x ++ cs) (decimal_digit (0 * 10 + digit_value c) (omega (arith, d.0)) ∙ ap (λ x. x ∷ []) is)))

-- the word of a number below 0 begins with 45, and no other does
pub minus : (m : List ℕ) (z : ℤ) → IsWideValue z → 45 ∷ m ≡ signed_decimal z → (n : ℕ) × (0 < n) × (n ≤ 2 ^ 127 - 1) × (m ≡ decimal n)
minus m (pos n) h e =
    let digit : IsInRange 48 57 (get_or (45 ∷ m) 0 0) = digit_at (45 ∷ m) 0 (decimal-digits n (45 ∷ m) h.within e) (omega arith) in
    absurd (omega arith)
minus m (negsuc n) h e = (suc n, omega arith, h.within, ap (drop 1) e)

pub no_minus : (w : List ℕ) (z : ℤ) → IsWideValue z → w ≡ signed_decimal z → get_or w 0 0 ≢ 45 → (n : ℕ) × (0 < n) × (n ≤ 2 ^ 127 - 1) × (w ≡ decimal n)
no_minus w (pos n) h e first = (n, above_zero n h.other, h.within, e) where
  above_zero : (n : ℕ) → pos n ≢ pos 0 → 0 < n
  above_zero zero other = absurd (other refl)
  above_zero (suc n) other = omega arith
no_minus w (negsuc n) h e first = absurd (first (ap (λ v. get_or v 0 0) e))

-- one spelling

decimal_injective : (m n : ℕ) → m ≤ 2 ^ 127 - 1 → n ≤ 2 ^ 127 - 1 → decimal m ≡ decimal n → m ≡ n
decimal_injective m n p q e = sym (decimal-value m (decimal m) p refl) ∙ decimal-value n (decimal m) q e

not_minus : (n : ℕ) (ds : List ℕ) → n ≤ 2 ^ 127 - 1 → decimal n ≢ 45 ∷ ds
not_minus n ds h e = omega (arith, digit_from_value 45 (decimal-digits n (45 ∷ ds) h (sym e)).0)

pub wide_injective : (y z : ℤ) → IsWideValue y → IsWideValue z → spelled y ≡ spelled z → y ≡ z
wide_injective (pos m) (pos n) p q e = ap pos (decimal_injective m n p.within q.within e)
wide_injective (pos m) (negsuc n) p q e = absurd (not_minus m _ p.within e)
wide_injective (negsuc m) (pos n) p q e = absurd (not_minus n _ q.within (sym e))
wide_injective (negsuc m) (negsuc n) p q e = ap negsuc (omega (arith, decimal_injective (suc m) (suc n) p.within q.within (ap (drop 1) e)))

-- what the answer of digits gives, for a word that doesn't begin with 0
pub wide_answer : (w : List ℕ) (r : Option ℕ) → 0 < length w → get_or w 0 0 ≢ 48 → MatchOption r (AllDigits 10 w → 2 ^ 127 - 1 < digits_value 10 w) (λ n. AllDigits 10 w × (n ≡ digits_value 10 w) × (n ≤ 2 ^ 127 - 1)) → MatchOption r ((n : ℕ) → 0 < n → n ≤ 2 ^ 127 - 1 → w ≢ decimal n) (λ n. (0 < n) × (n ≤ 2 ^ 127 - 1) × (w ≡ decimal n))
wide_answer w None some lead m = λ n positive h e. omega (arith, m (decimal-digits n w h e), decimal-value n w h e)
wide_answer w (Some n) some lead m =
    let text = digits-text w m.0 some lead (omega (arith, m.1, m.2)) in
    (omega (arith, text.0, m.1), m.2, text.1 ∙ ap decimal (sym m.1))

pub no_number_below_zero : (m : List ℕ) → ((n : ℕ) → 0 < n → n ≤ 2 ^ 127 - 1 → m ≢ decimal n) → (z : ℤ) → IsWideValue z → 45 ∷ m ≡ signed_decimal z → ⊥
no_number_below_zero m none z h e = let n = minus m z h e in none n.0 n.1 n.2 n.3

pub no_number : (w : List ℕ) → ((n : ℕ) → 0 < n → n ≤ 2 ^ 127 - 1 → w ≢ decimal n) → get_or w 0 0 ≢ 45 → (z : ℤ) → IsWideValue z → w ≡ signed_decimal z → ⊥
no_number w none lead z h e = let n = no_minus w z h e lead in none n.0 n.1 n.2 n.3
