-- Laurent polynomials in normal form, as a ring.
--
--   onto r x ys            == the list ys after x, and no list where ys is empty and x is nought
--   trimmed r xs           == the list without the noughts at its end
--   normal r low xs        == these coefficients from low on, without the noughts at both ends; zero begins at 0
--   IsPoly IsValue r p     == each coefficient of p is a value, that at either end is not nought, and zero begins at 0
--   poly_zero, poly_one r  == zero, and one
--   poly_sum r p q         == the sum
--   poly_product r p q     == the product
--   negatives r f          == the sequence of the negatives of f
--   poly_negative r p      == what gives zero when it is added
--   is_empty xs            == whether there is no coefficient
--   row_size r xs          == the sum of the sizes of the coefficients xs
--   reach_at r low f k     == the absolute exponent low + k and the reach of the coefficient there, 0 where that is nought
--   greatest_below f n     == the greatest of f 0, f 1, .., f (n - 1), and 0 of none
--   poly_reach r p         == the greatest reach_at over the places of p, 0 for zero
--   IsKept IsValue r p     == p is in normal form, and its reach and its exponents are within 2^60
--   polynomials r          == the operations on polynomials over r
use Rattle.std.specs.Prelude.{◌≡◌, ℕ, zero, suc, ◌+◌, ◌-◌, ◌<◌, ◌≤◌, max, ℤ, pos, ◌+ℤ◌, unsigned_abs, Bool, true, false, if◌then◌else◌, List, [], ◌∷◌, length}
use Rattle.std.specs.Int.{int_min}
use Rattle.tv_ring.specs.Operations.{Operations, reach_limit}
use Rattle.tv_ring.specs.Sums.{AreValues, at, convolution}
use Rattle.tv_laws_series.specs.Terms.{Terms, terms, from, known, listed, plus, IsBounded}

abbrev pub onto : {A : Type 0} → Operations A → A → List A → List A
onto r x [] = if r.is_nought x then [] else x ∷ []
onto r x (y ∷ ys) = x ∷ y ∷ ys

unfoldable pub trimmed : {A : Type 0} → Operations A → List A → List A
trimmed r [] = []
trimmed r (x ∷ xs) = onto r x (trimmed r xs)

unfoldable pub normal : {A : Type 0} → Operations A → ℤ → List A → Terms A
normal r low [] = terms (pos 0) []
normal r low (x ∷ xs) = if r.is_nought x then normal r (low +ℤ pos 1) xs else terms low (x ∷ trimmed r xs)

pub record IsPoly {A : Type 0} (IsValue : A → Type 0) (r : Operations A) (p : Terms A) : Type 0 where
  pub values : AreValues IsValue (at r p.coefficients)
  pub none : length p.coefficients ≡ 0 → p.low ≡ pos 0
  pub first : 0 < length p.coefficients → r.is_nought (at r p.coefficients 0) ≡ false
  pub last : 0 < length p.coefficients → r.is_nought (at r p.coefficients (length p.coefficients - 1)) ≡ false

abbrev pub poly_zero : {A : Type 0} → Terms A
poly_zero = terms (pos 0) []

abbrev pub poly_one : {A : Type 0} → Operations A → Terms A
poly_one r = normal r (pos 0) (r.unit ∷ [])

abbrev pub poly_sum : {A : Type 0} → Operations A → Terms A → Terms A → Terms A
poly_sum r p q = let m = int_min p.low q.low in normal r m (listed (plus r (from r m p) (from r m q)) (max (known m p) (known m q)))

abbrev pub poly_product : {A : Type 0} → Operations A → Terms A → Terms A → Terms A
poly_product r p q = normal r (p.low +ℤ q.low) (listed (convolution r (at r p.coefficients) (at r q.coefficients)) (length p.coefficients + length q.coefficients - 1))

unfoldable pub negatives : {A : Type 0} → Operations A → (ℕ → A) → ℕ → A
negatives r f k = r.neg (f k)

abbrev pub poly_negative : {A : Type 0} → Operations A → Terms A → Terms A
poly_negative r p = normal r p.low (listed (negatives r (at r p.coefficients)) (length p.coefficients))

abbrev pub is_empty : {A : Type 0} → List A → Bool
is_empty [] = true
is_empty (x ∷ xs) = false

unfoldable pub row_size : {A : Type 0} → Operations A → List A → ℕ
row_size r [] = 0
row_size r (x ∷ xs) = r.size x + row_size r xs

unfoldable pub reach_at : {A : Type 0} → Operations A → ℤ → (ℕ → A) → ℕ → ℕ
reach_at r low f k = if r.is_nought (f k) then 0 else unsigned_abs (low +ℤ pos k) + r.reach (f k)

unfoldable pub greatest_below : (ℕ → ℕ) → ℕ → ℕ
greatest_below f zero = 0
greatest_below f (suc n) = max (greatest_below f n) (f n)

unfoldable pub poly_reach : {A : Type 0} → Operations A → Terms A → ℕ
poly_reach r p = greatest_below (reach_at r p.low (at r p.coefficients)) (length p.coefficients)

abbrev pub polynomials : {A : Type 0} → Operations A → Operations (Terms A)
polynomials r = record {
  nought = poly_zero;
  unit = poly_one r;
  add = poly_sum r;
  mul = poly_product r;
  neg = poly_negative r;
  is_nought = λ p. is_empty p.coefficients;
  size = λ p. row_size r p.coefficients;
  reach = poly_reach r;
}

-- what is kept of a polynomial: its normal form, and a reach and exponents of at most 2^60
pub record IsKept {A : Type 0} (IsValue : A → Type 0) (r : Operations A) (p : Terms A) : Type 0 where
  pub normal_form : IsPoly IsValue r p
  pub reach : poly_reach r p ≤ reach_limit
  pub bounded : IsBounded p
