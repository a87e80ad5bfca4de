-- Numbers times one in a list: how they are read, and what the sum of two lists is.
use Rattle.std.proofs.Common.{◌≡◌, ℕ, ◌+◌, ◌-◌, ◌*◌, ◌<◌, ◌≤◌, Bool, false, List, [], ◌∷◌, ◌++◌, length, refl, sym, ◌∙◌, ap, arith, add-mul, inl, inr}
use Rattle.std.specs.Prelude.{cond, ◌&&◌, ◌||◌, nat_lt, nat_le}
use Rattle.std.proofs.lemmas.Bool.{cases_lt, lt-ltb, le-ltb, le-leb, lt-leb}
use Rattle.std.proofs.lemmas.Bool.Decides.{nat_tests}
use Rattle.std.proofs.lemmas.List.FromFn.{get_or-map-range_with_len, fill_by_all}
use Rattle.std.proofs.lemmas.Nat.{mul-le}
use Rattle.tv_ring.specs.Operations.{Operations, RingLaws, SizeLaws, limit}
use Rattle.tv_ring.specs.Sums.{at, times}
use Rattle.tv_ring.proofs.Times.{times-none, times-add}
use Rattle.tv_ring.proofs.Sizes.{size-times}
use Rattle.tv_laws_series.specs.Terms.{listed}
use Rattle.tv_laws_series.proofs.Listed.{listed_all, length-listed, listed-none, listed_push, at-listed, at_past}
use Rattle.tv_slices.specs.Rows.{shifted, sums, numbers, is_reached, either_reached, marks}

pub shifted-none : {A : Type 0} (r : Operations A) (more : List A) (x e : ℕ) → e < x → r.nought ≡ shifted r more x e
unfolding shifted
shifted-none r more x e l = rw (lt-ltb e x l) refl

pub shifted-some : {A : Type 0} (r : Operations A) (more : List A) (x e : ℕ) → x ≤ e → at r more (e - x) ≡ shifted r more x e
unfolding shifted
shifted-some r more x e l = rw (le-ltb e x l) refl

pub sums-of : {A : Type 0} (r : Operations A) (before more : List A) (x e : ℕ) (a b : A) → a ≡ at r before e → b ≡ shifted r more x e → r.add a b ≡ sums r before more x e
unfolding sums
sums-of r before more x e a b ea eb = rw (ea, eb) refl

pub listed-same : {A : Type 0} (r : Operations A) (f g : ℕ → A) (n : ℕ) → ((k : ℕ) → k < n → f k ≡ g k) → listed f n ≡ listed g n
listed-same r f g n each = listed_all r g (listed f n) n (length-listed f n) (λ k l. at-listed r f n k l ∙ each k l)

pub numbers-same : {A : Type 0} (r : Operations A) (f g : ℕ → ℕ) (n : ℕ) → ((k : ℕ) → k < n → f k ≡ g k) → numbers r f n ≡ numbers r g n
unfolding numbers
numbers-same r f g n each = listed-same r (λ c. times r (f c)) (λ c. times r (g c)) n (λ k l. ap (times r) (each k l))

pub numbers-at : {A : Type 0} (r : Operations A) (f : ℕ → ℕ) (n : ℕ) (xs : List A) (e : ℕ) → xs ≡ numbers r f n → e < n → at r xs e ≡ times r (f e)
unfolding numbers
numbers-at r f n xs e is l = rw is (at-listed r (λ c. times r (f c)) n e l)

pub length-numbers : {A : Type 0} (r : Operations A) (f : ℕ → ℕ) (n : ℕ) → length (numbers r f n) ≡ n
unfolding numbers
length-numbers r f n = length-listed (λ c. times r (f c)) n

pub nothing-at : {A : Type 0} (r : Operations A) (e : ℕ) → at r [] e ≡ times r 0
nothing-at r e = at_past r [] e (omega arith) ∙ sym (times-none r)

pub shifted-at : {A : Type 0} (r : Operations A) (f : ℕ → ℕ) (n : ℕ) (more : List A) (x e : ℕ) → more ≡ numbers r f n → e < n + x → shifted r more x e ≡ times r (cond (nat_le x e) (f (e - x)) 0)
shifted-at r f n more x e is l = elim (cases_lt e x) [
  | inl less ↦ let off = lt-leb x e less in sym (shifted-none r more x e less) ∙ rw off (sym (times-none r))
  | inr more_or_same ↦ let on = le-leb x e more_or_same in sym (shifted-some r more x e more_or_same) ∙ rw on (numbers-at r f n more (e - x) is (omega arith))
]

module _ {A : Type 0} {IsValue : A → Type 0} {r : Operations A} (laws : RingLaws IsValue r) where
  pub sums-numbers : (before more : List A) (x n : ℕ) (p q : ℕ → ℕ) → ((e : ℕ) → e < n → at r before e ≡ times r (p e)) → ((e : ℕ) → e < n → shifted r more x e ≡ times r (q e)) →
      listed (sums r before more x) n ≡ numbers r (λ c. p c + q c) n
  unfolding numbers
  sums-numbers before more x n p q first second =
      listed-same r (sums r before more x) (λ c. times r (p c + q c)) n (λ e l. sym (sums-of r before more x e (times r (p e)) (times r (q e)) (sym (first e l)) (sym (second e l))) ∙ sym (times-add laws (p e) (q e)))

  -- a sum that is too great
  pub sum-wide : (a b : A) (m n : ℕ) → SizeLaws IsValue r → a ≡ times r m → b ≡ times r n → limit < r.size a + r.size b → limit < (m + n) * r.size r.unit
  sum-wide a b m n sizes ea eb h =
      let first : r.size a ≤ m * r.size r.unit = rw ea (size-times laws sizes m) in
      let second : r.size b ≤ n * r.size r.unit = rw eb (size-times laws sizes n) in
      let both : (m + n) * r.size r.unit ≡ m * r.size r.unit + n * r.size r.unit = add-mul m n (r.size r.unit) in
      omega arith

pub more-wide : (m n size : ℕ) → m ≤ n → limit < m * size → limit < n * size
more-wide m n size l h = let grown : m * size ≤ n * size = mul-le m size n size l (omega arith) in omega arith

-- ---- marks

mark-listed : (g : ℕ → Bool) (n e : ℕ) → e < n → is_reached (listed g n) e ≡ g e
unfolding listed
mark-listed g n e l = get_or-map-range_with_len g 0 n e e false l (omega arith)

listed-marks : (g h : ℕ → Bool) (n : ℕ) → ((e : ℕ) → e < n → g e ≡ h e) → listed g n ≡ listed h n
unfolding listed
listed-marks g h n each = fill_by_all h (listed g n) n false (length-listed g n) (λ e l. mark-listed g n e l ∙ each e l)

pub marks-same : (f g : ℕ → ℕ) (n : ℕ) → ((e : ℕ) → e < n → f e ≡ g e) → marks f n ≡ marks g n
unfolding marks
marks-same f g n each = listed-marks (λ c. nat_lt 0 (f c)) (λ c. nat_lt 0 (g c)) n (λ e l. ap (nat_lt 0) (each e l))

pub marks-at : (f : ℕ → ℕ) (n : ℕ) (bs : List Bool) (e : ℕ) → bs ≡ marks f n → e < n → is_reached bs e ≡ nat_lt 0 (f e)
unfolding marks
marks-at f n bs e is l = rw is (mark-listed (λ c. nat_lt 0 (f c)) n e l)

pub marks-none : (f : ℕ → ℕ) → marks f 0 ≡ []
unfolding marks
marks-none f = listed-none (λ c. nat_lt 0 (f c))

pub marks_push : (f : ℕ → ℕ) (n : ℕ) (old new : List Bool) (b : Bool) → old ≡ marks f n → new ≡ old ++ b ∷ [] → b ≡ nat_lt 0 (f n) → new ≡ marks f (n + 1)
unfolding marks
marks_push f n old new b before push e = listed_push (λ c. nat_lt 0 (f c)) n old new b before push e

pub marks-shifted : (f : ℕ → ℕ) (n : ℕ) (more : List Bool) (x e : ℕ) → more ≡ marks f n → e < n + x → (nat_le x e && is_reached more (e - x)) ≡ nat_lt 0 (cond (nat_le x e) (f (e - x)) 0)
marks-shifted f n more x e is l = elim (cases_lt e x) [
  | inl less ↦ let off = lt-leb x e less in rw off refl
  | inr more_or_same ↦ let on = le-leb x e more_or_same in rw on (marks-at f n more (e - x) is (omega arith))
]

pub marks-either : (before more : List Bool) (x n : ℕ) (p q : ℕ → ℕ) → ((e : ℕ) → e < n → is_reached before e ≡ nat_lt 0 (p e)) → ((e : ℕ) → e < n → (nat_le x e && is_reached more (e - x)) ≡ nat_lt 0 (q e)) →
    listed (either_reached before more x) n ≡ marks (λ c. p c + q c) n
unfolding marks
marks-either before more x n p q first second =
    listed-marks (either_reached before more x) (λ c. nat_lt 0 (p c + q c)) n (λ e l. ap (λ b. b || (nat_le x e && is_reached more (e - x))) (first e l) ∙ (ap (λ b. nat_lt 0 (p e) || b) (second e l) ∙ some (p e) (q e)))
  where
    some : (a b : ℕ) → (nat_lt 0 a || nat_lt 0 b) ≡ nat_lt 0 (a + b)
    some a b = grind (arith, nat_tests)
