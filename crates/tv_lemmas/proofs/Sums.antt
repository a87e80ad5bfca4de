-- Sums over lists, and sums of bits.
--
-- total-append    the sum over two lists together; total-one, over one member
-- total-map       the sum over values of a function; total-flat_map, over joined pieces
-- total-neg       the sum of opposite values
-- total-same      values that are equal on the members make equal sums; total-all, where a fact of the members tells so
-- total-alike     the sum of one value
-- total-size      a sum is no further from 0 than the sum of the sizes
-- sum_of-append   likewise for natural numbers; sum_of-one, sum_of-flat_map
-- sum_of-≤        lesser values make a lesser sum; sum_of-each, no value is above the sum; sum_of-term, over a range; sum_of-more, over a longer one
-- bits-none       where the sum of bits is 0, no bit is 1; bits-one, where it is 1, exactly one is
--
-- bit b           == 1 for true, 0 for false
use Rattle.std.specs.Prelude.{◌≡◌, ℕ, zero, suc, ◌+◌, ◌<◌, ◌≤◌, Bool, true, false, ℤ, pos, ◌+ℤ◌, ◌-ℤ◌, ◌*ℤ◌, neg_ℤ, unsigned_abs, ◌≤ℤ◌, List, [], ◌∷◌, ◌++◌, map, length, slice_index_or}
use Rattle.std.specs.List.{flat_map, AllByRecursion, range_with_len}
use Rattle.std.proofs.Common.{refl, ap, ◌∙◌, arith, inl, inr}
use Rattle.std.proofs.lemmas.Int.{ints}
use Rattle.std.proofs.lemmas.Bool.{cases_eq}
use Rattle.tv_lemmas.specs.Sums.{total, sum_of}
use Rattle.tv_lemmas.proofs.Integers.{mul-sub}
use Rattle.tv_lemmas.proofs.Members.{all-onto}

pub total-append : {A : Type 0} (f : A → ℤ) (xs ys : List A) → total f (xs ++ ys) ≡ total f xs +ℤ total f ys
total-append f [] ys = omega (arith, ints)
total-append f (x ∷ xs) ys = omega (arith, ints, total-append f xs ys)

pub total-one : {A : Type 0} (f : A → ℤ) (x : A) → total f (x ∷ []) ≡ f x
total-one f x = omega (arith, ints)

pub total-map : {A B : Type 0} (f : B → ℤ) (g : A → B) (xs : List A) → total f (map g xs) ≡ total (λ x. f (g x)) xs
total-map f g [] = refl
total-map f g (x ∷ xs) = ap (λ s. f (g x) +ℤ s) (total-map f g xs)

pub total-flat_map : {A B : Type 0} (f : B → ℤ) (g : A → List B) (xs : List A) → total f (flat_map g xs) ≡ total (λ x. total f (g x)) xs
total-flat_map f g [] = refl
total-flat_map f g (x ∷ xs) = total-append f (g x) (flat_map g xs) ∙ ap (λ s. total f (g x) +ℤ s) (total-flat_map f g xs)

pub total-neg : {A : Type 0} (f g : A → ℤ) → ((x : A) → g x ≡ neg_ℤ (f x)) → (xs : List A) → total g xs ≡ neg_ℤ (total f xs)
total-neg f g opposite [] = refl
total-neg f g opposite (x ∷ xs) = omega (arith, ints, opposite x, total-neg f g opposite xs)

pub total-same : {A : Type 0} (f g : A → ℤ) (xs : List A) → AllByRecursion (λ x. f x ≡ g x) xs → total f xs ≡ total g xs
total-same f g [] all = refl
total-same f g (x ∷ xs) all = omega (arith, ints, all.0, total-same f g xs all.1)

pub total-all : {A : Type 0} (P : A → Type 0) (f g : A → ℤ) → ((x : A) → P x → f x ≡ g x) → (xs : List A) → AllByRecursion P xs → total f xs ≡ total g xs
total-all P f g same xs all = total-same f g xs (all-onto P (λ x. f x ≡ g x) same xs all)

one_more : (s : ℤ) (n : ℕ) → s *ℤ pos (suc n) ≡ s +ℤ (s *ℤ pos n)
one_more s n =
    let one : pos (suc n) -ℤ pos n ≡ pos 1 = omega (arith, ints) in
    let apart = mul-sub s (pos (suc n)) (pos n) in
    let here = rw one at apart in
    omega (arith, ints)

pub total-alike : {A : Type 0} (f : A → ℤ) (s : ℤ) (xs : List A) → AllByRecursion (λ x. f x ≡ s) xs → total f xs ≡ s *ℤ pos (length xs)
total-alike f s [] all = omega (arith, ints)
total-alike f s (x ∷ xs) all = omega (arith, ints, all.0, total-alike f s xs all.1, one_more s (length xs))

pub total-size : {A : Type 0} (f : A → ℤ) (g : A → ℕ) → ((x : A) → unsigned_abs (f x) ≡ g x) → (xs : List A) → unsigned_abs (total f xs) ≤ sum_of g xs
total-size f g same [] = omega (arith, ints)
total-size f g same (x ∷ xs) = let here = same x in let rest = total-size f g same xs in omega (arith, ints)

pub sum_of-append : {A : Type 0} (f : A → ℕ) (xs ys : List A) → sum_of f (xs ++ ys) ≡ sum_of f xs + sum_of f ys
sum_of-append f [] ys = omega arith
sum_of-append f (x ∷ xs) ys = let rest = sum_of-append f xs ys in omega arith

pub sum_of-one : {A : Type 0} (f : A → ℕ) (x : A) → sum_of f (x ∷ []) ≡ f x
sum_of-one f x = omega arith

pub sum_of-flat_map : {A B : Type 0} (f : B → ℕ) (g : A → List B) (xs : List A) → sum_of f (flat_map g xs) ≡ sum_of (λ x. sum_of f (g x)) xs
sum_of-flat_map f g [] = refl
sum_of-flat_map f g (x ∷ xs) = sum_of-append f (g x) (flat_map g xs) ∙ ap (λ s. sum_of f (g x) + s) (sum_of-flat_map f g xs)

pub sum_of-≤ : {A : Type 0} (f g : A → ℕ) (xs : List A) → AllByRecursion (λ x. f x ≤ g x) xs → sum_of f xs ≤ sum_of g xs
sum_of-≤ f g [] all = omega arith
sum_of-≤ f g (x ∷ xs) all = let here = all.0 in let rest = sum_of-≤ f g xs all.1 in omega arith

pub sum_of-each : {A : Type 0} (f : A → ℕ) (xs : List A) → AllByRecursion (λ x. f x ≤ sum_of f xs) xs
sum_of-each f [] = tt
sum_of-each f (x ∷ xs) = (let h : f x ≤ f x + sum_of f xs = omega arith in h, all-onto (λ y. f y ≤ sum_of f xs) (λ y. f y ≤ f x + sum_of f xs) (λ y h. let k : f y ≤ f x + sum_of f xs = omega arith in k) xs (sum_of-each f xs))

pub sum_of-more : (f : ℕ → ℕ) (k m d : ℕ) → sum_of f (range_with_len k m) ≤ sum_of f (range_with_len k (m + d))
sum_of-more f k zero d = omega arith
sum_of-more f k (suc m) d = let e : suc m + d ≡ suc (m + d) = omega arith in let rest = sum_of-more f (k + 1) m d in rw e (omega arith)

le-left : (a b : ℕ) → a ≤ a + b
le-left a b = omega arith

pub sum_of-term : (f : ℕ → ℕ) (k n i : ℕ) → k ≤ i → i < k + n → f i ≤ sum_of f (range_with_len k n)
sum_of-term f k zero i p q = absurd (omega arith)
sum_of-term f k (suc n) i p q = elim (cases_eq k i) [
  | inl e ↦ let here : f k ≡ f i = ap f e in rw (← here) (le-left (f k) (sum_of f (range_with_len (k + 1) n)))
  | inr ne ↦ let below_rest : f i ≤ sum_of f (range_with_len (k + 1) n) = sum_of-term f (k + 1) n i (omega (arith, ne)) (omega arith) in omega arith
]

-- where the sum of bits is 0, no bit is 1; where it is 1, exactly one is
abbrev pub bit : Bool → ℤ
bit true = pos 1
bit false = pos 0

bit-nonneg : (b : Bool) → pos 0 ≤ℤ bit b
bit-nonneg true = omega (arith, ints)
bit-nonneg false = omega (arith, ints)

bits-nonneg : {A : Type 0} (f : A → Bool) (xs : List A) → pos 0 ≤ℤ total (λ x. bit (f x)) xs
bits-nonneg f [] = omega (arith, ints)
bits-nonneg f (x ∷ xs) = omega (arith, ints, bit-nonneg (f x), bits-nonneg f xs)

pub bits-none : {A : Type 0} (f : A → Bool) (d : A) (xs : List A) → total (λ x. bit (f x)) xs ≡ pos 0 → (i : ℕ) → i < length xs → f (slice_index_or xs i d) ≡ true → ⊥
bits-none f d [] e i h on = omega arith
bits-none f d (x ∷ xs) e zero h on = let e2 = rw on at e in omega (arith, ints, bits-nonneg f xs)
bits-none f d (x ∷ xs) e (suc i) h on = bits-none f d xs (omega (arith, ints, bit-nonneg (f x), bits-nonneg f xs)) i (omega arith) on

pub record IsOnlyPlace {A : Type 0} (f : A → Bool) (d : A) (xs : List A) (i : ℕ) : Type 0 where
  pub listed : i < length xs
  pub on : f (slice_index_or xs i d) ≡ true
  pub only : (j : ℕ) → j < length xs → f (slice_index_or xs j d) ≡ true → j ≡ i

place-head : {A : Type 0} (f : A → Bool) (d x : A) (xs : List A) → f x ≡ true → total (λ y. bit (f y)) xs ≡ pos 0 → (j : ℕ) → j < length (x ∷ xs) → f (slice_index_or (x ∷ xs) j d) ≡ true → j ≡ zero
place-head f d x xs here none zero h on = refl
place-head f d x xs here none (suc j) h on = absurd (bits-none f d xs none j (omega arith) on)

place-later : {A : Type 0} (f : A → Bool) (d x : A) (xs : List A) (i : ℕ) → f x ≡ false → IsOnlyPlace f d xs i → (j : ℕ) → j < length (x ∷ xs) → f (slice_index_or (x ∷ xs) j d) ≡ true → j ≡ suc i
place-later f d x xs i off rest zero h on = cc
place-later f d x xs i off rest (suc j) h on = ap suc (rest.only j (omega arith) on)

bits-one_at : {A : Type 0} (f : A → Bool) (d x : A) (xs : List A) (b : Bool) → f x ≡ b → (total (λ y. bit (f y)) xs ≡ pos 1 → (i : ℕ) × IsOnlyPlace f d xs i) → bit b +ℤ total (λ y. bit (f y)) xs ≡ pos 1 → (i : ℕ) × IsOnlyPlace f d (x ∷ xs) i
bits-one_at f d x xs true here rest e = (0, record { listed = omega arith; on = here; only = place-head f d x xs here (omega (arith, ints)) })
bits-one_at f d x xs false off rest e =
    let later = rest (omega (arith, ints)) in
    (suc later.0, record { listed = omega (arith, later.1.listed); on = later.1.on; only = place-later f d x xs later.0 off later.1 })

pub bits-one : {A : Type 0} (f : A → Bool) (d : A) (xs : List A) → total (λ x. bit (f x)) xs ≡ pos 1 → (i : ℕ) × IsOnlyPlace f d xs i
bits-one f d [] e = absurd (omega (arith, ints))
bits-one f d (x ∷ xs) e = bits-one_at f d x xs (f x) refl (bits-one f d xs) e

pub sum_of-map : {A B : Type 0} (f : B → ℕ) (g : A → B) (xs : List A) → sum_of f (map g xs) ≡ sum_of (λ x. f (g x)) xs
sum_of-map f g [] = refl
sum_of-map f g (x ∷ xs) = ap (λ s. f (g x) + s) (sum_of-map f g xs)
