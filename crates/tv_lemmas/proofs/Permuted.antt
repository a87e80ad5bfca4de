-- Lists with the same members, each as often: what every exchange of two neighbours keeps is true of them.
--
-- places same x ys      == how often x stands in the list, by a test of equality
-- Permuted same xs ys   == each member stands as often in both lists
-- IsEquality same       == the test tells equality
-- IsOfMembers R         == R is kept by a further first member and by an exchange of the first two, and is transitive
-- permuted              what is of members is true of permuted lists
-- permuted-permutation  they are permutations as std says it
-- permuted-length, permuted-total, permuted-sum_of  lengths and sums of permuted lists are equal
use Rattle.std.specs.Prelude.{◌≡◌, ℕ, suc, ◌+◌, ◌<◌, Bool, true, false, cond, ℤ, List, [], ◌∷◌, length}
use Rattle.std.specs.List.Sorted.{IsPermutation}
use Rattle.std.proofs.Common.{refl, sym, ap, ◌∙◌, arith}
use Rattle.std.proofs.lemmas.Int.{ints}
use Rattle.std.proofs.lemmas.List.Sorted.{IsPermutation-refl, IsPermutation-cons, IsPermutation-middle, IsPermutation-trans}
use Rattle.tv_lemmas.specs.Sums.{total, sum_of}

abbrev pub places : {A : Type 0} → (A → A → Bool) → A → List A → ℕ
places same x ys = sum_of (λ y. cond (same x y) 1 0) ys

pub record Permuted {A : Type 0} (same : A → A → Bool) (xs ys : List A) : Type 0 where
  pub each : (x : A) → places same x xs ≡ places same x ys

pub record IsEquality {A : Type 0} (same : A → A → Bool) : Type 0 where
  pub own : (x : A) → same x x ≡ true
  pub tells : (x y : A) → same x y ≡ true → x ≡ y

pub record IsOfMembers {A : Type 0} (R : List A → List A → Type 0) : Type 0 where
  pub none : R [] []
  pub later : (x : A) (xs ys : List A) → R xs ys → R (x ∷ xs) (x ∷ ys)
  pub turned : (x y : A) (xs : List A) → R (x ∷ y ∷ xs) (y ∷ x ∷ xs)
  pub through : (xs ys zs : List A) → R xs ys → R ys zs → R xs zs

-- the list without the first place of x
abbrev without : {A : Type 0} → (A → A → Bool) → A → List A → List A
without same x [] = []
without same x (y ∷ ys) = cond (same x y) ys (y ∷ without same x ys)

module _ {A : Type 0} (same : A → A → Bool) (equality : IsEquality same) where
  places-head : (x y : A) (ys : List A) (b : Bool) → same x y ≡ b → (z : A) → (0 < places same x ys → places same z ys ≡ cond (same z x) 1 0 + places same z (without same x ys)) → 0 < cond b 1 0 + places same x ys → cond (same z y) 1 0 + places same z ys ≡ cond (same z x) 1 0 + places same z (cond b ys (y ∷ without same x ys))
  places-head x y ys true e z rest h = let is = equality.tells x y e in ap (λ u. cond (same z u) 1 0 + places same z ys) (sym is)
  places-head x y ys false e z rest h = let later = rest (omega arith) in omega arith

  places-without : (z x : A) (ys : List A) → 0 < places same x ys → places same z ys ≡ cond (same z x) 1 0 + places same z (without same x ys)
  places-without z x [] h = absurd (omega arith)
  places-without z x (y ∷ ys) h = places-head x y ys (same x y) refl z (places-without z x ys) h

  places-own : (x : A) (xs : List A) → places same x (x ∷ xs) ≡ 1 + places same x xs
  places-own x xs = ap (λ b. cond b 1 0 + places same x xs) (equality.own x)

  module _ (R : List A → List A → Type 0) (members : IsOfMembers R) where
    itself : (xs : List A) → R xs xs
    itself [] = members.none
    itself (x ∷ xs) = members.later x xs xs (itself xs)

    from_front_at : (x y : A) (ys : List A) (b : Bool) → same x y ≡ b → (0 < places same x ys → R (x ∷ without same x ys) ys) → 0 < cond b 1 0 + places same x ys → R (x ∷ cond b ys (y ∷ without same x ys)) (y ∷ ys)
    from_front_at x y ys true e rest h = let is = equality.tells x y e in rw is (itself (y ∷ ys))
    from_front_at x y ys false e rest h =
        members.through (x ∷ y ∷ without same x ys) (y ∷ x ∷ without same x ys) (y ∷ ys) (members.turned x y (without same x ys)) (members.later y (x ∷ without same x ys) ys (rest (omega arith)))

    from_front : (x : A) (ys : List A) → 0 < places same x ys → R (x ∷ without same x ys) ys
    from_front x [] h = absurd (omega arith)
    from_front x (y ∷ ys) h = from_front_at x y ys (same x y) refl (from_front x ys) h

    by_places : (xs ys : List A) → ((x : A) → places same x xs ≡ places same x ys) → R xs ys
    by_places [] [] each = members.none
    by_places [] (y ∷ ys) each = absurd (let here = each y in let own = places-own y ys in omega arith)
    by_places (x ∷ xs) ys each =
        let here : 0 < places same x ys = let e = each x in let own = places-own x xs in omega arith in
        members.through (x ∷ xs) (x ∷ without same x ys) ys
        (members.later x xs (without same x ys) (by_places xs (without same x ys) (λ z. let e = each z in let w = places-without z x ys here in omega arith)))
        (from_front x ys here)

pub permuted : {A : Type 0} (same : A → A → Bool) → IsEquality same → (R : List A → List A → Type 0) → IsOfMembers R → (xs ys : List A) → Permuted same xs ys → R xs ys
permuted same equality R members xs ys is = by_places same equality R members xs ys is.each

pub permuted-permutation : {A : Type 0} (same : A → A → Bool) → IsEquality same → (xs ys : List A) → Permuted same xs ys → IsPermutation xs ys
permuted-permutation {A = A} same equality xs ys is = permuted same equality IsPermutation (record { none = IsPermutation-refl []; later = IsPermutation-cons; turned = turned; through = IsPermutation-trans }) xs ys is
  where
    turned : (x y : A) (zs : List A) → IsPermutation (x ∷ y ∷ zs) (y ∷ x ∷ zs)
    turned x y zs = IsPermutation-middle (x ∷ []) y zs

pub permuted-length : {A : Type 0} (same : A → A → Bool) → IsEquality same → (xs ys : List A) → Permuted same xs ys → length xs ≡ length ys
permuted-length same equality xs ys is = permuted same equality (λ us vs. length us ≡ length vs) (record { none = refl; later = λ x us vs e. ap suc e; turned = λ x y us. refl; through = λ us vs zs e f. e ∙ f }) xs ys is

pub permuted-total : {A : Type 0} (f : A → ℤ) (same : A → A → Bool) → IsEquality same → (xs ys : List A) → Permuted same xs ys → total f xs ≡ total f ys
permuted-total f same equality xs ys is = permuted same equality (λ us vs. total f us ≡ total f vs) (record { none = refl; later = λ x us vs e. omega (arith, ints); turned = λ x y us. omega (arith, ints); through = λ us vs zs e g. e ∙ g }) xs ys is

pub permuted-sum_of : {A : Type 0} (f : A → ℕ) (same : A → A → Bool) → IsEquality same → (xs ys : List A) → Permuted same xs ys → sum_of f xs ≡ sum_of f ys
permuted-sum_of f same equality xs ys is = permuted same equality (λ us vs. sum_of f us ≡ sum_of f vs) (record { none = refl; later = λ x us vs e. omega arith; turned = λ x y us. omega arith; through = λ us vs zs e g. e ∙ g }) xs ys is
