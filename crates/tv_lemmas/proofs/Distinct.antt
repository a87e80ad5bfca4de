-- Lists in which nothing stands twice, by a test of equality.
--
-- distinct-append    two such lists together, where none of the first is one of the second
-- distinct-map       the values of a function that keeps apart what differs
-- distinct-filter    what passes a test
-- distinct-flat_map  joined pieces, where what is of different members differs: P x y says that y is of x
-- distinct-range     the numbers from k on
-- distinct-ahead     each of some lists behind each of some heads, by keys of the heads: no list stands twice
-- pointwise-tells    lists that are equal place by place are equal
use Rattle.std.specs.Prelude.{◌≡◌, ℕ, zero, suc, ◌+◌, ◌<◌, Bool, true, false, cond, ◌&&◌, nat_eq, List, [], ◌∷◌, ◌++◌, map, filter}
use Rattle.std.specs.List.{flat_map, AllByRecursion, IsDistinct, range_with_len}
use Rattle.std.specs.Cmp.Lexicographic.{pointwise}
use Rattle.std.proofs.Common.{refl, sym, ap, ◌∙◌, arith}
use Rattle.std.proofs.lemmas.Bool.{and_parts}
use Rattle.std.proofs.lemmas.Bool.Decides.{nat_tests}
use Rattle.tv_lemmas.proofs.Members.{all-append, all-map, all-flat_map, all-filter, all-onto, all-both, all-any}

pub distinct-append : {A : Type 0} (e : A → A → Bool) (xs ys : List A) → IsDistinct e xs → IsDistinct e ys → AllByRecursion (λ x. AllByRecursion (λ y. e x y ≡ false) ys) xs → IsDistinct e (xs ++ ys)
unfolding IsDistinct
distinct-append e [] ys front back apart = back
distinct-append e (x ∷ xs) ys front back apart = (all-append (λ y. e x y ≡ false) xs ys front.0 apart.0, distinct-append e xs ys front.1 back apart.1)

pub distinct-map : {A B : Type 0} (same : A → A → Bool) (e : B → B → Bool) (f : A → B) → ((x y : A) → same x y ≡ false → e (f x) (f y) ≡ false) → (xs : List A) → IsDistinct same xs → IsDistinct e (map f xs)
unfolding IsDistinct
distinct-map same e f apart [] once = tt
distinct-map same e f apart (x ∷ xs) once = (all-map (λ y. same x y ≡ false) (λ z. e (f x) z ≡ false) f (apart x) xs once.0, distinct-map same e f apart xs once.1)

pub distinct-filter : {A : Type 0} (e : A → A → Bool) (p : A → Bool) (xs : List A) → IsDistinct e xs → IsDistinct e (filter p xs)
unfolding IsDistinct
distinct-filter e p [] once = tt
distinct-filter e p (x ∷ xs) once =
    let rest = distinct-filter e p xs once.1 in
    elim (p x) as (λ b. IsDistinct e (cond b (x ∷ filter p xs) (filter p xs))) [
      | true ↦ (all-filter (λ y. e x y ≡ false) (λ y. e x y ≡ false) p (λ y differs on. differs) xs once.0, rest)
      | false ↦ rest
    ]

pub distinct-flat_map : {A B : Type 0} (same : A → A → Bool) (e : B → B → Bool) (P : A → B → Type 0) (f : A → List B) → ((x y : A) → same x y ≡ false → (u v : B) → P x u → P y v → e u v ≡ false) → (xs : List A) → IsDistinct same xs → AllByRecursion (λ x. AllByRecursion (P x) (f x)) xs → AllByRecursion (λ x. IsDistinct e (f x)) xs → IsDistinct e (flat_map f xs)
unfolding IsDistinct
distinct-flat_map same e P f apart [] once of each = tt
distinct-flat_map {B = B} same e P f apart (x ∷ xs) once of each =
    distinct-append e (f x) (flat_map f xs) each.0 (distinct-flat_map same e P f apart xs once.1 of.1 each.1)
    (all-onto (P x) (λ u. AllByRecursion (λ v. e u v ≡ false) (flat_map f xs)) none_later (f x) of.0)
  where
    none_later : (u : B) → P x u → AllByRecursion (λ v. e u v ≡ false) (flat_map f xs)
    none_later u here =
        all-flat_map (λ y. AllByRecursion (λ v. e u v ≡ false) (f y)) (λ v. e u v ≡ false) f (λ y h. h) xs
        (all-both (λ y. same x y ≡ false) (λ y. AllByRecursion (P y) (f y)) (λ y. AllByRecursion (λ v. e u v ≡ false) (f y))
        (λ y differs there. all-onto (P y) (λ v. e u v ≡ false) (λ v is. apart x y differs u v here is) (f y) there) xs once.0 of.1)

above : (k j n : ℕ) → k < j → AllByRecursion (λ i. nat_eq k i ≡ false) (range_with_len j n)
above k j zero h = tt
above k j (suc n) h = (grind (arith, nat_tests), above k (j + 1) n (omega arith))

pub distinct-range : (k n : ℕ) → IsDistinct nat_eq (range_with_len k n)
unfolding IsDistinct
distinct-range k zero = tt
distinct-range k (suc n) = (above k (k + 1) n (omega arith), distinct-range (k + 1) n)

pub pointwise-tells : {A : Type 0} (same : A → A → Bool) → ((x y : A) → same x y ≡ true → x ≡ y) → (xs ys : List A) → pointwise same xs ys ≡ true → xs ≡ ys
pointwise-tells same tells [] [] e = refl
pointwise-tells same tells [] (y ∷ ys) e = cc
pointwise-tells same tells (x ∷ xs) [] e = cc
pointwise-tells same tells (x ∷ xs) (y ∷ ys) e =
    let parts = and_parts (same x y) (pointwise same xs ys) e in
    ap (λ z. z ∷ xs) (tells x y parts.0) ∙ ap (λ zs. y ∷ zs) (pointwise-tells same tells xs ys parts.1)

-- the lists by their heads, and by the keys of their heads
abbrev BeginsBy : {A : Type 0} → A → List A → Type 0
BeginsBy x [] = ⊥
BeginsBy x (y ∷ ys) = y ≡ x

abbrev HasKey : {A : Type 0} → (A → ℕ) → ℕ → List A → Type 0
HasKey key n [] = ⊥
HasKey key n (x ∷ xs) = key x ≡ n

abbrev pub ahead : {A : Type 0} → (ℕ → List A) → (ℕ → List (List A)) → ℕ → List (List A)
ahead heads tails n = flat_map (λ x. map (λ xs. x ∷ xs) (tails n)) (heads n)

module _ {A : Type 0} (same : A → A → Bool) (tells : (x y : A) → same x y ≡ true → x ≡ y) (own : (x : A) → same x x ≡ true) (key : A → ℕ) where
  heads-apart : (x y : A) → same x y ≡ false → (xs ys : List A) → BeginsBy x xs → BeginsBy y ys → pointwise same xs ys ≡ false
  heads-apart x y differ [] ys p q = absurd p
  heads-apart x y differ (z ∷ xs) [] p q = absurd q
  heads-apart x y differ (z ∷ xs) (u ∷ ys) p q = rw (p, q, differ) refl

  keys-apart : (m n : ℕ) → nat_eq m n ≡ false → (xs ys : List A) → HasKey key m xs → HasKey key n ys → pointwise same xs ys ≡ false
  keys-apart m n differ [] ys p q = absurd p
  keys-apart m n differ (x ∷ xs) [] p q = absurd q
  keys-apart m n differ (x ∷ xs) (y ∷ ys) p q = by_test (same x y) refl
    where
      by_test : (b : Bool) → same x y ≡ b → (b && pointwise same xs ys) ≡ false
      by_test true e = absurd (let equal : m ≡ n = sym p ∙ (ap key (tells x y e) ∙ q) in let none : ⊥ = grind (arith, nat_tests) in none)
      by_test false e = refl

  behind-apart : (x : A) (xs ys : List A) → pointwise same xs ys ≡ false → pointwise same (x ∷ xs) (x ∷ ys) ≡ false
  behind-apart x xs ys differ = rw (own x, differ) refl

  begins : (x : A) (lists : List (List A)) → AllByRecursion (BeginsBy x) (map (λ xs. x ∷ xs) lists)
  begins x [] = tt
  begins x (xs ∷ lists) = (refl, begins x lists)

  keyed : (n : ℕ) (x : A) (lists : List (List A)) → key x ≡ n → AllByRecursion (HasKey key n) (map (λ xs. x ∷ xs) lists)
  keyed n x [] e = tt
  keyed n x (xs ∷ lists) e = (e, keyed n x lists e)

  ahead-once : (heads : List A) (tails : List (List A)) → IsDistinct same heads → IsDistinct (pointwise same) tails → IsDistinct (pointwise same) (flat_map (λ x. map (λ xs. x ∷ xs) tails) heads)
  ahead-once heads tails once rest =
      distinct-flat_map same (pointwise same) BeginsBy (λ x. map (λ xs. x ∷ xs) tails) heads-apart heads once
      (all-any (λ x. AllByRecursion (BeginsBy x) (map (λ xs. x ∷ xs) tails)) (λ x. begins x tails) heads)
      (all-any (λ x. IsDistinct (pointwise same) (map (λ xs. x ∷ xs) tails)) (λ x. distinct-map (pointwise same) (pointwise same) (λ xs. x ∷ xs) (behind-apart x) tails rest) heads)

  pub distinct-ahead : (heads : ℕ → List A) (tails : ℕ → List (List A)) → ((n : ℕ) → AllByRecursion (λ x. key x ≡ n) (heads n)) → ((n : ℕ) → IsDistinct same (heads n)) → ((n : ℕ) → IsDistinct (pointwise same) (tails n)) → (ns : List ℕ) → IsDistinct nat_eq ns → IsDistinct (pointwise same) (flat_map (ahead heads tails) ns)
  distinct-ahead heads tails keys once rest ns each =
      distinct-flat_map nat_eq (pointwise same) (HasKey key) (ahead heads tails) keys-apart ns each
      (all-any (λ n. AllByRecursion (HasKey key n) (ahead heads tails n)) (λ n. all-flat_map (λ x. key x ≡ n) (HasKey key n) (λ x. map (λ xs. x ∷ xs) (tails n)) (λ x e. keyed n x (tails n) e) (heads n) (keys n)) ns)
      (all-any (λ n. IsDistinct (pointwise same) (ahead heads tails n)) (λ n. ahead-once (heads n) (tails n) (once n) (rest n)) ns)
