-- Lists in order, said as lists in which no member and a later one stand wrong.
--
-- wrong before x y   == x does not come before y
-- Ordered before xs  == no member and a later one stand wrong
-- in_order           such a list is in order: each member comes before every later one
-- of_one_number      what all have one number may be ordered by that number first
-- ordered-range      the numbers from k on
-- behind             one more member in front of both
-- ordered-ahead      each of some lists behind each of some heads, by a number of the heads
use Rattle.std.specs.Prelude.{◌≡◌, ℕ, zero, suc, ◌+◌, ◌<◌, Bool, true, false, not, ◌&&◌, nat_eq, nat_lt, List, [], ◌∷◌, map}
use Rattle.std.specs.List.{flat_map, AllByRecursion, IsDistinct, range_with_len}
use Rattle.std.specs.Cmp.Lexicographic.{pointwise}
use Rattle.std.proofs.Common.{refl, sym, ◌∙◌, arith, eq-eqb}
use Rattle.std.proofs.lemmas.Bool.{not-false, not_from_true, or_left, or_right, and_from, lt-ltb}
use Rattle.std.proofs.lemmas.List.Elements.{All-from_recursion}
use Rattle.std.proofs.lemmas.List.Kept.{AllPairs-cons}
use Rattle.tv_lemmas.proofs.Members.{all-flat_map, all-onto, all-both, all-any}
use Rattle.tv_lemmas.proofs.Distinct.{distinct-map, distinct-flat_map, ahead}
use Rattle.tv_laws_orders.specs.Orders.{by_number, first_differs, IsInOrder}
use Rattle.tv_lemmas.proofs.Lists.{pointwise-own}

abbrev pub wrong : {A : Type 0} → (A → A → Bool) → A → A → Bool
wrong before x y = not (before x y)

abbrev pub Ordered : {A : Type 0} → (A → A → Bool) → List A → Type 0
Ordered before xs = IsDistinct (wrong before) xs

pub in_order : {A : Type 0} (before : A → A → Bool) (xs : List A) → Ordered before xs → IsInOrder before xs
unfolding IsDistinct
in_order before [] o = λ i j d h k. absurd (omega arith)
in_order {A = A} before (x ∷ xs) o =
    AllPairs-cons (λ (y z : A). before y z ≡ true) x xs
    (All-from_recursion (λ y. before x y ≡ true) xs
    (all-onto (λ y. wrong before x y ≡ false) (λ y. before x y ≡ true) (λ y e. not-false (before x y) e) xs o.0))
    (in_order before xs o.1)

pub of_one_number : {A : Type 0} (f : A → ℕ) (before : A → A → Bool) (n : ℕ) (xs : List A) →
    AllByRecursion (λ x. f x ≡ n) xs → Ordered before xs → Ordered (by_number f before) xs
unfolding IsDistinct
of_one_number f before n [] all o = tt
of_one_number {A = A} f before n (x ∷ xs) all o = (
  all-both (λ y. f y ≡ n) (λ y. wrong before x y ≡ false) (λ y. wrong (by_number f before) x y ≡ false) equal xs all.1 o.0,
  of_one_number f before n xs all.1 o.1,
)
  where
    equal : (y : A) → f y ≡ n → wrong before x y ≡ false → wrong (by_number f before) x y ≡ false
    equal y e h =
        not_from_true (by_number f before x y)
        (or_right (nat_lt (f x) (f y)) (nat_eq (f x) (f y) && before x y)
        (and_from (nat_eq (f x) (f y)) (before x y) (eq-eqb (f x) (f y) (all.0 ∙ sym e)) (not-false (before x y) h)))

later : (k j n : ℕ) → k < j → AllByRecursion (λ i. wrong nat_lt k i ≡ false) (range_with_len j n)
later k j zero h = tt
later k j (suc n) h = (not_from_true (nat_lt k j) (lt-ltb k j h), later k (j + 1) n (omega arith))

pub ordered-range : (k n : ℕ) → Ordered nat_lt (range_with_len k n)
unfolding IsDistinct
ordered-range k zero = tt
ordered-range k (suc n) = (later k (k + 1) n (omega arith), ordered-range (k + 1) n)

-- what P says is true of the first member
abbrev FirstIs : {A : Type 0} → (A → Type 0) → List A → Type 0
FirstIs P [] = ⊥
FirstIs P (x ∷ xs) = P x

firsts : {A : Type 0} (P : A → Type 0) (x : A) (lists : List (List A)) → P x →
    AllByRecursion (FirstIs P) (map (λ xs. x ∷ xs) lists)
firsts P x [] p = tt
firsts P x (xs ∷ lists) p = (p, firsts P x lists p)

module _ {A : Type 0} (same before : A → A → Bool) (own : (x : A) → same x x ≡ true) where
  abbrev earlier : List A → List A → Bool
  earlier = first_differs same before

  pub behind : (x : A) (xs ys : List A) → wrong earlier xs ys ≡ false → wrong earlier (x ∷ xs) (x ∷ ys) ≡ false
  behind x xs ys e =
      not_from_true (earlier (x ∷ xs) (x ∷ ys))
      (or_right (before x x) (same x x && earlier xs ys) (and_from (same x x) (earlier xs ys) (own x) (not-false (earlier xs ys) e)))

  -- the first members decide
  by_first : (P Q : A → Type 0) → ((x y : A) → P x → Q y → before x y ≡ true) → (xs ys : List A) → FirstIs P xs →
      FirstIs Q ys → wrong earlier xs ys ≡ false
  by_first P Q decide [] ys p q = absurd p
  by_first P Q decide (x ∷ xs) [] p q = absurd q
  by_first P Q decide (x ∷ xs) (y ∷ ys) p q =
      not_from_true (earlier (x ∷ xs) (y ∷ ys)) (or_left (before x y) (same x y && earlier xs ys) (decide x y p q))

  ordered-behind : (heads : List A) (tails : List (List A)) → Ordered before heads → Ordered earlier tails →
      Ordered earlier (flat_map (λ x. map (λ xs. x ∷ xs) tails) heads)
  ordered-behind heads tails o rest =
      distinct-flat_map (wrong before) (wrong earlier) (λ x. FirstIs (λ z. z ≡ x)) (λ x. map (λ xs. x ∷ xs) tails)
      (λ x y e. by_first (λ z. z ≡ x) (λ z. z ≡ y) (λ u v p q. rw (p, q) (not-false (before x y) e))) heads o
      (all-any (λ x. AllByRecursion (FirstIs (λ z. z ≡ x)) (map (λ xs. x ∷ xs) tails)) (λ x. firsts (λ z. z ≡ x) x tails refl) heads)
      (all-any (λ x. Ordered earlier (map (λ xs. x ∷ xs) tails))
      (λ x. distinct-map (wrong earlier) (wrong earlier) (λ xs. x ∷ xs) (behind x) tails rest) heads)

module _ {A : Type 0} (same : A → A → Bool) (f : A → ℕ) (before : A → A → Bool) (own : (x : A) → same x x ≡ true) where
  abbrev chosen : List A → List A → Bool
  chosen = first_differs same (by_number f before)

  fewer : (m n : ℕ) → wrong nat_lt m n ≡ false → (x y : A) → f x ≡ m → f y ≡ n → by_number f before x y ≡ true
  fewer m n e x y p q = or_left (nat_lt (f x) (f y)) (nat_eq (f x) (f y) && before x y) (rw (p, q) (not-false (nat_lt m n) e))

  ahead-first : (heads : ℕ → List A) (tails : ℕ → List (List A)) → ((n : ℕ) → AllByRecursion (λ x. f x ≡ n) (heads n)) →
      (n : ℕ) → AllByRecursion (FirstIs (λ x. f x ≡ n)) (ahead heads tails n)
  ahead-first heads tails numbers n =
      all-flat_map (λ x. f x ≡ n) (FirstIs (λ x. f x ≡ n)) (λ x. map (λ xs. x ∷ xs) (tails n))
      (λ x e. firsts (λ y. f y ≡ n) x (tails n) e) (heads n) (numbers n)

  pub ordered-ahead : (heads : ℕ → List A) (tails : ℕ → List (List A)) → ((n : ℕ) → AllByRecursion (λ x. f x ≡ n) (heads n)) →
      ((n : ℕ) → Ordered (by_number f before) (heads n)) → ((n : ℕ) → Ordered chosen (tails n)) → (ns : List ℕ) →
      Ordered nat_lt ns → Ordered chosen (flat_map (ahead heads tails) ns)
  ordered-ahead heads tails numbers each rest ns o =
      distinct-flat_map (wrong nat_lt) (wrong chosen) (λ n. FirstIs (λ x. f x ≡ n)) (ahead heads tails)
      (λ m n e. by_first same (by_number f before) own (λ x. f x ≡ m) (λ x. f x ≡ n) (fewer m n e)) ns o
      (all-any (λ n. AllByRecursion (FirstIs (λ x. f x ≡ n)) (ahead heads tails n)) (ahead-first heads tails numbers) ns)
      (all-any (λ n. Ordered chosen (ahead heads tails n))
      (λ n. ordered-behind same (by_number f before) own (heads n) (tails n) (each n) (rest n)) ns)
