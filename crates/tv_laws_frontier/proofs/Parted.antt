-- Sums parted by a key, sums exchanged, and sums carried from members to members.
use Rattle.std.specs.Prelude.{◌≡◌, Contains, ℕ, zero, suc, ◌+◌, ◌*◌, ◌<◌, Bool, true, false, cond, List, [], ◌∷◌, map, filter}
use Rattle.std.specs.List.{AllByRecursion, IsDistinct}
use Rattle.std.proofs.Common.{refl, sym, ap, ◌∙◌, arith, inl, inr}
use Rattle.tv_lemmas.specs.Sums.{sum_of}
use Rattle.tv_lemmas.proofs.Members.{all-any, all-map, all-both, all-filter, all-contains, all-members, contains-cases, contains-head, contains-later, contains-map, contains-filter}
use Rattle.tv_lemmas.proofs.Distinct.{distinct-filter}
use Rattle.tv_lemmas.proofs.Permuted.{places, Permuted, IsEquality, permuted-sum_of}
use Rattle.tv_ring.specs.Sums.{total_below}
use Rattle.tv_ring.proofs.Sums.{total_below-none, total_below-more}
use Rattle.tv_laws_frontier.proofs.Filters.{sum_of-same}
use Rattle.tv_lemmas.proofs.Sums.{sum_of-map}

pub sum_of-alike : {A : Type 0} (f g : A → ℕ) → ((x : A) → f x ≡ g x) → (xs : List A) → sum_of f xs ≡ sum_of g xs
sum_of-alike f g same xs = sum_of-same f g xs (all-any (λ x. f x ≡ g x) same xs)

pub sum_of-zero : {A : Type 0} (xs : List A) → sum_of (λ (x : A). 0) xs ≡ 0
sum_of-zero [] = refl
sum_of-zero (x ∷ xs) = let rest = sum_of-zero xs in omega arith

pub sum_of-add : {A : Type 0} (f g : A → ℕ) (xs : List A) → sum_of (λ x. f x + g x) xs ≡ sum_of f xs + sum_of g xs
sum_of-add f g [] = omega arith
sum_of-add f g (x ∷ xs) = let rest = sum_of-add f g xs in omega arith

distribute : (c x y : ℕ) → c * (x + y) ≡ c * x + c * y
distribute c x y = grind arith

pub sum_of-times : {A : Type 0} (c : ℕ) (f : A → ℕ) (xs : List A) → sum_of (λ x. c * f x) xs ≡ c * sum_of f xs
sum_of-times c f [] = omega arith
sum_of-times c f (x ∷ xs) = ap (λ s. c * f x + s) (sum_of-times c f xs) ∙ sym (distribute c (f x) (sum_of f xs))

-- a sum of convolutions is the convolution of the sum
pub exchanged : {A : Type 0} (c : ℕ → ℕ) (h : A → ℕ → ℕ) (n : ℕ) (xs : List A) → sum_of (λ x. total_below (λ j. c j * h x j) n) xs ≡ total_below (λ j. c j * sum_of (λ x. h x j) xs) n
exchanged c h zero xs =
    sum_of-alike (λ x. total_below (λ j. c j * h x j) 0) (λ x. 0) (λ x. total_below-none (λ j. c j * h x j)) xs
    ∙ (sum_of-zero xs ∙ sym (total_below-none (λ j. c j * sum_of (λ x. h x j) xs)))
exchanged c h (suc n) xs =
    sum_of-alike (λ x. total_below (λ j. c j * h x j) (suc n)) (λ x. total_below (λ j. c j * h x j) n + c n * h x n) (λ x. total_below-more (λ j. c j * h x j) n) xs
    ∙ (sum_of-add (λ x. total_below (λ j. c j * h x j) n) (λ x. c n * h x n) xs
    ∙ rw (exchanged c h n xs, sum_of-times (c n) (λ x. h x n) xs, total_below-more (λ j. c j * sum_of (λ x. h x j) xs) n) refl)

module _ {B : Type 0} (same : B → B → Bool) (equality : IsEquality same) where
  apart-none : (c : ℕ) (y z : B) (ks : List B) → y ≡ z → AllByRecursion (λ k. same z k ≡ false) ks → sum_of (λ k. cond (same y k) c 0) ks ≡ 0
  apart-none c y z [] e all = refl
  apart-none c y z (k ∷ ks) e all = let off : same y k ≡ false = ap (λ x. same x k) e ∙ all.0 in let rest = apart-none c y z ks e all.1 in rw off (omega arith)

  once-head : (c : ℕ) (y k : B) (ks : List B) (b : Bool) → same y k ≡ b → AllByRecursion (λ z. same k z ≡ false) ks → (Contains ks y → sum_of (λ z. cond (same y z) c 0) ks ≡ c) → Contains (k ∷ ks) y → cond b c 0 + sum_of (λ z. cond (same y z) c 0) ks ≡ c
  once-head c y k ks true e apart rest among = let none = apart-none c y k ks (equality.tells y k e) apart in omega arith
  once-head c y k ks false e apart rest among = elim (contains-cases y k ks among) [
    | inl is ↦ absurd (let own : same y k ≡ true = ap (same y) is ∙ equality.own y in let no : false ≡ true = sym e ∙ own in cc)
    | inr later ↦ let here = rest later in omega arith
  ]

  none-in : (y : B) → Contains [] y → ⊥
  none-in y (k, h, e) = omega arith

  -- one of different members
  pub once : (c : ℕ) (y : B) (ks : List B) → IsDistinct same ks → Contains ks y → sum_of (λ k. cond (same y k) c 0) ks ≡ c
  unfolding IsDistinct
  once c y [] distinct among = absurd (none-in y among)
  once c y (k ∷ ks) distinct among = once-head c y k ks (same y k) refl distinct.0 (once c y ks distinct.1) among

  part-head : {A : Type 0} (F : A → ℕ) (key : A → B) (x : A) (xs : List A) (k : B) → sum_of F (filter (λ z. same (key z) k) (x ∷ xs)) ≡ cond (same (key x) k) (F x) 0 + sum_of F (filter (λ z. same (key z) k) xs)
  part-head F key x xs k = by_test (same (key x) k)
    where
      by_test : (b : Bool) → sum_of F (cond b (x ∷ filter (λ z. same (key z) k) xs) (filter (λ z. same (key z) k) xs)) ≡ cond b (F x) 0 + sum_of F (filter (λ z. same (key z) k) xs)
      by_test true = refl
      by_test false = omega arith

  pub parted : {A : Type 0} (F : A → ℕ) (key : A → B) (ks : List B) → IsDistinct same ks → (xs : List A) → AllByRecursion (λ x. Contains ks (key x)) xs → sum_of F xs ≡ sum_of (λ k. sum_of F (filter (λ x. same (key x) k) xs)) ks
  parted F key ks distinct [] all = sym (sum_of-zero ks)
  parted F key ks distinct (x ∷ xs) all =
      sym (sum_of-alike (λ k. sum_of F (filter (λ z. same (key z) k) (x ∷ xs))) (λ k. cond (same (key x) k) (F x) 0 + sum_of F (filter (λ z. same (key z) k) xs)) (part-head F key x xs) ks
      ∙ (sum_of-add (λ k. cond (same (key x) k) (F x) 0) (λ k. sum_of F (filter (λ z. same (key z) k) xs)) ks
      ∙ rw (once (F x) (key x) ks distinct all.0, sym (parted F key ks distinct xs all.1)) refl))

  found-head : (x y : B) (ys : List B) (b : Bool) → same x y ≡ b → (0 < places same x ys → Contains ys x) → 0 < cond b 1 0 + places same x ys → Contains (y ∷ ys) x
  found-head x y ys true e rest h = contains-head x y ys (sym (equality.tells x y e))
  found-head x y ys false e rest h = contains-later x y ys (rest (omega arith))

  found : (x : B) (ys : List B) → 0 < places same x ys → Contains ys x
  found x [] h = absurd (omega arith)
  found x (y ∷ ys) h = found-head x y ys (same x y) refl (found x ys) h

  by_members : (xs ys : List B) → IsDistinct same xs → IsDistinct same ys → ((x : B) → Contains xs x → Contains ys x) → ((x : B) → Contains ys x → Contains xs x) → Permuted same xs ys
  by_members xs ys dx dy to back = record { each = λ x. step x (places same x xs) (places same x ys) refl refl }
    where
      step : (x : B) (m n : ℕ) → places same x xs ≡ m → places same x ys ≡ n → m ≡ n
      step x zero zero e f = refl
      step x zero (suc n) e f = absurd (let one = once 1 x xs dx (back x (found x ys (omega arith))) in omega arith)
      step x (suc m) n e f =
          let here = found x xs (omega arith) in
          let one = once 1 x xs dx here in
          let other = once 1 x ys dy (to x here) in omega arith

  distinct-carried : (P : B → Type 0) (g : B → B) → ((x y : B) → P x → P y → same x y ≡ false → same (g x) (g y) ≡ false) → (xs : List B) → AllByRecursion P xs → IsDistinct same xs → IsDistinct same (map g xs)
  unfolding IsDistinct
  distinct-carried P g apart [] all distinct = tt
  distinct-carried P g apart (x ∷ xs) all distinct =
      (all-map (λ y. same (g x) (g y) ≡ false) (λ z. same (g x) z ≡ false) g (λ y h. h) xs (all-both P (λ y. same x y ≡ false) (λ y. same (g x) (g y) ≡ false) (λ y is differs. apart x y all.0 is differs) xs all.1 distinct.0), distinct-carried P g apart xs all.1 distinct.1)

  -- what passes p, and what passes q, by maps that undo one another
  module _ (L : List B) (distinct : IsDistinct same L) (p q : B → Bool) (f g : B → B) (to : (x : B) → Contains L x → p x ≡ true → Contains L (f x) × (q (f x) ≡ true) × (g (f x) ≡ x)) (back : (y : B) → Contains L y → q y ≡ true → Contains L (g y) × (p (g y) ≡ true) × (f (g y) ≡ y)) where
    passing : (r : B → Bool) → AllByRecursion (λ x. Contains L x × (r x ≡ true)) (filter r L)
    passing r = all-filter (Contains L) (λ x. Contains L x × (r x ≡ true)) r (λ x among on. (among, on)) L (all-members L)

    carries : (x : B) → Contains (filter p L) x → Contains (map g (filter q L)) x
    carries x among =
        let is = all-contains (λ z. Contains L z × (p z ≡ true)) (filter p L) x (passing p) among in
        let there = to x is.0 is.1 in
        let value = contains-map g (f x) (filter q L) (contains-filter q (f x) L there.0 there.1) in
        let P : B → Type 0 = λ z. Contains (map g (filter q L)) z in
        rw there.2 at value

    returned : AllByRecursion (Contains (filter p L)) (map g (filter q L))
    returned = all-map (λ y. Contains L y × (q y ≡ true)) (Contains (filter p L)) g (λ y is. let there = back y is.0 is.1 in contains-filter p (g y) L there.0 there.1) (filter q L) (passing q)

    keeps-apart : (x y : B) → Contains L x × (q x ≡ true) → Contains L y × (q y ≡ true) → same x y ≡ false → same (g x) (g y) ≡ false
    keeps-apart x y is also differs = by_test (same (g x) (g y)) refl
      where
        by_test : (b : Bool) → same (g x) (g y) ≡ b → b ≡ false
        by_test false e = refl
        by_test true e = absurd (
            let equal : x ≡ y = sym (back x is.0 is.1).2 ∙ (ap f (equality.tells (g x) (g y) e) ∙ (back y also.0 also.1).2) in
            let own : same x y ≡ true = ap (same x) (sym equal) ∙ equality.own x in
            let no : false ≡ true = sym differs ∙ own in cc)

    pub carried : (F : B → ℕ) → sum_of F (filter p L) ≡ sum_of (λ y. F (g y)) (filter q L)
    carried F =
        permuted-sum_of F same equality (filter p L) (map g (filter q L))
        (by_members (filter p L) (map g (filter q L)) (distinct-filter same p L distinct) (distinct-carried (λ y. Contains L y × (q y ≡ true)) g keeps-apart (filter q L) (passing q) (distinct-filter same q L distinct)) carries (λ x among. all-contains (Contains (filter p L)) (map g (filter q L)) x returned among))
        ∙ sum_of-map F g (filter q L)
