-- The paths as lists of slices: all of them are listed, each once, and there are as many as are counted.
--
-- chains legs k first n s c == the lists of slices below s, which is at first + n, with which it is a chain of c extras
use Rattle.std.specs.Prelude.{◌≡◌, Contains, ℕ, zero, suc, ◌+◌, ◌-◌, ◌*◌, ◌<◌, ◌≤◌, ℤ, pos, neg_ℤ, Bool, true, false, cond, ◌&&◌, nat_eq, nat_le, List, [], ◌∷◌, map, filter, length}
use Rattle.std.specs.List.{flat_map, AllByRecursion, IsDistinct}
use Rattle.std.specs.Cmp.Lexicographic.{pointwise}
use Rattle.std.proofs.Common.{refl, sym, ap, subst, ◌∙◌, arith, length-append}
use Rattle.std.proofs.lemmas.Int.{ints}
use Rattle.std.proofs.lemmas.Bool.{and_parts, and_from, le-leb, leb-true, eqb-true, eq-eqb}
use Rattle.std.proofs.lemmas.List.{length-map}
use Rattle.tv_lemmas.specs.Sums.{sum_of}
use Rattle.tv_lemmas.proofs.Members.{all-map, all-flat_map, all-filter, all-any, all-contains, all-found, contains-head, contains-later, contains-map, contains-flat_map, contains-filter}
use Rattle.tv_lemmas.proofs.Distinct.{distinct-filter, distinct-map, distinct-flat_map}
use Rattle.tv_cells.specs.declared.legs.Legs.{Legs}
use Rattle.tv_cells.specs.Extras.{bit, extent, AreDiagrams}
use Rattle.tv_spec_slices.specs.Slices.{Shape, interlaces, fits, extras_of, same_shape}
use Rattle.tv_spec_slices.specs.Paths.{fitting, diagonal_at, ways, paths}
use Rattle.tv_laws_slices.specs.Laws.{often, IsChain, IsPath, PathsAreChains}
use Rattle.tv_laws_slices.proofs.Once.{once-all}
use Rattle.tv_laws_slices.proofs.Pushed.{same-shape, own-shape, listed-often, fitting-fits}

unfoldable pub chains : Legs → ℕ → ℤ → ℕ → Shape → ℕ → List (List Shape)
chains legs k first zero s c = cond (nat_eq c 0 && nat_eq (extras_of legs first s) 0) ([] ∷ []) []
chains legs k first (suc n) s c =
    cond (nat_le (extras_of legs (diagonal_at first (suc n)) s) c)
    (flat_map (λ a. map (λ slices. a ∷ slices) (chains legs k first n a (c - extras_of legs (diagonal_at first (suc n)) s)))
    (filter (λ a. interlaces (diagonal_at first n) a s) (fitting legs (diagonal_at first n) k))) []

-- ---- how many

length-ahead : {A : Type 0} (f : A → List (List A)) (w : A → ℕ) → ((a : A) → length (f a) ≡ w a) → (xs : List A) → length (flat_map (λ a. map (λ l. a ∷ l) (f a)) xs) ≡ sum_of w xs
length-ahead f w each [] = refl
length-ahead f w each (x ∷ xs) =
    length-append (map (λ l. x ∷ l) (f x)) (flat_map (λ a. map (λ l. a ∷ l) (f a)) xs)
    ∙ (ap (λ n. n + length (flat_map (λ a. map (λ l. a ∷ l) (f a)) xs)) (length-map (f x) (λ l. x ∷ l) ∙ each x) ∙ ap (λ n. w x + n) (length-ahead f w each xs))

length-cond : {A : Type 0} (q : Bool) (xs : List A) (n : ℕ) → length xs ≡ n → length (cond q xs []) ≡ cond q n 0
length-cond true xs n e = e
length-cond false xs n e = refl

length-chains : (legs : Legs) (k : ℕ) (first : ℤ) (n : ℕ) (s : Shape) (c : ℕ) → length (chains legs k first n s c) ≡ ways legs k first n s c
unfolding chains ways
length-chains legs k first zero s c = length-cond (nat_eq c 0 && nat_eq (extras_of legs first s) 0) ([] ∷ []) 1 refl
length-chains legs k first (suc n) s c =
    length-cond (nat_le (extras_of legs (diagonal_at first (suc n)) s) c) _ _
    (length-ahead (λ a. chains legs k first n a (c - extras_of legs (diagonal_at first (suc n)) s)) (λ a. ways legs k first n a (c - extras_of legs (diagonal_at first (suc n)) s))
    (λ a. length-chains legs k first n a (c - extras_of legs (diagonal_at first (suc n)) s)) (filter (λ a. interlaces (diagonal_at first n) a s) (fitting legs (diagonal_at first n) k)))

-- ---- what is listed

all-cond : {A : Type 0} (P : A → Type 0) (q : Bool) (xs : List A) → (q ≡ true → AllByRecursion P xs) → AllByRecursion P (cond q xs [])
all-cond P true xs all = all refl
all-cond P false xs all = tt

record IsBelow (legs : Legs) (first : ℤ) (n : ℕ) (s : Shape) (c : ℕ) (slices : List Shape) : Type 0 where
  many : length slices ≡ n
  chain : IsChain legs first (s ∷ slices) c

none-below : (legs : Legs) (first : ℤ) (s : Shape) (c : ℕ) → fits legs (diagonal_at first 0) s ≡ true → (nat_eq c 0 && nat_eq (extras_of legs first s) 0) ≡ true → IsBelow legs first 0 s c []
none-below legs first s c f h =
    let tests = and_parts (nat_eq c 0) (nat_eq (extras_of legs first s) 0) h in
    let e : diagonal_at first 0 ≡ first = omega (arith, ints) in
    record { many = refl; chain = (sym (ap (λ t. fits legs t s) e) ∙ f, eqb-true (extras_of legs first s) 0 tests.1, eqb-true c 0 tests.0) }

one-below : (legs : Legs) (first : ℤ) (n : ℕ) (s a : Shape) (c : ℕ) → fits legs (diagonal_at first (suc n)) s ≡ true → extras_of legs (diagonal_at first (suc n)) s ≤ c → interlaces (diagonal_at first n) a s ≡ true →
    (slices : List Shape) → IsBelow legs first n a (c - extras_of legs (diagonal_at first (suc n)) s) slices → IsBelow legs first (suc n) s c (a ∷ slices)
one-below legs first n s a c f l h slices below = record {
  many = ap suc below.many;
  chain = turned (length slices) (sym below.many) f l h below.chain;
}
  where
    turned : (m : ℕ) → n ≡ m → fits legs (diagonal_at first (suc n)) s ≡ true → extras_of legs (diagonal_at first (suc n)) s ≤ c → interlaces (diagonal_at first n) a s ≡ true →
        IsChain legs first (a ∷ slices) (c - extras_of legs (diagonal_at first (suc n)) s) →
        (fits legs (diagonal_at first (suc m)) s ≡ true) × (interlaces (diagonal_at first m) a s ≡ true) × (extras_of legs (diagonal_at first (suc m)) s ≤ c) × IsChain legs first (a ∷ slices) (c - extras_of legs (diagonal_at first (suc m)) s)
    turned m e f l h chain = subst (λ j. (fits legs (diagonal_at first (suc j)) s ≡ true) × (interlaces (diagonal_at first j) a s ≡ true) × (extras_of legs (diagonal_at first (suc j)) s ≤ c) × IsChain legs first (a ∷ slices) (c - extras_of legs (diagonal_at first (suc j)) s)) e (f, h, l, chain)

chains-are : (legs : Legs) (k : ℕ) (first : ℤ) → AreDiagrams legs → (n : ℕ) (s : Shape) (c : ℕ) → fits legs (diagonal_at first n) s ≡ true → AllByRecursion (IsBelow legs first n s c) (chains legs k first n s c)
unfolding chains
chains-are legs k first are zero s c f = all-cond (IsBelow legs first 0 s c) (nat_eq c 0 && nat_eq (extras_of legs first s) 0) ([] ∷ []) (λ h. (none-below legs first s c f h, tt))
chains-are legs k first are (suc n) s c f =
    all-cond (IsBelow legs first (suc n) s c) (nat_le (extras_of legs (diagonal_at first (suc n)) s) c) _
    (λ l. all-flat_map (λ a. (fits legs (diagonal_at first n) a ≡ true) × (interlaces (diagonal_at first n) a s ≡ true)) (IsBelow legs first (suc n) s c)
    (λ a. map (λ slices. a ∷ slices) (chains legs k first n a (c - extras_of legs (diagonal_at first (suc n)) s)))
    (λ a g. all-map (IsBelow legs first n a (c - extras_of legs (diagonal_at first (suc n)) s)) (IsBelow legs first (suc n) s c) (λ slices. a ∷ slices)
    (λ slices below. one-below legs first n s a c f (leb-true (extras_of legs (diagonal_at first (suc n)) s) c l) g.1 slices below)
    (chains legs k first n a (c - extras_of legs (diagonal_at first (suc n)) s)) (chains-are legs k first are n a (c - extras_of legs (diagonal_at first (suc n)) s) g.0))
    (filter (λ a. interlaces (diagonal_at first n) a s) (fitting legs (diagonal_at first n) k))
    (all-filter (λ a. fits legs (diagonal_at first n) a ≡ true) (λ a. (fits legs (diagonal_at first n) a ≡ true) × (interlaces (diagonal_at first n) a s ≡ true)) (λ a. interlaces (diagonal_at first n) a s) (λ a g h. (g, h)) (fitting legs (diagonal_at first n) k) (fitting-fits legs (diagonal_at first n) k are)))

-- ---- each of them is listed

listed-contains : (a : Shape) (xs : List Shape) → 0 < often a xs → Contains xs a
listed-contains a [] h = absurd (omega arith)
listed-contains a (x ∷ xs) h = by_test (same_shape a x) refl h (listed-contains a xs)
  where
    by_test : (q : Bool) → same_shape a x ≡ q → 0 < bit q + often a xs → (0 < often a xs → Contains xs a) → Contains (x ∷ xs) a
    by_test true e h rest = contains-head a x xs (sym (same-shape a x e))
    by_test false e h rest = contains-later a x xs (rest (omega arith))

fitting-contains : (legs : Legs) (t : ℤ) (k : ℕ) (a : Shape) → AreDiagrams legs → fits legs t a ≡ true → extras_of legs t a ≤ k → Contains (fitting legs t k) a
fitting-contains legs t k a are f l =
    listed-contains a (fitting legs t k) (some (often a (fitting legs t k)) (once-all legs t k a are ∙ ap bit (and_from (fits legs t a) (nat_le (extras_of legs t a) k) f (le-leb (extras_of legs t a) k l))))
  where
    some : (n : ℕ) → n ≡ 1 → 0 < n
    some n e = omega arith

contains-cond : {A : Type 0} (q : Bool) (xs : List A) (x : A) → q ≡ true → Contains xs x → Contains (cond q xs []) x
contains-cond true xs x e among = among
contains-cond false xs x e among = absurd (cc)

chain-fits : (legs : Legs) (first : ℤ) (a : Shape) (slices : List Shape) (c n : ℕ) → length slices ≡ n → IsChain legs first (a ∷ slices) c → fits legs (diagonal_at first n) a ≡ true
chain-fits legs first a [] c n e h = let z : diagonal_at first 0 ≡ first = omega (arith, ints) in ap (λ j. fits legs (diagonal_at first j) a) (sym e) ∙ (ap (λ t. fits legs t a) z ∙ h.0)
chain-fits legs first a (b ∷ slices) c n e h = ap (λ j. fits legs (diagonal_at first j) a) (sym e) ∙ h.0

chain-cost : (legs : Legs) (first : ℤ) (a : Shape) (slices : List Shape) (c n : ℕ) → length slices ≡ n → IsChain legs first (a ∷ slices) c → extras_of legs (diagonal_at first n) a ≤ c
chain-cost legs first a [] c n e h = let z : diagonal_at first 0 ≡ first = omega (arith, ints) in none (extras_of legs (diagonal_at first n) a) (ap (λ j. extras_of legs (diagonal_at first j) a) (sym e) ∙ (ap (λ t. extras_of legs t a) z ∙ h.1))
  where
    none : (x : ℕ) → x ≡ 0 → x ≤ c
    none x e = omega arith
chain-cost legs first a (b ∷ slices) c n e h = subst (λ j. extras_of legs (diagonal_at first j) a ≤ c) e h.2

chain-listed : (legs : Legs) (k : ℕ) (first : ℤ) → AreDiagrams legs → (n : ℕ) (s : Shape) (c : ℕ) (slices : List Shape) → c ≤ k → length slices ≡ n → IsChain legs first (s ∷ slices) c → Contains (chains legs k first n s c) slices
unfolding chains
chain-listed legs k first are zero s c [] l e h =
    contains-cond (nat_eq c 0 && nat_eq (extras_of legs first s) 0) ([] ∷ []) [] (and_from (nat_eq c 0) (nat_eq (extras_of legs first s) 0) (eq-eqb c 0 h.2) (eq-eqb (extras_of legs first s) 0 h.1)) (contains-head [] [] [] refl)
chain-listed legs k first are zero s c (a ∷ slices) l e h = absurd (omega arith)
chain-listed legs k first are (suc n) s c [] l e h = absurd (omega arith)
chain-listed legs k first are (suc n) s c (a ∷ slices) l e h =
    let m : length slices ≡ n = omega arith in
    let here = subst (λ j. (fits legs (diagonal_at first (suc j)) s ≡ true) × (interlaces (diagonal_at first j) a s ≡ true) × (extras_of legs (diagonal_at first (suc j)) s ≤ c) × IsChain legs first (a ∷ slices) (c - extras_of legs (diagonal_at first (suc j)) s)) m h in
    let x = extras_of legs (diagonal_at first (suc n)) s in
    contains-cond (nat_le x c) (flat_map (λ b. map (λ ss. b ∷ ss) (chains legs k first n b (c - x))) (filter (λ b. interlaces (diagonal_at first n) b s) (fitting legs (diagonal_at first n) k))) (a ∷ slices)
    (le-leb x c here.2)
    (contains-flat_map (λ b. map (λ ss. b ∷ ss) (chains legs k first n b (c - x))) a (a ∷ slices) (filter (λ b. interlaces (diagonal_at first n) b s) (fitting legs (diagonal_at first n) k))
    (contains-filter (λ b. interlaces (diagonal_at first n) b s) a (fitting legs (diagonal_at first n) k)
    (fitting-contains legs (diagonal_at first n) k a are (chain-fits legs first a slices (c - x) n m here.3) (small (extras_of legs (diagonal_at first n) a) x (chain-cost legs first a slices (c - x) n m here.3))) here.1)
    (contains-map (λ ss. a ∷ ss) slices (chains legs k first n a (c - x)) (chain-listed legs k first are n a (c - x) slices (less x) m here.3)))
  where
    small : (y x : ℕ) → y ≤ c - x → y ≤ k
    small y x m = omega arith

    less : (x : ℕ) → c - x ≤ k
    less x = omega arith

-- ---- each once

apart-rest : (a : Shape) (xs : List Shape) → often a xs ≡ 0 → AllByRecursion (λ b. same_shape a b ≡ false) xs
apart-rest a [] e = tt
apart-rest a (x ∷ xs) e = by_test (same_shape a x) refl e (apart-rest a xs)
  where
    by_test : (q : Bool) → same_shape a x ≡ q → bit q + often a xs ≡ 0 → (often a xs ≡ 0 → AllByRecursion (λ b. same_shape a b ≡ false) xs) → (same_shape a x ≡ false) × AllByRecursion (λ b. same_shape a b ≡ false) xs
    by_test true s e rest = absurd (omega arith)
    by_test false s e rest = (s, rest (omega arith))

few-distinct : (xs : List Shape) → ((a : Shape) → often a xs ≤ 1) → IsDistinct same_shape xs
unfolding IsDistinct
few-distinct [] few = tt
few-distinct (x ∷ xs) few = (apart-rest x xs (none (own-shape x) (few x)), few-distinct xs (λ a. later (bit (same_shape a x)) (often a xs) (few a)))
  where
    none : same_shape x x ≡ true → bit (same_shape x x) + often x xs ≤ 1 → often x xs ≡ 0
    none e l = let one : bit (same_shape x x) ≡ 1 = ap bit e in omega arith

    later : (b o : ℕ) → b + o ≤ 1 → o ≤ 1
    later b o l = omega arith

fitting-distinct : (legs : Legs) (t : ℤ) (k : ℕ) → AreDiagrams legs → IsDistinct same_shape (fitting legs t k)
fitting-distinct legs t k are = few-distinct (fitting legs t k) (λ a. few (fits legs t a && nat_le (extras_of legs t a) k) (often a (fitting legs t k)) (once-all legs t k a are))
  where
    few : (q : Bool) (n : ℕ) → n ≡ bit q → n ≤ 1
    few true n e = omega arith
    few false n e = omega arith

abbrev Begins : Shape → List Shape → Type 0
Begins a [] = ⊥
Begins a (b ∷ slices) = b ≡ a

begins-apart : (a b : Shape) → same_shape a b ≡ false → (u v : List Shape) → Begins a u → Begins b v → pointwise same_shape u v ≡ false
begins-apart a b e [] v p q = absurd p
begins-apart a b e (x ∷ u) [] p q = absurd q
begins-apart a b e (x ∷ u) (y ∷ v) p q = rw (p, q, e) refl

begins-all : (a : Shape) (lists : List (List Shape)) → AllByRecursion (Begins a) (map (λ slices. a ∷ slices) lists)
begins-all a [] = tt
begins-all a (l ∷ lists) = (refl, begins-all a lists)

behind-apart : (a : Shape) (u v : List Shape) → pointwise same_shape u v ≡ false → pointwise same_shape (a ∷ u) (a ∷ v) ≡ false
behind-apart a u v e = rw (own-shape a, e) refl

distinct-heads : (f : Shape → List (List Shape)) (xs : List Shape) → IsDistinct same_shape xs → ((a : Shape) → IsDistinct (pointwise same_shape) (f a)) → IsDistinct (pointwise same_shape) (flat_map (λ a. map (λ slices. a ∷ slices) (f a)) xs)
distinct-heads f xs once each =
    distinct-flat_map same_shape (pointwise same_shape) Begins (λ a. map (λ slices. a ∷ slices) (f a)) begins-apart xs once
    (all-any (λ a. AllByRecursion (Begins a) (map (λ slices. a ∷ slices) (f a))) (λ a. begins-all a (f a)) xs)
    (all-any (λ a. IsDistinct (pointwise same_shape) (map (λ slices. a ∷ slices) (f a))) (λ a. distinct-map (pointwise same_shape) (pointwise same_shape) (λ slices. a ∷ slices) (behind-apart a) (f a) (each a)) xs)

distinct-cond : (q : Bool) (lists : List (List Shape)) → IsDistinct (pointwise same_shape) lists → IsDistinct (pointwise same_shape) (cond q lists [])
unfolding IsDistinct
distinct-cond true lists once = once
distinct-cond false lists once = tt

distinct-one : IsDistinct (pointwise same_shape) ([] ∷ [])
unfolding IsDistinct
distinct-one = (tt, tt)

chains-distinct : (legs : Legs) (k : ℕ) (first : ℤ) → AreDiagrams legs → (n : ℕ) (s : Shape) (c : ℕ) → IsDistinct (pointwise same_shape) (chains legs k first n s c)
unfolding chains
chains-distinct legs k first are zero s c = distinct-cond (nat_eq c 0 && nat_eq (extras_of legs first s) 0) ([] ∷ []) distinct-one
chains-distinct legs k first are (suc n) s c =
    distinct-cond (nat_le (extras_of legs (diagonal_at first (suc n)) s) c) _
    (distinct-heads (λ a. chains legs k first n a (c - extras_of legs (diagonal_at first (suc n)) s)) (filter (λ a. interlaces (diagonal_at first n) a s) (fitting legs (diagonal_at first n) k))
    (distinct-filter same_shape (λ a. interlaces (diagonal_at first n) a s) (fitting legs (diagonal_at first n) k) (fitting-distinct legs (diagonal_at first n) k are))
    (λ a. chains-distinct legs k first are n a (c - extras_of legs (diagonal_at first (suc n)) s)))

-- ---- all paths

pub all_paths : Legs → ℕ → ℕ → ℕ → List (List Shape)
all_paths legs k far i = flat_map (λ s. map (λ slices. s ∷ slices) (chains legs k (neg_ℤ (pos far)) (2 * far) s i)) (fitting legs (pos far) 0)

pub last-diagonal : (far : ℕ) → diagonal_at (neg_ℤ (pos far)) (2 * far) ≡ pos far
last-diagonal far = omega (arith, ints)

paths-number : (legs : Legs) (k i : ℕ) → length (all_paths legs k (k + extent legs) i) ≡ paths legs k i
unfolding all_paths paths
paths-number legs k i =
    length-ahead (λ s. chains legs k (neg_ℤ (pos (k + extent legs))) (2 * (k + extent legs)) s i) (λ s. ways legs k (neg_ℤ (pos (k + extent legs))) (2 * (k + extent legs)) s i)
    (λ s. length-chains legs k (neg_ℤ (pos (k + extent legs))) (2 * (k + extent legs)) s i) (fitting legs (pos (k + extent legs)) 0)

fitting-few : (legs : Legs) (t : ℤ) (k : ℕ) → AreDiagrams legs → AllByRecursion (λ a. (fits legs t a ≡ true) × (extras_of legs t a ≤ k)) (fitting legs t k)
fitting-few legs t k are = all-found (λ a. (fits legs t a ≡ true) × (extras_of legs t a ≤ k)) same_shape own-shape (fitting legs t k) (λ a h. by_tests (fits legs t a) (nat_le (extras_of legs t a) k) refl refl (listed-often a (fitting legs t k) h) (once-all legs t k a are))
  where
    by_tests : {n x : ℕ} {f : Bool} (p q : Bool) → f ≡ p → nat_le x k ≡ q → (n ≡ 0 → ⊥) → n ≡ bit (f && nat_le x k) → (f ≡ true) × (x ≤ k)
    by_tests {x = x} true true e g ne h = (e, leb-true x k g)
    by_tests {x = x} {f = f} true false e g ne h = absurd (ne (h ∙ (ap (λ v. bit (v && nat_le x k)) e ∙ ap bit g)))
    by_tests {x = x} false q e g ne h = absurd (ne (h ∙ ap (λ v. bit (v && nat_le x k)) e))

paths-distinct : (legs : Legs) (k far i : ℕ) → AreDiagrams legs → IsDistinct (pointwise same_shape) (all_paths legs k far i)
unfolding all_paths
paths-distinct legs k far i are = distinct-heads (λ s. chains legs k (neg_ℤ (pos far)) (2 * far) s i) (fitting legs (pos far) 0) (fitting-distinct legs (pos far) 0 are) (λ s. chains-distinct legs k (neg_ℤ (pos far)) are (2 * far) s i)

paths-all : (legs : Legs) (k far i : ℕ) → AreDiagrams legs → AllByRecursion (IsPath legs far i) (all_paths legs k far i)
unfolding all_paths
paths-all legs k far i are =
    all-flat_map (λ s. (fits legs (pos far) s ≡ true) × (extras_of legs (pos far) s ≤ 0)) (IsPath legs far i) (λ s. map (λ slices. s ∷ slices) (chains legs k (neg_ℤ (pos far)) (2 * far) s i))
    (λ s g. all-map (IsBelow legs (neg_ℤ (pos far)) (2 * far) s i) (IsPath legs far i) (λ slices. s ∷ slices) (λ slices below. (below.many, none (extras_of legs (pos far) s) g.1, below.chain))
    (chains legs k (neg_ℤ (pos far)) (2 * far) s i) (chains-are legs k (neg_ℤ (pos far)) are (2 * far) s i (ap (λ t. fits legs t s) (last-diagonal far) ∙ g.0)))
    (fitting legs (pos far) 0) (fitting-few legs (pos far) 0 are)
  where
    none : (x : ℕ) → x ≤ 0 → x ≡ 0
    none x l = omega arith

paths-listed : (legs : Legs) (k far i : ℕ) → AreDiagrams legs → i ≤ k → (slices : List Shape) → IsPath legs far i slices → Contains (all_paths legs k far i) slices
unfolding all_paths
paths-listed legs k far i are l [] path = absurd path
paths-listed legs k far i are l (s ∷ slices) path =
    contains-flat_map (λ a. map (λ ss. a ∷ ss) (chains legs k (neg_ℤ (pos far)) (2 * far) a i)) s (s ∷ slices) (fitting legs (pos far) 0)
    (fitting-contains legs (pos far) 0 s are (ap (λ t. fits legs t s) (sym (last-diagonal far)) ∙ chain-fits legs (neg_ℤ (pos far)) s slices i (2 * far) path.0 path.2) (none (extras_of legs (pos far) s) path.1))
    (contains-map (λ ss. s ∷ ss) slices (chains legs k (neg_ℤ (pos far)) (2 * far) s i) (chain-listed legs k (neg_ℤ (pos far)) are (2 * far) s i slices l path.0 path.2))
  where
    none : (x : ℕ) → x ≡ 0 → x ≤ 0
    none x e = omega arith

pub paths-are-chains : PathsAreChains
paths-are-chains legs k i are l = (
  all_paths legs k (k + extent legs) i,
  (
    record {
      each = λ slices. (all-contains (IsPath legs (k + extent legs) i) (all_paths legs k (k + extent legs) i) slices (paths-all legs k (k + extent legs) i are), paths-listed legs k (k + extent legs) i are l slices);
      once = paths-distinct legs k (k + extent legs) i are;
    },
    paths-number legs k i,
  ),
)
