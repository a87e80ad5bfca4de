-- The ways up to a slice are the sum of those of the entries one diagonal below, each pushed to its neighbours.
--
-- sum_of-all     equal values on the members make equal sums
-- sum_of-place   of the numbers of a range the one that is y
-- same-shape     the test tells equal slices
-- single         the sum over those of a list that are one slice, listed once or not at all
-- fitting-fits   what is listed fits
-- ways-next      the ways to a slice, by its neighbours below
use Rattle.std.specs.Prelude.{◌≡◌, ℕ, zero, suc, ◌+◌, ◌-◌, ◌<◌, ◌≤◌, ℤ, pos, ◌+ℤ◌, ◌-ℤ◌, ◌≤ℤ◌, neg_ℤ, unsigned_abs, Bool, true, false, cond, ◌&&◌, ◌||◌, nat_eq, nat_lt, nat_le, List, [], ◌∷◌, map, filter}
use Rattle.std.specs.Int.{int_min}
use Rattle.std.specs.List.{AllByRecursion, list_any, range_with_len}
use Rattle.std.specs.Cmp.Lexicographic.{pointwise}
use Rattle.std.proofs.Common.{refl, sym, ap, ◌∙◌, arith, inl, inr}
use Rattle.std.proofs.lemmas.Int.{ints}
use Rattle.std.proofs.lemmas.Bool.{cases_eq, cases_lt, cond-false, eqb-true, eq-eqb, ne_eqb, and_parts, and_from, lt-leb}
use Rattle.std.proofs.lemmas.Bool.Decides.{nat_tests}
use Rattle.tv_lemmas.specs.Sums.{sum_of}
use Rattle.tv_lemmas.proofs.Sums.{sum_of-flat_map, sum_of-map}
use Rattle.tv_lemmas.proofs.Members.{all-found}
use Rattle.tv_lemmas.proofs.Distinct.{pointwise-tells}
use Rattle.tv_cells.specs.declared.legs.Legs.{Legs}
use Rattle.tv_cells.specs.Cells.{below}
use Rattle.tv_cells.specs.Extras.{bit, extent, AreDiagrams}
use Rattle.tv_spec_slices.specs.Slices.{Shape, interlaces, fits, extras_of, completion, same_shape}
use Rattle.tv_spec_slices.specs.Paths.{shape, fitting, diagonal_at, ways, next_of, start_for, ways_at, is_entry}
use Rattle.tv_laws_slices.specs.Laws.{often, EntriesPush}
use Rattle.tv_laws_slices.proofs.Sums.{sum_of-same, sum_of-zero, sum_of-filter}
use Rattle.tv_laws_slices.proofs.Once.{once-all}
use Rattle.tv_laws_slices.proofs.Steps.{completion-step}
use Rattle.tv_laws_slices.proofs.Listed.{exchange}

pub sum_of-all : {A : Type 0} (P : A → Type 0) (f g : A → ℕ) → ((x : A) → P x → f x ≡ g x) → (xs : List A) → AllByRecursion P xs → sum_of f xs ≡ sum_of g xs
sum_of-all P f g same [] all = refl
sum_of-all P f g same (x ∷ xs) all = let here = same x all.0 in let rest = sum_of-all P f g same xs all.1 in omega arith

-- ---- one place of a range

pub sum_of-place : (y : ℕ) (v : ℕ → ℕ) (k n : ℕ) → sum_of (λ i. cond (nat_eq i y) (v i) 0) (range_with_len k n) ≡ cond (nat_le k y && nat_lt y (k + n)) (v y) 0
sum_of-place y v k zero = none (v y)
  where
    none : (w : ℕ) → 0 ≡ cond (nat_le k y && nat_lt y (k + 0)) w 0
    none w = grind (arith, nat_tests)
sum_of-place y v k (suc n) = ap (λ s. cond (nat_eq k y) (v k) 0 + s) (sum_of-place y v (k + 1) n) ∙ elim (cases_eq k y) [
  | inl e ↦ let here : v k ≡ v y = ap v e in rw here (found (v y) e)
  | inr ne ↦ other (v k) (v y) ne
]
  where
    found : (w : ℕ) → k ≡ y → cond (nat_eq k y) w 0 + cond (nat_le (k + 1) y && nat_lt y ((k + 1) + n)) w 0 ≡ cond (nat_le k y && nat_lt y (k + suc n)) w 0
    found w e = grind (arith, nat_tests)

    other : (u w : ℕ) → (k ≡ y → ⊥) → cond (nat_eq k y) u 0 + cond (nat_le (k + 1) y && nat_lt y ((k + 1) + n)) w 0 ≡ cond (nat_le k y && nat_lt y (k + suc n)) w 0
    other u w ne = grind (arith, nat_tests)

-- the number that makes c with x, where c is at most k
pub sum_of-cost : (x c k : ℕ) (v : ℕ → ℕ) → c ≤ k → sum_of (λ e. cond (nat_eq (e + x) c) (v e) 0) (below (suc k)) ≡ cond (nat_le x c) (v (c - x)) 0
sum_of-cost x c k v l = elim (cases_lt c x) [
  | inl less ↦
      sum_of-zero (λ e. cond (nat_eq (e + x) c) (v e) 0) (λ e. cond-false (nat_eq (e + x) c) (v e) 0 (never e less)) (below (suc k))
      ∙ sym (cond-false (nat_le x c) (v (c - x)) 0 (lt-leb x c less))
  | inr more ↦
      sum_of-same (λ e. cond (nat_eq (e + x) c) (v e) 0) (λ e. cond (nat_eq e (c - x)) (v e) 0) (λ e. ap (λ q. cond q (v e) 0) (turned e more)) (below (suc k))
      ∙ (sum_of-place (c - x) v 0 (suc k) ∙ (ap (λ q. cond q (v (c - x)) 0) (inside more)))
]
  where
    never : (e : ℕ) → c < x → nat_eq (e + x) c ≡ false
    never e less = grind (arith, nat_tests)

    turned : (e : ℕ) → x ≤ c → nat_eq (e + x) c ≡ nat_eq e (c - x)
    turned e more = grind (arith, nat_tests)

    inside : x ≤ c → (nat_le 0 (c - x) && nat_lt (c - x) (0 + suc k)) ≡ nat_le x c
    inside more = grind (arith, nat_tests)

-- ---- one slice of a list

pub same-shape : (a b : Shape) → same_shape a b ≡ true → a ≡ b
same-shape a b h =
    let parts = and_parts (nat_eq a.full b.full) (pointwise nat_eq a.heights b.heights) h in
    ap (λ f. shape f a.heights) (eqb-true a.full b.full parts.0)
    ∙ ap (λ hs. shape b.full hs) (pointwise-tells nat_eq (λ x y e. eqb-true x y e) a.heights b.heights parts.1)

own-heights : (hs : List ℕ) → pointwise nat_eq hs hs ≡ true
own-heights [] = refl
own-heights (h ∷ hs) = and_from (nat_eq h h) (pointwise nat_eq hs hs) (eq-eqb h h refl) (own-heights hs)

pub own-shape : (s : Shape) → same_shape s s ≡ true
own-shape s = and_from (nat_eq s.full s.full) (pointwise nat_eq s.heights s.heights) (eq-eqb s.full s.full refl) (own-heights s.heights)

single-none : (b : Shape) (v : Shape → ℕ) (xs : List Shape) → often b xs ≡ 0 → sum_of (λ d. cond (same_shape b d) (v d) 0) xs ≡ 0
single-none b v [] e = refl
single-none b v (x ∷ xs) e = by_test (same_shape b x) e (single-none b v xs)
  where
    by_test : (q : Bool) → bit q + often b xs ≡ 0 → (often b xs ≡ 0 → sum_of (λ d. cond (same_shape b d) (v d) 0) xs ≡ 0) → cond q (v x) 0 + sum_of (λ d. cond (same_shape b d) (v d) 0) xs ≡ 0
    by_test true e rest = absurd (omega arith)
    by_test false e rest = let r = rest (omega arith) in omega arith

single-one : (b : Shape) (v : Shape → ℕ) (xs : List Shape) → often b xs ≡ 1 → sum_of (λ d. cond (same_shape b d) (v d) 0) xs ≡ v b
single-one b v [] e = absurd (omega arith)
single-one b v (x ∷ xs) e = by_test (same_shape b x) refl e (single-one b v xs)
  where
    by_test : (q : Bool) → same_shape b x ≡ q → bit q + often b xs ≡ 1 → (often b xs ≡ 1 → sum_of (λ d. cond (same_shape b d) (v d) 0) xs ≡ v b) → cond q (v x) 0 + sum_of (λ d. cond (same_shape b d) (v d) 0) xs ≡ v b
    by_test true s e rest = let here : v b ≡ v x = ap v (same-shape b x s) in let none = single-none b v xs (omega arith) in omega arith
    by_test false s e rest = let r = rest (omega arith) in omega arith

pub single : (b : Shape) (v : Shape → ℕ) (xs : List Shape) (q : Bool) → often b xs ≡ bit q → sum_of (λ d. cond (same_shape b d) (v d) 0) xs ≡ cond q (v b) 0
single b v xs true e = single-one b v xs e
single b v xs false e = single-none b v xs e

pub listed-often : (a : Shape) (xs : List Shape) → list_any (same_shape a) xs ≡ true → often a xs ≡ 0 → ⊥
listed-often a [] h e = cc
listed-often a (x ∷ xs) h e = by_test (same_shape a x) h e (listed-often a xs)
  where
    by_test : (q : Bool) → (q || list_any (same_shape a) xs) ≡ true → bit q + often a xs ≡ 0 → (list_any (same_shape a) xs ≡ true → often a xs ≡ 0 → ⊥) → ⊥
    by_test true h e rest = omega arith
    by_test false h e rest = rest h (omega arith)

pub fitting-fits : (legs : Legs) (t : ℤ) (k : ℕ) → AreDiagrams legs → AllByRecursion (λ a. fits legs t a ≡ true) (fitting legs t k)
fitting-fits legs t k are = all-found (λ a. fits legs t a ≡ true) same_shape own-shape (fitting legs t k) (λ a h. by_test (fits legs t a) (nat_le (extras_of legs t a) k) (listed-often a (fitting legs t k) h) (once-all legs t k a are))
  where
    by_test : {n : ℕ} (p q : Bool) → (n ≡ 0 → ⊥) → n ≡ bit (p && q) → p ≡ true
    by_test true q ne e = refl
    by_test false q ne e = absurd (ne e)

-- ---- the diagonals

pub start-low : (legs : Legs) (k : ℕ) (t : ℤ) → neg_ℤ (pos (k + extent legs)) ≤ℤ t → start_for legs k t ≡ neg_ℤ (pos (k + extent legs))
start-low legs k t l = least_of (neg_ℤ (pos (k + extent legs))) l
  where
    least_of : (z : ℤ) → z ≤ℤ t → int_min t z ≡ z
    least_of z l = grind (arith, ints)

steps-next : (z t : ℤ) → z ≤ℤ t → unsigned_abs ((t +ℤ pos 1) -ℤ z) ≡ suc (unsigned_abs (t -ℤ z))
steps-next z t l = omega (arith, ints)

pub steps-back : (z t : ℤ) → z ≤ℤ t → diagonal_at z (unsigned_abs (t -ℤ z)) ≡ t
steps-back z t l = omega (arith, ints)

up-one : (z t : ℤ) → z ≤ℤ t → z ≤ℤ (t +ℤ pos 1)
up-one z t l = omega (arith, ints)

-- ---- the ways, by their last step

last_step : (legs : Legs) (k : ℕ) (z : ℤ) (n : ℕ) (b : Shape) (c : ℕ) (t u : ℤ) → ℕ
last_step legs k z n b c t u =
    cond (nat_le (extras_of legs u b) c) (sum_of (λ a. ways legs k z n a (c - extras_of legs u b)) (filter (λ a. interlaces t a b) (fitting legs t k))) 0

pub ways-last : (legs : Legs) (k : ℕ) (z : ℤ) (n : ℕ) (b : Shape) (c : ℕ) (t u : ℤ) → diagonal_at z n ≡ t → diagonal_at z (suc n) ≡ u →
    ways legs k z (suc n) b c ≡ cond (nat_le (extras_of legs u b) c) (sum_of (λ a. ways legs k z n a (c - extras_of legs u b)) (filter (λ a. interlaces t a b) (fitting legs t k))) 0
unfolding ways last_step
ways-last legs k z n b c t u e f =
    ap (λ d. last_step legs k z n b c d (diagonal_at z (suc n))) e ∙ ap (λ d. last_step legs k z n b c t d) f

joined : (p q r : Bool) (w : ℕ) → cond p (cond (q && r) w 0) 0 ≡ cond q (cond (p && r) w 0) 0
joined true true r w = refl
joined true false r w = refl
joined false true r w = refl
joined false false r w = refl

-- pushed from one slice and cost, with w ways
from_one : (legs : Legs) (t : ℤ) (a b : Shape) (c e m w : ℕ) → AreDiagrams legs → fits legs (t +ℤ pos 1) b ≡ true →
    sum_of (λ d. cond (same_shape b d && nat_eq (e + extras_of legs (t +ℤ pos 1) d) c) w 0) (next_of legs t a m)
    ≡ cond (nat_le (extras_of legs (t +ℤ pos 1) b) m) (cond (interlaces t a b && nat_eq (e + extras_of legs (t +ℤ pos 1) b) c) w 0) 0
from_one legs t a b c e m w are f =
    sum_of-filter (λ d. cond (same_shape b d && nat_eq (e + extras_of legs (t +ℤ pos 1) d) c) w 0) (interlaces t a) (fitting legs (t +ℤ pos 1) m)
    ∙ (sum_of-same (λ d. cond (interlaces t a d) (cond (same_shape b d && nat_eq (e + extras_of legs (t +ℤ pos 1) d) c) w 0) 0)
    (λ d. cond (same_shape b d) (cond (interlaces t a d && nat_eq (e + extras_of legs (t +ℤ pos 1) d) c) w 0) 0)
    (λ d. joined (interlaces t a d) (same_shape b d) (nat_eq (e + extras_of legs (t +ℤ pos 1) d) c) w) (fitting legs (t +ℤ pos 1) m)
    ∙ single b (λ d. cond (interlaces t a d && nat_eq (e + extras_of legs (t +ℤ pos 1) d) c) w 0) (fitting legs (t +ℤ pos 1) m) (nat_le (extras_of legs (t +ℤ pos 1) b) m)
    (once-all legs (t +ℤ pos 1) m b are ∙ ap (λ q. bit (q && nat_le (extras_of legs (t +ℤ pos 1) b) m)) f))

-- of the costs of a slice those that are entries are enough: x extras of b, p and r the completions of both
enough : (i : Bool) (e x c k p r w : ℕ) → (i ≡ true → p ≤ x + r) → c + r ≤ k →
    cond (nat_le (e + p) k && nat_lt 0 w) (cond (nat_le x (k - e)) (cond (i && nat_eq (e + x) c) w 0) 0) 0 ≡ cond (nat_eq (e + x) c) (cond i w 0) 0
enough false e x c k p r w step l = none (nat_le (e + p) k && nat_lt 0 w) (nat_le x (k - e)) (nat_eq (e + x) c)
  where
    none : (s t q : Bool) → cond {A = ℕ} s (cond {A = ℕ} t 0 0) 0 ≡ cond {A = ℕ} q 0 0
    none true true true = refl
    none true true false = refl
    none true false true = refl
    none true false false = refl
    none false t true = refl
    none false t false = refl
enough true e x c k p r w step l = elim (cases_eq (e + x) c) [
  | inl same ↦ let less = step refl in grind (arith, nat_tests)
  | inr ne ↦ let off = ne_eqb (e + x) c ne in rw off (none (nat_le (e + p) k && nat_lt 0 w) (nat_le x (k - e)))
]
  where
    none : (s t : Bool) → cond {A = ℕ} s (cond {A = ℕ} t 0 0) 0 ≡ 0
    none true true = refl
    none true false = refl
    none false t = refl

from_slice : (legs : Legs) (k : ℕ) (t : ℤ) (a b : Shape) (c : ℕ) → AreDiagrams legs → fits legs (t +ℤ pos 1) b ≡ true → c + completion legs (t +ℤ pos 1) b ≤ k → fits legs t a ≡ true →
    sum_of (λ e. sum_of (λ d. cond (same_shape b d && nat_eq (e + extras_of legs (t +ℤ pos 1) d) c) (ways_at legs k t a e) 0) (next_of legs t a (k - e))) (filter (is_entry legs k t a) (below (suc k)))
    ≡ cond (interlaces t a b) (cond (nat_le (extras_of legs (t +ℤ pos 1) b) c) (ways_at legs k t a (c - extras_of legs (t +ℤ pos 1) b)) 0) 0
from_slice legs k t a b c are f l g =
    sum_of-filter (λ e. sum_of (λ d. cond (same_shape b d && nat_eq (e + extras_of legs (t +ℤ pos 1) d) c) (ways_at legs k t a e) 0) (next_of legs t a (k - e))) (is_entry legs k t a) (below (suc k))
    ∙ (sum_of-same (λ e. cond (is_entry legs k t a e) (sum_of (λ d. cond (same_shape b d && nat_eq (e + extras_of legs (t +ℤ pos 1) d) c) (ways_at legs k t a e) 0) (next_of legs t a (k - e))) 0)
    (λ e. cond (nat_eq (e + x) c) (cond (interlaces t a b) (ways_at legs k t a e) 0) 0) each (below (suc k))
    ∙ (sum_of-cost x c k (λ e. cond (interlaces t a b) (ways_at legs k t a e) 0) (small c (completion legs (t +ℤ pos 1) b) l)
    ∙ exchange (nat_le x c) (interlaces t a b) (ways_at legs k t a (c - x))))
  where
    x : ℕ
    x = extras_of legs (t +ℤ pos 1) b

    small : (c r : ℕ) → c + r ≤ k → c ≤ k
    small c r l = omega arith

    each : (e : ℕ) → cond (is_entry legs k t a e) (sum_of (λ d. cond (same_shape b d && nat_eq (e + extras_of legs (t +ℤ pos 1) d) c) (ways_at legs k t a e) 0) (next_of legs t a (k - e))) 0 ≡ cond (nat_eq (e + x) c) (cond (interlaces t a b) (ways_at legs k t a e) 0) 0
    each e =
        ap (λ v. cond (is_entry legs k t a e) v 0) (from_one legs t a b c e (k - e) (ways_at legs k t a e) are f)
        ∙ (ap (λ q. cond (q && (nat_le (e + completion legs t a) k && nat_lt 0 (ways_at legs k t a e))) (cond (nat_le x (k - e)) (cond (interlaces t a b && nat_eq (e + x) c) (ways_at legs k t a e) 0) 0) 0) g
        ∙ enough (interlaces t a b) e x c k (completion legs t a) (completion legs (t +ℤ pos 1) b) (ways_at legs k t a e) (λ i. completion-step legs t a b are f i) l)

only_if : {A : Type 0} (q : Bool) (p : A → Bool) (v : A → ℕ) (xs : List A) → sum_of (λ a. cond (p a) (cond q (v a) 0) 0) xs ≡ cond q (sum_of v (filter p xs)) 0
only_if true p v xs = sym (sum_of-filter v p xs)
only_if false p v xs = sum_of-zero (λ a. cond (p a) 0 0) (λ a. none (p a)) xs
  where
    none : (s : Bool) → cond {A = ℕ} s 0 0 ≡ 0
    none true = refl
    none false = refl

-- the ways to a slice, by its neighbours one diagonal below
pub ways-next : (legs : Legs) (k : ℕ) (t : ℤ) (b : Shape) (c : ℕ) → neg_ℤ (pos (k + extent legs)) ≤ℤ t →
    cond (nat_le (extras_of legs (t +ℤ pos 1) b) c) (sum_of (λ a. ways_at legs k t a (c - extras_of legs (t +ℤ pos 1) b)) (filter (λ a. interlaces t a b) (fitting legs t k))) 0 ≡ ways_at legs k (t +ℤ pos 1) b c
ways-next legs k t b c low = by_start (neg_ℤ (pos (k + extent legs))) low (start-low legs k t low) (start-low legs k (t +ℤ pos 1) (up-one (neg_ℤ (pos (k + extent legs))) t low))
  where
    by_start : (z : ℤ) → z ≤ℤ t → start_for legs k t ≡ z → start_for legs k (t +ℤ pos 1) ≡ z →
        cond (nat_le (extras_of legs (t +ℤ pos 1) b) c) (sum_of (λ a. ways_at legs k t a (c - extras_of legs (t +ℤ pos 1) b)) (filter (λ a. interlaces t a b) (fitting legs t k))) 0 ≡ ways_at legs k (t +ℤ pos 1) b c
    by_start z m e h =
        let n = unsigned_abs (t -ℤ z) in
        ap (λ s. cond (nat_le (extras_of legs (t +ℤ pos 1) b) c) (sum_of (λ a. ways legs k s (unsigned_abs (t -ℤ s)) a (c - extras_of legs (t +ℤ pos 1) b)) (filter (λ a. interlaces t a b) (fitting legs t k))) 0) e
        ∙ (sym (ways-last legs k z n b c t (t +ℤ pos 1) (steps-back z t m) (ap (diagonal_at z) (sym (steps-next z t m)) ∙ steps-back z (t +ℤ pos 1) (up-one z t m)))
        ∙ (ap (λ j. ways legs k z j b c) (sym (steps-next z t m))
        ∙ ap (λ s. ways legs k s (unsigned_abs ((t +ℤ pos 1) -ℤ s)) b c) (sym h)))

pub entries-push : EntriesPush
entries-push legs k t b c are low f l =
    let x = extras_of legs (t +ℤ pos 1) b in
    let give : Shape × ℕ → ℕ = λ entry. sum_of (λ d. cond (same_shape b d && nat_eq (entry.1 + extras_of legs (t +ℤ pos 1) d) c) (ways_at legs k t entry.0 entry.1) 0) (next_of legs t entry.0 (k - entry.1)) in
    sum_of-flat_map give (λ s. map (λ e. (s, e)) (filter (is_entry legs k t s) (below (suc k)))) (fitting legs t k)
    ∙ (sum_of-all (λ a. fits legs t a ≡ true) (λ a. sum_of give (map (λ e. (a, e)) (filter (is_entry legs k t a) (below (suc k)))))
    (λ a. cond (interlaces t a b) (cond (nat_le x c) (ways_at legs k t a (c - x)) 0) 0)
    (λ a g. sum_of-map give (λ e. (a, e)) (filter (is_entry legs k t a) (below (suc k))) ∙ from_slice legs k t a b c are f l g)
    (fitting legs t k) (fitting-fits legs t k are)
    ∙ (only_if (nat_le x c) (λ a. interlaces t a b) (λ a. ways_at legs k t a (c - x)) (fitting legs t k)
    ∙ ways-next legs k t b c low))
