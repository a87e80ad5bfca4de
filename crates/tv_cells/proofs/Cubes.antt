-- The cube of side n has exactly the cells with all entries below n, in rising order.
use Rattle.std.proofs.Common.{◌≡◌, ℕ, suc, zero, ◌+◌, ◌-◌, ◌≤◌, ◌<◌, Bool, true, false, ◌&&◌, List, [], ◌∷◌, map, nat_lt, arith, refl, sym, ◌∙◌, ap, subst, inl, inr}
use Rattle.std.specs.Prelude.{ℤ, pos, negsuc, ◌-ℤ◌, nat_abs}
use Rattle.std.proofs.lemmas.Bool.{and_parts, and_from, or_cases, or_left, or_right, cases_eq, cases_lt, lt-ltb, ltb-true}
use Rattle.std.proofs.lemmas.Bool.Decides.{nat_tests}
use Rattle.std.proofs.lemmas.Int.{ints}
use Rattle.std.specs.List.{list_any, flat_map, AllByRecursion, range_with_len}
use Rattle.tv_lemmas.proofs.Lists.{list_any-map, list_any-flat_map}
use Rattle.tv_lemmas.proofs.Members.{all-append, all-onto}
use Rattle.tv_cells.specs.declared.cell.Cell.{Cell}
use Rattle.tv_cells.specs.Cells.{cell, same, precedes, rises, below, x_from, y_from, column, diagonal, falling, cube}
use Rattle.tv_cells.proofs.Rising.{Before, AllBefore, rises-append, rises-cons, same_is}

before_each : (c : Cell) (Q : Cell → Type 0) → ((d : Cell) → Q d → precedes c d ≡ true) → (cells : List Cell) → AllByRecursion Q cells → Before c cells
before_each c Q f [] e = tt
before_each c Q f (d ∷ cells) e = (f d e.0, before_each c Q f cells e.1)

all_before : (P Q : Cell → Type 0) → ((c d : Cell) → P c → Q d → precedes c d ≡ true) → (front back : List Cell) → AllByRecursion P front → AllByRecursion Q back → AllBefore front back
all_before P Q f [] back p q = tt
all_before P Q f (c ∷ front) back p q = (before_each c Q (λ d. f c d p.0) back q, all_before P Q f front back p.1 q)

-- how far x - y of the diagonal is
abbrev On : ℤ → Cell → Type 0
On t c = c.y + x_from t ≡ c.x + y_from t

record AtPlace (t : ℤ) (k : ℕ) (c : Cell) : Type 0 where
  on : On t c
  place : c.x ≡ k + x_from t

record FromPlace (t : ℤ) (k : ℕ) (c : Cell) : Type 0 where
  on : On t c
  place : k + x_from t ≤ c.x

places_precede : (t : ℤ) (k : ℕ) (c d : Cell) → AtPlace t k c → FromPlace t (k + 1) d → precedes c d ≡ true
places_precede t k c d p q = grind (arith, nat_tests)

heights_precede : (x y j k : ℕ) → j < k → precedes (cell x y j) (cell x y k) ≡ true
heights_precede x y j k l = grind (arith, nat_tests)

column-before : (x y j k n : ℕ) → j < k → Before (cell x y j) (map (λ z. cell x y z) (range_with_len k n))
column-before x y j k zero l = tt
column-before x y j k (suc n) l = (heights_precede x y j k l, column-before x y j (k + 1) n (omega arith))

column-rises : (x y k n : ℕ) → rises (map (λ z. cell x y z) (range_with_len k n)) ≡ true
column-rises x y k zero = refl
column-rises x y k (suc n) =
    rises-cons (cell x y k) (map (λ z. cell x y z) (range_with_len (k + 1) n)) (column-before x y k (k + 1) n (omega arith)) (column-rises x y (k + 1) n)

column-place : (t : ℤ) (d k n : ℕ) → AllByRecursion (AtPlace t d) (map (λ z. cell (d + x_from t) (d + y_from t) z) (range_with_len k n))
column-place t d k zero = tt
column-place t d k (suc n) = (record { on = omega arith; place = refl }, column-place t d (k + 1) n)

abbrev columns : ℤ → ℕ → ℕ → ℕ → List Cell
columns t h k n = flat_map (λ d. column t d h) (range_with_len k n)

columns-place : (t : ℤ) (h j k n : ℕ) → j ≤ k → AllByRecursion (FromPlace t j) (columns t h k n)
columns-place t h j k zero l = tt
columns-place t h j k (suc n) l =
    all-append (FromPlace t j) (column t k h) (columns t h (k + 1) n)
    (all-onto (AtPlace t k) (FromPlace t j) (λ c p. record { on = p.on; place = omega arith }) (column t k h) (column-place t k 0 h))
    (columns-place t h j (k + 1) n (omega arith))

columns-rises : (t : ℤ) (h k n : ℕ) → rises (columns t h k n) ≡ true
columns-rises t h k zero = refl
columns-rises t h k (suc n) =
    rises-append (column t k h) (columns t h (k + 1) n) (column-rises (k + x_from t) (k + y_from t) 0 h) (columns-rises t h (k + 1) n)
    (all_before (AtPlace t k) (FromPlace t (k + 1)) (places_precede t k) (column t k h) (columns t h (k + 1) n)
    (column-place t k 0 h) (columns-place t h (k + 1) (k + 1) n (omega arith)))

-- t is less than s
abbrev Lower : ℤ → ℤ → Type 0
Lower t s = x_from t + y_from s < x_from s + y_from t

less_one : (n : ℕ) → pos (suc n) -ℤ pos 1 ≡ pos n
less_one n = omega (arith, ints)

lower_next : (s : ℤ) → Lower (s -ℤ pos 1) s
lower_next (pos zero) = omega arith
lower_next (pos (suc n)) = rw (less_one n) (omega arith)
lower_next (negsuc n) = omega arith

record OnLower (s : ℤ) (c : Cell) : Type 0 where
  t : ℤ
  on : On t c
  lower : Lower t s

diagonals_precede : (s : ℤ) (c d : Cell) → On s c → OnLower s d → precedes c d ≡ true
diagonals_precede s c d p q =
    let first : c.y + d.x < d.y + c.x = omega (arith, q.on, q.lower) in
    or_left (nat_lt (c.y + d.x) (d.y + c.x)) _ (lt-ltb (c.y + d.x) (d.y + c.x) first)

abbrev diagonals : ℕ → ℕ → ℕ → ℤ → List Cell
diagonals n h m s = flat_map (λ t. diagonal t (n - nat_abs t) h) (falling m s)

diagonal-on : (t : ℤ) (n h : ℕ) → AllByRecursion (On t) (diagonal t n h)
diagonal-on t n h = all-onto (FromPlace t 0) (On t) (λ c p. p.on) (diagonal t n h) (columns-place t h 0 0 n (omega arith))

diagonals-lower : (n h m : ℕ) (s u : ℤ) → Lower u s → AllByRecursion (OnLower s) (diagonals n h m u)
diagonals-lower n h zero s u l = tt
diagonals-lower n h (suc m) s u l =
    let next : Lower (u -ℤ pos 1) u = lower_next u in
    all-append (OnLower s) (diagonal u (n - nat_abs u) h) (diagonals n h m (u -ℤ pos 1))
    (all-onto (On u) (OnLower s) (λ c p. record { t = u; on = p; lower = l }) (diagonal u (n - nat_abs u) h) (diagonal-on u (n - nat_abs u) h))
    (diagonals-lower n h m s (u -ℤ pos 1) (omega arith))

diagonals-rises : (n h m : ℕ) (s : ℤ) → rises (diagonals n h m s) ≡ true
diagonals-rises n h zero s = refl
diagonals-rises n h (suc m) s =
    rises-append (diagonal s (n - nat_abs s) h) (diagonals n h m (s -ℤ pos 1)) (columns-rises s h 0 (n - nat_abs s)) (diagonals-rises n h m (s -ℤ pos 1))
    (all_before (On s) (OnLower s) (diagonals_precede s) (diagonal s (n - nat_abs s) h) (diagonals n h m (s -ℤ pos 1))
    (diagonal-on s (n - nat_abs s) h) (diagonals-lower n h m s (s -ℤ pos 1) (lower_next s)))

pub cube-rises : (n : ℕ) → rises (cube n) ≡ true
unfolding cube
cube-rises zero = refl
cube-rises (suc n) = diagonals-rises (suc n) (suc n) (suc (n + n)) (pos n)

-- membership

bool_is : (a b : Bool) → (a ≡ true → b ≡ true) → (b ≡ true → a ≡ true) → a ≡ b
bool_is true true f g = refl
bool_is false false f g = refl
bool_is true false f g = sym (f refl)
bool_is false true f g = g refl

record Within (n : ℕ) (c : Cell) : Type 0 where
  x_below : c.x < n
  y_below : c.y < n
  z_below : c.z < n

member_each : (n : ℕ) (c : Cell) (cells : List Cell) → AllByRecursion (Within n) cells → list_any (same c) cells ≡ true → Within n c
member_each n c [] e any = cc
member_each n c (d ∷ cells) e any = elim (or_cases (same c d) (list_any (same c) cells) any) [
  | inl here ↦ let at = same_is c d here in record { x_below = omega (arith, e.0.x_below); y_below = omega (arith, e.0.y_below); z_below = omega (arith, e.0.z_below) }
  | inr there ↦ member_each n c cells e.1 there
]

pub starts_within : (t : ℤ) → (x_from t ≤ nat_abs t) × (y_from t ≤ nat_abs t)
starts_within (pos n) = (omega arith, omega arith)
starts_within (negsuc n) = (omega arith, omega arith)

column-within : (t : ℤ) (n d k h : ℕ) → d + nat_abs t < n → k + h ≤ n → AllByRecursion (Within n) (map (λ z. cell (d + x_from t) (d + y_from t) z) (range_with_len k h))
column-within t n d k zero l m = tt
column-within t n d k (suc h) l m =
    let start = starts_within t in
    (record { x_below = omega arith; y_below = omega arith; z_below = omega arith }, column-within t n d (k + 1) h l (omega arith))

columns-within : (t : ℤ) (n k m : ℕ) → k + m ≤ n - nat_abs t → AllByRecursion (Within n) (columns t n k m)
columns-within t n k zero l = tt
columns-within t n k (suc m) l =
    all-append (Within n) (column t k n) (columns t n (k + 1) m) (column-within t n k 0 n (omega arith) (omega arith)) (columns-within t n (k + 1) m (omega arith))

diagonals-within : (n m : ℕ) (s : ℤ) → AllByRecursion (Within n) (diagonals n n m s)
diagonals-within n zero s = tt
diagonals-within n (suc m) s =
    all-append (Within n) (diagonal s (n - nat_abs s) n) (diagonals n n m (s -ℤ pos 1)) (columns-within s n 0 (n - nat_abs s) (omega arith)) (diagonals-within n m (s -ℤ pos 1))

any-numbers : (p : ℕ → Bool) (k n j : ℕ) → k ≤ j → j < k + n → p j ≡ true → list_any p (range_with_len k n) ≡ true
any-numbers p k zero j l m e = absurd (omega arith)
any-numbers p k (suc n) j l m e = elim (cases_eq k j) [
  | inl here ↦ or_left (p k) (list_any p (range_with_len (k + 1) n)) (ap p here ∙ e)
  | inr later ↦ or_right (p k) (list_any p (range_with_len (k + 1) n)) (any-numbers p (k + 1) n j (omega arith) (omega arith) e)
]

diagonal_has : (t : ℤ) (d m h : ℕ) (c : Cell) → c.x ≡ d + x_from t → c.y ≡ d + y_from t → d < m → c.z < h → list_any (same c) (diagonal t m h) ≡ true
diagonal_has t d m h c ex ey l k =
    list_any-flat_map (same c) (λ d. column t d h) (below m)
    ∙ any-numbers (λ d. list_any (same c) (column t d h)) 0 m d (omega arith) (omega arith)
    (list_any-map (same c) (λ z. cell (d + x_from t) (d + y_from t) z) (below h)
    ∙ any-numbers (λ z. same c (cell (d + x_from t) (d + y_from t) z)) 0 h c.z (omega arith) (omega arith) (same_when c (cell (d + x_from t) (d + y_from t) c.z) ex ey refl))
  where
    same_when : (a b : Cell) → a.x ≡ b.x → a.y ≡ b.y → a.z ≡ b.z → same a b ≡ true
    same_when a b ex ey ez = grind (arith, nat_tests)

less_none : (u : ℤ) → u -ℤ pos 0 ≡ u
less_none u = omega (arith, ints)

less_more : (u : ℤ) (k : ℕ) → (u -ℤ pos 1) -ℤ pos k ≡ u -ℤ pos (suc k)
less_more u k = omega (arith, ints)

any-falling : (p : ℤ → Bool) (m : ℕ) (u : ℤ) (k : ℕ) → k < m → p (u -ℤ pos k) ≡ true → list_any p (falling m u) ≡ true
any-falling p zero u k l e = absurd (omega arith)
any-falling p (suc m) u zero l e = or_left (p u) (list_any p (falling m (u -ℤ pos 1))) (ap p (sym (less_none u)) ∙ e)
any-falling p (suc m) u (suc k) l e =
    or_right (p u) (list_any p (falling m (u -ℤ pos 1))) (any-falling p m (u -ℤ pos 1) k (omega arith) (ap p (less_more u k) ∙ e))

reaches_pos : (n k a : ℕ) → n ≡ k + a → pos n -ℤ pos k ≡ pos a
reaches_pos n k a e = omega (arith, ints)

reaches_negsuc : (n k a : ℕ) → k ≡ n + suc a → pos n -ℤ pos k ≡ negsuc a
reaches_negsuc n k a e = omega (arith, ints)

diagonal_at : (n : ℕ) (c : Cell) (t s : ℤ) → t ≡ s → list_any (same c) (diagonal s (suc n - nat_abs s) (suc n)) ≡ true → list_any (same c) (diagonal t (suc n - nat_abs t) (suc n)) ≡ true
diagonal_at n c t s e m = let P : ℤ → Type 0 = λ t. list_any (same c) (diagonal t (suc n - nat_abs t) (suc n)) ≡ true in subst P (sym e) m

cube_has : (n : ℕ) (c : Cell) → Within (suc n) c → list_any (same c) (cube (suc n)) ≡ true
unfolding cube
cube_has n c w =
    list_any-flat_map (same c) (λ t. diagonal t (suc n - nat_abs t) (suc n)) (falling (suc (n + n)) (pos n))
    ∙ any-falling (λ t. list_any (same c) (diagonal t (suc n - nat_abs t) (suc n))) (suc (n + n)) (pos n) ((n + c.y) - c.x) (omega (arith, w.x_below, w.y_below)) at
  where
    at : list_any (same c) (diagonal (pos n -ℤ pos ((n + c.y) - c.x)) (suc n - nat_abs (pos n -ℤ pos ((n + c.y) - c.x))) (suc n)) ≡ true
    at = elim (cases_lt c.y (suc c.x)) [
      | inl l ↦ diagonal_at n c (pos n -ℤ pos ((n + c.y) - c.x)) (pos (c.x - c.y)) (reaches_pos n ((n + c.y) - c.x) (c.x - c.y) (omega (arith, w.x_below)))
          (diagonal_has (pos (c.x - c.y)) c.y (suc n - (c.x - c.y)) (suc n) c (omega arith) (omega arith) (omega (arith, w.x_below)) w.z_below)
      | inr l ↦ diagonal_at n c (pos n -ℤ pos ((n + c.y) - c.x)) (negsuc (c.y - suc c.x)) (reaches_negsuc n ((n + c.y) - c.x) (c.y - suc c.x) (omega (arith, w.x_below)))
          (diagonal_has (negsuc (c.y - suc c.x)) c.x (suc n - suc (c.y - suc c.x)) (suc n) c (omega arith) (omega arith) (omega (arith, w.y_below)) w.z_below)
    ]

cube_within : (n : ℕ) → AllByRecursion (Within n) (cube n)
unfolding cube
cube_within zero = tt
cube_within (suc n) = diagonals-within (suc n) (suc (n + n)) (pos n)

within_test : (n : ℕ) (c : Cell) → (nat_lt c.x n && (nat_lt c.y n && nat_lt c.z n)) ≡ true → Within n c
within_test n c e =
    let first = and_parts (nat_lt c.x n) _ e in
    let second = and_parts (nat_lt c.y n) (nat_lt c.z n) first.1 in
    record { x_below = ltb-true c.x n first.0; y_below = ltb-true c.y n second.0; z_below = ltb-true c.z n second.1 }

test_within : (n : ℕ) (c : Cell) → Within n c → (nat_lt c.x n && (nat_lt c.y n && nat_lt c.z n)) ≡ true
test_within n c w = and_from (nat_lt c.x n) _ (lt-ltb c.x n w.x_below) (and_from (nat_lt c.y n) _ (lt-ltb c.y n w.y_below) (lt-ltb c.z n w.z_below))

cube_has_within : (n : ℕ) (c : Cell) → Within n c → list_any (same c) (cube n) ≡ true
cube_has_within zero c w = absurd (omega (arith, w.x_below))
cube_has_within (suc n) c w = cube_has n c w

pub cube-has : (n : ℕ) (c : Cell) → list_any (same c) (cube n) ≡ (nat_lt c.x n && (nat_lt c.y n && nat_lt c.z n))
cube-has n c =
    bool_is (list_any (same c) (cube n)) (nat_lt c.x n && (nat_lt c.y n && nat_lt c.z n))
    (λ e. test_within n c (member_each n c (cube n) (cube_within n) e))
    (λ e. cube_has_within n c (within_test n c e))
