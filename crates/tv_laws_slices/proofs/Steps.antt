-- From one diagonal to the next one above it: a slice takes as many extras above it as its neighbour and those above that
-- neighbour have, at least.
--
-- upright legs x m h == the cells at (x, 0), .., (x, m - 1) below height h that are in no leg, but those of its own height
-- above-upright      the extras that a slice takes above one place are such; all-upright, together with its own there
-- x-next, y-next     where the next diagonal begins
use Rattle.std.specs.Prelude.{◌≡◌, ℕ, zero, suc, ◌+◌, ◌-◌, ◌<◌, ◌≤◌, ℤ, pos, negsuc, ◌+ℤ◌, max, Bool, true, false, cond, ◌&&◌, nat_lt, nat_le, List, [], ◌∷◌}
use Rattle.std.specs.List.{range_with_len}
use Rattle.std.proofs.Common.{refl, sym, ap, ◌∙◌, arith, inl, inr, add-zero}
use Rattle.std.proofs.lemmas.Int.{ints}
use Rattle.std.proofs.lemmas.Bool.{cond-true, or_cases, and_parts, leb-true}
use Rattle.std.proofs.lemmas.Bool.Decides.{nat_tests}
use Rattle.tv_lemmas.specs.Sums.{sum_of}
use Rattle.tv_partition.specs.Rows.{has}
use Rattle.tv_partition.proofs.Shapes.{row-past}
use Rattle.tv_cells.specs.declared.legs.Legs.{Legs}
use Rattle.tv_cells.specs.Cells.{below, x_from, y_from}
use Rattle.tv_cells.specs.Extras.{AreDiagrams}
use Rattle.tv_spec_slices.specs.Slices.{Shape, at, reach, covers, interlaces_at, interlaces, base, is_endless, over, fits, extras_of, above, completion}
use Rattle.tv_laws_slices.proofs.Sums.{sum_of-same, sum_of-zeros, sum_of-range}
use Rattle.tv_laws_slices.proofs.Bases.{endless-first}
use Rattle.tv_laws_slices.proofs.Fits.{below-at, fits-full, second-most}

abbrev pub upright : Legs → ℕ → ℕ → ℕ → ℕ
upright legs x m h = sum_of (λ y. cond (has legs.along_z x y) 0 (h - base legs x y)) (below m)

-- ---- sums over ranges

pub sum_of-last : (f : ℕ → ℕ) (n : ℕ) → sum_of f (below (suc n)) ≡ f n + sum_of f (below n)
sum_of-last f n =
    let e : suc n ≡ n + 1 = omega arith in
    ap (λ k. sum_of f (below k)) e ∙ (sum_of-range f 0 n 1 ∙ turn f n (sum_of f (below n)))
  where
    turn : (f : ℕ → ℕ) (n s : ℕ) → s + (f (0 + n) + 0) ≡ f n + s
    turn f n s = let e : 0 + n ≡ n = omega arith in rw e (omega arith)

pub sum_of-below : (f g : ℕ → ℕ) (k n : ℕ) → ((i : ℕ) → k ≤ i → i < k + n → f i ≤ g i) → sum_of f (range_with_len k n) ≤ sum_of g (range_with_len k n)
sum_of-below f g k zero each = omega arith
sum_of-below f g k (suc n) each =
    let here = each k (omega arith) (omega arith) in
    let rest = sum_of-below f g (k + 1) n (λ i l m. each i (omega arith) (omega arith)) in
    omega arith

pub sum_of-add : {A : Type 0} (f g : A → ℕ) (xs : List A) → sum_of f xs + sum_of g xs ≡ sum_of (λ x. f x + g x) xs
sum_of-add f g [] = omega arith
sum_of-add f g (x ∷ xs) = let rest = sum_of-add f g xs in omega arith

pub sum_of-shift : (f : ℕ → ℕ) (k n : ℕ) → sum_of f (range_with_len (k + 1) n) ≡ sum_of (λ i. f (suc i)) (range_with_len k n)
sum_of-shift f k zero = refl
sum_of-shift f k (suc n) = let rest = sum_of-shift f (k + 1) n in let e : k + 1 ≡ suc k = omega arith in
    let here : f (k + 1) ≡ f (suc k) = ap f e in omega arith

-- where f is 0 from k on, its sum up to any further number is the one up to k
pub sum_of-up_to : (f : ℕ → ℕ) (k n : ℕ) → ((i : ℕ) → k ≤ i → f i ≡ 0) → k ≤ n → sum_of f (below n) ≡ sum_of f (below k)
sum_of-up_to f k n none l =
    let e : n ≡ k + (n - k) = omega arith in
    ap (λ m. sum_of f (below m)) e
    ∙ (sum_of-range f 0 k (n - k)
    ∙ (ap (λ v. sum_of f (below k) + v) (sum_of-zeros f (0 + k) (n - k) (λ i m h. none i (omega arith))) ∙ add-zero (sum_of f (below k))))

-- ---- the cells over a row of places

pub upright-more : (legs : Legs) (x m h k : ℕ) → h ≤ k → upright legs x m h ≤ upright legs x m k
upright-more legs x m h k l = sum_of-below _ _ 0 m (λ y low far. each (has legs.along_z x y) (base legs x y))
  where
    each : (c : Bool) (b : ℕ) → cond c 0 (h - b) ≤ cond c 0 (k - b)
    each true b = omega arith
    each false b = omega arith

pub upright-none : (legs : Legs) (x m : ℕ) → upright legs x m 0 ≡ 0
upright-none legs x m = sum_of-zeros _ 0 m (λ y low far. each (has legs.along_z x y) (base legs x y))
  where
    each : (c : Bool) (b : ℕ) → cond c 0 (0 - b) ≡ 0
    each true b = refl
    each false b = omega arith

-- over places in the leg along z there is none
lower : (rows : List ℕ) (i y j : ℕ) → y ≤ j → has rows i j ≡ true → has rows i y ≡ true
lower rows i y j l h = grind (arith, nat_tests)

pub upright-endless : (legs : Legs) (x m h : ℕ) → has legs.along_z x m ≡ true → upright legs x (suc m) h ≡ 0
upright-endless legs x m h is = sum_of-zeros _ 0 (suc m) (λ y low far. cond-true (has legs.along_z x y) 0 (h - base legs x y) (lower legs.along_z x y m (omega arith) is))

pub all-upright : (legs : Legs) (t : ℤ) (s : Shape) → extras_of legs t s + completion legs t s ≡ sum_of (λ d. upright legs (d + x_from t) (suc (d + y_from t)) (at s d)) (below (reach s))
all-upright legs t s =
    sum_of-add (λ d. over legs t (at s d) d) (above legs t s) (below (reach s))
    ∙ sum_of-same (λ d. over legs t (at s d) d + above legs t s d) (λ d. upright legs (d + x_from t) (suc (d + y_from t)) (at s d))
    (λ d. sym (sum_of-last (λ y. cond (has legs.along_z (d + x_from t) y) 0 (at s d - base legs (d + x_from t) y)) (d + y_from t))) (below (reach s))

-- past its last place a slice has no height
pub at-past : (s : Shape) (d : ℕ) → reach s ≤ d → at s d ≡ 0
at-past s d l = row-past s.heights (d - s.full) (omega arith)

pub completion-up_to : (legs : Legs) (t : ℤ) (s : Shape) (n : ℕ) → reach s ≤ n → completion legs t s ≡ sum_of (above legs t s) (below n)
completion-up_to legs t s n l =
    sym (sum_of-up_to (above legs t s) (reach s) n (λ i far. ap (λ h. upright legs (i + x_from t) (i + y_from t) h) (at-past s i far) ∙ upright-none legs (i + x_from t) (i + y_from t)) l)

pub all-up_to : (legs : Legs) (t : ℤ) (s : Shape) (n : ℕ) → reach s ≤ n → extras_of legs t s + completion legs t s ≡ sum_of (λ d. upright legs (d + x_from t) (suc (d + y_from t)) (at s d)) (below n)
all-up_to legs t s n l =
    all-upright legs t s
    ∙ sym (sum_of-up_to (λ d. upright legs (d + x_from t) (suc (d + y_from t)) (at s d)) (reach s) n
    (λ i far. ap (λ h. upright legs (i + x_from t) (suc (i + y_from t)) h) (at-past s i far) ∙ upright-none legs (i + x_from t) (suc (i + y_from t))) l)

-- ---- where the next diagonal begins

next-pos : (n : ℕ) → pos n +ℤ pos 1 ≡ pos (suc n)
next-pos n = omega (arith, ints)

next-neg : (n : ℕ) → negsuc (suc n) +ℤ pos 1 ≡ negsuc n
next-neg n = omega (arith, ints)

next-last : negsuc 0 +ℤ pos 1 ≡ pos 0
next-last = omega (arith, ints)

pub x-above : (n : ℕ) → x_from (pos n +ℤ pos 1) ≡ suc n
x-above n = ap x_from (next-pos n)

pub y-above : (n : ℕ) → y_from (pos n +ℤ pos 1) ≡ 0
y-above n = ap y_from (next-pos n)

pub x-below : (n : ℕ) → x_from (negsuc n +ℤ pos 1) ≡ 0
x-below zero = ap x_from next-last
x-below (suc n) = ap x_from (next-neg n)

pub y-below : (n : ℕ) → y_from (negsuc n +ℤ pos 1) ≡ n
y-below zero = ap y_from next-last
y-below (suc n) = ap y_from (next-neg n)

-- the place of a slice at t that lies behind place d of the next one, along x or along y
abbrev pub behind : ℤ → ℕ → ℕ
behind (pos n) d = suc d
behind (negsuc n) d = d

upright-at : (legs : Legs) (h x m v w : ℕ) → x ≡ v → m ≡ w → upright legs x m h ≡ upright legs v w h
upright-at legs h x m v w e f = ap (λ k. upright legs k m h) e ∙ ap (λ k. upright legs v k h) f

-- what a slice takes above it, place by place of the next one
pub completion-next : (legs : Legs) (t : ℤ) (a : Shape) (k : ℕ) → reach a ≤ k →
    completion legs t a ≡ sum_of (λ d. upright legs (d + x_from (t +ℤ pos 1)) (suc (d + y_from (t +ℤ pos 1))) (at a (behind t d))) (below k)
completion-next legs (pos n) a k l =
    completion-up_to legs (pos n) a (suc k) (omega arith)
    ∙ (ap (λ v. v + sum_of (above legs (pos n) a) (range_with_len (0 + 1) k)) none
    ∙ (none_plus (sum_of (above legs (pos n) a) (range_with_len (0 + 1) k))
    ∙ (sum_of-shift (above legs (pos n) a) 0 k
    ∙ sum_of-same (λ i. above legs (pos n) a (suc i)) (λ d. upright legs (d + x_from (pos n +ℤ pos 1)) (suc (d + y_from (pos n +ℤ pos 1))) (at a (suc d)))
    (λ i. upright-at legs (at a (suc i)) (suc i + n) (suc i + 0) (i + x_from (pos n +ℤ pos 1)) (suc (i + y_from (pos n +ℤ pos 1)))
    (further i n ∙ ap (λ v. i + v) (sym (x-above n))) (same_place i ∙ ap (λ v. suc (i + v)) (sym (y-above n)))) (below k))))
  where
    none : above legs (pos n) a 0 ≡ 0
    none = refl

    none_plus : (v : ℕ) → 0 + v ≡ v
    none_plus v = omega arith

    further : (i n : ℕ) → suc i + n ≡ i + suc n
    further i n = omega arith

    same_place : (i : ℕ) → suc i + 0 ≡ suc (i + 0)
    same_place i = omega arith
completion-next legs (negsuc n) a k l =
    completion-up_to legs (negsuc n) a k l
    ∙ sum_of-same (above legs (negsuc n) a) (λ d. upright legs (d + x_from (negsuc n +ℤ pos 1)) (suc (d + y_from (negsuc n +ℤ pos 1))) (at a d))
    (λ i. upright-at legs (at a i) (i + 0) (i + suc n) (i + x_from (negsuc n +ℤ pos 1)) (suc (i + y_from (negsuc n +ℤ pos 1)))
    (ap (λ v. i + v) (sym (x-below n))) (further i n ∙ ap (λ v. suc (i + v)) (sym (y-below n)))) (below k)
  where
    further : (i n : ℕ) → i + suc n ≡ suc (i + n)
    further i n = omega arith

pub covers-behind : (t : ℤ) (a b : Shape) (d : ℕ) → interlaces_at t a b d ≡ true → covers b d a (behind t d) ≡ true
covers-behind (pos n) a b d h = (and_parts (covers a d b d) (covers b d a (suc d)) h).1
covers-behind (negsuc n) a b d h = (and_parts (covers b d a d) (covers a d b (suc d)) h).0

-- ---- the step

-- at one place: b is in the leg there, or as high as a
one-step : (legs : Legs) (x m : ℕ) (b a : Shape) (d e : ℕ) → (nat_lt d b.full ≡ true → has legs.along_z x m ≡ true) → covers b d a e ≡ true →
    upright legs x (suc m) (at a e) ≤ upright legs x (suc m) (at b d)
one-step legs x m b a d e ends c = elim (or_cases (nat_lt d b.full) (nat_le a.full e && nat_le (at a e) (at b d)) c) [
  | inl endless ↦ none (upright legs x (suc m) (at a e)) (upright legs x (suc m) (at b d)) (upright-endless legs x m (at a e) (ends endless))
  | inr high ↦ upright-more legs x (suc m) (at a e) (at b d) (leb-true (at a e) (at b d) (and_parts (nat_le a.full e) (nat_le (at a e) (at b d)) high).1)
]
  where
    none : (p q : ℕ) → p ≡ 0 → p ≤ q
    none p q h = omega arith

ends-leg : (legs : Legs) (t : ℤ) (b : Shape) → AreDiagrams legs → fits legs t b ≡ true → (d : ℕ) → nat_lt d b.full ≡ true → is_endless legs t d ≡ true
ends-leg legs t b are f d h = endless-first legs t d are ∙ (ap (nat_lt d) (sym (fits-full legs t b are f)) ∙ h)

pub first-reach : (a b : ℕ) → a ≤ max a b
first-reach a b = omega arith

pub completion-step : (legs : Legs) (t : ℤ) (a b : Shape) → AreDiagrams legs → fits legs (t +ℤ pos 1) b ≡ true → interlaces t a b ≡ true →
    completion legs t a ≤ extras_of legs (t +ℤ pos 1) b + completion legs (t +ℤ pos 1) b
completion-step legs t a b are f h =
    let k = max (reach a) (reach b) in
    let left = completion-next legs t a k (first-reach (reach a) (reach b)) in
    let right = all-up_to legs (t +ℤ pos 1) b k (second-most (reach a) (reach b)) in
    rw (left, right)
    (sum_of-below (λ d. upright legs (d + x_from (t +ℤ pos 1)) (suc (d + y_from (t +ℤ pos 1))) (at a (behind t d)))
    (λ d. upright legs (d + x_from (t +ℤ pos 1)) (suc (d + y_from (t +ℤ pos 1))) (at b d)) 0 k
    (λ d low far. one-step legs (d + x_from (t +ℤ pos 1)) (d + y_from (t +ℤ pos 1)) b a d (behind t d) (ends-leg legs (t +ℤ pos 1) b are f d)
    (covers-behind t a b d (below-at k (interlaces_at t a b) h d (inside d k far)))))
  where
    inside : (d k : ℕ) → d < 0 + k → d < k
    inside d k l = omega arith
