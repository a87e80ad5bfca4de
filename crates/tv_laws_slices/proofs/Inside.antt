-- The cells that a slice has beside the legs, and those of a path, in a cube that is large enough.
--
-- pick slices j        == the slice at first + j
use Rattle.std.specs.Prelude.{◌≡◌, ◌⊎◌, ℕ, zero, suc, ◌+◌, ◌-◌, ◌<◌, ◌≤◌, ℤ, pos, negsuc, ◌+ℤ◌, ◌-ℤ◌, neg_ℤ, nat_abs, unsigned_abs, max, Bool, true, false, not, cond, ◌&&◌, ◌||◌, nat_eq, nat_lt, nat_le, List, [], ◌∷◌, map, filter, length, slice_index}
use Rattle.std.specs.List.{flat_map, range_with_len}
use Rattle.std.proofs.Common.{refl, sym, ap, subst, ◌∙◌, arith, inl, inr, length-append}
use Rattle.std.proofs.lemmas.Int.{ints}
use Rattle.std.proofs.lemmas.Bool.{cases_eq, or_cases, or_left, or_right, eqb-true, eq-eqb, ne_eqb}
use Rattle.std.proofs.lemmas.Bool.Decides.{nat_tests}
use Rattle.std.proofs.lemmas.List.Elements.{filter-append}
use Rattle.tv_lemmas.specs.Sums.{sum_of}
use Rattle.tv_partition.specs.Rows.{has}
use Rattle.tv_cells.specs.declared.cell.Cell.{Cell}
use Rattle.tv_cells.specs.declared.legs.Legs.{Legs}
use Rattle.tv_cells.specs.Cells.{cell, below, x_from, y_from, column, diagonal, falling, cube}
use Rattle.tv_cells.specs.Extras.{bit, legs_at}
use Rattle.tv_spec_slices.specs.Slices.{Shape, at, reach, base, base_at, is_endless, over, extras_of}
use Rattle.tv_spec_slices.specs.Paths.{shape, diagonal_at}
use Rattle.tv_laws_slices.specs.Taken.{on, place, in_slice, inside}
use Rattle.tv_laws_slices.proofs.Sums.{sum_of-same, sum_of-zero}
use Rattle.tv_laws_slices.proofs.Steps.{sum_of-up_to, at-past}

-- ---- how many there are

length-filter_flat_map : {A B : Type 0} (p : B → Bool) (f : A → List B) (xs : List A) → length (filter p (flat_map f xs)) ≡ sum_of (λ x. length (filter p (f x))) xs
length-filter_flat_map p f [] = refl
length-filter_flat_map p f (x ∷ xs) =
    ap length (filter-append p (f x) (flat_map f xs)) ∙ (length-append (filter p (f x)) (filter p (flat_map f xs)) ∙ ap (λ n. length (filter p (f x)) + n) (length-filter_flat_map p f xs))

count-cond : {A : Type 0} (q : Bool) (x : A) (xs : List A) → length (cond q (x ∷ xs) xs) ≡ bit q + length xs
count-cond true x xs = omega arith
count-cond false x xs = omega arith

length-filter_map : {A : Type 0} (p : A → Bool) (f : ℕ → A) (ns : List ℕ) → length (filter p (map f ns)) ≡ sum_of (λ n. bit (p (f n))) ns
length-filter_map p f [] = refl
length-filter_map p f (n ∷ ns) = count-cond (p (f n)) (f n) (filter p (map f ns)) ∙ ap (λ k. bit (p (f n)) + k) (length-filter_map p f ns)

-- of the numbers k, k + 1, .., n of them, those from b on and below h
sum_of-between : (b h k n : ℕ) → sum_of (λ z. bit (nat_le b z && nat_lt z h)) (range_with_len k n) ≡ (cond (nat_lt h (k + n)) h (k + n)) - (cond (nat_lt b k) k b)
sum_of-between b h k zero = none
  where
    none : 0 ≡ (cond (nat_lt h (k + 0)) h (k + 0)) - (cond (nat_lt b k) k b)
    none = grind (arith, nat_tests)
sum_of-between b h k (suc n) = ap (λ s. bit (nat_le b k && nat_lt k h) + s) (sum_of-between b h (k + 1) n) ∙ step
  where
    step : bit (nat_le b k && nat_lt k h) + ((cond (nat_lt h ((k + 1) + n)) h ((k + 1) + n)) - (cond (nat_lt b (k + 1)) (k + 1) b)) ≡ (cond (nat_lt h (k + suc n)) h (k + suc n)) - (cond (nat_lt b k) k b)
    step = grind (arith, nat_tests)

pub no-leg : (legs : Legs) (x y z : ℕ) → nat_eq (legs_at legs (cell x y z)) 0 ≡ (not (has legs.along_z x y) && nat_le (base legs x y) z)
no-leg legs x y z = by_test (has legs.along_z x y)
  where
    by_test : (c : Bool) → nat_eq ((bit (nat_lt z (slice_index legs.along_x y)) + bit (nat_lt z (slice_index legs.along_y x))) + bit c) 0 ≡ (not c && nat_le (base legs x y) z)
    by_test true = full (bit (nat_lt z (slice_index legs.along_x y)) + bit (nat_lt z (slice_index legs.along_y x)))
      where
        full : (n : ℕ) → nat_eq (n + 1) 0 ≡ false
        full n = grind (arith, nat_tests)
    by_test false = rest (slice_index legs.along_x y) (slice_index legs.along_y x)
      where
        rest : (a b : ℕ) → nat_eq ((bit (nat_lt z a) + bit (nat_lt z b)) + 0) 0 ≡ nat_le (max a b) z
        rest a b = grind (arith, nat_tests)

pub on-own : (t : ℤ) (d z : ℕ) → on t (cell (d + x_from t) (d + y_from t) z) ≡ true
on-own t d z = eq-eqb _ _ (turn (x_from t) (y_from t))
  where
    turn : (x y : ℕ) → (d + x) + y ≡ (d + y) + x
    turn x y = omega arith

pub place-own : (t : ℤ) (d z : ℕ) → place t (cell (d + x_from t) (d + y_from t) z) ≡ d
place-own t d z = back (x_from t)
  where
    back : (x : ℕ) → (d + x) - x ≡ d
    back x = omega arith

column-count : (legs : Legs) (t : ℤ) (s : Shape) (d h : ℕ) → at s d ≤ h → length (filter (in_slice legs t s) (column t d h)) ≡ over legs t (at s d) d
column-count legs t s d h l =
    length-filter_map (in_slice legs t s) (λ z. cell (d + x_from t) (d + y_from t) z) (below h)
    ∙ (sum_of-same (λ z. bit (in_slice legs t s (cell (d + x_from t) (d + y_from t) z))) (λ z. bit (not (is_endless legs t d) && (nat_le (base_at legs t d) z && nat_lt z (at s d)))) each (below h)
    ∙ by_test (is_endless legs t d))
  where
    shuffle : (p q r : Bool) → ((p && q) && r) ≡ (p && (q && r))
    shuffle true q r = refl
    shuffle false q r = refl

    each : (z : ℕ) → bit (in_slice legs t s (cell (d + x_from t) (d + y_from t) z)) ≡ bit (not (is_endless legs t d) && (nat_le (base_at legs t d) z && nat_lt z (at s d)))
    each z =
        ap (λ q. bit (q && (nat_eq (legs_at legs (cell (d + x_from t) (d + y_from t) z)) 0 && nat_lt z (at s (place t (cell (d + x_from t) (d + y_from t) z)))))) (on-own t d z)
        ∙ (ap (λ k. bit (nat_eq (legs_at legs (cell (d + x_from t) (d + y_from t) z)) 0 && nat_lt z (at s k))) (place-own t d z)
        ∙ (ap (λ q. bit (q && nat_lt z (at s d))) (no-leg legs (d + x_from t) (d + y_from t) z)
        ∙ ap bit (shuffle (not (is_endless legs t d)) (nat_le (base_at legs t d) z) (nat_lt z (at s d)))))

    last : (b k : ℕ) → k ≤ h → (cond (nat_lt k (0 + h)) k (0 + h)) - (cond (nat_lt b 0) 0 b) ≡ k - b
    last b k l = grind (arith, nat_tests)

    by_test : (c : Bool) → sum_of (λ z. bit (not c && (nat_le (base_at legs t d) z && nat_lt z (at s d)))) (below h) ≡ cond c 0 (at s d - base_at legs t d)
    by_test true = sum_of-zero (λ (z : ℕ). 0) (λ z. refl) (below h)
    by_test false = sum_of-between (base_at legs t d) (at s d) 0 h ∙ last (base_at legs t d) (at s d) l

diagonal-count : (legs : Legs) (t : ℤ) (s : Shape) (n h : ℕ) → reach s ≤ n → ((d : ℕ) → at s d ≤ h) → length (filter (in_slice legs t s) (diagonal t n h)) ≡ extras_of legs t s
diagonal-count legs t s n h l low =
    length-filter_flat_map (in_slice legs t s) (λ d. column t d h) (below n)
    ∙ (sum_of-same (λ d. length (filter (in_slice legs t s) (column t d h))) (λ d. over legs t (at s d) d) (λ d. column-count legs t s d h (low d)) (below n)
    ∙ sum_of-up_to (λ d. over legs t (at s d) d) (reach s) n (λ d far. none (is_endless legs t d) (at s d) (base_at legs t d) (at-past s d far)) l)
  where
    none : (c : Bool) (a b : ℕ) → a ≡ 0 → cond c 0 (a - b) ≡ 0
    none true a b e = refl
    none false a b e = omega arith

-- ---- in a cube

pub on-same : (t u : ℤ) (c : Cell) → on t c ≡ true → on u c ≡ true → t ≡ u
on-same t u c p q = by_sign t u (eqb-true (c.x + y_from t) (c.y + x_from t) p) (eqb-true (c.x + y_from u) (c.y + x_from u) q)
  where
    by_sign : (t u : ℤ) → c.x + y_from t ≡ c.y + x_from t → c.x + y_from u ≡ c.y + x_from u → t ≡ u
    by_sign (pos a) (pos b) p q = ap pos (omega arith)
    by_sign (pos a) (negsuc b) p q = absurd (omega arith)
    by_sign (negsuc a) (pos b) p q = absurd (omega arith)
    by_sign (negsuc a) (negsuc b) p q = ap negsuc (omega arith)

falling-none : (f : ℤ → ℕ) (t : ℤ) → ((u : ℤ) → (u ≡ t → ⊥) → f u ≡ 0) → (n : ℕ) (u : ℤ) → (u -ℤ t) ≡ neg_ℤ (pos (unsigned_abs (u -ℤ t))) → (u ≡ t → ⊥) → sum_of f (falling n u) ≡ 0
falling-none f t none zero u low ne = refl
falling-none f t none (suc n) u low ne =
    let here = none u ne in
    let rest = falling-none f t none n (u -ℤ pos 1) (omega (arith, ints)) (λ e. ne (absurd (still (u -ℤ t) e low ne))) in
    omega arith
  where
    still : (v : ℤ) → (u -ℤ pos 1) ≡ t → (u -ℤ t) ≡ neg_ℤ (pos (unsigned_abs (u -ℤ t))) → (u ≡ t → ⊥) → ⊥
    still v e low ne = omega (arith, ints)

falling-one : (f : ℤ → ℕ) (t : ℤ) → ((u : ℤ) → (u ≡ t → ⊥) → f u ≡ 0) → (n j : ℕ) (u : ℤ) → j < n → u ≡ t +ℤ pos j → sum_of f (falling n u) ≡ f t
falling-one f t none zero j u l e = absurd (omega arith)
falling-one f t none (suc n) zero u l e =
    let here : u ≡ t = omega (arith, ints) in
    let same : f u ≡ f t = ap f here in
    let rest = falling-none f t none n (u -ℤ pos 1) (omega (arith, ints)) (less u here) in
    omega arith
  where
    less : (u : ℤ) → u ≡ t → (u -ℤ pos 1) ≡ t → ⊥
    less u e h = omega (arith, ints)
falling-one f t none (suc n) (suc j) u l e =
    let here = none u (more u e) in
    let rest = falling-one f t none n j (u -ℤ pos 1) (omega arith) (omega (arith, ints)) in
    omega arith
  where
    more : (u : ℤ) → u ≡ t +ℤ pos (suc j) → u ≡ t → ⊥
    more u e h = omega (arith, ints)

other-diagonal : (legs : Legs) (t : ℤ) (s : Shape) (u : ℤ) (n h : ℕ) → (u ≡ t → ⊥) → length (filter (in_slice legs t s) (diagonal u n h)) ≡ 0
other-diagonal legs t s u n h ne =
    length-filter_flat_map (in_slice legs t s) (λ d. column u d h) (below n)
    ∙ sum_of-zero (λ d. length (filter (in_slice legs t s) (column u d h))) (λ d. length-filter_map (in_slice legs t s) (λ z. cell (d + x_from u) (d + y_from u) z) (below h)
    ∙ sum_of-zero (λ z. bit (in_slice legs t s (cell (d + x_from u) (d + y_from u) z))) (λ z. off (on t (cell (d + x_from u) (d + y_from u) z)) _ (λ p. ne (sym (on-same t u (cell (d + x_from u) (d + y_from u) z) p (on-own u d z))))) (below h)) (below n)
  where
    off : (q r : Bool) → (q ≡ true → ⊥) → bit (q && r) ≡ 0
    off true r none = absurd (none refl)
    off false r none = refl

pub slice-count : (legs : Legs) (t : ℤ) (s : Shape) (m : ℕ) → nat_abs t ≤ m → reach s ≤ suc m - nat_abs t → ((d : ℕ) → at s d ≤ suc m) → length (filter (in_slice legs t s) (cube (suc m))) ≡ extras_of legs t s
unfolding cube
slice-count legs t s m near l low =
    length-filter_flat_map (in_slice legs t s) (λ u. diagonal u (suc m - nat_abs u) (suc m)) (falling (suc (m + m)) (pos m))
    ∙ (falling-one (λ u. length (filter (in_slice legs t s) (diagonal u (suc m - nat_abs u) (suc m)))) t (λ u ne. other-diagonal legs t s u (suc m - nat_abs u) (suc m) ne) (suc (m + m)) (unsigned_abs (pos m -ℤ t)) (pos m) (within t near) (steps t near)
    ∙ diagonal-count legs t s (suc m - nat_abs t) (suc m) l low)
  where
    within : (t : ℤ) → nat_abs t ≤ m → unsigned_abs (pos m -ℤ t) < suc (m + m)
    within t near = omega (arith, ints)

    steps : (t : ℤ) → nat_abs t ≤ m → pos m ≡ t +ℤ pos (unsigned_abs (pos m -ℤ t))
    steps t near = omega (arith, ints)

-- ---- the slices of a path

pub pick : List Shape → ℕ → Shape
pick [] j = shape 0 []
pick (s ∷ slices) j = cond (nat_eq j (length slices)) s (pick slices j)

pub record IsIn (legs : Legs) (first : ℤ) (slices : List Shape) (c : Cell) : Type 0 where
  pub number : ℕ
  pub early : number < length slices
  pub here : in_slice legs (diagonal_at first number) (pick slices number) c ≡ true

pub pick-first : (s : Shape) (slices : List Shape) → pick (s ∷ slices) (length slices) ≡ s
unfolding pick
pick-first s slices = ap (λ q. cond q s (pick slices (length slices))) (eq-eqb (length slices) (length slices) refl)

pub pick-later : (s : Shape) (slices : List Shape) (j : ℕ) → j < length slices → pick (s ∷ slices) j ≡ pick slices j
unfolding pick
pick-later s slices j l = ap (λ q. cond q s (pick slices j)) (ne_eqb j (length slices) (apart l))
  where
    apart : j < length slices → j ≡ length slices → ⊥
    apart l e = omega arith

pub inside-some : (legs : Legs) (first : ℤ) (slices : List Shape) (c : Cell) → inside legs first slices c ≡ true → IsIn legs first slices c
unfolding inside
inside-some legs first [] c h = absurd (cc)
inside-some legs first (s ∷ slices) c h = by_case (or_cases (in_slice legs (diagonal_at first (length slices)) s c) (inside legs first slices c) h) (inside-some legs first slices c)
  where
    by_case : (in_slice legs (diagonal_at first (length slices)) s c ≡ true) ⊎ (inside legs first slices c ≡ true) → (inside legs first slices c ≡ true → IsIn legs first slices c) → IsIn legs first (s ∷ slices) c
    by_case (inl top) rest = record { number = length slices; early = omega arith; here = ap (λ a. in_slice legs (diagonal_at first (length slices)) a c) (pick-first s slices) ∙ top }
    by_case (inr low) rest =
        let r = rest low in
        record { number = r.number; early = omega (arith, r.early); here = ap (λ a. in_slice legs (diagonal_at first r.number) a c) (pick-later s slices r.number r.early) ∙ r.here }

pub inside-at : (legs : Legs) (first : ℤ) (slices : List Shape) (c : Cell) (j : ℕ) → j < length slices → in_slice legs (diagonal_at first j) (pick slices j) c ≡ true → inside legs first slices c ≡ true
unfolding inside
inside-at legs first [] c j l h = absurd (omega arith)
inside-at legs first (s ∷ slices) c j l h = by_case (cases_eq j (length slices)) (inside-at legs first slices c j)
  where
    by_case : (j ≡ length slices) ⊎ (j ≡ length slices → ⊥) → (j < length slices → in_slice legs (diagonal_at first j) (pick slices j) c ≡ true → inside legs first slices c ≡ true) →
        (in_slice legs (diagonal_at first (length slices)) s c || inside legs first slices c) ≡ true
    by_case (inl e) rest =
        or_left (in_slice legs (diagonal_at first (length slices)) s c) (inside legs first slices c)
        (ap (λ a. in_slice legs (diagonal_at first (length slices)) a c) (sym (pick-first s slices))
        ∙ subst (λ n. in_slice legs (diagonal_at first n) (pick (s ∷ slices) n) c ≡ true) e h)
    by_case (inr ne) rest =
        let m : j < length slices = omega (arith, ne) in
        or_right (in_slice legs (diagonal_at first (length slices)) s c) (inside legs first slices c)
        (rest m (ap (λ a. in_slice legs (diagonal_at first j) a c) (sym (pick-later s slices j m)) ∙ h))

pub count-either : {A : Type 0} (p q : A → Bool) → ((x : A) → p x ≡ true → q x ≡ true → ⊥) → (xs : List A) → length (filter (λ x. p x || q x) xs) ≡ length (filter p xs) + length (filter q xs)
count-either p q apart [] = omega arith
count-either p q apart (x ∷ xs) =
    count-cond (p x || q x) x (filter (λ y. p y || q y) xs)
    ∙ (sums (p x) (q x) (apart x) (length (filter p xs)) (length (filter q xs)) (count-either p q apart xs)
    ∙ (ap (λ n. n + (bit (q x) + length (filter q xs))) (sym (count-cond (p x) x (filter p xs))) ∙ ap (λ n. length (filter p (x ∷ xs)) + n) (sym (count-cond (q x) x (filter q xs)))))
  where
    sums : {n : ℕ} (a b : Bool) → (a ≡ true → b ≡ true → ⊥) → (k l : ℕ) → n ≡ k + l → bit (a || b) + n ≡ (bit a + k) + (bit b + l)
    sums true true none k l e = absurd (none refl refl)
    sums true false none k l e = omega arith
    sums false true none k l e = omega arith
    sums false false none k l e = omega arith
