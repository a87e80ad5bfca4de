-- The least neighbour above a slice: at each place the greater of the height of the legs there and of the slice behind it.
-- It fits, interlaces, and takes together with what it takes above it no more than the slice does.
--
-- trim f d n          == f d, f (d + 1), .., n numbers, up to the first 0
-- endless-behind      where the place behind is in the leg along z, the place is; endless-ahead, where a place ahead is, the place is
-- base-ahead          at a place ahead the legs are no higher
-- least-height        the height of the least neighbour; least, that slice
use Rattle.std.specs.Prelude.{◌≡◌, ◌⊎◌, ℕ, zero, suc, ◌+◌, ◌-◌, ◌<◌, ◌≤◌, ℤ, pos, negsuc, ◌+ℤ◌, max, Bool, true, false, cond, ◌&&◌, nat_eq, nat_lt, nat_le, List, [], ◌∷◌, slice_index}
use Rattle.std.proofs.Common.{refl, sym, ap, ◌∙◌, arith, inl, inr}
use Rattle.std.proofs.lemmas.Bool.{cases_lt, cases_eq, eq-eqb, ne_eqb, or_left, or_right, and_parts, and_from, lt-ltb, le-leb, ltb-true, ltb-false}
use Rattle.tv_partition.specs.Rows.{IsDiagram, has}
use Rattle.tv_partition.proofs.Shapes.{rows-descend, has-lower_row, has-lower}
use Rattle.tv_cells.specs.declared.legs.Legs.{Legs}
use Rattle.tv_cells.specs.Cells.{x_from, y_from}
use Rattle.tv_cells.specs.Extras.{extent, AreDiagrams}
use Rattle.tv_spec_slices.specs.Falling.{falls}
use Rattle.tv_spec_slices.specs.Slices.{Shape, at, reach, covers, all_below, interlaces_at, interlaces, base, base_at, is_endless, fits_at, fits, extras_of, completion}
use Rattle.tv_spec_slices.specs.Paths.{full_of, shape}
use Rattle.tv_laws_slices.specs.Laws.{LeastCompletes}
use Rattle.tv_laws_slices.proofs.Bases.{base-next, base-past, endless-first}
use Rattle.tv_laws_slices.proofs.Fits.{below-from, falls-parts, falls-from, one-fits, fits-full, fits-above, second-most}
use Rattle.tv_laws_slices.proofs.Steps.{first-reach, at-past, upright, upright-endless, all-up_to, sum_of-below, x-above, y-above, x-below, y-below, behind, completion-next, completion-step}

-- ---- a falling function as a list

abbrev pub trim : (ℕ → ℕ) → ℕ → ℕ → List ℕ
trim f d zero = []
trim f d (suc n) = cond (nat_eq (f d) 0) [] (f d ∷ trim f (suc d) n)

pub falls-far : (f : ℕ → ℕ) → ((i : ℕ) → f (suc i) ≤ f i) → (d i : ℕ) → f (d + i) ≤ f d
falls-far f next d zero = let e : d + 0 ≡ d = omega arith in rw e (own (f d))
  where
    own : (k : ℕ) → k ≤ k
    own k = omega arith
falls-far f next d (suc i) =
    let e : d + suc i ≡ suc (d + i) = omega arith in
    rw e (through (f (suc (d + i))) (f (d + i)) (f d) (next (d + i)) (falls-far f next d i))
  where
    through : (a b c : ℕ) → a ≤ b → b ≤ c → a ≤ c
    through a b c l m = omega arith

pub trim-at : (f : ℕ → ℕ) → ((i : ℕ) → f (suc i) ≤ f i) → (d n : ℕ) → f (d + n) ≡ 0 → (i : ℕ) → slice_index (trim f d n) i ≡ f (d + i)
trim-at f next d zero e i =
    let z : d + 0 ≡ d = omega arith in
    none (f d) (f (d + i)) (ap f (sym z) ∙ e) (falls-far f next d i)
  where
    none : (a b : ℕ) → a ≡ 0 → b ≤ a → 0 ≡ b
    none a b e l = omega arith
trim-at f next d (suc n) e i = by_test (cases_eq (f d) 0) i (trim-at f next (suc d) n (let s : suc d + n ≡ d + suc n = omega arith in ap f s ∙ e))
  where
    none : (a b : ℕ) → a ≡ 0 → b ≤ a → 0 ≡ b
    none a b e l = omega arith

    later : (i : ℕ) → ((j : ℕ) → slice_index (trim f (suc d) n) j ≡ f (suc d + j)) → slice_index (f d ∷ trim f (suc d) n) i ≡ f (d + i)
    later zero rest = let z : d ≡ d + 0 = omega arith in ap f z
    later (suc j) rest = let s : suc d + j ≡ d + suc j = omega arith in rest j ∙ ap f s

    by_test : (f d ≡ 0) ⊎ (f d ≡ 0 → ⊥) → (i : ℕ) → ((j : ℕ) → slice_index (trim f (suc d) n) j ≡ f (suc d + j)) → slice_index (cond (nat_eq (f d) 0) [] (f d ∷ trim f (suc d) n)) i ≡ f (d + i)
    by_test (inl z) i rest = ap (λ c. slice_index (cond c [] (f d ∷ trim f (suc d) n)) i) (eq-eqb (f d) 0 z) ∙ none (f d) (f (d + i)) z (falls-far f next d i)
    by_test (inr ne) i rest = ap (λ c. slice_index (cond c [] (f d ∷ trim f (suc d) n)) i) (ne_eqb (f d) 0 ne) ∙ later i rest

pub trim-falls : (f : ℕ → ℕ) → ((i : ℕ) → f (suc i) ≤ f i) → (d n : ℕ) → f (d + n) ≡ 0 → falls (trim f d n) ≡ true
trim-falls f next d zero e = refl
trim-falls f next d (suc n) e = by_test (cases_eq (f d) 0) (trim-falls f next (suc d) n far) (trim-at f next (suc d) n far 0)
  where
    far : f (suc d + n) ≡ 0
    far = let s : suc d + n ≡ d + suc n = omega arith in ap f s ∙ e

    first : (a b c : ℕ) → a ≡ b → b ≤ c → a ≤ c
    first a b c e l = omega arith

    some : (a : ℕ) → (a ≡ 0 → ⊥) → 0 < a
    some a ne = omega (arith, ne)

    by_test : (f d ≡ 0) ⊎ (f d ≡ 0 → ⊥) → falls (trim f (suc d) n) ≡ true → slice_index (trim f (suc d) n) 0 ≡ f (suc d + 0) → falls (cond (nat_eq (f d) 0) [] (f d ∷ trim f (suc d) n)) ≡ true
    by_test (inl z) rest head = ap (λ c. falls (cond c [] (f d ∷ trim f (suc d) n))) (eq-eqb (f d) 0 z)
    by_test (inr ne) rest head =
        let s : suc d + 0 ≡ suc d = omega arith in
        ap (λ c. falls (cond c [] (f d ∷ trim f (suc d) n))) (ne_eqb (f d) 0 ne)
        ∙ falls-from (f d) (trim f (suc d) n) (some (f d) ne) (first (slice_index (trim f (suc d) n) 0) (f (suc d)) (f d) (head ∙ ap f s) (next d)) rest

-- the heights of a slice fall, also before its first
pub heights-next : (hs : List ℕ) (i : ℕ) → falls hs ≡ true → slice_index hs (suc i) ≤ slice_index hs i
heights-next [] i f = omega arith
heights-next (h ∷ hs) zero f = (falls-parts h hs f).1
heights-next (h ∷ hs) (suc i) f = heights-next hs i (falls-parts h hs f).2

at-next : (s : Shape) (d : ℕ) → falls s.heights ≡ true → at s (suc d) ≤ at s d
at-next s d f = elim (cases_lt d s.full) [
  | inl l ↦ let e : suc d - s.full ≡ 0 = omega arith in let g : d - s.full ≡ 0 = omega arith in rw (e, g) (own (slice_index s.heights 0))
  | inr m ↦ let e : suc d - s.full ≡ suc (d - s.full) = omega arith in rw e (heights-next s.heights (d - s.full) f)
]
  where
    own : (k : ℕ) → k ≤ k
    own k = omega arith

-- ---- neighbouring places of the legs

-- the place of the next slice up to which a slice's place covers
abbrev pub ahead : ℤ → ℕ → ℕ
ahead (pos n) d = d
ahead (negsuc n) d = suc d

has-at : (rows : List ℕ) (x y v w : ℕ) → x ≡ v → y ≡ w → has rows v w ≡ true → has rows x y ≡ true
has-at rows x y v w e f h = ap (λ k. has rows k y) e ∙ (ap (λ k. has rows v k) f ∙ h)

pub x-pos : (n d : ℕ) → d + x_from (pos n +ℤ pos 1) ≡ suc (d + n)
x-pos n d = ap (λ v. d + v) (x-above n) ∙ omega arith

pub y-pos : (n d : ℕ) → d + y_from (pos n +ℤ pos 1) ≡ d + 0
y-pos n d = ap (λ v. d + v) (y-above n)

pub x-neg : (n d : ℕ) → d + x_from (negsuc n +ℤ pos 1) ≡ d + 0
x-neg n d = ap (λ v. d + v) (x-below n)

pub y-neg : (n d : ℕ) → d + y_from (negsuc n +ℤ pos 1) ≡ d + n
y-neg n d = ap (λ v. d + v) (y-below n)

pub next_plus : (d n : ℕ) → suc d + n ≡ suc (d + n)
next_plus d n = omega arith

pub plus_next : (d n : ℕ) → d + suc n ≡ suc (d + n)
plus_next d n = omega arith

pub endless-behind : (legs : Legs) (t : ℤ) (d : ℕ) → is_endless legs t (behind t d) ≡ true → is_endless legs (t +ℤ pos 1) d ≡ true
endless-behind legs (pos n) d h =
    has-at legs.along_z (d + x_from (pos n +ℤ pos 1)) (d + y_from (pos n +ℤ pos 1)) (suc (d + n)) (d + 0) (x-pos n d) (y-pos n d)
    (has-lower legs.along_z (suc (d + n)) (d + 0) (has-at legs.along_z (suc (d + n)) (suc (d + 0)) (suc d + n) (suc d + 0) (sym (next_plus d n)) (sym (next_plus d 0)) h))
endless-behind legs (negsuc n) d h =
    has-at legs.along_z (d + x_from (negsuc n +ℤ pos 1)) (d + y_from (negsuc n +ℤ pos 1)) (d + 0) (d + n) (x-neg n d) (y-neg n d)
    (has-lower legs.along_z (d + 0) (d + n) (has-at legs.along_z (d + 0) (suc (d + n)) (d + 0) (d + suc n) refl (sym (plus_next d n)) h))

pub endless-ahead : (legs : Legs) (t : ℤ) (d : ℕ) → AreDiagrams legs → is_endless legs (t +ℤ pos 1) (ahead t d) ≡ true → is_endless legs t d ≡ true
endless-ahead legs (pos n) d are h =
    has-lower_row legs.along_z (d + n) (d + 0) are.along_z
    (has-at legs.along_z (suc (d + n)) (d + 0) (d + x_from (pos n +ℤ pos 1)) (d + y_from (pos n +ℤ pos 1)) (sym (x-pos n d)) (sym (y-pos n d)) h)
endless-ahead legs (negsuc n) d are h =
    has-lower_row legs.along_z (d + 0) (d + suc n) are.along_z
    (has-at legs.along_z (suc (d + 0)) (d + suc n) (suc d + x_from (negsuc n +ℤ pos 1)) (suc d + y_from (negsuc n +ℤ pos 1))
    (sym (next_plus d 0) ∙ sym (x-neg n (suc d))) (plus_next d n ∙ (sym (next_plus d n) ∙ sym (y-neg n (suc d)))) h)

base-same : (legs : Legs) (x y v w : ℕ) → x ≡ v → y ≡ w → base legs x y ≡ base legs v w
base-same legs x y v w e f = ap (λ k. base legs k y) e ∙ ap (λ k. base legs v k) f

base-row : (legs : Legs) (x y : ℕ) → AreDiagrams legs → base legs (suc x) y ≤ base legs x y
base-row legs x y are = wider (slice_index legs.along_x y) _ _ (rows-descend legs.along_y x are.along_y)
  where
    wider : (a b c : ℕ) → b ≤ c → max a b ≤ max a c
    wider a b c l = omega arith

equal-le : (a b c : ℕ) → a ≡ b → b ≤ c → a ≤ c
equal-le a b c e l = omega arith

base-ahead : (legs : Legs) (t : ℤ) (d : ℕ) → AreDiagrams legs → base_at legs (t +ℤ pos 1) (ahead t d) ≤ base_at legs t d
base-ahead legs (pos n) d are =
    equal-le (base_at legs (pos n +ℤ pos 1) d) (base legs (suc (d + n)) (d + 0)) (base legs (d + n) (d + 0))
    (base-same legs _ _ _ _ (x-pos n d) (y-pos n d)) (base-row legs (d + n) (d + 0) are)
base-ahead legs (negsuc n) d are =
    equal-le (base_at legs (negsuc n +ℤ pos 1) (suc d)) (base legs (suc (d + 0)) (d + suc n)) (base legs (d + 0) (d + suc n))
    (base-same legs _ _ _ _ (x-neg n (suc d) ∙ next_plus d 0) (y-neg n (suc d) ∙ (next_plus d n ∙ sym (plus_next d n)))) (base-row legs (d + 0) (d + suc n) are)

-- over earlier y the legs are no lower
pub row-earlier : (rows : List ℕ) → IsDiagram rows → (y m : ℕ) → y ≤ m → slice_index rows m ≤ slice_index rows y
row-earlier rows is y m l = let e : y + (m - y) ≡ m = omega arith in rw (← e) (falls-far (slice_index rows) (λ i. rows-descend rows i is) y (m - y))

base-earlier : (legs : Legs) (x y m : ℕ) → AreDiagrams legs → y ≤ m → base legs x m ≤ base legs x y
base-earlier legs x y m are l = wider _ _ (slice_index legs.along_y x) (row-earlier legs.along_x are.along_x y m l)
  where
    wider : (a b c : ℕ) → a ≤ b → max a c ≤ max b c
    wider a b c l = omega arith

-- a column raised to the legs has no more extras above it
raised : (legs : Legs) (x m g : ℕ) → AreDiagrams legs → upright legs x (suc m) (max (base legs x m) g) ≤ upright legs x (suc m) g
raised legs x m g are = sum_of-below _ _ 0 (suc m) (λ y low far. each (has legs.along_z x y) (base legs x m) (base legs x y) (base-earlier legs x y m are (within y far)))
  where
    within : (y : ℕ) → y < 0 + suc m → y ≤ m
    within y l = omega arith

    each : (c : Bool) (b k : ℕ) → b ≤ k → cond c 0 (max b g - k) ≤ cond c 0 (g - k)
    each true b k l = omega arith
    each false b k l = omega arith

-- ---- the least neighbour

abbrev pub least-height : Legs → ℤ → Shape → ℕ → ℕ
least-height legs t a d = max (base_at legs (t +ℤ pos 1) d) (at a (behind t d))

abbrev pub least : Legs → ℤ → Shape → Shape
least legs t a =
    shape (full_of legs (t +ℤ pos 1) (extent legs))
    (trim (least-height legs t a) (full_of legs (t +ℤ pos 1) (extent legs)) (extent legs + reach a))

pub heights-of : (legs : Legs) (t : ℤ) (a : Shape) → fits legs t a ≡ true → falls a.heights ≡ true
heights-of legs t a f = (and_parts (falls a.heights) (all_below (max (reach a) (extent legs)) (fits_at legs t a)) f).0

behind-next : (t : ℤ) (a : Shape) (d : ℕ) → falls a.heights ≡ true → at a (behind t (suc d)) ≤ at a (behind t d)
behind-next (pos n) a d f = at-next a (suc d) f
behind-next (negsuc n) a d f = at-next a d f

behind-far : (t : ℤ) (d : ℕ) → d ≤ behind t d
behind-far (pos n) d = omega arith
behind-far (negsuc n) d = omega arith

both-less : (a b c e : ℕ) → a ≤ c → b ≤ e → max a b ≤ max c e
both-less a b c e l m = omega arith

module _ (legs : Legs) (t : ℤ) (a : Shape) (are : AreDiagrams legs) (f : fits legs t a ≡ true) where
  least-next : (d : ℕ) → least-height legs t a (suc d) ≤ least-height legs t a d
  least-next d = both-less _ _ _ _ (base-next legs (t +ℤ pos 1) d are) (behind-next t a d (heights-of legs t a f))

  least-end : (k : ℕ) → least-height legs t a (k + (extent legs + reach a)) ≡ 0
  least-end k =
      both-none _ _ (base-past legs (t +ℤ pos 1) (k + (extent legs + reach a)) (past_extent k (extent legs) (reach a)))
      (at-past a (behind t (k + (extent legs + reach a))) (past_reach k (extent legs) (reach a) (behind t (k + (extent legs + reach a))) (behind-far t (k + (extent legs + reach a)))))
    where
      both-none : (a b : ℕ) → a ≡ 0 → b ≡ 0 → max a b ≡ 0
      both-none a b e f = omega arith

      past_extent : (k e r : ℕ) → e ≤ k + (e + r)
      past_extent k e r = omega arith

      past_reach : (k e r b : ℕ) → k + (e + r) ≤ b → r ≤ b
      past_reach k e r b l = omega arith

  at-least : (d : ℕ) → full_of legs (t +ℤ pos 1) (extent legs) ≤ d → at (least legs t a) d ≡ least-height legs t a d
  at-least d l =
      trim-at (least-height legs t a) least-next (full_of legs (t +ℤ pos 1) (extent legs)) (extent legs + reach a) (least-end (full_of legs (t +ℤ pos 1) (extent legs))) (d - full_of legs (t +ℤ pos 1) (extent legs))
      ∙ ap (least-height legs t a) (together (full_of legs (t +ℤ pos 1) (extent legs)) l)
    where
      together : (k : ℕ) → k ≤ d → k + (d - k) ≡ d
      together k l = omega arith

  least-fits : fits legs (t +ℤ pos 1) (least legs t a) ≡ true
  least-fits =
      let b = least legs t a in
      let u = t +ℤ pos 1 in
      and_from (falls b.heights) (all_below (max (reach b) (extent legs)) (fits_at legs u b))
      (trim-falls (least-height legs t a) least-next (full_of legs u (extent legs)) (extent legs + reach a) (least-end (full_of legs u (extent legs))))
      (below-from (max (reach b) (extent legs)) (fits_at legs u b) (λ i l. one-fits (nat_lt i b.full) (is_endless legs u i) (nat_le (base_at legs u i) (at b i))
      (endless-first legs u i are) (λ far. le-leb (base_at legs u i) (at b i) (raised_to (at b i) (base_at legs u i) (at a (behind t i)) (at-least i (ltb-false i (full_of legs u (extent legs)) far))))))
    where
      raised_to : (h b g : ℕ) → h ≡ max b g → b ≤ h
      raised_to h b g e = omega arith

  -- a place without end of the slice, by the legs, and back
  ends-here : (d : ℕ) → d < a.full → is_endless legs t d ≡ true
  ends-here d l = endless-first legs t d are ∙ lt-ltb d (full_of legs t (extent legs)) (rw (← fits-full legs t a are f) l)

  here-ends : (d : ℕ) → is_endless legs t d ≡ true → d < a.full
  here-ends d h = rw (fits-full legs t a are f) (ltb-true d (full_of legs t (extent legs)) (sym (endless-first legs t d are) ∙ h))

  next-ends : (d : ℕ) → d < full_of legs (t +ℤ pos 1) (extent legs) → is_endless legs (t +ℤ pos 1) d ≡ true
  next-ends d l = endless-first legs (t +ℤ pos 1) d are ∙ lt-ltb d (full_of legs (t +ℤ pos 1) (extent legs)) l

  ends-next : (d : ℕ) → is_endless legs (t +ℤ pos 1) d ≡ true → d < full_of legs (t +ℤ pos 1) (extent legs)
  ends-next d h = ltb-true d (full_of legs (t +ℤ pos 1) (extent legs)) (sym (endless-first legs (t +ℤ pos 1) d are) ∙ h)

  least-covers : (d : ℕ) → covers (least legs t a) d a (behind t d) ≡ true
  least-covers d = by_test (cases_lt d (full_of legs (t +ℤ pos 1) (extent legs)))
    where
      over_it : (h b g : ℕ) → h ≡ max b g → g ≤ h
      over_it h b g e = omega arith

      by_test : (d < full_of legs (t +ℤ pos 1) (extent legs)) ⊎ (full_of legs (t +ℤ pos 1) (extent legs) ≤ d) → covers (least legs t a) d a (behind t d) ≡ true
      by_test (inl l) = or_left (nat_lt d (full_of legs (t +ℤ pos 1) (extent legs))) (nat_le a.full (behind t d) && nat_le (at a (behind t d)) (at (least legs t a) d)) (lt-ltb d (full_of legs (t +ℤ pos 1) (extent legs)) l)
      by_test (inr m) =
          or_right (nat_lt d (full_of legs (t +ℤ pos 1) (extent legs))) (nat_le a.full (behind t d) && nat_le (at a (behind t d)) (at (least legs t a) d))
          (and_from (nat_le a.full (behind t d)) (nat_le (at a (behind t d)) (at (least legs t a) d))
          (le-leb a.full (behind t d) (no_end (cases_lt (behind t d) a.full)))
          (le-leb (at a (behind t d)) (at (least legs t a) d) (over_it (at (least legs t a) d) (base_at legs (t +ℤ pos 1) d) (at a (behind t d)) (at-least d m))))
        where
          no_end : (behind t d < a.full) ⊎ (a.full ≤ behind t d) → a.full ≤ behind t d
          no_end (inl l) = absurd (let k = ends-next d (endless-behind legs t d (ends-here (behind t d) l)) in omega arith)
          no_end (inr l) = l

  behind-ahead : (t : ℤ) (d : ℕ) → behind t (ahead t d) ≡ suc d
  behind-ahead (pos n) d = refl
  behind-ahead (negsuc n) d = refl

  covers-least : (d : ℕ) → covers a d (least legs t a) (ahead t d) ≡ true
  covers-least d = by_test (cases_lt d a.full)
    where
      under_it : (h b g c k : ℕ) → h ≡ max b g → b ≤ c → c ≤ k → g ≤ k → h ≤ k
      under_it h b g c k e l m n = omega arith

      by_test : (d < a.full) ⊎ (a.full ≤ d) → covers a d (least legs t a) (ahead t d) ≡ true
      by_test (inl l) = or_left (nat_lt d a.full) (nat_le (full_of legs (t +ℤ pos 1) (extent legs)) (ahead t d) && nat_le (at (least legs t a) (ahead t d)) (at a d)) (lt-ltb d a.full l)
      by_test (inr m) =
          let far = no_end (cases_lt (ahead t d) (full_of legs (t +ℤ pos 1) (extent legs))) in
          or_right (nat_lt d a.full) (nat_le (full_of legs (t +ℤ pos 1) (extent legs)) (ahead t d) && nat_le (at (least legs t a) (ahead t d)) (at a d))
          (and_from (nat_le (full_of legs (t +ℤ pos 1) (extent legs)) (ahead t d)) (nat_le (at (least legs t a) (ahead t d)) (at a d))
          (le-leb (full_of legs (t +ℤ pos 1) (extent legs)) (ahead t d) far)
          (le-leb (at (least legs t a) (ahead t d)) (at a d)
          (under_it (at (least legs t a) (ahead t d)) (base_at legs (t +ℤ pos 1) (ahead t d)) (at a (behind t (ahead t d))) (base_at legs t d) (at a d)
          (at-least (ahead t d) far) (base-ahead legs t d are) (here_above m) further)))
        where
          no_end : (ahead t d < full_of legs (t +ℤ pos 1) (extent legs)) ⊎ (full_of legs (t +ℤ pos 1) (extent legs) ≤ ahead t d) → full_of legs (t +ℤ pos 1) (extent legs) ≤ ahead t d
          no_end (inl l) = absurd (let k = here-ends d (endless-ahead legs t d are (next-ends (ahead t d) l)) in omega arith)
          no_end (inr l) = l

          here_above : a.full ≤ d → base_at legs t d ≤ at a d
          here_above m =
              let e : a.full + (d - a.full) ≡ d = omega arith in
              let here = fits-above legs t a f (d - a.full) in
              rw e at here

          further : at a (behind t (ahead t d)) ≤ at a d
          further = rw (behind-ahead t d) (at-next a d (heights-of legs t a f))

  one-least : (d : ℕ) → upright legs (d + x_from (t +ℤ pos 1)) (suc (d + y_from (t +ℤ pos 1))) (at (least legs t a) d) ≤ upright legs (d + x_from (t +ℤ pos 1)) (suc (d + y_from (t +ℤ pos 1))) (at a (behind t d))
  one-least d = elim (cases_lt d (full_of legs (t +ℤ pos 1) (extent legs))) [
    | inl l ↦ none _ _ (upright-endless legs (d + x_from (t +ℤ pos 1)) (d + y_from (t +ℤ pos 1)) (at (least legs t a) d) (next-ends d l))
    | inr m ↦ equal-le _ _ _ (ap (λ h. upright legs (d + x_from (t +ℤ pos 1)) (suc (d + y_from (t +ℤ pos 1))) h) (at-least d m)) (raised legs (d + x_from (t +ℤ pos 1)) (d + y_from (t +ℤ pos 1)) (at a (behind t d)) are)
  ]
    where
      none : (p q : ℕ) → p ≡ 0 → p ≤ q
      none p q h = omega arith

  least-spends : extras_of legs (t +ℤ pos 1) (least legs t a) + completion legs (t +ℤ pos 1) (least legs t a) ≤ completion legs t a
  least-spends =
      let k = max (reach a) (reach (least legs t a)) in
      let left = completion-next legs t a k (first-reach (reach a) (reach (least legs t a))) in
      let right = all-up_to legs (t +ℤ pos 1) (least legs t a) k (second-most (reach a) (reach (least legs t a))) in
      rw (left, right)
      (sum_of-below (λ d. upright legs (d + x_from (t +ℤ pos 1)) (suc (d + y_from (t +ℤ pos 1))) (at (least legs t a) d))
      (λ d. upright legs (d + x_from (t +ℤ pos 1)) (suc (d + y_from (t +ℤ pos 1))) (at a (behind t d))) 0 k (λ d low far. one-least d))

pub both-covers : (t : ℤ) (a b : Shape) (d : ℕ) → covers a d b (ahead t d) ≡ true → covers b d a (behind t d) ≡ true → interlaces_at t a b d ≡ true
both-covers (pos n) a b d p q = and_from (covers a d b d) (covers b d a (suc d)) p q
both-covers (negsuc n) a b d p q = and_from (covers b d a d) (covers a d b (suc d)) q p

pub least-completes : LeastCompletes
least-completes legs t a are f = record {
  next = least legs t a;
  suits = least-fits legs t a are f;
  beside = interlaced;
  completes = equal _ _ (least-spends legs t a are f) (completion-step legs t a (least legs t a) are (least-fits legs t a are f) interlaced);
}
  where
    interlaced : interlaces t a (least legs t a) ≡ true
    interlaced = below-from (max (reach a) (reach (least legs t a))) (interlaces_at t a (least legs t a)) (λ d l. both-covers t a (least legs t a) d (covers-least legs t a are f d) (least-covers legs t a are f d))

    equal : (p q : ℕ) → p ≤ q → q ≤ p → p ≡ q
    equal p q l m = omega arith
