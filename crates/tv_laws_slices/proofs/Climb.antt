-- An entry has no more ways than there are paths with as many extras as its cost and its completion: each way goes on by
-- least neighbours, and at the last diagonal no slice is left that is more than the legs.
--
-- sum_of-some      where a sum is not 0, one of its values is not
-- ways-cost        a slice with ways has at most so many extras as they cost
-- ways-grow        a neighbour above has as many ways, of its extras more
-- tall-costs       past the extent a column above the leg along x has one on each diagonal below it as far as the extent
-- ways-last_one    so none stands at the last diagonal
use Rattle.std.specs.Prelude.{◌≡◌, ◌⊎◌, ℕ, zero, suc, ◌+◌, ◌-◌, ◌*◌, ◌<◌, ◌≤◌, ℤ, pos, ◌+ℤ◌, ◌-ℤ◌, ◌≤ℤ◌, neg_ℤ, unsigned_abs, max, Bool, true, false, cond, ◌&&◌, nat_eq, nat_lt, nat_le, List, [], ◌∷◌, filter, length, slice_index}
use Rattle.std.specs.List.{AllByRecursion}
use Rattle.std.proofs.Common.{refl, sym, ap, subst, ◌∙◌, arith, inl, inr, add-zero}
use Rattle.std.proofs.lemmas.Int.{ints}
use Rattle.std.proofs.lemmas.Bool.{cases_lt, cond-true, cond-false, and_parts, and_from, or_cases, le-leb, leb-true, eqb-true, false_from_ne_true}
use Rattle.tv_lemmas.specs.Sums.{sum_of}
use Rattle.tv_lemmas.proofs.Sums.{sum_of-term}
use Rattle.tv_partition.specs.Rows.{has, reach as rows_reach}
use Rattle.tv_partition.proofs.Shapes.{has-below, row-past}
use Rattle.tv_cells.specs.declared.legs.Legs.{Legs}
use Rattle.tv_cells.specs.Extras.{bit, extent, AreDiagrams}
use Rattle.tv_spec_slices.specs.Slices.{Shape, at, reach, covers, interlaces_at, interlaces, base, over, fits, extras_of, above, completion, same_shape}
use Rattle.tv_spec_slices.specs.Paths.{fitting, diagonal_at, ways, paths, ways_at, start_for}
use Rattle.tv_laws_slices.specs.Laws.{often, EntriesAreBounded}
use Rattle.tv_laws_slices.proofs.Sums.{sum_of-filter, sum_of-zeros}
use Rattle.tv_laws_slices.proofs.Bases.{endless-first}
use Rattle.tv_laws_slices.proofs.Once.{once-all}
use Rattle.tv_laws_slices.proofs.Fits.{below-at, fits-full}
use Rattle.tv_laws_slices.proofs.Steps.{at-past}
use Rattle.tv_laws_slices.proofs.Least.{row-earlier, least-completes}
use Rattle.tv_laws_slices.proofs.Pushed.{single, fitting-fits, start-low, steps-back, ways-next}

record Some {A : Type 0} (P : A → Type 0) (v : A → ℕ) : Type 0 where
  one : A
  is : P one
  more : 0 < v one

sum_of-some : {A : Type 0} (P : A → Type 0) (v : A → ℕ) (xs : List A) → AllByRecursion P xs → 0 < sum_of v xs → Some P v
sum_of-some P v [] all h = absurd (omega arith)
sum_of-some P v (x ∷ xs) all h = elim (cases_lt 0 (v x)) [
  | inl l ↦ record { one = x; is = all.0; more = l }
  | inr none ↦ sum_of-some P v xs all.1 (omega arith)
]

sum_of-part : {A : Type 0} (f g : A → ℕ) → ((x : A) → f x ≤ g x) → (xs : List A) → sum_of f xs ≤ sum_of g xs
sum_of-part f g less [] = omega arith
sum_of-part f g less (x ∷ xs) = let here = less x in let rest = sum_of-part f g less xs in omega arith

-- one of a list, where it is listed
one-of : (b : Shape) (v : Shape → ℕ) (xs : List Shape) → often b xs ≡ 1 → v b ≤ sum_of v xs
one-of b v xs e = through (v b) (sum_of (λ d. cond (same_shape b d) (v d) 0) xs) (sum_of v xs) (single b v xs true e) (sum_of-part (λ d. cond (same_shape b d) (v d) 0) v (λ d. part (same_shape b d) (v d)) xs)
  where
    through : (a m c : ℕ) → m ≡ a → m ≤ c → a ≤ c
    through a m c e l = omega arith

    part : (q : Bool) (w : ℕ) → cond q w 0 ≤ w
    part true w = omega arith
    part false w = omega arith

-- ---- the last step of ways

positive-test : (q : Bool) (w : ℕ) → 0 < cond q w 0 → (q ≡ true) × (0 < w)
positive-test true w h = (refl, h)
positive-test false w h = absurd (omega arith)

cost-from : (legs : Legs) (k : ℕ) (z : ℤ) (n : ℕ) (s : Shape) (c : ℕ) → 0 < ways legs k z n s c → extras_of legs (diagonal_at z n) s ≤ c
unfolding ways
cost-from legs k z zero s c h =
    let e : z +ℤ pos 0 ≡ z = omega (arith, ints) in
    let tests = and_parts (nat_eq c 0) (nat_eq (extras_of legs z s) 0) (positive-test (nat_eq c 0 && nat_eq (extras_of legs z s) 0) 1 h).0 in
    none (extras_of legs (z +ℤ pos 0) s) (extras_of legs z s) (ap (λ t. extras_of legs t s) e) (eqb-true (extras_of legs z s) 0 tests.1)
  where
    none : (a b : ℕ) → a ≡ b → b ≡ 0 → a ≤ c
    none a b e f = omega arith
cost-from legs k z (suc n) s c h = leb-true (extras_of legs (diagonal_at z (suc n)) s) c (positive-test (nat_le (extras_of legs (diagonal_at z (suc n)) s) c) _ h).0

pub ways-cost : (legs : Legs) (k : ℕ) (t : ℤ) (s : Shape) (c : ℕ) → neg_ℤ (pos (k + extent legs)) ≤ℤ t → 0 < ways_at legs k t s c → extras_of legs t s ≤ c
ways-cost legs k t s c low h = by_start (neg_ℤ (pos (k + extent legs))) low (start-low legs k t low)
  where
    of_diagonal : (d : ℤ) → d ≡ t → extras_of legs d s ≤ c → extras_of legs t s ≤ c
    of_diagonal d e l = let same : extras_of legs d s ≡ extras_of legs t s = ap (λ r. extras_of legs r s) e in equal (extras_of legs d s) (extras_of legs t s) same l
      where
        equal : (a b : ℕ) → a ≡ b → a ≤ c → b ≤ c
        equal a b e l = omega arith

    by_start : (z : ℤ) → z ≤ℤ t → start_for legs k t ≡ z → extras_of legs t s ≤ c
    by_start z m e = of_diagonal (diagonal_at z (unsigned_abs (t -ℤ z))) (steps-back z t m) (cost-from legs k z (unsigned_abs (t -ℤ z)) s c (at_start z e))
      where
        at_start : (z : ℤ) → start_for legs k t ≡ z → 0 < ways legs k z (unsigned_abs (t -ℤ z)) s c
        at_start z e = more (ways_at legs k t s c) (ways legs k z (unsigned_abs (t -ℤ z)) s c) (ap (λ r. ways legs k r (unsigned_abs (t -ℤ r)) s c) e) h
          where
            more : (a b : ℕ) → a ≡ b → 0 < a → 0 < b
            more a b e l = omega arith

pub ways-grow : (legs : Legs) (k : ℕ) (t : ℤ) (a b : Shape) (c : ℕ) → AreDiagrams legs → neg_ℤ (pos (k + extent legs)) ≤ℤ t → fits legs t a ≡ true → extras_of legs t a ≤ k → interlaces t a b ≡ true →
    ways_at legs k t a c ≤ ways_at legs k (t +ℤ pos 1) b (c + extras_of legs (t +ℤ pos 1) b)
ways-grow legs k t a b c are low f small beside =
    rw (← ways-next legs k t b (c + x) low)
    (grown (ways_at legs k t a c) (sum_of (λ d. ways_at legs k t d ((c + x) - x)) (filter (λ d. interlaces t d b) (fitting legs t k)))
    (rw rest_is (rw (sum_of-filter (λ d. ways_at legs k t d c) (λ d. interlaces t d b) (fitting legs t k)) listed_one)))
  where
    x : ℕ
    x = extras_of legs (t +ℤ pos 1) b

    rest_is : (c + extras_of legs (t +ℤ pos 1) b) - extras_of legs (t +ℤ pos 1) b ≡ c
    rest_is = omega arith

    grown : (w s : ℕ) → w ≤ s → w ≤ cond (nat_le (extras_of legs (t +ℤ pos 1) b) (c + extras_of legs (t +ℤ pos 1) b)) s 0
    grown w s l = rw (le-leb (extras_of legs (t +ℤ pos 1) b) (c + extras_of legs (t +ℤ pos 1) b) (omega arith)) l

    here : (v : ℕ) → cond (interlaces t a b) v 0 ≡ v
    here v = cond-true (interlaces t a b) v 0 beside

    listed_one : ways_at legs k t a c ≤ sum_of (λ d. cond (interlaces t d b) (ways_at legs k t d c) 0) (fitting legs t k)
    listed_one =
        equal (ways_at legs k t a c) (cond (interlaces t a b) (ways_at legs k t a c) 0) (sum_of (λ d. cond (interlaces t d b) (ways_at legs k t d c) 0) (fitting legs t k)) (here (ways_at legs k t a c))
        (one-of a (λ d. cond (interlaces t d b) (ways_at legs k t d c) 0) (fitting legs t k) (once-all legs t k a are ∙ ap bit (and_from (fits legs t a) (nat_le (extras_of legs t a) k) f (le-leb (extras_of legs t a) k small))))
      where
        equal : (w m s : ℕ) → m ≡ w → m ≤ s → w ≤ s
        equal w m s e l = omega arith

-- ---- past the extent

abbrev IsTall : Legs → Shape → ℕ → Type 0
IsTall legs s d = slice_index legs.along_x d < at s d

first-of : (a b c n : ℕ) → max a (max b c) ≤ n → b ≤ n
first-of a b c n l = omega arith

base-far : (legs : Legs) (d m y : ℕ) → extent legs ≤ m → base legs (d + m) y ≡ slice_index legs.along_x y
base-far legs d m y l = alone (slice_index legs.along_x y) (slice_index legs.along_y (d + m)) (row-past legs.along_y (d + m) (far (length legs.along_y) (slice_index legs.along_y 0) (rows_reach legs.along_x) (rows_reach legs.along_z) l))
  where
    alone : (a b : ℕ) → b ≡ 0 → max a b ≡ a
    alone a b e = omega arith

    far : (p q a c : ℕ) → max a (max (max p q) c) ≤ m → p ≤ d + m
    far p q a c l = omega arith

end-far : (legs : Legs) (d m y : ℕ) → AreDiagrams legs → extent legs ≤ m → has legs.along_z (d + m) y ≡ false
end-far legs d m y are l = false_from_ne_true (has legs.along_z (d + m) y) (λ h. inside (rows_reach legs.along_x) (rows_reach legs.along_y) (rows_reach legs.along_z) l (has-below legs.along_z are.along_z (d + m) y h).0)
  where
    inside : (a b c : ℕ) → max a (max b c) ≤ m → d + m < c → ⊥
    inside a b c l h = omega arith

tall-inside : (legs : Legs) (s : Shape) (d : ℕ) → IsTall legs s d → d < reach s
tall-inside legs s d tall = elim (cases_lt d (reach s)) [
  | inl l ↦ l
  | inr m ↦ absurd (let none = at-past s d m in omega arith)
]

tall-extra : (legs : Legs) (m : ℕ) (s : Shape) (d : ℕ) → AreDiagrams legs → extent legs ≤ m → IsTall legs s d → 0 < extras_of legs (pos m) s
tall-extra legs m s d are l tall =
    some (over legs (pos m) (at s d) d) (extras_of legs (pos m) s) (at s d) (base legs (d + m) (d + 0)) (slice_index legs.along_x d)
    (cond-false (has legs.along_z (d + m) (d + 0)) 0 (at s d - base legs (d + m) (d + 0)) (end-far legs d m (d + 0) are l))
    (base-far legs d m (d + 0) l ∙ ap (slice_index legs.along_x) (add-zero d)) tall
    (sum_of-term (λ e. over legs (pos m) (at s e) e) 0 (reach s) d (omega arith) (within d (reach s) (tall-inside legs s d tall)))
  where
    within : (d r : ℕ) → d < r → d < 0 + r
    within d r l = omega arith

    some : (o e h b a : ℕ) → o ≡ h - b → b ≡ a → a < h → o ≤ e → 0 < e
    some o e h b a p q l m = omega arith

low-here : (f m : ℕ) → neg_ℤ (pos f) ≤ℤ pos m
low-here f m = omega (arith, ints)

-- one of the slices below has ways, and interlaces
below-some : (legs : Legs) (k : ℕ) (t : ℤ) (s : Shape) (c : ℕ) → AreDiagrams legs → neg_ℤ (pos (k + extent legs)) ≤ℤ t → 0 < ways_at legs k (t +ℤ pos 1) s c →
    Some (λ a. fits legs t a ≡ true) (λ a. cond (interlaces t a s) (ways_at legs k t a (c - extras_of legs (t +ℤ pos 1) s)) 0)
below-some legs k t s c are low h =
    sum_of-some (λ a. fits legs t a ≡ true) (λ a. cond (interlaces t a s) (ways_at legs k t a (c - extras_of legs (t +ℤ pos 1) s)) 0) (fitting legs t k) (fitting-fits legs t k are)
    (more (sum_of (λ a. ways_at legs k t a (c - extras_of legs (t +ℤ pos 1) s)) (filter (λ a. interlaces t a s) (fitting legs t k))) (sum_of (λ a. cond (interlaces t a s) (ways_at legs k t a (c - extras_of legs (t +ℤ pos 1) s)) 0) (fitting legs t k))
    (sum_of-filter (λ a. ways_at legs k t a (c - extras_of legs (t +ℤ pos 1) s)) (λ a. interlaces t a s) (fitting legs t k))
    (positive-test (nat_le (extras_of legs (t +ℤ pos 1) s) c) _ (more (ways_at legs k (t +ℤ pos 1) s c) _ (sym (ways-next legs k t s c low)) h)).1)
  where
    more : (a b : ℕ) → a ≡ b → 0 < a → 0 < b
    more a b e l = omega arith

tall-below : (legs : Legs) (m : ℕ) (a s : Shape) (d : ℕ) → AreDiagrams legs → extent legs ≤ m → fits legs (pos m) a ≡ true → interlaces (pos m) a s ≡ true → IsTall legs s d → IsTall legs a d
tall-below legs m a s d are l f h tall =
    by_cover (or_cases (nat_lt d a.full) (nat_le s.full d && nat_le (at s d) (at a d)) (and_parts (covers a d s d) (covers s d a (suc d)) (below-at (max (reach a) (reach s)) (interlaces_at (pos m) a s) h d (within (reach a) (reach s) (tall-inside legs s d tall)))).0)
  where
    within : (p q : ℕ) → d < q → d < max p q
    within p q l = omega arith

    higher : (a b c : ℕ) → b ≤ c → a < b → a < c
    higher a b c l m = omega arith

    by_cover : (nat_lt d a.full ≡ true) ⊎ ((nat_le s.full d && nat_le (at s d) (at a d)) ≡ true) → IsTall legs a d
    by_cover (inl endless) = absurd (let e = endless-first legs (pos m) d are ∙ (ap (nat_lt d) (sym (fits-full legs (pos m) a are f)) ∙ endless) in let g = end-far legs d m (d + 0) are l in let x : ⊥ = cc in x)
    by_cover (inr high) = higher (slice_index legs.along_x d) (at s d) (at a d) (leb-true (at s d) (at a d) (and_parts (nat_le s.full d) (nat_le (at s d) (at a d)) high).1) tall

pub tall-costs : (legs : Legs) (k n : ℕ) (s : Shape) (c d : ℕ) → AreDiagrams legs → 0 < ways_at legs k (pos (extent legs + n)) s c → IsTall legs s d → n < c
tall-costs legs k zero s c d are h tall =
    let e = ways-cost legs k (pos (extent legs + 0)) s c (low-here (k + extent legs) (extent legs + 0)) h in
    let x = tall-extra legs (extent legs + 0) s d are (omega arith) tall in
    omega arith
tall-costs legs k (suc n) s c d are h tall = further (below-some legs k t s c are (low-here (k + extent legs) (extent legs + n)) here)
    (λ a g w. tall-costs legs k n a (c - extras_of legs (t +ℤ pos 1) s) d are w g)
  where
    t : ℤ
    t = pos (extent legs + n)

    up : (m : ℕ) → pos (m + suc n) ≡ pos (m + n) +ℤ pos 1
    up m = omega (arith, ints)

    here : 0 < ways_at legs k (pos (extent legs + n) +ℤ pos 1) s c
    here = rw (← up (extent legs)) h

    has_extra : 0 < extras_of legs (pos (extent legs + n) +ℤ pos 1) s
    has_extra = subst (λ u. 0 < extras_of legs u s) (up (extent legs)) (tall-extra legs (extent legs + suc n) s d are (omega arith) tall)

    cost : extras_of legs (pos (extent legs + n) +ℤ pos 1) s ≤ c
    cost = ways-cost legs k (pos (extent legs + n) +ℤ pos 1) s c (up_low (extent legs + n)) here
      where
        up_low : (m : ℕ) → neg_ℤ (pos (k + extent legs)) ≤ℤ (pos m +ℤ pos 1)
        up_low m = omega (arith, ints)

    further : Some (λ a. fits legs t a ≡ true) (λ a. cond (interlaces t a s) (ways_at legs k t a (c - extras_of legs (t +ℤ pos 1) s)) 0) →
        ((a : Shape) → IsTall legs a d → 0 < ways_at legs k t a (c - extras_of legs (t +ℤ pos 1) s) → n < c - extras_of legs (t +ℤ pos 1) s) → suc n < c
    further found rest =
        let a = found.one in
        let both = positive-test (interlaces t a s) (ways_at legs k t a (c - extras_of legs (t +ℤ pos 1) s)) found.more in
        sum_up (extras_of legs (t +ℤ pos 1) s) has_extra cost (rest a (tall-below legs (extent legs + n) a s d are (omega arith) found.is both.0 tall) both.1)
      where
        sum_up : (x : ℕ) → 0 < x → x ≤ c → n < c - x → suc n < c
        sum_up x p l m = omega arith

-- ---- the last diagonal

pub low-far : (legs : Legs) (k : ℕ) (s : Shape) (c : ℕ) → AreDiagrams legs → c ≤ k → 0 < ways_at legs k (pos (k + extent legs)) s c → (d : ℕ) → at s d ≤ slice_index legs.along_x d
low-far legs k s c are l h d = elim (cases_lt (slice_index legs.along_x d) (at s d)) [
  | inl tall ↦ absurd (none (tall-costs legs k k s c d are (rw (turn (extent legs)) h) tall))
  | inr low ↦ low
]
  where
    turn : (e : ℕ) → e + k ≡ k + e
    turn e = omega arith

    none : k < c → ⊥
    none m = omega arith

no-extras : (legs : Legs) (m : ℕ) (s : Shape) → extent legs ≤ m → ((d : ℕ) → at s d ≤ slice_index legs.along_x d) → extras_of legs (pos m) s ≡ 0
no-extras legs m s l low = sum_of-zeros (λ d. over legs (pos m) (at s d) d) 0 (reach s) (λ d p q. none (has legs.along_z (d + m) (d + 0)) (at s d) (base legs (d + m) (d + 0)) (slice_index legs.along_x d) (base-far legs d m (d + 0) l ∙ ap (slice_index legs.along_x) (add-zero d)) (low d))
  where
    none : (q : Bool) (h b a : ℕ) → b ≡ a → h ≤ a → cond q 0 (h - b) ≡ 0
    none true h b a e l = refl
    none false h b a e l = omega arith

no-completion : (legs : Legs) (m : ℕ) (s : Shape) → AreDiagrams legs → extent legs ≤ m → ((d : ℕ) → at s d ≤ slice_index legs.along_x d) → completion legs (pos m) s ≡ 0
no-completion legs m s are l low = sum_of-zeros (above legs (pos m) s) 0 (reach s) (λ d p q. sum_of-zeros (λ y. cond (has legs.along_z (d + m) y) 0 (at s d - base legs (d + m) y)) 0 (d + 0)
    (λ y r v. none (has legs.along_z (d + m) y) (at s d) (base legs (d + m) y) (slice_index legs.along_x y) (slice_index legs.along_x d) (base-far legs d m y l) (low d) (row-earlier legs.along_x are.along_x y d (before y d v))))
  where
    before : (y d : ℕ) → y < 0 + (d + 0) → y ≤ d
    before y d l = omega arith

    none : (q : Bool) (h b a c : ℕ) → b ≡ a → h ≤ c → c ≤ a → cond q 0 (h - b) ≡ 0
    none true h b a c e l m = refl
    none false h b a c e l m = omega arith

at-far : (legs : Legs) (k : ℕ) (s : Shape) (i : ℕ) → ways_at legs k (pos (k + extent legs)) s i ≡ ways legs k (neg_ℤ (pos (k + extent legs))) (2 * (k + extent legs)) s i
at-far legs k s i =
    ap (λ z. ways legs k z (unsigned_abs (pos (k + extent legs) -ℤ z)) s i) (start-low legs k (pos (k + extent legs)) (low-here (k + extent legs) (k + extent legs)))
    ∙ ap (λ n. ways legs k (neg_ℤ (pos (k + extent legs))) n s i) (twice (k + extent legs))
  where
    twice : (f : ℕ) → unsigned_abs (pos f -ℤ neg_ℤ (pos f)) ≡ 2 * f
    twice f = omega (arith, ints)

top : (legs : Legs) (k : ℕ) (s : Shape) (c : ℕ) → AreDiagrams legs → fits legs (pos (k + extent legs)) s ≡ true → c ≤ k →
    ways_at legs k (pos (k + extent legs)) s c ≤ paths legs k (c + completion legs (pos (k + extent legs)) s)
unfolding paths
top legs k s c are f l = elim (cases_lt 0 (ways_at legs k (pos (k + extent legs)) s c)) [
  | inl more ↦
      let low = low-far legs k s c are l more in
      let x = no-extras legs (k + extent legs) s (omega arith) low in
      let r = no-completion legs (k + extent legs) s are (omega arith) low in
      let i = c + completion legs (pos (k + extent legs)) s in
      equal (ways_at legs k (pos (k + extent legs)) s c) (ways legs k (neg_ℤ (pos (k + extent legs))) (2 * (k + extent legs)) s i) _
      (sym (at-far legs k s i) ∙ ap (ways_at legs k (pos (k + extent legs)) s) (no_more c (completion legs (pos (k + extent legs)) s) r))
      (one-of s (λ d. ways legs k (neg_ℤ (pos (k + extent legs))) (2 * (k + extent legs)) d i) (fitting legs (pos (k + extent legs)) 0)
      (once-all legs (pos (k + extent legs)) 0 s are ∙ ap bit (and_from (fits legs (pos (k + extent legs)) s) (nat_le (extras_of legs (pos (k + extent legs)) s) 0) f (le-leb (extras_of legs (pos (k + extent legs)) s) 0 (omega arith)))))
  | inr none ↦ zero_less (ways_at legs k (pos (k + extent legs)) s c) _ none
]
  where
    zero_less : (a b : ℕ) → a ≤ 0 → a ≤ b
    zero_less a b l = omega arith

    equal : (w m s : ℕ) → m ≡ w → m ≤ s → w ≤ s
    equal w m s e l = omega arith

    no_more : (c r : ℕ) → r ≡ 0 → c + r ≡ c
    no_more c r e = omega arith

climb : (legs : Legs) (k j : ℕ) (t : ℤ) (s : Shape) (c : ℕ) → AreDiagrams legs → neg_ℤ (pos (k + extent legs)) ≤ℤ t → t +ℤ pos j ≡ pos (k + extent legs) → fits legs t s ≡ true → c + completion legs t s ≤ k →
    ways_at legs k t s c ≤ paths legs k (c + completion legs t s)
climb legs k zero t s c are low e f l = at_top t (let here : t +ℤ pos 0 ≡ t = omega (arith, ints) in sym here ∙ e) f l
  where
    at_top : (t : ℤ) → t ≡ pos (k + extent legs) → fits legs t s ≡ true → c + completion legs t s ≤ k → ways_at legs k t s c ≤ paths legs k (c + completion legs t s)
    at_top t e f l = rw e (top legs k s c are (rw e at f) (omega arith))
climb legs k (suc j) t s c are low e f l = elim (cases_lt 0 (ways_at legs k t s c)) [
  | inl more ↦
      let b = least-completes legs t s are f in
      let cost = ways-cost legs k t s c low more in
      let same : (c + extras_of legs (t +ℤ pos 1) b.next) + completion legs (t +ℤ pos 1) b.next ≡ c + completion legs t s = sums _ _ _ b.completes in
      through _ _ _
      (ways-grow legs k t s b.next c are low f (small (extras_of legs t s) (completion legs t s) cost l) b.beside)
      (equal_to _ _ _ (ap (paths legs k) same) (climb legs k j (t +ℤ pos 1) b.next (c + extras_of legs (t +ℤ pos 1) b.next) are (up_one (neg_ℤ (pos (k + extent legs))) t low) (up_steps t (pos (k + extent legs)) e) b.suits (fewer _ _ same l)))
  | inr none ↦ zero_less (ways_at legs k t s c) _ none
]
  where
    zero_less : (a b : ℕ) → a ≤ 0 → a ≤ b
    zero_less a b l = omega arith

    through : (a b c : ℕ) → a ≤ b → b ≤ c → a ≤ c
    through a b c l m = omega arith

    equal_to : (a b d : ℕ) → b ≡ d → a ≤ b → a ≤ d
    equal_to a b d e l = omega arith

    sums : (x r p : ℕ) → x + r ≡ p → (c + x) + r ≡ c + p
    sums x r p e = omega arith

    small : (x p : ℕ) → x ≤ c → c + p ≤ k → x ≤ k
    small x p l m = omega arith

    fewer : (a b : ℕ) → a ≡ b → b ≤ k → a ≤ k
    fewer a b e l = omega arith

    up_one : (z t : ℤ) → z ≤ℤ t → z ≤ℤ (t +ℤ pos 1)
    up_one z t l = omega (arith, ints)

    up_steps : (t z : ℤ) → t +ℤ pos (suc j) ≡ z → (t +ℤ pos 1) +ℤ pos j ≡ z
    up_steps t z e = omega (arith, ints)

pub entries-are-bounded : EntriesAreBounded
entries-are-bounded legs k t s c are low high h =
    let parts = and_parts (fits legs t s) (nat_le (c + completion legs t s) k && nat_lt 0 (ways_at legs k t s c)) h in
    climb legs k (unsigned_abs (pos (k + extent legs) -ℤ t)) t s c are low (steps t (pos (k + extent legs)) high) parts.0
    (leb-true (c + completion legs t s) k (and_parts (nat_le (c + completion legs t s) k) (nat_lt 0 (ways_at legs k t s c)) parts.1).0)
  where
    steps : (t z : ℤ) → t ≤ℤ z → t +ℤ pos (unsigned_abs (z -ℤ t)) ≡ z
    steps t z l = omega (arith, ints)
