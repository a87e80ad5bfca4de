-- Beyond the diagonals on which a box can stand there is the slice of the legs alone, in the ways that lead to the last of them.
--
-- low-bare, low-base  the slice of the legs alone is no higher than the legs, below and above
-- only r s w k        the counts of one slice with the ways w, through the cost k
use Rattle.std.proofs.Common.{◌≡◌, ℕ, zero, suc, ◌+◌, ◌-◌, ◌<◌, ◌≤◌, max, ℤ, pos, negsuc, neg_ℤ, ◌+ℤ◌, ◌-ℤ◌, ◌≤ℤ◌, unsigned_abs, Bool, true, false, cond, ◌&&◌, nat_eq, nat_lt, nat_le, List, [], ◌∷◌, ◌++◌, map, length, refl, sym, ◌∙◌, ap, subst, arith, inl, inr, append-nil}
use Rattle.std.specs.Prelude.{◌⊎◌, filter, slice_index, int_lt}
use Rattle.std.specs.Int.{int_min}
use Rattle.std.specs.List.{flat_map, range_with_len}
use Rattle.std.proofs.lemmas.Int.{ints}
use Rattle.std.proofs.lemmas.Bool.{cases_Bool, cases_lt, le-leb, and_from, eqb-true, eq-eqb, ne_eqb, false_from_ne_true}
use Rattle.tv_lemmas.specs.Sums.{sum_of}
use Rattle.tv_lemmas.proofs.Lists.{flat_map-flat_map, flat_map-same_on, flat_map-none}
use Rattle.tv_ring.specs.Operations.{Operations}
use Rattle.tv_ring.specs.Sums.{times}
use Rattle.tv_partition.specs.Rows.{has, reach as rows_reach}
use Rattle.tv_partition.proofs.Shapes.{has-below, row-past}
use Rattle.tv_cells.specs.declared.legs.Legs.{Legs}
use Rattle.tv_cells.specs.Cells.{below, x_from, y_from}
use Rattle.tv_cells.specs.Extras.{bit, extent, AreDiagrams}
use Rattle.tv_spec_slices.specs.Slices.{Shape, at, reach, base, base_at, is_endless, interlaces, over, fits, extras_of, above, completion, same_shape}
use Rattle.tv_spec_slices.specs.Paths.{full_of, shape, fitting, fitting_by, ways, ways_at, is_entry}
use Rattle.tv_laws_slices.proofs.Sums.{sum_of-filter, sum_of-zeros}
use Rattle.tv_laws_slices.proofs.Once.{once-all}
use Rattle.tv_laws_slices.proofs.Least.{row-earlier, least-completes}
use Rattle.tv_laws_slices.proofs.Climb.{tall-costs}
use Rattle.tv_laws_slices.proofs.Pushed.{same-shape, own-shape, single, sum_of-all, fitting-fits, ways-next}
use Rattle.tv_slices.specs.Bare.{bare, bare_from}
use Rattle.tv_slices.proofs.Only.{bare-only, bare-suits, others-have}
use Rattle.tv_paths.specs.declared.counts.PathCount.{PathCount}
use Rattle.tv_paths.specs.Built.{nearest}
use Rattle.tv_paths.specs.Counts.{path_count, path_counts}
use Rattle.tv_paths.proofs.Ordered.{by-extras}
use Rattle.tv_paths.proofs.Entries.{counts_of, mapped, map-flat_map, costs-same}

-- ---- slices that are no higher than the legs

extras-none : (legs : Legs) (t : ℤ) (s : Shape) → ((d : ℕ) → at s d ≤ base_at legs t d) → extras_of legs t s ≡ 0
extras-none legs t s low = sum_of-zeros (λ d. over legs t (at s d) d) 0 (reach s) (λ d p q. none (is_endless legs t d) (at s d) (base_at legs t d) (low d))
  where
    none : (q : Bool) (h b : ℕ) → h ≤ b → cond q 0 (h - b) ≡ 0
    none true h b l = refl
    none false h b l = omega arith

completion-none : (legs : Legs) (t : ℤ) (s : Shape) → ((d y : ℕ) → y < d + y_from t → at s d ≤ base legs (d + x_from t) y) → completion legs t s ≡ 0
completion-none legs t s low = sum_of-zeros (above legs t s) 0 (reach s) (λ d p q. sum_of-zeros (λ y. cond (has legs.along_z (d + x_from t) y) 0 (at s d - base legs (d + x_from t) y)) 0 (d + y_from t) (λ y u v. none (has legs.along_z (d + x_from t) y) (at s d) (base legs (d + x_from t) y) (low d y (omega (arith, v)))))
  where
    none : (q : Bool) (h b : ℕ) → h ≤ b → cond q 0 (h - b) ≡ 0
    none true h b l = refl
    none false h b l = omega arith

bare-low : (legs : Legs) (t : ℤ) (d n i : ℕ) → slice_index (bare_from legs t d n) i ≤ base_at legs t (d + i)
unfolding bare_from
bare-low legs t d zero i = omega arith
bare-low legs t d (suc n) i = by (nat_eq (base_at legs t d) 0) i (bare-low legs t (suc d) n)
  where
    by : (q : Bool) (i : ℕ) → ((j : ℕ) → slice_index (bare_from legs t (suc d) n) j ≤ base_at legs t (suc d + j)) → slice_index (cond q [] (base_at legs t d ∷ bare_from legs t (suc d) n)) i ≤ base_at legs t (d + i)
    by true i rest = omega arith
    by false zero rest = let z : d + 0 ≡ d = omega arith in rw z (own (base_at legs t d))
      where
        own : (v : ℕ) → v ≤ v
        own v = omega arith
    by false (suc j) rest = let s : d + suc j ≡ suc d + j = omega arith in rw s (rest j)

full-none : (legs : Legs) (t : ℤ) (n : ℕ) → ((d : ℕ) → is_endless legs t d ≡ false) → full_of legs t n ≡ 0
full-none legs t zero none = refl
full-none legs t (suc n) none = ap (λ q. cond q (suc n) (full_of legs t n)) (none n) ∙ full-none legs t n none

bare-at : (legs : Legs) (t : ℤ) → ((d : ℕ) → is_endless legs t d ≡ false) → (d : ℕ) → at (bare legs t) d ≤ base_at legs t d
unfolding bare
bare-at legs t none d =
    let first : d - 0 ≡ d = omega arith in
    let place : 0 + d ≡ d = omega arith in
    let low = subst (λ i. slice_index (bare_from legs t 0 (extent legs)) d ≤ base_at legs t i) place (bare-low legs t 0 (extent legs) d) in
    subst (λ f. slice_index (bare_from legs t f (extent legs)) (d - f) ≤ base_at legs t d) (sym (full-none legs t (extent legs) none)) (subst (λ i. slice_index (bare_from legs t 0 (extent legs)) i ≤ base_at legs t d) (sym first) low)

from-same : (legs : Legs) (t u : ℤ) (d n : ℕ) → ((d : ℕ) → base_at legs t d ≡ base_at legs u d) → bare_from legs t d n ≡ bare_from legs u d n
unfolding bare_from
from-same legs t u d zero same = refl
from-same legs t u d (suc n) same = ap (λ v. cond (nat_eq v 0) [] (v ∷ bare_from legs t (suc d) n)) (same d) ∙ ap (λ hs. cond (nat_eq (base_at legs u d) 0) [] (base_at legs u d ∷ hs)) (from-same legs t u (suc d) n same)

bare-same : (legs : Legs) (t u : ℤ) → ((d : ℕ) → is_endless legs t d ≡ false) → ((d : ℕ) → is_endless legs u d ≡ false) → ((d : ℕ) → base_at legs t d ≡ base_at legs u d) → bare legs t ≡ bare legs u
unfolding bare
bare-same legs t u none nothing same =
    ap (λ f. shape f (bare_from legs t f (extent legs))) (full-none legs t (extent legs) none) ∙ (ap (shape 0) (from-same legs t u 0 (extent legs) same) ∙ sym (ap (λ f. shape f (bare_from legs u f (extent legs))) (full-none legs u (extent legs) nothing)))

-- ---- the entries where only that slice has ways

only : {A : Type 0} → Operations A → Shape → (ℕ → ℕ) → ℕ → List (PathCount A)
only r s w k = flat_map (λ c. cond (nat_lt 0 (w c)) (record { slice = s; cost = c; count = times r (w c) } ∷ []) []) (below (suc k))

costs-none : {A : Type 0} (F : ℕ → List A) (a n : ℕ) → ((c : ℕ) → a ≤ c → F c ≡ []) → flat_map F (range_with_len a n) ≡ []
costs-none F a zero none = refl
costs-none F a (suc n) none = ap (λ xs. xs ++ flat_map F (range_with_len (a + 1) n)) (none a (omega arith)) ∙ costs-none F (a + 1) n (λ c l. none c (omega arith))

only-same : {A : Type 0} (r : Operations A) (s : Shape) (v w : ℕ → ℕ) (k : ℕ) → ((c : ℕ) → c ≤ k → v c ≡ w c) → only r s v k ≡ only r s w k
unfolding only
only-same {A} r s v w k same = costs-same (one v) (one w) 0 (suc k) (λ c l. ap (λ n. part c n) (same c (omega (arith, l))))
  where
    part : ℕ → ℕ → List (PathCount A)
    part c n = cond (nat_lt 0 n) (record { slice = s; cost = c; count = times r n } ∷ []) []

    one : (ℕ → ℕ) → ℕ → List (PathCount A)
    one w c = part c (w c)

module _ {A : Type 0} (r : Operations A) (legs : Legs) (k : ℕ) (t : ℤ) (are : AreDiagrams legs) where
  counts-none : (s : Shape) → ((c : ℕ) → c ≤ k → ways_at legs k t s c ≡ 0) → counts_of r legs k t s ≡ []
  unfolding counts_of
  counts-none s none = mapped (path_count r legs k t) (is_entry legs k t s) (λ c. (s, c)) (below (suc k)) ∙ (costs-same (λ c. cond (is_entry legs k t s c) (path_count r legs k t (s, c) ∷ []) []) (λ c. []) 0 (suc k) each ∙ flat_map-none (below (suc k)))
    where
      by : (p q : Bool) (w : ℕ) (x : PathCount A) → w ≡ 0 → cond (p && (q && nat_lt 0 w)) (x ∷ []) [] ≡ []
      by true true w x e = rw e refl
      by true false w x e = refl
      by false q w x e = refl

      each : (c : ℕ) → c < 0 + suc k → cond (is_entry legs k t s c) (path_count r legs k t (s, c) ∷ []) [] ≡ []
      each c l = by (fits legs t s) (nat_le (c + completion legs t s) k) (ways_at legs k t s c) (path_count r legs k t (s, c)) (none c (omega (arith, l)))

  counts-bare : completion legs t (bare legs t) ≡ 0 → counts_of r legs k t (bare legs t) ≡ only r (bare legs t) (ways_at legs k t (bare legs t)) k
  unfolding counts_of only
  counts-bare low = mapped (path_count r legs k t) (is_entry legs k t (bare legs t)) (λ c. (bare legs t, c)) (below (suc k)) ∙ costs-same _ _ 0 (suc k) each
    where
      fit : fits legs t (bare legs t) ≡ true
      fit = (bare-suits legs t are).0

      within : (c p : ℕ) → c < 0 + suc k → p ≡ 0 → nat_le (c + p) k ≡ true
      within c p l e = le-leb (c + p) k (omega arith)

      by : (p q : Bool) (w : ℕ) (x : PathCount A) → p ≡ true → q ≡ true → cond (p && (q && nat_lt 0 w)) (x ∷ []) [] ≡ cond (nat_lt 0 w) (x ∷ []) []
      by p q w x ep eq = rw (ep, eq) refl

      each : (c : ℕ) → c < 0 + suc k → cond (is_entry legs k t (bare legs t) c) (path_count r legs k t (bare legs t, c) ∷ []) [] ≡ cond (nat_lt 0 (ways_at legs k t (bare legs t) c)) (path_count r legs k t (bare legs t, c) ∷ []) []
      each c l = by (fits legs t (bare legs t)) (nat_le (c + completion legs t (bare legs t)) k) (ways_at legs k t (bare legs t) c) (path_count r legs k t (bare legs t, c)) fit (within c (completion legs t (bare legs t)) l low)

  with-some : ((s : Shape) (c : ℕ) → (extras_of legs t s ≡ 0 → ⊥) → c ≤ k → ways_at legs k t s c ≡ 0) → (m : ℕ) → 1 ≤ m → flat_map (counts_of r legs k t) (fitting_by legs t m) ≡ []
  with-some none m l =
      flat_map-same_on (λ s. nat_eq (extras_of legs t s) m ≡ true) (counts_of r legs k t) (λ s. []) (λ s e. counts-none s (λ c h. none s c (some (extras_of legs t s) (eqb-true (extras_of legs t s) m e)) h)) (fitting_by legs t m) (by-extras legs t m are)
      ∙ flat_map-none (fitting_by legs t m)
    where
      some : (x : ℕ) → x ≡ m → x ≡ 0 → ⊥
      some x e z = omega arith

  only-bare : ((s : Shape) (c : ℕ) → (extras_of legs t s ≡ 0 → ⊥) → c ≤ k → ways_at legs k t s c ≡ 0) → completion legs t (bare legs t) ≡ 0 → path_counts r legs k t ≡ only r (bare legs t) (ways_at legs k t (bare legs t)) k
  unfolding path_counts counts_of only
  only-bare none low =
      map-flat_map (path_count r legs k t) (λ s. map (λ c. (s, c)) (filter (is_entry legs k t s) (below (suc k)))) (fitting legs t k)
      ∙ (flat_map-flat_map (counts_of r legs k t) (fitting_by legs t) (below (suc k))
      ∙ (ap (λ ss. flat_map (counts_of r legs k t) (fitting_by legs t 0) ++ ss) (costs-none (λ m. flat_map (counts_of r legs k t) (fitting_by legs t m)) 1 k (with-some none))
      ∙ (append-nil (flat_map (counts_of r legs k t) (fitting_by legs t 0))
      ∙ (ap (flat_map (counts_of r legs k t)) (sym (append-nil (fitting_by legs t 0)) ∙ bare-only legs t are) ∙ (append-nil (counts_of r legs k t (bare legs t)) ∙ counts-bare low)))))

-- ---- below

low-places : (f : ℕ) (t : ℤ) → t ≤ℤ neg_ℤ (pos f) → (x_from t ≡ 0) × (f ≤ y_from t)
low-places f (pos n) l = (omega (arith, ints), omega (arith, ints))
low-places f (negsuc n) l = (refl, omega (arith, ints))

low-base : (legs : Legs) (x y d : ℕ) → x ≡ 0 → extent legs ≤ y → base legs (d + x) (d + y) ≡ slice_index legs.along_y d
low-base legs x y d e l =
    let z : d + x ≡ d = omega arith in
    ap (λ i. max (slice_index legs.along_x (d + y)) (slice_index legs.along_y i)) z ∙ alone (slice_index legs.along_x (d + y)) (slice_index legs.along_y d) (row-past legs.along_x (d + y) (far (length legs.along_x) (slice_index legs.along_x 0) (rows_reach legs.along_y) (rows_reach legs.along_z) l))
  where
    alone : (a b : ℕ) → a ≡ 0 → max a b ≡ b
    alone a b e = omega arith

    far : (p q b c : ℕ) → max (max p q) (max b c) ≤ y → p ≤ d + y
    far p q b c l = omega arith

low-endless : (legs : Legs) (x y d : ℕ) → AreDiagrams legs → extent legs ≤ y → has legs.along_z (d + x) (d + y) ≡ false
low-endless legs x y d are l = false_from_ne_true (has legs.along_z (d + x) (d + y)) (λ h. inside (rows_reach legs.along_x) (rows_reach legs.along_y) (rows_reach legs.along_z) l (has-below legs.along_z are.along_z (d + x) (d + y) h).1)
  where
    inside : (a b c : ℕ) → max a (max b c) ≤ y → d + y < c → ⊥
    inside a b c l h = omega arith

low-ways : (legs : Legs) (k : ℕ) (t : ℤ) (s : Shape) (c : ℕ) → t ≤ℤ neg_ℤ (pos (k + extent legs)) → ways_at legs k t s c ≡ cond (nat_eq c 0 && nat_eq (extras_of legs t s) 0) 1 0
unfolding ways
low-ways legs k t s c l = ap (λ z. ways legs k z (unsigned_abs (t -ℤ z)) s c) (lesser (neg_ℤ (pos (k + extent legs))) l) ∙ ap (λ n. ways legs k t n s c) none
  where
    lesser : (z : ℤ) → t ≤ℤ z → int_min t z ≡ t
    lesser z l = grind (arith, ints)

    none : unsigned_abs (t -ℤ t) ≡ 0
    none = omega (arith, ints)

low-only : {A : Type 0} (r : Operations A) (legs : Legs) (k : ℕ) (t : ℤ) → AreDiagrams legs → t ≤ℤ neg_ℤ (pos (k + extent legs)) → path_counts r legs k t ≡ only r (bare legs t) (λ c. cond (nat_eq c 0 && true) 1 0) k
low-only r legs k t are l = only-bare r legs k t are none complete ∙ only-same r (bare legs t) (ways_at legs k t (bare legs t)) (λ c. cond (nat_eq c 0 && true) 1 0) k (λ c h. low-ways legs k t (bare legs t) c l ∙ ap (λ x. cond (nat_eq c 0 && nat_eq x 0) 1 0) (bare-suits legs t are).1)
  where
    places : (x_from t ≡ 0) × (k + extent legs ≤ y_from t)
    places = low-places (k + extent legs) t l

    wide : (e y : ℕ) → k + e ≤ y → e ≤ y
    wide e y l = omega arith

    none : (s : Shape) (c : ℕ) → (extras_of legs t s ≡ 0 → ⊥) → c ≤ k → ways_at legs k t s c ≡ 0
    none s c ne h = low-ways legs k t s c l ∙ (ap (λ q. cond (nat_eq c 0 && q) 1 0) (ne_eqb (extras_of legs t s) 0 ne) ∙ off (nat_eq c 0))
      where
        off : (q : Bool) → ◌≡◌ {A = ℕ} (cond (q && false) 1 0) 0
        off true = refl
        off false = refl

    high : (d y : ℕ) → slice_index legs.along_y (d + x_from t) ≤ base legs (d + x_from t) y
    high d y = second (slice_index legs.along_x y) (slice_index legs.along_y (d + x_from t))
      where
        second : (a b : ℕ) → b ≤ max a b
        second a b = omega arith

    complete : completion legs t (bare legs t) ≡ 0
    complete = completion-none legs t (bare legs t) (λ d y h. through (at (bare legs t) d) (base_at legs t d) (slice_index legs.along_y d) (slice_index legs.along_y (d + x_from t)) (base legs (d + x_from t) y)
        (bare-at legs t (λ i. low-endless legs (x_from t) (y_from t) i are (wide (extent legs) (y_from t) places.1)) d) (low-base legs (x_from t) (y_from t) d places.0 (wide (extent legs) (y_from t) places.1)) (ap (slice_index legs.along_y) (none_more d (x_from t) places.0)) (high d y))
      where
        none_more : (d x : ℕ) → x ≡ 0 → d + x ≡ d
        none_more d x e = omega arith

        through : (a b c d e : ℕ) → a ≤ b → b ≡ c → d ≡ c → d ≤ e → a ≤ e
        through a b c d e l p q m = omega arith

below-first : {A : Type 0} (r : Operations A) (legs : Legs) (k : ℕ) (t : ℤ) → AreDiagrams legs → t ≤ℤ neg_ℤ (pos (k + extent legs)) → path_counts r legs k t ≡ path_counts r legs k (neg_ℤ (pos (k + extent legs)))
below-first r legs k t are l =
    let u = neg_ℤ (pos (k + extent legs)) in
    let first : u ≤ℤ u = own (k + extent legs) in
    let lt = low-places (k + extent legs) t l in let lu = low-places (k + extent legs) u first in
    low-only r legs k t are l
    ∙ (ap (λ s. only r s (λ c. cond (nat_eq c 0 && true) 1 0) k)
    (bare-same legs t u (λ d. low-endless legs (x_from t) (y_from t) d are (wide (extent legs) (y_from t) lt.1)) (λ d. low-endless legs (x_from u) (y_from u) d are (wide (extent legs) (y_from u) lu.1))
    (λ d. low-base legs (x_from t) (y_from t) d lt.0 (wide (extent legs) (y_from t) lt.1) ∙ sym (low-base legs (x_from u) (y_from u) d lu.0 (wide (extent legs) (y_from u) lu.1))))
    ∙ sym (low-only r legs k u are first))
  where
    own : (f : ℕ) → neg_ℤ (pos f) ≤ℤ neg_ℤ (pos f)
    own f = omega (arith, ints)

    wide : (e y : ℕ) → k + e ≤ y → e ≤ y
    wide e y l = omega arith

-- ---- above

high-base : (legs : Legs) (m d y : ℕ) → extent legs ≤ m → base legs (d + m) y ≡ slice_index legs.along_x y
high-base legs m d y l = alone (slice_index legs.along_x y) (slice_index legs.along_y (d + m)) (row-past legs.along_y (d + m) (far (length legs.along_y) (slice_index legs.along_y 0) (rows_reach legs.along_x) (rows_reach legs.along_z) l))
  where
    alone : (a b : ℕ) → b ≡ 0 → max a b ≡ a
    alone a b e = omega arith

    far : (p q a c : ℕ) → max a (max (max p q) c) ≤ m → p ≤ d + m
    far p q a c l = omega arith

high-endless : (legs : Legs) (m d y : ℕ) → AreDiagrams legs → extent legs ≤ m → has legs.along_z (d + m) y ≡ false
high-endless legs m d y are l = false_from_ne_true (has legs.along_z (d + m) y) (λ h. inside (rows_reach legs.along_x) (rows_reach legs.along_y) (rows_reach legs.along_z) l (has-below legs.along_z are.along_z (d + m) y h).0)
  where
    inside : (a b c : ℕ) → max a (max b c) ≤ m → d + m < c → ⊥
    inside a b c l h = omega arith

module _ (legs : Legs) (k : ℕ) (are : AreDiagrams legs) where
  high-at : (m d : ℕ) → extent legs ≤ m → base_at legs (pos m) d ≡ slice_index legs.along_x d
  high-at m d l = let z : d + 0 ≡ d = omega arith in high-base legs m d (d + 0) l ∙ ap (slice_index legs.along_x) z

  high-bare : (m d : ℕ) → extent legs ≤ m → at (bare legs (pos m)) d ≤ slice_index legs.along_x d
  high-bare m d l = to (at (bare legs (pos m)) d) (base_at legs (pos m) d) (slice_index legs.along_x d) (bare-at legs (pos m) (λ i. high-endless legs m i (i + 0) are l) d) (high-at m d l)
    where
      to : (a b c : ℕ) → a ≤ b → b ≡ c → a ≤ c
      to a b c l e = omega arith

  high-complete : (m : ℕ) → extent legs ≤ m → completion legs (pos m) (bare legs (pos m)) ≡ 0
  high-complete m l = completion-none legs (pos m) (bare legs (pos m)) (λ d y h. through _ _ _ _ (high-bare m d l) (row-earlier legs.along_x are.along_x y d (before y d h)) (high-base legs m d y l))
    where
      before : (y d : ℕ) → y < d + 0 → y ≤ d
      before y d l = omega arith

      through : (a b c e : ℕ) → a ≤ b → b ≤ c → e ≡ c → a ≤ e
      through a b c e l h is = omega arith

  high-none : (n : ℕ) (s : Shape) (c : ℕ) → k ≤ n → (extras_of legs (pos (extent legs + n)) s ≡ 0 → ⊥) → c ≤ k → ways_at legs k (pos (extent legs + n)) s c ≡ 0
  high-none n s c l ne h = elim (cases_lt 0 (ways_at legs k (pos (extent legs + n)) s c)) [
    | inl more ↦ absurd (ne (extras-none legs (pos (extent legs + n)) s (λ d. low d (cases_lt (slice_index legs.along_x d) (at s d)) more)))
    | inr none ↦ nothing (ways_at legs k (pos (extent legs + n)) s c) none
  ]
    where
      nothing : (w : ℕ) → w ≤ 0 → w ≡ 0
      nothing w l = omega arith

      to : (a b c : ℕ) → a ≤ c → b ≡ c → a ≤ b
      to a b c l e = omega arith

      low : (d : ℕ) → (slice_index legs.along_x d < at s d) ⊎ (at s d ≤ slice_index legs.along_x d) → 0 < ways_at legs k (pos (extent legs + n)) s c → at s d ≤ base_at legs (pos (extent legs + n)) d
      low d (inl tall) more = absurd (let cost = tall-costs legs k n s c d are more tall in omega (arith, cost, l, h))
      low d (inr small) more = to (at s d) (base_at legs (pos (extent legs + n)) d) (slice_index legs.along_x d) small (high-at (extent legs + n) d (omega arith))

  high-next : (n c : ℕ) → k ≤ n → c ≤ k → ways_at legs k (pos (extent legs + n) +ℤ pos 1) (bare legs (pos (extent legs + n) +ℤ pos 1)) c ≡ ways_at legs k (pos (extent legs + n)) (bare legs (pos (extent legs + n))) c
  high-next n c l h =
      sym (ways-next legs k t b c (low (extent legs + n)))
      ∙ (ap (λ x. cond (nat_le x c) (sum_of (λ a. ways_at legs k t a (c - x)) (filter (λ a. interlaces t a b) (fitting legs t k))) 0) (bare-suits legs u are).1
      ∙ (first
      ∙ (sum_of-filter (λ a. ways_at legs k t a c) (λ a. interlaces t a b) (fitting legs t k)
      ∙ (sum_of-all (λ a. fits legs t a ≡ true) (λ a. cond (interlaces t a b) (ways_at legs k t a c) 0) (λ a. cond (same_shape (bare legs t) a) (ways_at legs k t a c) 0) each (fitting legs t k) (fitting-fits legs t k are)
      ∙ single (bare legs t) (λ a. ways_at legs k t a c) (fitting legs t k) true (once-all legs t k (bare legs t) are ∙ ap bit (and_from (fits legs t (bare legs t)) (nat_le (extras_of legs t (bare legs t)) k) (bare-suits legs t are).0 (le-leb (extras_of legs t (bare legs t)) k (small (extras_of legs t (bare legs t)) (bare-suits legs t are).1))))))))
    where
      t : ℤ
      t = pos (extent legs + n)

      u : ℤ
      u = pos (extent legs + n) +ℤ pos 1

      b : Shape
      b = bare legs u

      low : (m : ℕ) → neg_ℤ (pos (k + extent legs)) ≤ℤ pos m
      low m = omega (arith, ints)

      small : (x : ℕ) → x ≡ 0 → x ≤ k
      small x e = omega arith

      first : cond (nat_le 0 c) (sum_of (λ a. ways_at legs k t a (c - 0)) (filter (λ a. interlaces t a b) (fitting legs t k))) 0 ≡ sum_of (λ a. ways_at legs k t a c) (filter (λ a. interlaces t a b) (fitting legs t k))
      first =
          let z : c - 0 ≡ c = omega arith in
          ap (λ e. cond (nat_le 0 c) (sum_of (λ a. ways_at legs k t a e) (filter (λ a. interlaces t a b) (fitting legs t k))) 0) z
          ∙ ap (λ q. cond q (sum_of (λ a. ways_at legs k t a c) (filter (λ a. interlaces t a b) (fitting legs t k))) 0) (le-leb 0 c (omega arith))

      apart : (x : ℕ) → nat_eq x 0 ≡ false → x ≡ 0 → ⊥
      apart x e z = let f : true ≡ false = sym (eq-eqb x 0 z) ∙ e in cc

      beside : interlaces t (bare legs t) b ≡ true
      beside =
          let next = least-completes legs t (bare legs t) are (bare-suits legs t are).0 in
          let free = spent (extras_of legs u next.next) (completion legs u next.next) (completion legs t (bare legs t)) next.completes (high-complete (extent legs + n) (omega arith)) in
          elim (cases_Bool (same_shape next.next b)) [
            | inl on ↦ subst (λ s. interlaces t (bare legs t) s ≡ true) (same-shape next.next b on) next.beside
            | inr off ↦ absurd (apart (extras_of legs u next.next) (others-have legs u next.next are off next.suits) free)
          ]
        where
          spent : (x p q : ℕ) → x + p ≡ q → q ≡ 0 → x ≡ 0
          spent x p q e z = omega arith

      both : (p q : Bool) → ◌≡◌ {A = ℕ} (cond p 0 0) (cond q 0 0)
      both true true = refl
      both true false = refl
      both false true = refl
      both false false = refl

      each : (a : Shape) → fits legs t a ≡ true → cond (interlaces t a b) (ways_at legs k t a c) 0 ≡ cond (same_shape (bare legs t) a) (ways_at legs k t a c) 0
      each a f = elim (cases_Bool (same_shape a (bare legs t))) [
        | inl on ↦ subst (λ s. cond (interlaces t s b) (ways_at legs k t s c) 0 ≡ cond (same_shape (bare legs t) s) (ways_at legs k t s c) 0) (sym (same-shape a (bare legs t) on)) (ap (λ q. cond q (ways_at legs k t (bare legs t) c) 0) beside ∙ sym (ap (λ q. cond q (ways_at legs k t (bare legs t) c) 0) (own-shape (bare legs t))))
        | inr off ↦ rw (high-none n a c l (apart (extras_of legs t a) (others-have legs t a are off f)) h) (both (interlaces t a b) (same_shape (bare legs t) a))
      ]

  high-all : (j c : ℕ) → c ≤ k → ways_at legs k (pos (extent legs + (k + j))) (bare legs (pos (extent legs + (k + j)))) c ≡ ways_at legs k (pos (extent legs + k)) (bare legs (pos (extent legs + k))) c
  high-all zero c h = let z : k + 0 ≡ k = omega arith in ap (λ n. ways_at legs k (pos (extent legs + n)) (bare legs (pos (extent legs + n))) c) z
  high-all (suc j) c h = ap (λ u. ways_at legs k u (bare legs u) c) (up (extent legs)) ∙ (high-next (k + j) c (omega arith) h ∙ high-all j c h)
    where
      up : (e : ℕ) → pos (e + (k + suc j)) ≡ pos (e + (k + j)) +ℤ pos 1
      up e = omega (arith, ints)

  above-last : {A : Type 0} (r : Operations A) (j : ℕ) → path_counts r legs k (pos (extent legs + (k + j))) ≡ path_counts r legs k (pos (extent legs + k))
  above-last r j =
      let t = pos (extent legs + (k + j)) in let u = pos (extent legs + k) in
      only-bare r legs k t are (λ s c ne h. high-none (k + j) s c (omega arith) ne h) (high-complete (extent legs + (k + j)) (omega arith))
      ∙ (ap (λ s. only r s (ways_at legs k t (bare legs t)) k) (bare-same legs t u (λ d. high-endless legs (extent legs + (k + j)) d (d + 0) are (omega arith)) (λ d. high-endless legs (extent legs + k) d (d + 0) are (omega arith)) (λ d. high-at (extent legs + (k + j)) d (omega arith) ∙ sym (high-at (extent legs + k) d (omega arith))))
      ∙ (only-same r (bare legs u) (ways_at legs k t (bare legs t)) (ways_at legs k u (bare legs u)) k (high-all j)
      ∙ sym (only-bare r legs k u are (λ s c ne h. high-none k s c (omega arith) ne h) (high-complete (extent legs + k) (omega arith)))))

  pub paths-nearest : {A : Type 0} (r : Operations A) (t : ℤ) → path_counts r legs k (nearest (k + extent legs) t) ≡ path_counts r legs k t
  paths-nearest r t = by (int_lt t (neg_ℤ (pos (k + extent legs)))) (int_lt (pos (k + extent legs)) t) refl refl
    where
      low : (z : ℤ) → int_lt t z ≡ true → t ≤ℤ z
      low z e = grind (arith, ints)

      high : (e : ℕ) → int_lt (pos (k + e)) t ≡ true → t ≡ pos (e + (k + (unsigned_abs t - (k + e))))
      high e h = let l : pos (k + e) ≤ℤ t = grind (arith, ints) in omega (arith, ints)

      turned : (e : ℕ) → pos (k + e) ≡ pos (e + k)
      turned e = omega (arith, ints)

      by : (p q : Bool) → int_lt t (neg_ℤ (pos (k + extent legs))) ≡ p → int_lt (pos (k + extent legs)) t ≡ q → path_counts r legs k (cond p (neg_ℤ (pos (k + extent legs))) (cond q (pos (k + extent legs)) t)) ≡ path_counts r legs k t
      by true q ep eq = sym (below-first r legs k t are (low (neg_ℤ (pos (k + extent legs))) ep))
      by false true ep eq = ap (path_counts r legs k) (turned (extent legs)) ∙ (sym (above-last r (unsigned_abs t - (k + extent legs))) ∙ ap (path_counts r legs k) (sym (high (extent legs) eq)))
      by false false ep eq = refl
