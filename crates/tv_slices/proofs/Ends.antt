-- The first diagonal's table, and what is read off the last one's.
use Rattle.std.proofs.Common.{◌≡◌, ℕ, suc, ◌+◌, ◌-◌, ◌*◌, ◌<◌, ◌≤◌, max, ℤ, pos, neg_ℤ, ◌-ℤ◌, ◌≤ℤ◌, unsigned_abs, Bool, true, false, List, [], ◌∷◌, ◌++◌, Option, Some, None, refl, sym, ◌∙◌, ap, subst, arith}
use Rattle.std.specs.Prelude.{cond, ◌&&◌, nat_eq, nat_lt, slice_index, MatchOption}
use Rattle.std.specs.Map.{lookup}
use Rattle.std.proofs.lemmas.Int.{ints}
use Rattle.std.proofs.lemmas.Bool.{ne_eqb}
use Rattle.tv_lemmas.specs.Sums.{sum_of}
use Rattle.tv_ring.specs.Operations.{Operations, RingLaws}
use Rattle.tv_ring.proofs.Times.{times-none, times-one}
use Rattle.tv_laws_series.proofs.Listed.{listed-none, listed_push}
use Rattle.tv_ring.specs.Sums.{at, times}
use Rattle.tv_partition.specs.Rows.{has}
use Rattle.tv_laws_series.specs.Terms.{listed}
use Rattle.tv_cells.specs.declared.legs.Legs.{Legs}
use Rattle.tv_cells.specs.Cells.{sublists_of}
use Rattle.tv_cells.specs.Extras.{extent, count, AreDiagrams}
use Rattle.tv_spec_slices.specs.Slices.{Shape, base, fits, extras_of, completion, above, same_shape}
use Rattle.tv_spec_slices.specs.Slices.{at as height_at}
use Rattle.tv_spec_slices.specs.Paths.{ways, ways_at, start_for, paths}
use Rattle.tv_laws_slices.proofs.Sums.{sum_of-zero, sum_of-zeros}
use Rattle.tv_laws_slices.proofs.Pushed.{same-shape, start-low}
use Rattle.tv_laws_slices.proofs.Least.{row-earlier}
use Rattle.tv_laws_slices.proofs.Climb.{low-far}
use Rattle.tv_laws_slices.proofs.Counted.{paths-are-counted}
use Rattle.tv_slices.specs.declared.row.Row.{Row}
use Rattle.tv_slices.specs.Rows.{numbers, marks}
use Rattle.tv_slices.specs.Tables.{known, ways_to, HasRow, IsTable}
use Rattle.tv_slices.specs.Joined.{counts_of}
use Rattle.tv_slices.specs.Bare.{bare, at_start}
use Rattle.tv_slices.proofs.Numbers.{numbers-at, nothing-at, listed-same}
use Rattle.tv_slices.proofs.Put.{row-same}
use Rattle.tv_slices.proofs.Only.{bare-only, bare-suits, others-have}

-- ---- the first diagonal

first_ways : (legs : Legs) (k : ℕ) (t : ℤ) (s : Shape) (c : ℕ) → t ≡ neg_ℤ (pos (k + extent legs)) → ways_at legs k t s c ≡ cond (nat_eq c 0 && nat_eq (extras_of legs t s) 0) 1 0
unfolding ways
first_ways legs k t s c e =
    let start : start_for legs k t ≡ t = start-low legs k t (low (k + extent legs) e) ∙ sym e in
    ap (λ z. ways legs k z (unsigned_abs (t -ℤ z)) s c) start ∙ ap (λ n. ways legs k t n s c) none
  where
    low : (n : ℕ) → t ≡ neg_ℤ (pos n) → neg_ℤ (pos n) ≤ℤ t
    low n e = omega (arith, ints)

    none : unsigned_abs (t -ℤ t) ≡ 0
    none = omega (arith, ints)

pub first-table : {A : Type 0} (r : Operations A) (legs : Legs) (k : ℕ) (t : ℤ) (row : Row A) (rows : List (Shape × Row A)) → AreDiagrams legs → t ≡ neg_ℤ (pos (k + extent legs)) →
    row.counts.items ≡ numbers r at_start (known legs k t (bare legs t)) → row.reached.items ≡ marks at_start (known legs k t (bare legs t)) → row.least ≡ 0 → rows ≡ (bare legs t, row) ∷ [] → IsTable r legs k t (ways_to legs k t) rows
first-table {A} r legs k t row rows are at_t counts reached least is = subst (IsTable r legs k t (ways_to legs k t)) (sym is) (record {
  each = λ s. decided s (same_shape s (bare legs t)) refl;
  suits = ((suits.0, few (extras_of legs t (bare legs t)) suits.1), tt);
})
  where
    suits : (fits legs t (bare legs t) ≡ true) × (extras_of legs t (bare legs t) ≡ 0)
    suits = bare-suits legs t are

    few : (x : ℕ) → x ≡ 0 → x ≤ k
    few x e = omega arith

    none : (c : ℕ) (P : Type 0) → c < row.least → P
    none c P l = absurd (omega arith)

    one : (c : ℕ) → at_start c ≡ ways_to legs k t (bare legs t) c
    one c = sym (ap (λ q. cond q (ways_at legs k t (bare legs t) c) 0) suits.0 ∙ (first_ways legs k t (bare legs t) c at_t ∙ (ap (λ x. cond (nat_eq c 0 && nat_eq x 0) 1 0) suits.1 ∙ last (nat_eq c 0))))
      where
        last : (q : Bool) → ◌≡◌ {A = ℕ} (cond (q && nat_eq 0 0) 1 0) (cond q 1 0)
        last true = refl
        last false = refl

    has : HasRow r (ways_to legs k t (bare legs t)) (known legs k t (bare legs t)) row
    has = row-same r at_start (ways_to legs k t (bare legs t)) (known legs k t (bare legs t)) row (λ c l. one c) (record { counts = counts; reached = reached; least = λ c l m. none c (at_start c ≡ 0) m })

    nothing : (s : Shape) (c : ℕ) (p : Bool) → same_shape s (bare legs t) ≡ false → fits legs t s ≡ p → cond p (ways_at legs k t s c) 0 ≡ 0
    nothing s c true off f = first_ways legs k t s c at_t ∙ (ap (λ q. cond (nat_eq c 0 && q) 1 0) (others-have legs t s are off f) ∙ both (nat_eq c 0))
      where
        both : (q : Bool) → ◌≡◌ {A = ℕ} (cond (q && false) 1 0) 0
        both true = refl
        both false = refl
    nothing s c false off f = refl

    decided : (s : Shape) (q : Bool) → same_shape s (bare legs t) ≡ q → MatchOption (cond q (Some row) None) ((c : ℕ) → c < known legs k t s → ways_to legs k t s c ≡ 0) (HasRow r (ways_to legs k t s) (known legs k t s))
    decided s true e = subst (λ x. HasRow r (ways_to legs k t x) (known legs k t x) row) (sym (same-shape s (bare legs t) e)) has
    decided s false e = λ c l. nothing s c (fits legs t s) e refl

-- ---- the last diagonal

twice : (n : ℕ) → unsigned_abs (pos n -ℤ neg_ℤ (pos n)) ≡ 2 * n
twice n = omega (arith, ints)

low : (n : ℕ) → neg_ℤ (pos n) ≤ℤ pos n
low n = omega (arith, ints)

last_ways : (legs : Legs) (k : ℕ) (s : Shape) (c : ℕ) → ways_at legs k (pos (k + extent legs)) s c ≡ ways legs k (neg_ℤ (pos (k + extent legs))) (2 * (k + extent legs)) s c
last_ways legs k s c =
    let far = k + extent legs in
    ap (λ z. ways legs k z (unsigned_abs (pos far -ℤ z)) s c) (start-low legs k (pos far) (low far)) ∙ ap (λ n. ways legs k (neg_ℤ (pos far)) n s c) (twice far)

-- the ways to the legs alone are the paths
bare-paths : (legs : Legs) (k i : ℕ) → AreDiagrams legs → paths legs k i ≡ ways_at legs k (pos (k + extent legs)) (bare legs (pos (k + extent legs))) i
unfolding paths
bare-paths legs k i are =
    let far = k + extent legs in
    ap (sum_of (λ s. ways legs k (neg_ℤ (pos far)) (2 * far) s i)) (bare-only legs (pos far) are) ∙ (plus_none (ways legs k (neg_ℤ (pos far)) (2 * far) (bare legs (pos far)) i) ∙ sym (last_ways legs k (bare legs (pos far)) i))
  where
    plus_none : (v : ℕ) → v + 0 ≡ v
    plus_none v = omega arith

pub last-counts : (legs : Legs) (k i : ℕ) → AreDiagrams legs → i ≤ k → ways_to legs k (pos (k + extent legs)) (bare legs (pos (k + extent legs))) i ≡ count legs i
last-counts legs k i are l =
    let far = k + extent legs in
    ap (λ q. cond q (ways_at legs k (pos far) (bare legs (pos far)) i) 0) (bare-suits legs (pos far) are).0 ∙ (sym (bare-paths legs k i are) ∙ paths-are-counted legs k i are l)

none_chosen : (legs : Legs) → count legs 0 ≡ 1
unfolding count sublists_of
none_chosen legs = refl

-- and nothing completes the legs alone
bare-low : (legs : Legs) (k d : ℕ) → AreDiagrams legs → height_at (bare legs (pos (k + extent legs))) d ≤ slice_index legs.along_x d
bare-low legs k d are =
    let far = k + extent legs in
    low-far legs k (bare legs (pos far)) 0 are (omega arith) (some (sym (bare-paths legs k 0 are) ∙ (paths-are-counted legs k 0 are (omega arith) ∙ none_chosen legs))) d
  where
    some : {v : ℕ} → v ≡ 1 → 0 < v
    some e = omega arith

bare-completion : (legs : Legs) (k : ℕ) → AreDiagrams legs → completion legs (pos (k + extent legs)) (bare legs (pos (k + extent legs))) ≡ 0
bare-completion legs k are = sum_of-zero (above legs (pos (k + extent legs)) (bare legs (pos (k + extent legs)))) each _
  where
    s : Shape
    s = bare legs (pos (k + extent legs))

    covered : (b : Bool) (h m n : ℕ) → h ≤ m → m ≤ n → cond b 0 (h - n) ≡ 0
    covered true h m n l g = refl
    covered false h m n l g = omega arith

    first : (m n : ℕ) → m ≤ max m n
    first m n = omega arith

    one : (d y : ℕ) → y < d + 0 → cond (has legs.along_z (d + (k + extent legs)) y) 0 (height_at (bare legs (pos (k + extent legs))) d - base legs (d + (k + extent legs)) y) ≡ 0
    one d y l =
        covered (has legs.along_z (d + (k + extent legs)) y) (height_at (bare legs (pos (k + extent legs))) d) (slice_index legs.along_x y) (base legs (d + (k + extent legs)) y)
        (through _ _ _ (bare-low legs k d are) (row-earlier legs.along_x are.along_x y d (omega arith))) (first (slice_index legs.along_x y) (slice_index legs.along_y (d + (k + extent legs))))
      where
        through : (u v w : ℕ) → u ≤ v → v ≤ w → u ≤ w
        through u v w l g = omega arith

    each : (d : ℕ) → above legs (pos (k + extent legs)) (bare legs (pos (k + extent legs))) d ≡ 0
    each d = sum_of-zeros (λ y. cond (has legs.along_z (d + (k + extent legs)) y) 0 (height_at (bare legs (pos (k + extent legs))) d - base legs (d + (k + extent legs)) y)) 0 (d + 0) (λ y p l. one d y (omega arith))

pub read-last : {A : Type 0} (r : Operations A) (legs : Legs) (k n : ℕ) (rows : List (Shape × Row A)) (xs : List A) → AreDiagrams legs → IsTable r legs k (pos (k + extent legs)) (ways_to legs k (pos (k + extent legs))) rows →
    n ≡ k + 1 → xs ≡ listed (at r (counts_of (lookup (same_shape (bare legs (pos (k + extent legs)))) rows))) n → xs ≡ numbers r (count legs) (suc k)
unfolding numbers
read-last {A} r legs k n rows xs are table en is =
    let far = k + extent legs in
    let more : k + 1 ≡ suc k = omega arith in
    is ∙ (ap (listed (at r (counts_of (lookup (same_shape (bare legs (pos far))) rows)))) (en ∙ more)
    ∙ listed-same r (at r (counts_of (lookup (same_shape (bare legs (pos far))) rows))) (λ c. times r (count legs c)) (suc k)
    (λ c l. by c l (lookup (same_shape (bare legs (pos far))) rows) (table.each (bare legs (pos far))) ∙ ap (times r) (last-counts legs k c are (within c l))))
  where
    within : (c : ℕ) → c < suc k → c ≤ k
    within c l = omega arith

    kept : (c p : ℕ) → c < suc k → p ≡ 0 → c < suc k - p
    kept c p l e = omega arith

    by : (c : ℕ) → c < suc k → (o : Option (Row A)) →
        MatchOption o ((c : ℕ) → c < known legs k (pos (k + extent legs)) (bare legs (pos (k + extent legs))) → ways_to legs k (pos (k + extent legs)) (bare legs (pos (k + extent legs))) c ≡ 0)
        (HasRow r (ways_to legs k (pos (k + extent legs)) (bare legs (pos (k + extent legs)))) (known legs k (pos (k + extent legs)) (bare legs (pos (k + extent legs))))) →
        at r (counts_of o) c ≡ times r (ways_to legs k (pos (k + extent legs)) (bare legs (pos (k + extent legs))) c)
    by c l None none = nothing-at r c ∙ ap (times r) (sym (none c (kept c _ l (bare-completion legs k are))))
    by c l (Some row) has = numbers-at r (ways_to legs k (pos (k + extent legs)) (bare legs (pos (k + extent legs)))) _ row.counts.items c has.counts (kept c _ l (bare-completion legs k are))

pub start-one : {A : Type 0} {IsValue : A → Type 0} {r : Operations A} → RingLaws IsValue r → (e : ℕ) → e ≡ 0 → r.unit ≡ times r (at_start e)
start-one {r = r} laws e z = rw z (sym (times-one laws))

pub start-none : {A : Type 0} (r : Operations A) (e : ℕ) → (e ≡ 0 → ⊥) → r.nought ≡ times r (at_start e)
start-none r e ne = rw (ne_eqb e 0 ne) (sym (times-none r))

pub numbers-none : {A : Type 0} (r : Operations A) (f : ℕ → ℕ) → numbers r f 0 ≡ []
unfolding numbers
numbers-none r f = listed-none (λ c. times r (f c))

pub numbers_push : {A : Type 0} (r : Operations A) (f : ℕ → ℕ) (n : ℕ) (old new : List A) (x : A) → old ≡ numbers r f n → new ≡ old ++ x ∷ [] → x ≡ times r (f n) → new ≡ numbers r f (n + 1)
unfolding numbers
numbers_push r f n old new x before push e = listed_push (λ c. times r (f c)) n old new x before push e

pub start-mark : (e : ℕ) → nat_eq e 0 ≡ nat_lt 0 (at_start e)
start-mark e = by (nat_eq e 0)
  where
    by : (q : Bool) → q ≡ nat_lt 0 (cond q 1 0)
    by true = refl
    by false = refl
