-- The cells of a path are, with the legs, closed downwards.
use Rattle.std.specs.Prelude.{◌≡◌, ◌⊎◌, ℕ, zero, suc, ◌+◌, ◌-◌, ◌*◌, ◌<◌, ◌≤◌, ℤ, pos, negsuc, ◌+ℤ◌, neg_ℤ, max, Bool, true, false, not, cond, ◌&&◌, ◌||◌, nat_eq, nat_lt, nat_le, List, [], ◌∷◌, filter, length}
use Rattle.std.specs.List.{AllByRecursion, list_any, list_all}
use Rattle.std.proofs.Common.{refl, sym, ap, subst, ◌∙◌, arith, inl, inr}
use Rattle.std.proofs.lemmas.Int.{ints}
use Rattle.std.proofs.lemmas.Bool.{cases_eq, cases_lt, and_parts, and_from, or_cases, or_left, or_right, leb-true, lt-ltb, ltb-true, eqb-true, eq-eqb}
use Rattle.std.proofs.lemmas.Bool.Decides.{nat_tests}
use Rattle.tv_lemmas.proofs.Sums.{sum_of-term}
use Rattle.tv_lemmas.proofs.Members.{all-found}
use Rattle.tv_partition.specs.Rows.{has}
use Rattle.tv_cells.specs.declared.cell.Cell.{Cell}
use Rattle.tv_cells.specs.declared.legs.Legs.{Legs}
use Rattle.tv_cells.specs.Cells.{cell, same, x_from, y_from, cube}
use Rattle.tv_cells.specs.Extras.{legs_at, in_union, stands, is_extras, extent, AreDiagrams}
use Rattle.tv_cells.proofs.Rising.{same_itself}
use Rattle.tv_cells.proofs.Cubes.{cube-has}
use Rattle.tv_laws_counts.proofs.Rises.{any-filter}
use Rattle.tv_spec_slices.specs.Slices.{Shape, at, reach, covers, interlaces_at, base, base_at, is_endless, over, extras_of}
use Rattle.tv_spec_slices.specs.Paths.{diagonal_at}
use Rattle.tv_laws_slices.specs.Laws.{IsChain, PathsAreExtras}
use Rattle.tv_laws_slices.specs.Taken.{on, place, in_slice, inside}
use Rattle.tv_laws_slices.proofs.Bases.{endless-first}
use Rattle.tv_laws_slices.proofs.Fits.{fits-full, below-at}
use Rattle.tv_laws_slices.proofs.Steps.{at-past, behind, covers-behind, x-above, y-above, x-below, y-below}
use Rattle.tv_laws_slices.proofs.Least.{ahead}
use Rattle.tv_laws_slices.proofs.Chains.{last-diagonal}
use Rattle.tv_laws_slices.proofs.Inside.{pick, IsIn, pick-first, inside-some, inside-at, no-leg}
use Rattle.tv_laws_slices.proofs.Taken.{start, chain-fits-at, chain-beside-at, chain-bottom, chain-total}

-- ---- neighbouring cells

pub x-of-place : (t : ℤ) (c : Cell) → on t c ≡ true → c.x ≡ place t c + x_from t
x-of-place (pos n) c h = let e = eqb-true (c.x + 0) (c.y + n) h in omega arith
x-of-place (negsuc n) c h = omega arith

pub y-of-place : (t : ℤ) (c : Cell) → on t c ≡ true → c.y ≡ place t c + y_from t
y-of-place (pos n) c h = let e = eqb-true (c.x + 0) (c.y + n) h in omega arith
y-of-place (negsuc n) c h = let e = eqb-true (c.x + suc n) (c.y + 0) h in omega arith

left-of : (t : ℤ) (c : Cell) → on (t +ℤ pos 1) c ≡ true → 0 < c.x → (on t (cell (c.x - 1) c.y c.z) ≡ true) × (ahead t (place t (cell (c.x - 1) c.y c.z)) ≡ place (t +ℤ pos 1) c)
left-of (pos n) c h l = by_values (x_from (pos n +ℤ pos 1)) (y_from (pos n +ℤ pos 1)) (x-above n) (y-above n) (eqb-true _ _ h)
  where
    by_values : (x y : ℕ) → x ≡ suc n → y ≡ 0 → c.x + y ≡ c.y + x → (nat_eq ((c.x - 1) + 0) (c.y + n) ≡ true) × (((c.x - 1) - n) ≡ c.x - x)
    by_values x y e f g = (eq-eqb ((c.x - 1) + 0) (c.y + n) (omega arith), omega arith)
left-of (negsuc n) c h l = by_values (x_from (negsuc n +ℤ pos 1)) (y_from (negsuc n +ℤ pos 1)) (x-below n) (y-below n) (eqb-true _ _ h)
  where
    by_values : (x y : ℕ) → x ≡ 0 → y ≡ n → c.x + y ≡ c.y + x → (nat_eq ((c.x - 1) + suc n) (c.y + 0) ≡ true) × (suc ((c.x - 1) - 0) ≡ c.x - x)
    by_values x y e f g = (eq-eqb ((c.x - 1) + suc n) (c.y + 0) (omega arith), omega arith)

above-of : (t : ℤ) (c : Cell) → on t c ≡ true → 0 < c.y → (on (t +ℤ pos 1) (cell c.x (c.y - 1) c.z) ≡ true) × (behind t (place (t +ℤ pos 1) (cell c.x (c.y - 1) c.z)) ≡ place t c)
above-of (pos n) c h l = by_values (x_from (pos n +ℤ pos 1)) (y_from (pos n +ℤ pos 1)) (x-above n) (y-above n) (eqb-true _ _ h)
  where
    by_values : (x y : ℕ) → x ≡ suc n → y ≡ 0 → c.x + 0 ≡ c.y + n → (nat_eq (c.x + y) ((c.y - 1) + x) ≡ true) × (suc (c.x - x) ≡ c.x - n)
    by_values x y e f g = (eq-eqb (c.x + y) ((c.y - 1) + x) (omega arith), omega arith)
above-of (negsuc n) c h l = by_values (x_from (negsuc n +ℤ pos 1)) (y_from (negsuc n +ℤ pos 1)) (x-below n) (y-below n) (eqb-true _ _ h)
  where
    by_values : (x y : ℕ) → x ≡ 0 → y ≡ n → c.x + suc n ≡ c.y + 0 → (nat_eq (c.x + y) ((c.y - 1) + x) ≡ true) × ((c.x - x) ≡ c.x - 0)
    by_values x y e f g = (eq-eqb (c.x + y) ((c.y - 1) + x) (omega arith), omega arith)

-- ---- a slice of no extras has no cells

pub leg-place : (legs : Legs) (t : ℤ) (c : Cell) → on t c ≡ true → nat_eq (legs_at legs c) 0 ≡ (not (is_endless legs t (place t c)) && nat_le (base_at legs t (place t c)) c.z)
leg-place legs t c h =
    no-leg legs c.x c.y c.z
    ∙ (ap (λ x. not (has legs.along_z x c.y) && nat_le (base legs x c.y) c.z) (x-of-place t c h)
    ∙ ap (λ y. not (has legs.along_z (place t c + x_from t) y) && nat_le (base legs (place t c + x_from t) y) c.z) (y-of-place t c h))

bare-slice : (legs : Legs) (t : ℤ) (s : Shape) (c : Cell) → extras_of legs t s ≡ 0 → in_slice legs t s c ≡ true → ⊥
bare-slice legs t s c none h =
    let tests = and_parts (on t c) (nat_eq (legs_at legs c) 0 && nat_lt c.z (at s (place t c))) h in
    let both = and_parts (nat_eq (legs_at legs c) 0) (nat_lt c.z (at s (place t c))) tests.1 in
    by_test (is_endless legs t (place t c)) (base_at legs t (place t c)) (sym (leg-place legs t c tests.0) ∙ both.0) (ltb-true c.z (at s (place t c)) both.1)
    (less (over legs t (at s (place t c)) (place t c)) (extras_of legs t s) none (sum_of-term (λ d. over legs t (at s d) d) 0 (reach s) (place t c) (omega arith) (within (place t c) (reach s) (inside_reach (ltb-true c.z (at s (place t c)) both.1)))))
  where
    within : (d r : ℕ) → d < r → d < 0 + r
    within d r l = omega arith

    inside_reach : c.z < at s (place t c) → place t c < reach s
    inside_reach l = elim (cases_lt (place t c) (reach s)) [
      | inl m ↦ m
      | inr far ↦ absurd (let zero_high = at-past s (place t c) far in omega arith)
    ]

    less : (o e : ℕ) → e ≡ 0 → o ≤ e → o ≡ 0
    less o e z l = omega arith

    by_test : (q : Bool) (b : ℕ) → (not q && nat_le b c.z) ≡ true → c.z < at s (place t c) → cond q 0 (at s (place t c) - b) ≡ 0 → ⊥
    by_test true b g l z = cc
    by_test false b g l z = let m = leb-true b c.z g in omega arith

-- ---- the cells of a path stand

list_all-from : {A : Type 0} (p : A → Bool) (xs : List A) → AllByRecursion (λ x. p x ≡ true) xs → list_all p xs ≡ true
list_all-from p [] all = refl
list_all-from p (x ∷ xs) all = and_from (p x) (list_all p xs) all.0 (list_all-from p xs all.1)

module _ (legs : Legs) (first : ℤ) (slices : List Shape) (i n top : ℕ) (are : AreDiagrams legs) (chain : IsChain legs first slices i) (many : length slices ≡ suc top) (bare : extras_of legs (diagonal_at first top) (pick slices top) ≡ 0) where
  abbrev cells : List Cell
  cells = filter (inside legs first slices) (cube n)

  union-cell : (c : Cell) → nat_lt 0 (legs_at legs c) ≡ true → in_union legs cells c ≡ true
  union-cell c h = or_left (nat_lt 0 (legs_at legs c)) (list_any (same c) cells) h

  union-slice : (c : Cell) (j : ℕ) → j < length slices → c.x < n → c.y < n → c.z < n → on (diagonal_at first j) c ≡ true → c.z < at (pick slices j) (place (diagonal_at first j) c) → in_union legs cells c ≡ true
  union-slice c j l x y z h low = elim (cases_lt 0 (legs_at legs c)) [
    | inl leg ↦ union-cell c (lt-ltb 0 (legs_at legs c) leg)
    | inr none ↦
        or_right (nat_lt 0 (legs_at legs c)) (list_any (same c) cells)
        (any-filter (inside legs first slices) c (cube n)
        ∙ and_from (list_any (same c) (cube n)) (inside legs first slices c)
        (cube-has n c ∙ and_from (nat_lt c.x n) (nat_lt c.y n && nat_lt c.z n) (lt-ltb c.x n x) (and_from (nat_lt c.y n) (nat_lt c.z n) (lt-ltb c.y n y) (lt-ltb c.z n z)))
        (inside-at legs first slices c j l (and_from (on (diagonal_at first j) c) (nat_eq (legs_at legs c) 0 && nat_lt c.z (at (pick slices j) (place (diagonal_at first j) c))) h
        (and_from (nat_eq (legs_at legs c) 0) (nat_lt c.z (at (pick slices j) (place (diagonal_at first j) c))) (eq-eqb (legs_at legs c) 0 (omega arith)) (lt-ltb c.z (at (pick slices j) (place (diagonal_at first j) c)) low)))))
  ]

  -- the cell of another slice that covers it is in the union
  union-cover : (c d : Cell) (s : Shape) (e j : ℕ) → j < length slices → d.x < n → d.y < n → d.z < n → on (diagonal_at first j) d ≡ true → d.z ≡ c.z → c.z < at s e →
      covers (pick slices j) (place (diagonal_at first j) d) s e ≡ true → in_union legs cells d ≡ true
  union-cover c d s e j l x y z h same_z low cover = by_cover (or_cases (nat_lt (place (diagonal_at first j) d) (pick slices j).full) (nat_le s.full e && nat_le (at s e) (at (pick slices j) (place (diagonal_at first j) d))) cover)
    where
      higher : (a b m v : ℕ) → v ≡ a → a < b → b ≤ m → v < m
      higher a b m v e l k = omega arith

      not_none : (k : ℕ) → nat_eq k 0 ≡ false → nat_lt 0 k ≡ true
      not_none k f = grind (arith, nat_tests)

      by_cover : (nat_lt (place (diagonal_at first j) d) (pick slices j).full ≡ true) ⊎ ((nat_le s.full e && nat_le (at s e) (at (pick slices j) (place (diagonal_at first j) d))) ≡ true) → in_union legs cells d ≡ true
      by_cover (inl endless) =
          let f = chain-fits-at legs first slices i j chain l in
          let g = endless-first legs (diagonal_at first j) (place (diagonal_at first j) d) are ∙ (ap (nat_lt (place (diagonal_at first j) d)) (sym (fits-full legs (diagonal_at first j) (pick slices j) are f)) ∙ endless) in
          union-cell d (not_none (legs_at legs d) (leg-place legs (diagonal_at first j) d h ∙ ap (λ q. not q && nat_le (base_at legs (diagonal_at first j) (place (diagonal_at first j) d)) d.z) g))
      by_cover (inr high) =
          union-slice d j l x y z h (higher c.z (at s e) (at (pick slices j) (place (diagonal_at first j) d)) d.z same_z low (leb-true (at s e) (at (pick slices j) (place (diagonal_at first j) d)) (and_parts (nat_le s.full e) (nat_le (at s e) (at (pick slices j) (place (diagonal_at first j) d))) high).1))

  lower-z : (c : Cell) → c.x < n → c.y < n → c.z < n → IsIn legs first slices c → (nat_eq c.z 0 || in_union legs cells (cell c.x c.y (c.z - 1))) ≡ true
  lower-z c x y z r =
      let t = diagonal_at first r.number in
      let tests = and_parts (on t c) (nat_eq (legs_at legs c) 0 && nat_lt c.z (at (pick slices r.number) (place t c))) r.here in
      let low = ltb-true c.z (at (pick slices r.number) (place t c)) (and_parts (nat_eq (legs_at legs c) 0) (nat_lt c.z (at (pick slices r.number) (place t c))) tests.1).1 in
      or_right (nat_eq c.z 0) (in_union legs cells (cell c.x c.y (c.z - 1)))
      (union-slice (cell c.x c.y (c.z - 1)) r.number r.early x y (omega arith) tests.0 (less c.z (at (pick slices r.number) (place t c)) low))
    where
      less : (a b : ℕ) → a < b → a - 1 < b
      less a b l = omega arith

  lower-x : (c : Cell) → c.x < n → c.y < n → c.z < n → IsIn legs first slices c → (nat_eq c.x 0 || in_union legs cells (cell (c.x - 1) c.y c.z)) ≡ true
  lower-x c x y z r = by_number r.number r.early r.here
    where
      up : (j : ℕ) → diagonal_at first (suc j) ≡ diagonal_at first j +ℤ pos 1
      up j = omega (arith, ints)

      within : (t : ℤ) (e d q a : ℕ) → ahead t e ≡ d → d < q → e < max a q
      within (pos m) e d q a h l = omega arith
      within (negsuc m) e d q a h l = omega arith

      reaches : (s : Shape) (d v : ℕ) → v < at s d → d < reach s
      reaches s d v l = elim (cases_lt d (reach s)) [
        | inl m ↦ m
        | inr far ↦ absurd (let none = at-past s d far in omega arith)
      ]

      cover_of : (t : ℤ) (a s : Shape) (e : ℕ) → interlaces_at t a s e ≡ true → covers a e s (ahead t e) ≡ true
      cover_of (pos m) a s e h = (and_parts (covers a e s e) (covers s e a (suc e)) h).0
      cover_of (negsuc m) a s e h = (and_parts (covers s e a e) (covers a e s (suc e)) h).1

      by_number : (j : ℕ) → j < length slices → in_slice legs (diagonal_at first j) (pick slices j) c ≡ true → (nat_eq c.x 0 || in_union legs cells (cell (c.x - 1) c.y c.z)) ≡ true
      by_number zero l h = absurd (bare-slice legs first (pick slices 0) c (chain-bottom legs first slices i chain) (ap (λ t. in_slice legs t (pick slices 0) c) (sym (start first)) ∙ h))
      by_number (suc j) l h = elim (cases_lt 0 c.x) [
        | inr none ↦ or_left (nat_eq c.x 0) (in_union legs cells (cell (c.x - 1) c.y c.z)) (eq-eqb c.x 0 (omega arith))
        | inl some ↦
            let t = diagonal_at first j in
            let s = pick slices (suc j) in
            let here : in_slice legs (t +ℤ pos 1) s c ≡ true = ap (λ u. in_slice legs u s c) (sym (up j)) ∙ h in
            let tests = and_parts (on (t +ℤ pos 1) c) (nat_eq (legs_at legs c) 0 && nat_lt c.z (at s (place (t +ℤ pos 1) c))) here in
            let low = ltb-true c.z (at s (place (t +ℤ pos 1) c)) (and_parts (nat_eq (legs_at legs c) 0) (nat_lt c.z (at s (place (t +ℤ pos 1) c))) tests.1).1 in
            let left = left-of t c tests.0 some in
            let e = place t (cell (c.x - 1) c.y c.z) in
            let beside = chain-beside-at legs first slices i j chain l in
            let cover = cover_of t (pick slices j) s e (below-at (max (reach (pick slices j)) (reach s)) (interlaces_at t (pick slices j) s) beside e (within t e (place (t +ℤ pos 1) c) (reach s) (reach (pick slices j)) left.1 (reaches s (place (t +ℤ pos 1) c) c.z low))) in
            or_right (nat_eq c.x 0) (in_union legs cells (cell (c.x - 1) c.y c.z))
            (union-cover c (cell (c.x - 1) c.y c.z) s (ahead t e) j (omega arith) (omega arith) y z left.0 refl (subst (λ d. c.z < at s d) (sym left.1) low) cover)
      ]

  lower-y : (c : Cell) → c.x < n → c.y < n → c.z < n → IsIn legs first slices c → (nat_eq c.y 0 || in_union legs cells (cell c.x (c.y - 1) c.z)) ≡ true
  lower-y c x y z r = elim (cases_eq r.number top) [
    | inl e ↦ absurd (bare-slice legs (diagonal_at first top) (pick slices top) c bare (subst (λ j. in_slice legs (diagonal_at first j) (pick slices j) c ≡ true) e r.here))
    | inr ne ↦ by_number r.number (omega (arith, ne, r.early)) r.here
  ]
    where
      up : (j : ℕ) → diagonal_at first (suc j) ≡ diagonal_at first j +ℤ pos 1
      up j = omega (arith, ints)

      within : (t : ℤ) (e d q a : ℕ) → behind t e ≡ d → d < q → e < max q a
      within (pos m) e d q a h l = omega arith
      within (negsuc m) e d q a h l = omega arith

      reaches : (s : Shape) (d v : ℕ) → v < at s d → d < reach s
      reaches s d v l = elim (cases_lt d (reach s)) [
        | inl m ↦ m
        | inr far ↦ absurd (let none = at-past s d far in omega arith)
      ]

      by_number : (j : ℕ) → suc j < length slices → in_slice legs (diagonal_at first j) (pick slices j) c ≡ true → (nat_eq c.y 0 || in_union legs cells (cell c.x (c.y - 1) c.z)) ≡ true
      by_number j l h = elim (cases_lt 0 c.y) [
        | inr none ↦ or_left (nat_eq c.y 0) (in_union legs cells (cell c.x (c.y - 1) c.z)) (eq-eqb c.y 0 (omega arith))
        | inl some ↦
            let t = diagonal_at first j in
            let s = pick slices j in
            let tests = and_parts (on t c) (nat_eq (legs_at legs c) 0 && nat_lt c.z (at s (place t c))) h in
            let low = ltb-true c.z (at s (place t c)) (and_parts (nat_eq (legs_at legs c) 0) (nat_lt c.z (at s (place t c))) tests.1).1 in
            let over_it = above-of t c tests.0 some in
            let e = place (t +ℤ pos 1) (cell c.x (c.y - 1) c.z) in
            let beside = chain-beside-at legs first slices i j chain l in
            let cover = covers-behind t s (pick slices (suc j)) e (below-at (max (reach s) (reach (pick slices (suc j)))) (interlaces_at t s (pick slices (suc j))) beside e (within t e (place t c) (reach s) (reach (pick slices (suc j))) over_it.1 (reaches s (place t c) c.z low))) in
            or_right (nat_eq c.y 0) (in_union legs cells (cell c.x (c.y - 1) c.z))
            (union-cover c (cell c.x (c.y - 1) c.z) s (behind t e) (suc j) l x (omega arith) z (ap (λ u. on u (cell c.x (c.y - 1) c.z)) (up j) ∙ over_it.0) refl (subst (λ d. c.z < at s d) (sym over_it.1) low)
            (subst (λ u. covers (pick slices (suc j)) (place u (cell c.x (c.y - 1) c.z)) s (behind t e) ≡ true) (sym (up j)) cover))
      ]

  pub cells-stand : is_extras legs cells ≡ true
  cells-stand = list_all-from (stands legs cells) cells (all-found (λ c. stands legs cells c ≡ true) same same_itself cells one)
    where
      one : (c : Cell) → list_any (same c) cells ≡ true → stands legs cells c ≡ true
      one c h =
          let both = and_parts (list_any (same c) (cube n)) (inside legs first slices c) (sym (any-filter (inside legs first slices) c (cube n)) ∙ h) in
          let bounds = and_parts (nat_lt c.x n) (nat_lt c.y n && nat_lt c.z n) (sym (cube-has n c) ∙ both.0) in
          let rest = and_parts (nat_lt c.y n) (nat_lt c.z n) bounds.1 in
          let x = ltb-true c.x n bounds.0 in
          let y = ltb-true c.y n rest.0 in
          let z = ltb-true c.z n rest.1 in
          let r = inside-some legs first slices c both.1 in
          let t = diagonal_at first r.number in
          let tests = and_parts (on t c) (nat_eq (legs_at legs c) 0 && nat_lt c.z (at (pick slices r.number) (place t c))) r.here in
          and_from (nat_eq (legs_at legs c) 0) _ (and_parts (nat_eq (legs_at legs c) 0) (nat_lt c.z (at (pick slices r.number) (place t c))) tests.1).0
          (and_from (nat_eq c.x 0 || in_union legs cells (cell (c.x - 1) c.y c.z)) _ (lower-x c x y z r)
          (and_from (nat_eq c.y 0 || in_union legs cells (cell c.x (c.y - 1) c.z)) (nat_eq c.z 0 || in_union legs cells (cell c.x c.y (c.z - 1))) (lower-y c x y z r) (lower-z c x y z r)))

pub paths-are-extras : PathsAreExtras
paths-are-extras legs k i [] are l path = absurd path
paths-are-extras legs k i (s ∷ slices) are l path =
    let far = k + extent legs in
    let first = neg_ℤ (pos far) in
    let bare : extras_of legs (diagonal_at first (2 * far)) (pick (s ∷ slices) (2 * far)) ≡ 0 =
    ap (λ t. extras_of legs t (pick (s ∷ slices) (2 * far))) (last-diagonal far)
    ∙ (ap (λ a. extras_of legs (pos far) a) (subst (λ j. pick (s ∷ slices) j ≡ s) path.0 (pick-first s slices)) ∙ path.1) in (
      cells-stand legs first (s ∷ slices) i (suc (far + far)) (2 * far) are path.2 (ap suc path.0) bare,
      chain-total legs k (s ∷ slices) i are l (few (length slices) (2 * far) path.0) path.2,
    )
  where
    few : (a b : ℕ) → a ≡ b → suc a ≤ suc b
    few a b e = omega arith
