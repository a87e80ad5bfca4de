-- The cells of a path: as many as its extras, and with the legs they are closed downwards.
use Rattle.std.specs.Prelude.{◌≡◌, ℕ, suc, ◌+◌, ◌-◌, ◌*◌, ◌<◌, ◌≤◌, ℤ, pos, ◌+ℤ◌, neg_ℤ, nat_abs, max, true, false, List, [], ◌∷◌, filter, length, slice_index}
use Rattle.std.proofs.Common.{refl, sym, ap, subst, ◌∙◌, arith, inl, inr}
use Rattle.std.proofs.lemmas.Int.{ints}
use Rattle.std.proofs.lemmas.Bool.{cases_eq, and_parts}
use Rattle.tv_lemmas.proofs.Lists.{filter-none}
use Rattle.tv_partition.proofs.Bounds.{diagram-falls, falls-row}
use Rattle.tv_cells.specs.declared.cell.Cell.{Cell}
use Rattle.tv_cells.specs.declared.legs.Legs.{Legs}
use Rattle.tv_cells.specs.Cells.{x_from, y_from, cube}
use Rattle.tv_cells.specs.Extras.{extent, AreDiagrams}
use Rattle.tv_spec_slices.specs.Slices.{Shape, at, reach, interlaces, base_at, fits, extras_of}
use Rattle.tv_spec_slices.specs.Paths.{diagonal_at, full_of}
use Rattle.tv_laws_slices.specs.Laws.{IsChain}
use Rattle.tv_laws_slices.specs.Taken.{on, in_slice, inside}
use Rattle.tv_laws_slices.proofs.Bases.{base-past}
use Rattle.tv_laws_slices.proofs.Fits.{fits-full, full-inside, extras-spent, length-most, first-spent}
use Rattle.tv_laws_slices.proofs.Least.{falls-far, heights-next, heights-of}
use Rattle.tv_laws_slices.proofs.Inside.{pick, pick-first, pick-later, inside-some, on-same, count-either, slice-count}

-- ---- how far a slice of few extras reaches

pub row-inside : (legs : Legs) (t : ℤ) (d : ℕ) → AreDiagrams legs → base_at legs t d ≤ extent legs
row-inside legs t d are = all (slice_index legs.along_x (d + y_from t)) (slice_index legs.along_y (d + x_from t)) (slice_index legs.along_x 0) (slice_index legs.along_y 0) (length legs.along_x) (length legs.along_y) _
    (falls-row (slice_index legs.along_x 0) legs.along_x (diagram-falls legs.along_x are.along_x) (d + y_from t)) (falls-row (slice_index legs.along_y 0) legs.along_y (diagram-falls legs.along_y are.along_y) (d + x_from t))
  where
    all : (a b c e p q r : ℕ) → a ≤ c → b ≤ e → max a b ≤ max (max p c) (max (max q e) r)
    all a b c e p q r l m = omega arith

pub reach-few : (legs : Legs) (t : ℤ) (s : Shape) (k : ℕ) → AreDiagrams legs → fits legs t s ≡ true → extras_of legs t s ≤ k → reach s ≤ k + extent legs
reach-few legs t s k are f l =
    few s.full (length s.heights) (extent legs) (extras_of legs t s) (full_less s.full (fits-full legs t s are f) (full-inside legs t (extent legs)))
    (subst (λ x. length s.heights ≤ (extent legs - s.full) + x) (sym (extras-spent legs t s are (fits-full legs t s are f))) (length-most (base_at legs t) (extent legs) (λ i m. base-past legs t i m) s.full s.heights (heights-of legs t s f))) l
  where
    full_less : (a : ℕ) → a ≡ full_of legs t (extent legs) → full_of legs t (extent legs) ≤ extent legs → a ≤ extent legs
    full_less a e l = omega arith

    few : (f n e x : ℕ) → f ≤ e → n ≤ (e - f) + x → x ≤ k → f + n ≤ k + e
    few f n e x p q r = omega arith

pub height-few : (legs : Legs) (t : ℤ) (s : Shape) (k : ℕ) → AreDiagrams legs → fits legs t s ≡ true → extras_of legs t s ≤ k → (d : ℕ) → at s d ≤ k + extent legs
height-few legs t s k are f l d =
    few (at s d) (slice_index s.heights 0) (base_at legs t s.full) (extent legs) (extras_of legs t s)
    (from_first (d - s.full) (falls-far (slice_index s.heights) (λ i. heights-next s.heights i (heights-of legs t s f)) 0 (d - s.full)))
    (subst (λ x. slice_index s.heights 0 ≤ base_at legs t s.full + x) (sym (extras-spent legs t s are (fits-full legs t s are f))) (first-spent (base_at legs t) s.full s.heights)) (row-inside legs t s.full are) l
  where
    from_first : (i : ℕ) → slice_index s.heights (0 + i) ≤ slice_index s.heights 0 → slice_index s.heights i ≤ slice_index s.heights 0
    from_first i l = let e : 0 + i ≡ i = omega arith in rw e at l

    few : (h g b e x : ℕ) → h ≤ g → g ≤ b + x → b ≤ e → x ≤ k → h ≤ k + e
    few h g b e x p q r m = omega arith

-- ---- the slices of a chain, one by one

pub start : (first : ℤ) → diagonal_at first 0 ≡ first
start first = omega (arith, ints)

pub chain-fits-at : (legs : Legs) (first : ℤ) (slices : List Shape) (c j : ℕ) → IsChain legs first slices c → j < length slices → fits legs (diagonal_at first j) (pick slices j) ≡ true
chain-fits-at legs first [] c j h l = absurd h
chain-fits-at legs first (s ∷ []) c j h l =
    let z : j ≡ 0 = omega arith in
    subst (λ i. fits legs (diagonal_at first i) (pick (s ∷ []) i) ≡ true) (sym z)
    (ap (λ t. fits legs t (pick (s ∷ []) 0)) (start first) ∙ (ap (λ a. fits legs first a) (pick-first s []) ∙ h.0))
chain-fits-at legs first (s ∷ a ∷ slices) c j h l = elim (cases_eq j (suc (length slices))) [
  | inl e ↦ subst (λ i. fits legs (diagonal_at first i) (pick (s ∷ a ∷ slices) i) ≡ true) (sym e) (ap (λ b. fits legs (diagonal_at first (suc (length slices))) b) (pick-first s (a ∷ slices)) ∙ h.0)
  | inr ne ↦ let m : j < length (a ∷ slices) = omega (arith, ne) in
      ap (λ b. fits legs (diagonal_at first j) b) (pick-later s (a ∷ slices) j m) ∙ chain-fits-at legs first (a ∷ slices) (c - extras_of legs (diagonal_at first (suc (length slices))) s) j h.3 m
]

pub chain-beside-at : (legs : Legs) (first : ℤ) (slices : List Shape) (c j : ℕ) → IsChain legs first slices c → suc j < length slices → interlaces (diagonal_at first j) (pick slices j) (pick slices (suc j)) ≡ true
chain-beside-at legs first [] c j h l = absurd h
chain-beside-at legs first (s ∷ []) c j h l = absurd (omega arith)
chain-beside-at legs first (s ∷ a ∷ slices) c j h l = elim (cases_eq j (length slices)) [
  | inl e ↦ subst (λ i. interlaces (diagonal_at first i) (pick (s ∷ a ∷ slices) i) (pick (s ∷ a ∷ slices) (suc i)) ≡ true) (sym e)
      (ap (λ b. interlaces (diagonal_at first (length slices)) b (pick (s ∷ a ∷ slices) (suc (length slices)))) (pick-later s (a ∷ slices) (length slices) (omega arith) ∙ pick-first a slices)
      ∙ (ap (λ b. interlaces (diagonal_at first (length slices)) a b) (pick-first s (a ∷ slices)) ∙ h.1))
  | inr ne ↦ let m : suc j < length (a ∷ slices) = omega (arith, ne) in
      ap (λ b. interlaces (diagonal_at first j) b (pick (s ∷ a ∷ slices) (suc j))) (pick-later s (a ∷ slices) j (omega arith))
      ∙ (ap (λ b. interlaces (diagonal_at first j) (pick (a ∷ slices) j) b) (pick-later s (a ∷ slices) (suc j) m)
      ∙ chain-beside-at legs first (a ∷ slices) (c - extras_of legs (diagonal_at first (suc (length slices))) s) j h.3 m)
]

pub chain-bottom : (legs : Legs) (first : ℤ) (slices : List Shape) (c : ℕ) → IsChain legs first slices c → extras_of legs first (pick slices 0) ≡ 0
chain-bottom legs first [] c h = absurd h
chain-bottom legs first (s ∷ []) c h = ap (λ a. extras_of legs first a) (pick-first s []) ∙ h.1
chain-bottom legs first (s ∷ a ∷ slices) c h =
    ap (λ b. extras_of legs first b) (pick-later s (a ∷ slices) 0 (omega arith)) ∙ chain-bottom legs first (a ∷ slices) (c - extras_of legs (diagonal_at first (suc (length slices))) s) h.3

-- ---- as many cells as extras

pub apart-slices : (legs : Legs) (first : ℤ) (s : Shape) (slices : List Shape) (c : Cell) → in_slice legs (diagonal_at first (length slices)) s c ≡ true → inside legs first slices c ≡ true → ⊥
apart-slices legs first s slices c p q =
    let r = inside-some legs first slices c q in
    let e = on-same (diagonal_at first (length slices)) (diagonal_at first r.number) c (and_parts (on (diagonal_at first (length slices)) c) _ p).0 (and_parts (on (diagonal_at first r.number) c) _ r.here).0 in
    differ (length slices) r.number r.early e
  where
    differ : (n j : ℕ) → j < n → diagonal_at first n ≡ diagonal_at first j → ⊥
    differ n j l e = omega (arith, ints)

one-slice : (legs : Legs) (k n : ℕ) (s : Shape) → AreDiagrams legs → n ≤ 2 * (k + extent legs) → fits legs (diagonal_at (neg_ℤ (pos (k + extent legs))) n) s ≡ true → extras_of legs (diagonal_at (neg_ℤ (pos (k + extent legs))) n) s ≤ k →
    length (filter (in_slice legs (diagonal_at (neg_ℤ (pos (k + extent legs))) n) s) (cube (suc ((k + extent legs) + (k + extent legs))))) ≡ extras_of legs (diagonal_at (neg_ℤ (pos (k + extent legs))) n) s
one-slice legs k n s are l f m =
    slice-count legs (diagonal_at (neg_ℤ (pos (k + extent legs))) n) s ((k + extent legs) + (k + extent legs))
    (near (k + extent legs) (nat_abs (diagonal_at (neg_ℤ (pos (k + extent legs))) n)) (size (k + extent legs) l))
    (wide (k + extent legs) (nat_abs (diagonal_at (neg_ℤ (pos (k + extent legs))) n)) (reach s) (size (k + extent legs) l) (reach-few legs (diagonal_at (neg_ℤ (pos (k + extent legs))) n) s k are f m))
    (λ d. high (k + extent legs) (at s d) (height-few legs (diagonal_at (neg_ℤ (pos (k + extent legs))) n) s k are f m d))
  where
    size : (w : ℕ) → n ≤ 2 * w → nat_abs (neg_ℤ (pos w) +ℤ pos n) ≤ w
    size w l = omega (arith, ints)

    near : (w a : ℕ) → a ≤ w → a ≤ w + w
    near w a l = omega arith

    wide : (w a r : ℕ) → a ≤ w → r ≤ w → r ≤ suc (w + w) - a
    wide w a r l m = omega arith

    high : (w h : ℕ) → h ≤ w → h ≤ suc (w + w)
    high w h l = omega arith

pub chain-total : (legs : Legs) (k : ℕ) (slices : List Shape) (c : ℕ) → AreDiagrams legs → c ≤ k → length slices ≤ suc (2 * (k + extent legs)) → IsChain legs (neg_ℤ (pos (k + extent legs))) slices c →
    length (filter (inside legs (neg_ℤ (pos (k + extent legs))) slices) (cube (suc ((k + extent legs) + (k + extent legs))))) ≡ c
unfolding inside
chain-total legs k [] c are l m h = absurd h
chain-total legs k (s ∷ []) c are l m h =
    let first = neg_ℤ (pos (k + extent legs)) in
    let n = suc ((k + extent legs) + (k + extent legs)) in
    let x : extras_of legs (diagonal_at first 0) s ≡ 0 = ap (λ t. extras_of legs t s) (start first) ∙ h.1 in
    count-either (in_slice legs (diagonal_at first 0) s) (λ d. false) (λ d p q. cc) (cube n)
    ∙ (ap (λ v. v + length (filter (λ (d : Cell). false) (cube n))) (one-slice legs k 0 s are (omega arith) (ap (λ t. fits legs t s) (start first) ∙ h.0) (omega arith))
    ∙ (ap (λ v. extras_of legs (diagonal_at first 0) s + v) (ap length (filter-none (λ (d : Cell). false) (λ d. refl) (cube n)))
    ∙ none (extras_of legs (diagonal_at first 0) s) c x h.2))
  where
    none : (x c : ℕ) → x ≡ 0 → c ≡ 0 → x + 0 ≡ c
    none x c e f = omega arith
chain-total legs k (s ∷ a ∷ slices) c are l m h =
    let first = neg_ℤ (pos (k + extent legs)) in
    let n = suc ((k + extent legs) + (k + extent legs)) in
    let x = extras_of legs (diagonal_at first (suc (length slices))) s in
    count-either (in_slice legs (diagonal_at first (suc (length slices))) s) (inside legs first (a ∷ slices)) (apart-slices legs first s (a ∷ slices)) (cube n)
    ∙ (ap (λ v. v + length (filter (inside legs first (a ∷ slices)) (cube n))) (one-slice legs k (suc (length slices)) s are (omega arith) h.0 (small x h.2))
    ∙ (ap (λ v. x + v) (chain-total legs k (a ∷ slices) (c - x) are (less x) (omega arith) h.3) ∙ back x h.2))
  where
    small : (x : ℕ) → x ≤ c → x ≤ k
    small x p = omega arith

    less : (x : ℕ) → c - x ≤ k
    less x = omega arith

    back : (x : ℕ) → x ≤ c → x + (c - x) ≡ c
    back x l = omega arith
