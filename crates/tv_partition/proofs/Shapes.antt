-- The rows of a finite set of cells closed downwards, and that no other rows have its cells.
use Rattle.std.proofs.Common.{◌≡◌, ℕ, zero, suc, ◌≤◌, ◌<◌, Bool, true, false, cond, List, [], ◌∷◌, length, nat_lt, arith, refl, sym, ◌∙◌, ap, inl, inr}
use Rattle.std.specs.Prelude.{slice_index}
use Rattle.std.proofs.lemmas.Bool.{cases_Bool, cases_lt, ltb-true, lt-ltb, le-ltb}
use Rattle.std.proofs.lemmas.Bool.Decides.{nat_tests}
use Rattle.tv_partition.specs.Rows.{FallsFrom, IsDiagram, has, reach}
use Rattle.tv_partition.specs.Laws.{IsDownClosed, IsBelow, HasCells, DiagramsAreSets}
use Rattle.tv_partition.proofs.Bounds.{falling_is_diagram, falls-row, diagram-falls}

-- one more than the greatest number below n that passes, or 0
width : (ℕ → Bool) → ℕ → ℕ
width row zero = 0
width row (suc n) = cond (row n) (suc n) (width row n)

-- a row that is none ends the rows
front : ℕ → List ℕ → List ℕ
front zero rows = []
front (suc n) rows = suc n ∷ rows

-- the first k rows of the set
rows_of : ℕ → ℕ → (ℕ → ℕ → Bool) → List ℕ
rows_of n zero cells = []
rows_of n (suc k) cells = front (width (cells 0) n) (rows_of n k (λ i. cells (suc i)))

passes-down : (row : ℕ → Bool) → ((j : ℕ) → row (suc j) ≡ true → row j ≡ true) → (n j : ℕ) → j ≤ n → row n ≡ true → row j ≡ true
passes-down row down zero j l e = let last : j ≡ 0 = omega arith in ap row last ∙ e
passes-down row down (suc n) j l e = elim (cases_lt j (suc n)) [
  | inl less ↦ passes-down row down n j (omega arith) (down n e)
  | inr not_less ↦ let last : j ≡ suc n = omega arith in ap row last ∙ e
]

fails : (b : Bool) → (b ≡ true → ⊥) → b ≡ false
fails true none = absurd (none refl)
fails false none = refl

-- what passes is below the width, where it is closed downwards and all below n
below-width : (row : ℕ → Bool) → ((j : ℕ) → row (suc j) ≡ true → row j ≡ true) → (n : ℕ) → ((j : ℕ) → row j ≡ true → j < n) → (j : ℕ) → nat_lt j (width row n) ≡ row j
unfolding width
below-width row down zero within j = ap (nat_lt j) refl ∙ (le-ltb j 0 (omega arith) ∙ sym (fails (row j) (λ e. let l = within j e in omega arith)))
below-width row down (suc n) within j = elim (cases_Bool (row n)) [
  | inl last ↦ ap (λ b. nat_lt j (cond b (suc n) (width row n))) last ∙ all last
  | inr short ↦ ap (λ b. nat_lt j (cond b (suc n) (width row n))) short ∙ below-width row down n (λ k e. less k e short) j
]
  where
    all : row n ≡ true → nat_lt j (suc n) ≡ row j
    all last = elim (cases_lt j (suc n)) [
      | inl l ↦ lt-ltb j (suc n) l ∙ sym (passes-down row down n j (omega arith) last)
      | inr l ↦ le-ltb j (suc n) l ∙ sym (fails (row j) (λ e. let m = within j e in omega arith))
    ]

    less : (k : ℕ) → row k ≡ true → row n ≡ false → k < n
    less k e short = elim (cases_lt k n) [
      | inl l ↦ l
      | inr l ↦ let m = within k e in let same : k ≡ n = omega arith in let both : row n ≡ true = sym (ap row same) ∙ e in absurd (cc)
    ]

later : (cells : ℕ → ℕ → Bool) → IsDownClosed cells → IsDownClosed (λ i. cells (suc i))
later cells d = record { first = λ i j. d.first (suc i) j; second = λ i j. d.second (suc i) j }

-- the set's cells have a first entry below k and a second below n
Fits : ℕ → ℕ → (ℕ → ℕ → Bool) → Type 0
Fits n k cells = (i j : ℕ) → cells i j ≡ true → (i < k) × (j < n)

fits-later : (n k : ℕ) (cells : ℕ → ℕ → Bool) → Fits n (suc k) cells → Fits n k (λ i. cells (suc i))
unfolding Fits
fits-later n k cells fits = λ i j e. let l = fits (suc i) j e in (omega (arith, l.0), l.1)

first-row : (n k : ℕ) (cells : ℕ → ℕ → Bool) → IsDownClosed cells → Fits n k cells → (j : ℕ) → nat_lt j (width (cells 0) n) ≡ cells 0 j
unfolding Fits
first-row n k cells d fits j = below-width (cells 0) (d.second 0) n (λ j e. (fits 0 j e).1) j

-- without a first row there is no cell
none-later : (cells : ℕ → ℕ → Bool) → IsDownClosed cells → ((j : ℕ) → cells 0 j ≡ false) → (i j : ℕ) → cells i j ≡ false
none-later cells d none zero j = none j
none-later cells d none (suc i) j = let before = none-later cells d none i j in fails (cells (suc i) j) (λ e. let low = d.first i j e in absurd (cc))

rows-have : (n k : ℕ) (cells : ℕ → ℕ → Bool) → IsDownClosed cells → Fits n k cells → HasCells (rows_of n k cells) cells
unfolding rows_of front Fits
rows-have n zero cells d fits = λ i j. le-ltb j 0 (omega arith) ∙ sym (fails (cells i j) (λ e. let l = fits i j e in omega (arith, l.0)))
rows-have n (suc k) cells d fits = split (rows-have n k (λ i. cells (suc i)) (later cells d) (fits-later n k cells fits)) (width (cells 0) n) refl
  where
    has_at : HasCells (rows_of n k (λ i. cells (suc i))) (λ i. cells (suc i)) → (w : ℕ) → width (cells 0) n ≡ suc w → HasCells (suc w ∷ rows_of n k (λ i. cells (suc i))) cells
    has_at rest w e zero j = ap (nat_lt j) (sym e) ∙ first-row n (suc k) cells d fits j
    has_at rest w e (suc i) j = rest i j

    split : HasCells (rows_of n k (λ i. cells (suc i))) (λ i. cells (suc i)) → (w : ℕ) → width (cells 0) n ≡ w → HasCells (front w (rows_of n k (λ i. cells (suc i)))) cells
    split rest zero e = λ i j. le-ltb j 0 (omega arith) ∙ sym (none-later cells d (λ j. sym (first-row n (suc k) cells d fits j) ∙ (ap (nat_lt j) e ∙ le-ltb j 0 (omega arith))) i j)
    split rest (suc w) e = has_at rest w e

width-falls : (n k : ℕ) (cells : ℕ → ℕ → Bool) → IsDownClosed cells → Fits n (suc k) cells → width (cells 1) n ≤ width (cells 0) n
width-falls n k cells d fits = split (width (cells 1) n) refl
  where
    split : (w : ℕ) → width (cells 1) n ≡ w → w ≤ width (cells 0) n
    split zero e = omega arith
    split (suc w) e =
        let here : cells 1 w ≡ true = sym (first-row n k (λ i. cells (suc i)) (later cells d) (fits-later n k cells fits) w) ∙ (ap (nat_lt w) e ∙ lt-ltb w (suc w) (omega arith)) in
        let low : nat_lt w (width (cells 0) n) ≡ true = first-row n (suc k) cells d fits w ∙ d.first 0 w here in
        ltb-true w (width (cells 0) n) low

rows-fall : (n k top : ℕ) (cells : ℕ → ℕ → Bool) → IsDownClosed cells → Fits n k cells → width (cells 0) n ≤ top → FallsFrom top (rows_of n k cells)
unfolding rows_of front
rows-fall n zero top cells d fits l = tt
rows-fall n (suc k) top cells d fits l = split (λ first. rows-fall n k first (λ i. cells (suc i)) (later cells d) (fits-later n k cells fits)) (width (cells 0) n) refl
  where
    split : ((first : ℕ) → width (cells 1) n ≤ first → FallsFrom first (rows_of n k (λ i. cells (suc i)))) → (w : ℕ) → width (cells 0) n ≡ w → FallsFrom top (front w (rows_of n k (λ i. cells (suc i))))
    split rest zero e = tt
    split rest (suc w) e = let falls = width-falls n k cells d fits in (omega arith, omega arith, rest (suc w) (omega arith))

every-set : (cells : ℕ → ℕ → Bool) (n : ℕ) → IsDownClosed cells → IsBelow n cells → (rows : List ℕ) × (IsDiagram rows × HasCells rows cells)
unfolding Fits
every-set cells n d within =
    (rows_of n n cells, (falling_is_diagram (width (cells 0) n) (rows_of n n cells) (rows-fall n n (width (cells 0) n) cells d within (omega arith)), rows-have n n cells d within))

-- the same cells are those of the same rows
same-number : (a b : ℕ) → ((j : ℕ) → nat_lt j a ≡ nat_lt j b) → a ≡ b
same-number a b each =
    let low = each a in let high = each b in elim (cases_lt a b) [
      | inl l ↦ let none = le-ltb a a (omega arith) in let some = lt-ltb a b l in absurd (cc)
      | inr l ↦ elim (cases_lt b a) [
        | inl m ↦ let none = le-ltb b b (omega arith) in let some = lt-ltb b a m in absurd (cc)
        | inr m ↦ omega arith
      ]
    ]

pub diagram-once : (a b : List ℕ) → IsDiagram a → IsDiagram b → HasCells a (has b) → a ≡ b
diagram-once [] [] da db each = refl
diagram-once [] (y ∷ ys) da db each = let none = each 0 0 in let some = lt-ltb 0 y db.0 in let zero = le-ltb 0 0 (omega arith) in absurd (cc)
diagram-once (x ∷ xs) [] da db each = let none = each 0 0 in let some = lt-ltb 0 x da.0 in let zero = le-ltb 0 0 (omega arith) in absurd (cc)
diagram-once (x ∷ xs) (y ∷ ys) da db each =
    ap (λ z. z ∷ xs) (same-number x y (each 0)) ∙ ap (λ zs. y ∷ zs) (diagram-once xs ys (falling_is_diagram x xs da.1) (falling_is_diagram y ys db.1) (λ i j. each (suc i) j))

pub rows-descend : (rows : List ℕ) (i : ℕ) → IsDiagram rows → slice_index rows (suc i) ≤ slice_index rows i
rows-descend [] i d = omega arith
rows-descend (row ∷ []) zero d = omega arith
rows-descend (row ∷ next ∷ rows) zero d = d.1.1
rows-descend (row ∷ rows) (suc i) d = rows-descend rows i (falling_is_diagram row rows d.1)

pub has-lower_row : (rows : List ℕ) (i j : ℕ) → IsDiagram rows → has rows (suc i) j ≡ true → has rows i j ≡ true
has-lower_row rows i j d h = let falls = rows-descend rows i d in grind (arith, nat_tests)

pub has-lower : (rows : List ℕ) (i j : ℕ) → has rows i (suc j) ≡ true → has rows i j ≡ true
has-lower rows i j h = grind (arith, nat_tests)

pub row-past : (rows : List ℕ) (i : ℕ) → length rows ≤ i → slice_index rows i ≡ 0
row-past [] i l = refl
row-past (row ∷ rows) zero l = absurd (omega arith)
row-past (row ∷ rows) (suc i) l = row-past rows i (omega arith)

pub has-below : (rows : List ℕ) → IsDiagram rows → IsBelow (reach rows) (has rows)
has-below rows d = λ i j h. let some = ltb-true j (slice_index rows i) h in (first i j some, second i j some)
  where
    first : (i j : ℕ) → j < slice_index rows i → i < reach rows
    first i j some = elim (cases_lt i (length rows)) [
      | inl l ↦ omega arith
      | inr l ↦ let none = row-past rows i l in absurd (omega arith)
    ]

    second : (i j : ℕ) → j < slice_index rows i → j < reach rows
    second i j some = let falls = falls-row (slice_index rows 0) rows (diagram-falls rows d) i in omega arith

pub diagrams-are-sets : DiagramsAreSets
diagrams-are-sets = record {
  closed = λ rows d. record { first = λ i j. has-lower_row rows i j d; second = has-lower rows };
  finite = has-below;
  every = every-set;
  once = diagram-once;
}
