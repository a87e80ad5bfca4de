-- Extras with a cell are at least as many as its room, and a greater cell has no less room.
use Rattle.std.proofs.Common.{◌≡◌, ℕ, zero, suc, ◌+◌, ◌-◌, ◌<◌, ◌≤◌, Bool, true, false, ◌||◌, List, [], ◌∷◌, length, slice_index, arith, refl, sym, ◌∙◌, ap, inl, inr}
use Rattle.std.specs.Prelude.{cond, filter, max, nat_eq, nat_lt, nat_le}
use Rattle.std.specs.List.{list_any}
use Rattle.std.proofs.lemmas.Bool.{and_from, cases_lt, le-ltb}
use Rattle.std.proofs.lemmas.Bool.Decides.{nat_tests}
use Rattle.tv_ring.specs.Sums.{total_below}
use Rattle.tv_ring.proofs.Sums.{total_below-≤, total_below-fewer, total_below-more, total_below-none}
use Rattle.tv_partition.specs.Rows.{has}
use Rattle.tv_cells.specs.declared.cell.Cell.{Cell}
use Rattle.tv_cells.specs.declared.legs.Legs.{Legs}
use Rattle.tv_cells.specs.Cells.{cell, same}
use Rattle.tv_cells.specs.Extras.{bit, in_union, is_extras, AreDiagrams, IsDownClosed}
use Rattle.tv_cells.proofs.Downward.{union_closed}
use Rattle.tv_laws_counts.proofs.Lines.{AreDifferent, line_length}
use Rattle.tv_laws_counts.proofs.Rises.{any-filter}
use Rattle.tv_extras.specs.Room.{column_room, row_room, room, is_worth}

-- ---- a greater cell has no less room

column-grows : (b : Bool) (base h more : ℕ) → h ≤ more → cond b 0 (h - base) ≤ cond b 0 (more - base)
column-grows true base h more l = omega arith
column-grows false base h more l = omega arith

sum-grows : (f g : ℕ → ℕ) (m n : ℕ) → m ≤ n → ((i : ℕ) → f i ≤ g i) → total_below f m ≤ total_below g n
sum-grows f g m n l each =
    let at : m + (n - m) ≡ n = omega arith in
    let fewer : total_below g m ≤ total_below g n = rw at at (total_below-fewer g m (n - m)) in
    let below = total_below-≤ f g m (λ i h. each i) in
    omega arith

row-grows : (legs : Legs) (x m n h more : ℕ) → m ≤ n → h ≤ more → row_room legs x m h ≤ row_room legs x n more
unfolding row_room column_room
row-grows legs x m n h more l k =
    sum-grows (λ y. column_room legs x y h) (λ y. column_room legs x y more) m n l
    (λ y. column-grows (has legs.along_z x y) (max (slice_index legs.along_x y) (slice_index legs.along_y x)) h more k)

pub room-grows : (legs : Legs) (c d : Cell) → c.x ≤ d.x → c.y ≤ d.y → c.z ≤ d.z → room legs c ≤ room legs d
unfolding room
room-grows legs c d lx ly lz =
    sum-grows (λ x. row_room legs x (suc c.y) (suc c.z)) (λ x. row_room legs x (suc d.y) (suc d.z)) (suc c.x) (suc d.x) (omega arith)
    (λ x. row-grows legs x (suc c.y) (suc d.y) (suc c.z) (suc d.z) (omega arith) (omega arith))

pub worth-grows : (legs : Legs) (most : ℕ) (c d : Cell) → c.x ≤ d.x → c.y ≤ d.y → c.z ≤ d.z → is_worth legs most c ≡ false → is_worth legs most d ≡ false
unfolding is_worth
worth-grows legs most c d lx ly lz off = more (room legs c) (room legs d) (room-grows legs c d lx ly lz) off
  where
    more : (m n : ℕ) → m ≤ n → nat_le m most ≡ false → nat_le n most ≡ false
    more m n l e = grind (arith, nat_tests)

-- ---- the parts of a list by a number

abbrev part : (Cell → ℕ) → List Cell → ℕ → List Cell
part key cells k = filter (λ c. nat_eq (key c) k) cells

abbrev from : (Cell → ℕ) → List Cell → ℕ → List Cell
from key cells k = filter (λ c. nat_le k (key c)) cells

from-next : (key : Cell → ℕ) (cells : List Cell) (k : ℕ) → length (from key cells k) ≡ length (part key cells k) + length (from key cells (suc k))
from-next key [] k = omega arith
from-next key (c ∷ cells) k = step (key c) (from-next key cells k)
  where
    step : (n : ℕ) → length (from key cells k) ≡ length (part key cells k) + length (from key cells (suc k)) → length (cond (nat_le k n) (c ∷ from key cells k) (from key cells k)) ≡ length (cond (nat_eq n k) (c ∷ part key cells k) (part key cells k)) + length (cond (nat_le (suc k) n) (c ∷ from key cells (suc k)) (from key cells (suc k)))
    step n e = by (nat_le k n) (nat_eq n k) (nat_le (suc k) n) refl refl refl
      where
        by : (a b d : Bool) → nat_le k n ≡ a → nat_eq n k ≡ b → nat_le (suc k) n ≡ d → length (cond a (c ∷ from key cells k) (from key cells k)) ≡ length (cond b (c ∷ part key cells k) (part key cells k)) + length (cond d (c ∷ from key cells (suc k)) (from key cells (suc k)))
        by true true false p q r = omega arith
        by true false true p q r = omega arith
        by false false false p q r = omega arith
        by true true true p q r = absurd (grind (arith, nat_tests))
        by true false false p q r = absurd (grind (arith, nat_tests))
        by false true d p q r = absurd (grind (arith, nat_tests))
        by false false true p q r = absurd (grind (arith, nat_tests))

from-all : (key : Cell → ℕ) (cells : List Cell) (k : ℕ) → length (from key cells k) ≤ length cells
from-all key [] k = omega arith
from-all key (c ∷ cells) k = step (nat_le k (key c)) (from-all key cells k)
  where
    step : (b : Bool) → length (from key cells k) ≤ length cells → length (cond b (c ∷ from key cells k) (from key cells k)) ≤ suc (length cells)
    step true l = omega arith
    step false l = omega arith

parts-from : (key : Cell → ℕ) (cells : List Cell) (n : ℕ) → total_below (λ k. length (part key cells k)) n + length (from key cells n) ≤ length cells
parts-from key cells zero = let none = total_below-none (λ k. length (part key cells k)) in let all = from-all key cells 0 in omega arith
parts-from key cells (suc n) =
    let more = total_below-more (λ k. length (part key cells k)) n in
    let next = from-next key cells n in
    let before = parts-from key cells n in
    omega arith

parts-le : (key : Cell → ℕ) (cells : List Cell) (n : ℕ) → total_below (λ k. length (part key cells k)) n ≤ length cells
parts-le key cells n = let all = parts-from key cells n in omega arith

-- ---- extras with a cell

down : (row : ℕ → Bool) → ((j : ℕ) → row (suc j) ≡ true → row j ≡ true) → (n j : ℕ) → j ≤ n → row n ≡ true → row j ≡ true
down row step zero j l e = let last : j ≡ 0 = omega arith in ap row last ∙ e
down row step (suc n) j l e = elim (cases_lt j (suc n)) [
  | inl less ↦ down row step n j (omega arith) (step n e)
  | inr not_less ↦ let last : j ≡ suc n = omega arith in ap row last ∙ e
]

-- a set closed downwards has with a cell all that have no greater entry
all-down : (P : Cell → Bool) → IsDownClosed P → (c : Cell) (x y z : ℕ) → x ≤ c.x → y ≤ c.y → z ≤ c.z → P c ≡ true → P (cell x y z) ≡ true
all-down P closed c x y z lx ly lz e =
    let first : P (cell x c.y c.z) ≡ true = down (λ v. P (cell v c.y c.z)) (λ j. closed.along_x j c.y c.z) c.x x lx e in
    let second : P (cell x y c.z) ≡ true = down (λ v. P (cell x v c.z)) (λ j. closed.along_y x j c.z) c.y y ly first in
    down (λ v. P (cell x y v)) (λ j. closed.along_z x y j) c.z z lz second

beside : (a b c m : Bool) → a ≡ false → b ≡ false → c ≡ false → (nat_lt 0 ((bit a + bit b) + bit c) || m) ≡ true → m ≡ true
beside false false false m p q r h = h
beside true b c m p q r h = cc
beside false true c m p q r h = cc
beside false false true m p q r h = cc

different : (x y base : ℕ) → AreDifferent (λ j. cell x y (base + j))
different x y base j k h = grind (arith, nat_tests)

same_number : (n : ℕ) → nat_eq n n ≡ true
same_number n = grind (arith, nat_tests)

module _ (legs : Legs) (cells : List Cell) (c : Cell) (diagrams : AreDiagrams legs) (extras : is_extras legs cells ≡ true) (member : in_union legs cells c ≡ true) where
  -- those over (x, y)
  abbrev over : ℕ → ℕ → List Cell
  over x y = part (λ d. d.y) (part (λ d. d.x) cells x) y

  here : (x y z : ℕ) → x ≤ c.x → y ≤ c.y → z ≤ c.z → has legs.along_z x y ≡ false → slice_index legs.along_x y ≤ z → slice_index legs.along_y x ≤ z → list_any (same (cell x y z)) (over x y) ≡ true
  here x y z lx ly lz off lower other =
      let among : list_any (same (cell x y z)) cells ≡ true =
      beside (has legs.along_x y z) (has legs.along_y x z) (has legs.along_z x y) (list_any (same (cell x y z)) cells) (le-ltb z (slice_index legs.along_x y) lower) (le-ltb z (slice_index legs.along_y x) other) off
      (all-down (in_union legs cells) (union_closed legs cells diagrams extras) c x y z lx ly lz member) in
      any-filter (λ d. nat_eq d.y y) (cell x y z) (part (λ d. d.x) cells x)
      ∙ and_from (list_any (same (cell x y z)) (part (λ d. d.x) cells x)) (nat_eq y y) (any-filter (λ d. nat_eq d.x x) (cell x y z) cells ∙ and_from (list_any (same (cell x y z)) cells) (nat_eq x x) among (same_number x)) (same_number y)

  column-le : (x y : ℕ) → x ≤ c.x → y ≤ c.y → column_room legs x y (suc c.z) ≤ length (over x y)
  unfolding column_room
  column-le x y lx ly = by (has legs.along_z x y) refl
    where
      base : ℕ
      base = max (slice_index legs.along_x y) (slice_index legs.along_y x)

      by : (b : Bool) → has legs.along_z x y ≡ b → cond b 0 (suc c.z - base) ≤ length (over x y)
      by true e = omega arith
      by false e = elim (cases_lt c.z base) [
        | inl l ↦ omega arith
        | inr l ↦ let many : c.z - base < length (over x y) = line_length (λ j. cell x y (base + j)) (different x y base) (c.z - base) (over x y) (λ j h. here x y (base + j) lx ly (omega arith) e (omega arith) (omega arith)) in omega arith
      ]

  row-le : (x : ℕ) → x ≤ c.x → row_room legs x (suc c.y) (suc c.z) ≤ length (part (λ d. d.x) cells x)
  unfolding row_room
  row-le x lx =
      let each = total_below-≤ (λ y. column_room legs x y (suc c.z)) (λ y. length (over x y)) (suc c.y) (λ y h. column-le x y lx (omega arith)) in
      let all = parts-le (λ d. d.y) (part (λ d. d.x) cells x) (suc c.y) in
      omega arith

  pub room-le : room legs c ≤ length cells
  unfolding room
  room-le =
      let each = total_below-≤ (λ x. row_room legs x (suc c.y) (suc c.z)) (λ x. length (part (λ d. d.x) cells x)) (suc c.x) (λ x h. row-le x (omega arith)) in
      let all = parts-le (λ d. d.x) cells (suc c.x) in
      omega arith

-- ---- the room of a cell, added up column by column

pub row-none : (legs : Legs) (x h : ℕ) → row_room legs x 0 h ≡ 0
unfolding row_room
row-none legs x h = total_below-none (λ y. column_room legs x y h)

pub row-more : (legs : Legs) (x y h : ℕ) → row_room legs x (y + 1) h ≡ row_room legs x y h + column_room legs x y h
unfolding row_room
row-more legs x y h = let up : y + 1 ≡ suc y = omega arith in rw up (total_below-more (λ v. column_room legs x v h) y)

pub row-within : (legs : Legs) (x y width h : ℕ) → y < width → row_room legs x y h + column_room legs x y h ≤ row_room legs x width h
row-within legs x y width h l = let more = row-more legs x y h in let grows = row-grows legs x (y + 1) width h h (omega arith) (omega arith) in omega arith

-- the columns over the first i places
abbrev pub rows_room : Legs → ℕ → ℕ → ℕ → ℕ
rows_room legs y z i = total_below (λ x. row_room legs x (suc y) (suc z)) i

pub rows-none : (legs : Legs) (y z : ℕ) → rows_room legs y z 0 ≡ 0
rows-none legs y z = total_below-none (λ x. row_room legs x (suc y) (suc z))

pub rows-more : (legs : Legs) (y z i : ℕ) → rows_room legs y z (i + 1) ≡ rows_room legs y z i + row_room legs i (y + 1) (z + 1)
rows-more legs y z i =
    let up : i + 1 ≡ suc i = omega arith in
    let wide : y + 1 ≡ suc y = omega arith in
    let high : z + 1 ≡ suc z = omega arith in
    rw (up, wide, high) (total_below-more (λ x. row_room legs x (suc y) (suc z)) i)

not_le : (m n : ℕ) → n < m → nat_le m n ≡ false
not_le m n l = grind (arith, nat_tests)

is_le : (m n : ℕ) → m ≤ n → nat_le m n ≡ true
is_le m n l = grind (arith, nat_tests)

pub worth-not : (legs : Legs) (most x y z i left : ℕ) → left + rows_room legs y z i ≡ most → left < row_room legs i (y + 1) (z + 1) → i < x + 1 → false ≡ is_worth legs most (cell x y z)
unfolding is_worth room
worth-not legs most x y z i left so_far beyond l =
    let more = rows-more legs y z i in
    let grows : rows_room legs y z (i + 1) ≤ rows_room legs y z (suc x) = sum-grows (λ x. row_room legs x (suc y) (suc z)) (λ x. row_room legs x (suc y) (suc z)) (i + 1) (suc x) (omega arith) (λ v. omega arith) in
    sym (not_le (rows_room legs y z (suc x)) most (omega arith))

pub worth-is : (legs : Legs) (most x y z i left : ℕ) → left + rows_room legs y z i ≡ most → i ≡ x + 1 → true ≡ is_worth legs most (cell x y z)
unfolding is_worth room
worth-is legs most x y z i left so_far e =
    let up : i ≡ suc x = omega arith in
    let all : left + rows_room legs y z (suc x) ≡ most = rw up at so_far in
    sym (is_le (rows_room legs y z (suc x)) most (omega arith))
