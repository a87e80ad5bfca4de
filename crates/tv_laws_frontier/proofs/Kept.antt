-- Through n nothing is dropped: what the later edges and corners lower an exponent by is no more than the lowest says.
use Rattle.std.specs.Prelude.{◌≡◌, Contains, ℕ, zero, suc, ◌+◌, ◌≤◌, Bool, true, false, cond, int_le, ℤ, pos, negsuc, ◌+ℤ◌, ◌-ℤ◌, ◌≤ℤ◌, List, [], length, take}
use Rattle.std.proofs.Common.{refl, sym, ap, ◌∙◌, arith}
use Rattle.std.proofs.lemmas.Int.{ints}
use Rattle.std.proofs.lemmas.List.{length-map}
use Rattle.tv_lemmas.proofs.Members.{all-contains}
use Rattle.tv_spec_plane.specs.Web.{Web, compact, corners, corner_of}
use Rattle.tv_cells.specs.declared.legs.Legs.{Legs}
use Rattle.tv_cells.specs.Costs.{overlap_cost}
use Rattle.tv_cells.specs.Extras.{count, empty_legs}
use Rattle.tv_spec_boxes.specs.Assignments.{Rows, Assignment, sum_on, legs_of, all_legs, assignments, overlaps_of}
use Rattle.tv_spec_boxes.specs.Numbers.{fall_by, low_of, least, lowest}
use Rattle.tv_spec_partial.specs.Partial.{is_met}
use Rattle.tv_laws_counts.specs.Ways.{convolved, ways, corner_ways, ways_at}
use Rattle.tv_laws_counts.proofs.Bounds.{least-each}
use Rattle.tv_laws_counts.proofs.Convolutions.{convolved-same}
use Rattle.tv_laws_counts.proofs.CornerWays.{front-next}
use Rattle.tv_laws_frontier.specs.Frontier.{only, start_after, corner_legs, through, kept_ways, at_number, kept_upto}
use Rattle.tv_laws_frontier.specs.Laws.{KeptAreAll}
use Rattle.tv_laws_frontier.proofs.Picked.{rise_by, rise-empty, rise-least, fall-empty, fall-least, more-picked, fewer-picked, falls-most, rises-are, met-later, sum_of-front}

pub legs-long : (w : Web) (fixed : List Rows) (a : Assignment) → length (all_legs w a fixed) ≡ length w.triangles
legs-long w fixed a = length-map (corners w) (legs_of a fixed) ∙ length-map w.triangles (corner_of w)

pub through-within : (m i : ℤ) (k : ℕ) → i ≤ℤ m → through m i k ≡ k
through-within m i k h = let yes : int_le i m ≡ true = grind (arith, ints) in rw yes refl

pub through-less : (m i : ℤ) (k : ℕ) → through m i k ≤ k
through-less m i k = by_test (int_le i m)
  where
    by_test : (b : Bool) → cond b k 0 ≤ k
    by_test true = omega arith
    by_test false = omega arith

-- the rises of the edges that are met
abbrev risen : Web → ℕ → Assignment → ℤ
risen w t a = sum_on (rise_by w) (compact w) (only (is_met t) (compact w) a)

abbrev fallen : Web → ℕ → Assignment → ℤ
fallen w t a = sum_on (fall_by w) (compact w) (only (is_met t) (compact w) a)

risen-later : (w : Web) (t : ℕ) (a : Assignment) → risen w t a ≤ℤ risen w (suc t) a
risen-later w t a = more-picked (rise_by w) (rise-empty w) (is_met t) (is_met (suc t)) (rise-least w) (met-later t) (compact w) a

-- an exponent is at most the rises and the boxes
start-risen : (w : Web) (fixed : List Rows) (t : ℕ) (a : Assignment) → start_after w fixed t a ≤ℤ risen w t a
start-risen w fixed t a =
    let met = only (is_met t) (compact w) a in
    omega (arith, ints, rises-are w (compact w) met, falls-most w (compact w) met)

pub kept_within : (w : Web) (fixed : List Rows) (m : ℤ) (a : Assignment) (t : ℕ) → t ≤ length w.triangles → (b : ℕ) → (risen w t a +ℤ pos b) ≤ℤ m → kept_ways w fixed m t a b ≡ corner_ways (take t (all_legs w a fixed)) b
unfolding kept_ways
kept_within w fixed m a zero within b h =
    through-within m (start_after w fixed 0 a +ℤ pos b) (ways [] b) (omega (arith, ints, start-risen w fixed 0 a))
kept_within w fixed m a (suc t) within b h =
    let legs = all_legs w a fixed in
    let long = legs-long w fixed a in
    let up : t + 1 ≡ suc t = omega arith in
    through-within m (start_after w fixed (suc t) a +ℤ pos b) (convolved (kept_ways w fixed m t a) (count (corner_legs w fixed t a)) b) (omega (arith, ints, start-risen w fixed (suc t) a))
    ∙ (convolved-same (kept_ways w fixed m t a) (corner_ways (take t legs)) (count (corner_legs w fixed t a)) (count (corner_legs w fixed t a)) b (λ i fewer. kept_within w fixed m a t (omega arith) i (omega (arith, ints, risen-later w t a))) (λ i fewer. refl)
    ∙ (sym (front-next legs t b empty_legs (omega arith)) ∙ ap (λ s. corner_ways (take s legs) b) up))

-- what is fallen so far is no lower than the lowest
pub fallen-lowest : (w : Web) (fixed : List Rows) (d t : ℕ) (a : Assignment) → Contains (assignments w d) a → lowest w fixed d ≤ℤ (fallen w t a -ℤ pos (overlaps_of (take t (all_legs w a fixed))))
unfolding lowest
fallen-lowest w fixed d t a among =
    let low : least (low_of w fixed) (assignments w d) ≤ℤ low_of w fixed a = all-contains (λ b. least (low_of w fixed) (assignments w d) ≤ℤ low_of w fixed b) (assignments w d) a (least-each (low_of w fixed) (assignments w d)) among in
    let falls : sum_on (fall_by w) (compact w) a ≤ℤ fallen w t a = fewer-picked (fall_by w) (fall-empty w) (is_met t) (fall-least w) (compact w) a in
    let fewer : overlaps_of (take t (all_legs w a fixed)) ≤ overlaps_of (all_legs w a fixed) = sum_of-front overlap_cost t (all_legs w a fixed) in
    omega (arith, ints)

-- the rises and the boxes at an exponent through n
risen-kept : (w : Web) (fixed : List Rows) (d t : ℕ) (a : Assignment) (i n : ℤ) (b : ℕ) → Contains (assignments w d) a → i ≤ℤ n → i -ℤ start_after w fixed t a ≡ pos b → (risen w t a +ℤ pos b) ≤ℤ kept_upto w fixed d n
risen-kept w fixed d t a i n b among h e =
    omega (arith, ints, fallen-lowest w fixed d t a among, rises-are w (compact w) (only (is_met t) (compact w) a))

by_number : (f : ℕ → ℕ) (legs : List Legs) (z : ℤ) → ((b : ℕ) → z ≡ pos b → f b ≡ corner_ways legs b) → at_number f z ≡ ways_at legs z
by_number f legs (pos b) same = same b refl
by_number f legs (negsuc b) same = refl

pub kept_are_all : KeptAreAll
kept_are_all w fixed d t a i n among within h =
    by_number (kept_ways w fixed (kept_upto w fixed d n) t a) (take t (all_legs w a fixed)) (i -ℤ start_after w fixed t a)
    (λ b e. kept_within w fixed (kept_upto w fixed d n) a t within b (risen-kept w fixed d t a i n b among h e))
