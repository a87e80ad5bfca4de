-- Where the coefficients of listed assignments start, and how many boxes are left at most.
use Rattle.std.specs.Prelude.{◌≡◌, ℕ, ℤ, pos, negsuc, ◌+ℤ◌, ◌-ℤ◌, ◌*ℤ◌, ◌≤ℤ◌, ◌<ℤ◌, List, [], ◌∷◌}
use Rattle.std.specs.Int.{int_min}
use Rattle.std.specs.List.{AllByRecursion}
use Rattle.std.proofs.Common.{refl, ap, ◌∙◌, arith}
use Rattle.std.proofs.lemmas.Int.{ints}
use Rattle.tv_lemmas.specs.Naturals.{as_natural}
use Rattle.tv_spec_plane.specs.declared.records.CompactEdge.{CompactEdge}
use Rattle.tv_spec_plane.specs.Web.{Web, compact}
use Rattle.tv_cells.specs.declared.legs.Legs.{Legs}
use Rattle.tv_spec_boxes.specs.Assignments.{Rows, Assignment, all_legs, assignments, sum_on, cost_by, edge_costs, overlaps_of}
use Rattle.tv_spec_boxes.specs.Configurations.{boxes_left}
use Rattle.tv_spec_boxes.specs.Numbers.{fall_by, low_of, least, lowest, box_bound}
use Rattle.tv_laws_counts.specs.Ways.{ways_at, start_of, assignment_sign, assignment_coefficient}
use Rattle.tv_laws_counts.specs.Laws.{BoxesWithin, StartsAbove, NoneBelowStart}
use Rattle.tv_lemmas.proofs.Members.{all-onto, all-contains}
use Rattle.tv_lemmas.proofs.Naturals.{as_natural-above}

int_min-left : (x y : ℤ) → int_min x y ≤ℤ x
int_min-left x y = grind (arith, ints)

pub int_min-right : (x y : ℤ) → int_min x y ≤ℤ y
int_min-right x y = grind (arith, ints)

pub least-none : {A : Type 0} (f : A → ℤ) (xs : List A) → least f xs ≤ℤ pos 0
unfolding least
least-none f [] = omega (arith, ints)
least-none f (x ∷ xs) = let step = int_min-right (f x) (least f xs) in let rest = least-none f xs in omega (arith, ints)

pub least-each : {A : Type 0} (f : A → ℤ) (xs : List A) → AllByRecursion (λ x. least f xs ≤ℤ f x) xs
unfolding least
least-each f [] = tt
least-each f (x ∷ xs) =
    (int_min-left (f x) (least f xs), all-onto (λ y. least f xs ≤ℤ f y) (λ y. int_min (f x) (least f xs) ≤ℤ f y) (λ y h. let step = int_min-right (f x) (least f xs) in omega (arith, ints)) xs (least-each f xs))

falls-low : (w : Web) (es : List CompactEdge) (a : Assignment) → sum_on (fall_by w) es a ≤ℤ sum_on (cost_by w) es a
falls-low w [] a = omega (arith, ints)
falls-low w (e ∷ es) [] = omega (arith, ints)
falls-low w (e ∷ es) (rows ∷ a) = sums-low (cost_by w e rows) (sum_on (fall_by w) es a) (sum_on (cost_by w) es a) (falls-low w es a)
  where
    sums-low : (x y z : ℤ) → y ≤ℤ z → (int_min (pos 0) x +ℤ y) ≤ℤ (x +ℤ z)
    sums-low x y z h = let step = int_min-right (pos 0) x in omega (arith, ints)

low-start : (w : Web) (fixed : List Rows) (a : Assignment) → low_of w fixed a ≤ℤ start_of w fixed a
low-start w fixed a = let falls = falls-low w (compact w) a in omega (arith, ints)

pub starts_above : StartsAbove
unfolding lowest
starts_above w fixed d a among =
    let low : least (low_of w fixed) (assignments w d) ≤ℤ low_of w fixed a = all-contains (λ b. least (low_of w fixed) (assignments w d) ≤ℤ low_of w fixed b) (assignments w d) a (least-each (low_of w fixed) (assignments w d)) among in
    let start = low-start w fixed a in omega (arith, ints)

pub lowest-none : (w : Web) (fixed : List Rows) (d : ℕ) → lowest w fixed d ≤ℤ pos 0
unfolding lowest
lowest-none w fixed d = least-none (low_of w fixed) (assignments w d)

-- in plain numbers
within_bound : (i n costs overlaps low : ℤ) → low ≤ℤ pos 0 → low ≤ℤ (costs -ℤ overlaps) → i ≤ℤ n → ((i -ℤ costs) +ℤ overlaps) ≤ℤ pos (box_bound n low)
within_bound i n costs overlaps low none start h = let above = as_natural-above ((n -ℤ low) -ℤ low) in omega (arith, ints)

pub boxes_within : BoxesWithin
boxes_within w fixed d a i n among h =
    within_bound i n (edge_costs w a) (pos (overlaps_of (all_legs w a fixed))) (lowest w fixed d) (lowest-none w fixed d) (starts_above w fixed d a among) h

ways_at-below : (legs : List Legs) (z : ℤ) → z <ℤ pos 0 → ways_at legs z ≡ 0
ways_at-below legs (pos n) h = absurd (omega (arith, ints))
ways_at-below legs (negsuc n) h = refl

pub none_below_start : NoneBelowStart
unfolding assignment_coefficient
none_below_start w fixed a n h =
    let none : ways_at (all_legs w a fixed) (boxes_left w fixed a n) ≡ 0 = ways_at-below (all_legs w a fixed) (boxes_left w fixed a n) (omega (arith, ints)) in
    ap (λ k. assignment_sign w a n *ℤ pos k) none ∙ omega (arith, ints)
