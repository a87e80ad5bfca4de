-- The numbers of configurations that bound every coefficient.
--
-- fall_by w e d      == min(0, edge cost)
-- low_of w fixed a   == the sum of min(0, edge cost) over the compact edges less the overlap costs
-- least f xs         == the least of 0 and of f over the list
-- lowest w fixed d   == the least low over the assignments of degree at most d
-- box_bound n low    == max(0, n - 2 low)
-- crowd_on legs n    == the number of fillings of these corners with at most n boxes
-- crowd_at w fixed d n a == the number of fillings of the corners of an assignment with at most max(0, n - 2 lowest) boxes
-- in_degrees w d v   == the degree of v is from 0 to d
-- crowd w fixed d n v == the number of configurations of class v with at most max(0, n - 2 lowest) boxes in all; 0
--                       where the degree of v is below 0 or above d
use Rattle.std.specs.Prelude.{ℕ, suc, ℤ, pos, ◌-ℤ◌, List, [], ◌∷◌, length, Bool, cond, ◌&&◌, int_le}
use Rattle.std.specs.Int.{int_min}
use Rattle.tv_lemmas.specs.Naturals.{as_natural}
use Rattle.tv_lemmas.specs.Sums.{sum_of}
use Rattle.tv_spec_plane.specs.declared.records.CompactEdge.{CompactEdge}
use Rattle.tv_spec_plane.specs.Web.{Web, compact, below, degree_of}
use Rattle.tv_cells.specs.declared.legs.Legs.{Legs}
use Rattle.tv_spec_boxes.specs.Assignments.{Rows, Assignment, sum_on, cost_by, all_legs, assignments, assignments_of, overlaps_of}
use Rattle.tv_spec_boxes.specs.Configurations.{fillings}

abbrev pub fall_by : Web → CompactEdge → Rows → ℤ
fall_by w e d = int_min (pos 0) (cost_by w e d)

abbrev pub low_of : Web → List Rows → Assignment → ℤ
low_of w fixed a = sum_on (fall_by w) (compact w) a -ℤ pos (overlaps_of (all_legs w a fixed))

unfoldable pub least : {A : Type 0} → (A → ℤ) → List A → ℤ
least f [] = pos 0
least f (x ∷ xs) = int_min (f x) (least f xs)

unfoldable pub lowest : Web → List Rows → ℕ → ℤ
lowest w fixed d = least (low_of w fixed) (assignments w d)

abbrev pub box_bound : ℤ → ℤ → ℕ
box_bound n low = as_natural ((n -ℤ low) -ℤ low)

-- the fillings of at most n boxes
abbrev pub crowd_on : List Legs → ℕ → ℕ
crowd_on legs n = sum_of (λ i. length (fillings legs i i)) (below (suc n))

abbrev pub crowd_at : Web → List Rows → ℕ → ℤ → Assignment → ℕ
crowd_at w fixed d n a = crowd_on (all_legs w a fixed) (box_bound n (lowest w fixed d))

abbrev pub in_degrees : Web → ℕ → List ℤ → Bool
in_degrees w d v = int_le (pos 0) (degree_of w.heights v) && int_le (degree_of w.heights v) (pos d)

unfoldable pub crowd : Web → List Rows → ℕ → ℤ → List ℤ → ℕ
crowd w fixed d n v = cond (in_degrees w d v) (sum_of (crowd_at w fixed d n) (assignments_of w v)) 0
