-- What a stage of the lister has still to give, as it goes on to the next one.
use Rattle.std.proofs.Common.{◌≡◌, ℕ, ◌≤◌, List, ◌++◌, map, sym, ◌∙◌, ap, arith, w64, to_z, of_z}
use Rattle.std.specs.Prelude.{ℤ, pos, ◌+ℤ◌, ◌-ℤ◌, unsigned_abs}
use Rattle.std.proofs.lemmas.Int.{ints}
use Rattle.tv_spec_plane.specs.Web.{Web}
use Rattle.tv_cells.specs.declared.cell.Cell.{Cell}
use Rattle.tv_cells.specs.declared.legs.Legs.{Legs}
use Rattle.tv_spec_boxes.specs.Assignments.{Assignment, no_legs, all_legs, edge_costs, overlaps_of}
use Rattle.tv_spec_boxes.specs.Configurations.{fillings, fillings_of, boxes_left, configuration, configurations_on}
use Rattle.tv_extras.specs.Standing.{Standing as Fill}
use Rattle.tv_boxes.specs.Stages.{given, later}
use Rattle.tv_boxes.specs.declared.stages.Stage.{Stage}
use Rattle.tv_boxes.specs.declared.stages.Stage.TheVariants.{Chosen, Listing}

-- an assignment has the configurations of the fillings by the boxes that are left
left-are : (costs overlaps start n : ℤ) (k : ℕ) → start ≡ costs -ℤ overlaps → start +ℤ pos k ≡ n → ((n -ℤ costs) +ℤ overlaps) ≡ pos k
left-are costs overlaps start n k e h = omega (arith, ints)

pub filled-on : (w : Web) (a : Assignment) (n start : ℤ) (legs read : List Legs) (k : ℕ) (fills : List (List (List Cell))) → legs ≡ all_legs w a (no_legs w) → read ≡ legs → start ≡ edge_costs w a -ℤ pos (overlaps_of read) → start +ℤ pos k ≡ n → fills ≡ fillings legs k k → map (configuration a) fills ≡ configurations_on w (no_legs w) a n
filled-on w a n start legs read k fills el er es en ef =
    let corners : List Legs = all_legs w a (no_legs w) in
    let costs : start ≡ edge_costs w a -ℤ pos (overlaps_of corners) = es ∙ ap (λ ls. edge_costs w a -ℤ pos (overlaps_of ls)) (er ∙ el) in
    let left : boxes_left w (no_legs w) a n ≡ pos k = left-are (edge_costs w a) (pos (overlaps_of corners)) start n k costs en in
    ap (map (configuration a)) (ef ∙ (ap (λ ls. fillings ls k k) el ∙ sym (ap (fillings_of corners) left)))

-- stages that have the same to give, whatever comes later
pub prepared-same : (w : Web) (n : ℤ) (st : Stage) (a : Assignment) (f g : Fill) (all : List Assignment) → st ≡ Chosen → map (configuration a) g.to_come ≡ configurations_on w (no_legs w) a n → given w n Listing a g ++ later w n all ≡ given w n st a f ++ later w n all
prepared-same w n st a f g all e same = rw e (ap (λ cs. cs ++ later w n all) same)

-- numbers of 64 bits that are not near the end of their range
pub chi_read : (n : ℤ) → unsigned_abs n ≤ 64 → to_z w64 (of_z w64 n) ≡ n
chi_read n h = omega (arith, ints)

pub left_read : (start n : ℤ) (k : ℕ) → unsigned_abs n ≤ 64 → unsigned_abs start ≤ 10000000 → to_z w64 (of_z w64 start) +ℤ pos k ≡ to_z w64 (of_z w64 n) → start +ℤ pos k ≡ n
left_read start n k h l e = omega (arith, ints)
