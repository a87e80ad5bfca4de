use Rattle.std.proofs.Common.{◌≡◌, ℤ, take}
use Rattle.std.specs.Map.{keys_of}
use Rattle.tv_laws_sums.specs.Laws.{AreLow}
use Rattle.tv_slices.specs.Tables.{ways_to, IsTable}
use Rattle.tv_sums.specs.Plans.{plan_for}
use Rattle.tv_sums.specs.Parts.{all_done, IsPart}
use Rattle.tv_sums.proofs.slices.first_heights.Given as goal

abbrev pub invariant-loop-j : goal.invariant-loop-j
invariant-loop-j g l =
    (t : ℤ) → l.plan ≡ plan_for l.plan.k t l.plan.top l.plan.n → IsTable g.C.Ring.ring l.legs l.plan.k t (ways_to l.legs l.plan.k t) l.table.entries → AreLow l.plan.top l.plan.n (keys_of l.table.entries) →
    IsPart g.C.Ring.ring l.legs t l.plan 0 (keys_of (take l.j l.table.entries)) all_done l.all.entries
