use Rattle.std.proofs.Common.{◌≡◌, suc, ℤ, Bool, true, List}
use Rattle.tv_spec_slices.specs.Slices.{Shape, at}
use Rattle.tv_laws_sums.specs.Laws.{AreLow}
use Rattle.tv_sums.specs.Plans.{plan_for, are_fit}
use Rattle.tv_sums.specs.Keys.{IsKey}
use Rattle.tv_sums.specs.Parts.{all_done, IsPart}
use Rattle.tv_sums.proofs.Walked.{IsWalk, walked}
use Rattle.tv_sums.proofs.heights.push_heights.Given as goal

abbrev pub invariant-loop-m : goal.invariant-loop-m
invariant-loop-m g l =
    (t : ℤ) (slices : List Shape) (done : Shape → Bool) → l.plan ≡ plan_for l.plan.k t l.plan.top l.plan.n → AreLow l.plan.top l.plan.n slices → IsKey l.plan.top l.plan.n l.group → are_fit l.legs l.plan l.i (at l.group) ≡ true →
    IsPart g.C.Ring.ring l.legs t l.plan l.i slices all_done l.table.entries → IsPart g.C.Ring.ring l.legs t l.plan (suc l.i) slices done l.initial.next.entries →
    IsWalk g.C.Ring.ring l.legs t l.plan l.i slices (at l.group) l.m l.sum × IsPart g.C.Ring.ring l.legs t l.plan (suc l.i) slices (walked l.plan l.i l.group l.m done) l.next.entries
