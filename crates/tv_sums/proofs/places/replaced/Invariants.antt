use Rattle.std.proofs.Common.{◌≡◌, suc, ℤ, true, List, take}
use Rattle.std.specs.List.{AllByRecursion}
use Rattle.tv_spec_slices.specs.Slices.{Shape}
use Rattle.tv_laws_sums.specs.Laws.{AreLow}
use Rattle.tv_sums.specs.Plans.{plan_for}
use Rattle.tv_sums.specs.Parts.{all_done, grouped, IsPart}
use Rattle.tv_sums.proofs.places.replaced.Given as goal

abbrev pub invariant-loop-j : goal.invariant-loop-j
invariant-loop-j g l =
    AllByRecursion (λ e. grouped l.plan l.i l.done.entries e.0 ≡ true) (take l.j l.table.entries)
    × ((t : ℤ) (slices : List Shape) → l.plan ≡ plan_for l.plan.k t l.plan.top l.plan.n → AreLow l.plan.top l.plan.n slices → IsPart g.C.Ring.ring l.legs t l.plan l.i slices all_done l.table.entries →
    IsPart g.C.Ring.ring l.legs t l.plan (suc l.i) slices (grouped l.plan l.i l.done.entries) l.next.entries)
