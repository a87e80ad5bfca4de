use Rattle.std.proofs.Common.{◌≡◌, suc, ◌+◌, ℤ, pos, ◌+ℤ◌, List, take}
use Rattle.tv_cells.specs.Extras.{extent, AreDiagrams}
use Rattle.tv_spec_slices.specs.Slices.{Shape}
use Rattle.tv_laws_sums.specs.Laws.{AreLow}
use Rattle.tv_sums.specs.Plans.{plan_for}
use Rattle.tv_sums.specs.Parts.{all_done, has_key, IsPart, IsEnd}
use Rattle.tv_sums.proofs.slices.last_slices.Given as goal

abbrev pub invariant-loop-j : goal.invariant-loop-j
invariant-loop-j g l =
    (old : ℤ) (slices : List Shape) → AreDiagrams l.legs → l.t ≡ old +ℤ pos 1 → l.plan ≡ plan_for l.plan.k old l.plan.top l.plan.n → l.plan.top ≡ suc (l.plan.k + extent l.legs) → AreLow l.plan.top l.plan.n slices →
    IsPart g.C.Ring.ring l.legs old l.plan l.plan.n slices all_done l.table.entries → IsEnd g.C.Ring.ring l.legs old l.plan slices (has_key (take l.j l.table.entries)) l.all.entries
