use Rattle.std.proofs.Common.{◌≡◌, suc, ◌+◌, ◌<◌, ◌≤◌, subst, arith}
use Rattle.std.specs.List.{AllByRecursion}
use Rattle.std.specs.Map.{keys_of}
use Rattle.tv_cells.specs.Extras.{extent}
use Rattle.tv_spec_slices.specs.Slices.{reach}
use Rattle.tv_laws_sums.specs.Laws.{AreLow}
use Rattle.tv_sums.proofs.Shared.{rows-few, rows-low, rows-short}
use Rattle.tv_sums.proofs.table.plan_above.Goals as goal

pub returns-clause-small : goal.returns-clause-small
returns-clause-small g c =
    let legs = c.args.legs.now in let k = c.args.k in let es = c.args.table.now.entries in
    let few = c.requires.few in let extent_is = c.extent.ensures.value in let small = c.extent.ensures.bound in
    let far : c.longest.result ≤ k + extent legs = c.longest.ensures.least (k + extent legs) (rows-few legs k c.args.t c.known.ensures.diagrams es c.requires.table.suits) in
    record {
      k = few;
      x = c.x_from.ensures.bound;
      y = c.y_from.ensures.bound;
      top = omega arith;
      n = omega arith;
    }

pub returns-clause-low : goal.returns-clause-low
returns-clause-low g c =
    let legs = c.args.legs.now in let k = c.args.k in let es = c.args.table.now.entries in
    let next : suc c.longest.result ≡ c.longest.result + 1 = omega arith in
    let top : c.args.k + c.extent.result + 1 ≡ suc (k + extent legs) = let e = c.extent.ensures.value in omega arith in
    subst (λ n. AreLow (c.args.k + c.extent.result + 1) n (keys_of es)) next (rows-low legs k c.args.t c.known.ensures.diagrams (c.args.k + c.extent.result + 1) c.longest.result es top c.requires.table.suits c.longest.ensures.each)

pub returns-clause-short : goal.returns-clause-short
returns-clause-short g c =
    let es = c.args.table.now.entries in
    let next : suc c.longest.result ≡ c.longest.result + 1 = omega arith in
    subst (λ n. AllByRecursion (λ a. reach a < n) (keys_of es)) next (rows-short c.args.legs.now c.args.k c.args.t c.known.ensures.diagrams c.longest.result es c.longest.ensures.each)
