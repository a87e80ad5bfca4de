use Rattle.std.proofs.Common.{◌≡◌, suc, ◌+◌, pos, ◌+ℤ◌, w32, SFits, to_z, of_z, sym, ap, ◌∙◌, subst, arith}
use Rattle.std.specs.Map.{keys_of}
use Rattle.std.proofs.lemmas.Int.{to_z-of_z}
use Rattle.std.proofs.lemmas.Result.{IfOk-weaker}
use Rattle.tv_cells.specs.Extras.{extent}
use Rattle.tv_interlace.proofs.Up.{up-fits}
use Rattle.tv_slices.specs.Tables.{IsTable}
use Rattle.tv_sums.specs.Plans.{plan_for}
use Rattle.tv_sums.specs.Parts.{summed, all_done, IsPart}
use Rattle.tv_sums.proofs.Shared.{plan-own, summed-table}
use Rattle.tv_sums.proofs.table.by_sums.Goals as goal

pub loop-i-preserved : goal.loop-i-preserved
loop-i-preserved g c =
    let r = g.C.Ring.ring in let legs = c.args.legs.now in let plan = c.plan_above-plan.result in let t = to_z w32 (of_z w32 c.args.t) in
    let keys = keys_of c.args.table.now.entries in
    let is = plan-own plan c.args.k t (suc (c.args.k + extent legs)) c.plan_above-plan.ensures.value in
    let next : suc c.loop-i.i ≡ c.loop-i.i + 1 = omega arith in
    subst (λ i. IsPart r legs t plan i keys all_done c.in_ok-heights-2.heights.entries) next (c.in_ok-heights-2.ensures t keys is c.plan_above-plan.ensures.low c.loop-i.invariant)

pub returns : goal.returns
returns g c =
    let r = g.C.Ring.ring in let legs = c.args.legs.now in let plan = c.plan_above-plan.result in let k = c.args.k in let t = c.args.t in
    let es = c.args.table.now.entries in let keys = keys_of es in let are = c.known.ensures.diagrams in
    let tz = to_z-of_z w32 t c.ranges.t in
    let up = subst (λ v. SFits w32 (v +ℤ pos 1)) (sym tz) (up-fits t c.requires.diagonal) in
    let at_t : to_z w32 (of_z w32 (to_z w32 (of_z w32 t) +ℤ pos 1)) ≡ t +ℤ pos 1 = to_z-of_z w32 (to_z w32 (of_z w32 t) +ℤ pos 1) up ∙ ap (λ v. v +ℤ pos 1) tz in
    let value : plan ≡ plan_for k t (suc (k + extent legs)) plan.n = c.plan_above-plan.ensures.value ∙ ap (λ v. plan_for k v (suc (k + extent legs)) plan.n) tz in
    let is = plan-own plan k t (suc (k + extent legs)) value in
    let same_k : plan.k ≡ k = ap (λ p. p.k) value in
    let high : plan.top ≡ suc (plan.k + extent legs) = ap (λ p. p.top) value ∙ ap (λ v. suc (v + extent legs)) (sym same_k) in
    let end : c.loop-i.i ≡ plan.n = omega arith in
    let part = subst (λ i. IsPart r legs t plan i keys all_done c.loop-i.heights.entries) end (subst (λ v. IsPart r legs v plan c.loop-i.i keys all_done c.loop-i.heights.entries) tz c.loop-i.invariant) in
    record {
      value = IfOk-weaker c.last_slices.result _ _ (λ all told.
          let table = told t keys are at_t is high c.plan_above-plan.ensures.low c.plan_above-plan.ensures.short part in
          let at_k = subst (λ m. IsTable r legs m (t +ℤ pos 1) (summed legs m t keys) all.entries) same_k (subst (λ v. IsTable r legs plan.k v (summed legs plan.k t keys) all.entries) at_t table) in
          summed-table r legs k t es all.entries are c.requires.table c.len.ensures.unique c.requires.low at_k) c.last_slices.ensures;
    }
