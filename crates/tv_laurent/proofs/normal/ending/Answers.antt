use Rattle.std.proofs.Common.{◌≡◌, ◌∙◌, ◌-◌, sym, arith, inl, inr}
use Rattle.std.proofs.lemmas.Bool.{cases_lt}
use Rattle.tv_ring.specs.Sums.{at}
use Rattle.tv_laws_series.proofs.Listed.{at_read, at_past}
use Rattle.tv_laurent.proofs.normal.ending.Goals as goal

pub loop-end-init : goal.loop-end-init
loop-end-init g c = record { within = omega arith; zeros = λ i h. at_past g.C.Ring.ring c.args.row.now i h }

pub loop-end-preserved : goal.loop-end-preserved
loop-end-preserved g c =
    let r = g.C.Ring.ring in let row = c.args.row.now in let k = c.loop-end.end - 1 in let within = c.loop-end.invariant.within in let test = c.loop-end-test.true in
    let here : at r row k ≡ r.nought = sym (at_read r row k c.index-row-end.result c.index-row-end.is (omega arith)) ∙ c.same.ensures.same.0 c.if-same.true ∙ c.requires.zero in
    record {
      within = omega arith;
      zeros = λ i h. elim (cases_lt k i) as (λ _. at r row i ≡ r.nought) [
        | inl more ↦ c.loop-end.invariant.zeros i (omega arith)
        | inr first ↦ let e : i ≡ k = omega arith in rw e here
      ];
    }

pub returns-else-same-clause-last : goal.returns-else-same-clause-last
returns-else-same-clause-last g c h e =
    let r = g.C.Ring.ring in let row = c.args.row.now in let k = c.loop-end.end - 1 in let within = c.loop-end.invariant.within in
    let t = c.same.ensures.same.1 (at_read r row k c.index-row-end.result c.index-row-end.is (omega arith) ∙ e ∙ sym c.requires.zero) in let f = c.if-same.false in cc
