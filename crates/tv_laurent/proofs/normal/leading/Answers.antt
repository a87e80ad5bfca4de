use Rattle.std.proofs.Common.{◌≡◌, ◌∙◌, sym, arith, inl, inr}
use Rattle.std.proofs.lemmas.Bool.{cases_lt}
use Rattle.tv_ring.specs.Sums.{at}
use Rattle.tv_laws_series.proofs.Listed.{at_read}
use Rattle.tv_laurent.proofs.normal.leading.Goals as goal

pub loop-count-preserved : goal.loop-count-preserved
loop-count-preserved g c =
    let r = g.C.Ring.ring in let row = c.args.row.now in let k = c.loop-count.count in
    let here : at r row k ≡ r.nought = sym (at_read r row k c.index-row-count.result c.index-row-count.is c.loop-count-test.true) ∙ c.same.ensures.same.0 c.if-same.true ∙ c.requires.zero in
    record {
      within = omega (arith, c.loop-count-test.true);
      zeros = λ i h. elim (cases_lt i k) as (λ _. at r row i ≡ r.nought) [
        | inl less ↦ c.loop-count.invariant.zeros i less
        | inr last ↦ let e : i ≡ k = omega arith in rw e here
      ];
    }

pub returns-else-same-clause-first : goal.returns-else-same-clause-first
returns-else-same-clause-first g c h e =
    let r = g.C.Ring.ring in let row = c.args.row.now in let k = c.loop-count.count in
    let t = c.same.ensures.same.1 (at_read r row k c.index-row-count.result c.index-row-count.is h ∙ e ∙ sym c.requires.zero) in let f = c.if-same.false in cc
