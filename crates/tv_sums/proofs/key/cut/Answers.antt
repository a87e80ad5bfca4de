use Rattle.std.proofs.Common.{length, length-append, ap, arith, ◌∙◌}
use Rattle.tv_spec_slices.specs.Slices.{at}
use Rattle.tv_spec_slices.specs.Paths.{shape}
use Rattle.tv_sums.specs.Keys.{cut_from}
use Rattle.tv_sums.proofs.Cut.{cut-next, cut-stop, cut-start}
use Rattle.tv_sums.proofs.key.cut.Goals as goal

pub loop-i-init : goal.loop-i-init
loop-i-init c = record {
  value = cut-start (at c.args.s.now) c.args.full c.saturating_sub-i-end.result c.new-heights.result.items c.new-heights.ensures.items;
  short = omega (arith, ap length c.new-heights.ensures.items);
}

pub returns-then-height-eq0 : goal.returns-then-height-eq0
returns-then-height-eq0 c =
    c.new.ensures ∙ (ap (shape c.args.full) (cut-stop (at c.args.s.now) c.args.full c.loop-i.i c.saturating_sub-i-end.result c.at-height.result c.loop-i.heights.items _ c.loop-i-test.true c.at-height.ensures c.if-height-eq0.true c.loop-i.invariant.value)
    ∙ ap (λ n. shape c.args.full (cut_from (at c.args.s.now) c.args.full n)) c.saturating_sub-i-end.ensures)

pub loop-i-preserved : goal.loop-i-preserved
loop-i-preserved c = record {
  value = cut-next (at c.args.s.now) c.args.full c.loop-i.i c.saturating_sub-i-end.result c.at-height.result c.push.new.self.items c.loop-i.heights.items _ c.loop-i-test.true c.at-height.ensures c.if-height-eq0.false c.in_ok-push.ensures.items c.loop-i.invariant.value;
  short = omega (arith, c.loop-i.invariant.short, simp length-append at (ap length c.in_ok-push.ensures.items));
}
