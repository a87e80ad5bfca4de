use Rattle.std.proofs.Common.{length, length-append, ◌∙◌, ap, arith}
use Rattle.std.proofs.lemmas.Int.{to_z-of_z}
use Rattle.tv_slices.specs.Bare.{bare_from}
use Rattle.tv_slices.proofs.Heights.{heights-start, heights-next, heights-stop, heights-done}
use Rattle.tv_slices.proofs.bare.bare_heights.Goals as goal

pub loop-i-init : goal.loop-i-init
loop-i-init c =
    let fits_t = c.ranges.t in
    record {
      value = simp to_z-of_z (heights-start c.args.legs.now c.args.t c.args.full c.extent-i-end.result c.new-heights.result.items c.new-heights.ensures.items);
      short = omega (arith, ap length c.new-heights.ensures.items);
    }

pub returns-then-base-eq0 : goal.returns-then-base-eq0
returns-then-base-eq0 c =
    let fits_t = c.ranges.t in
    record {
      value = heights-stop c.args.legs.now c.args.t c.args.full c.loop-i.i c.extent-i-end.result c.base_at-base.result c.loop-i.heights.items _ c.loop-i-test.true (simp to_z-of_z at c.base_at-base.ensures.value) c.if-base-eq0.true (simp to_z-of_z at c.loop-i.invariant.value)
          ∙ ap (bare_from c.args.legs.now c.args.t c.args.full) c.extent-i-end.ensures.value;
      short = omega (arith, c.loop-i.invariant.short, c.extent-i-end.ensures.bound);
    }

pub loop-i-preserved : goal.loop-i-preserved
loop-i-preserved c =
    let fits_t = c.ranges.t in
    record {
      value = simp to_z-of_z (heights-next c.args.legs.now c.args.t c.args.full c.loop-i.i c.extent-i-end.result c.base_at-base.result c.push.new.self.items c.loop-i.heights.items _ c.loop-i-test.true (simp to_z-of_z at c.base_at-base.ensures.value) (omega arith) c.in_ok-push.ensures.items (simp to_z-of_z at c.loop-i.invariant.value));
      short = omega (arith, c.loop-i.invariant.short, simp length-append at (ap length c.in_ok-push.ensures.items));
    }

pub returns : goal.returns
returns c =
    let fits_t = c.ranges.t in
    record {
      value = heights-done c.args.legs.now c.args.t c.args.full c.loop-i.i c.extent-i-end.result c.loop-i.heights.items _ c.loop-i-test.false (simp to_z-of_z at c.loop-i.invariant.value)
          ∙ ap (bare_from c.args.legs.now c.args.t c.args.full) c.extent-i-end.ensures.value;
      short = omega (arith, c.loop-i.invariant.short, c.extent-i-end.ensures.bound);
    }
