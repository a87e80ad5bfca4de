use Rattle.std.proofs.Common.{◌≡◌, [], ◌∙◌, length, sym, ap, arith}
use Rattle.std.proofs.lemmas.Int.{ints}
use Rattle.tv_laws_series.proofs.Listed.{listed-none, listed_push, length-listed}
use Rattle.tv_assigned_series.specs.Terms.{front_times}
use Rattle.tv_assigned_series.proofs.Fronts.{unit-first, unit-later}
use Rattle.tv_assigned_series.proofs.steps.unit.Goals as goal

pub loop-i-init : goal.loop-i-init
loop-i-init g c = record {
  items = listed_push (front_times g.C.Ring.ring []) 0 _ _ c.in_ok-one.field-0 (c.new-coefficients.ensures.items ∙ sym (listed-none (front_times g.C.Ring.ring []))) c.in_ok-push.ensures.items (unit-first g.met.C.Ring.laws c.in_ok-one.field-0 c.in_ok-one.ensures.value);
  first = omega arith;
}

pub loop-i-preserved : goal.loop-i-preserved
loop-i-preserved g c = record {
  items = listed_push (front_times g.C.Ring.ring []) c.loop-i.i c.loop-i.coefficients.items _ c.in_ok-zero.field-0 c.loop-i.invariant.items c.in_ok-push-2.ensures.items (unit-later g.C.Ring.ring c.loop-i.i c.in_ok-zero.field-0 c.loop-i.invariant.first c.in_ok-zero.ensures.value);
  first = omega arith;
}

pub new-requires : goal.new-requires
new-requires g c =
    let long : length c.loop-i.coefficients.items ≡ c.loop-i.i = ap length c.loop-i.invariant.items ∙ length-listed (front_times g.C.Ring.ring []) c.loop-i.i in
    record { bounded = record { low = omega (arith, ints); upto = omega (arith, ints) } }
