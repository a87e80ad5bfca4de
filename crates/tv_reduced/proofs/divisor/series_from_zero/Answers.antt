use Rattle.std.proofs.Common.{◌≡◌, ◌∙◌, length, sym, ap, arith}
use Rattle.std.proofs.lemmas.Int.{ints}
use Rattle.tv_laws_series.proofs.Listed.{listed-none, listed_push, length-listed}
use Rattle.tv_reduced.specs.Divisors.{counted}
use Rattle.tv_reduced.proofs.divisor.series_from_zero.Goals as goal

pub loop-j-init : goal.loop-j-init
loop-j-init g c = c.new-coefficients.ensures.items ∙ sym (listed-none _)

pub loop-j-preserved : goal.loop-j-preserved
loop-j-preserved g c = listed_push (counted g.C.Ring.ring c.args.series.now) c.loop-j.j _ _ c.in_ok-coefficient.coefficient c.loop-j.invariant c.in_ok-push.ensures.items c.in_ok-coefficient.ensures.value

pub new-requires : goal.new-requires
new-requires g c =
    let long : length c.loop-j.coefficients.items ≡ c.loop-j.j = ap length c.loop-j.invariant ∙ length-listed (counted g.C.Ring.ring c.args.series.now) c.loop-j.j in
    record { bounded = record { low = omega (arith, ints); upto = omega (arith, ints) } }
