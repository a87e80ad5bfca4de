use Rattle.std.proofs.Common.{◌≡◌, length, sym, ◌∙◌, ap, arith, w64, to_z, of_z}
use Rattle.std.specs.Prelude.{pos, ◌+ℤ◌}
use Rattle.std.specs.Int.{int_min}
use Rattle.std.proofs.lemmas.Int.{ints, clamps}
use Rattle.tv_laws_series.proofs.Exponents.{above_is}
use Rattle.tv_laws_series.proofs.Listed.{listed-none, listed_push, length-listed}
use Rattle.tv_frontier.specs.Signs.{signed_at}
use Rattle.tv_frontier.proofs.Joined.{written-bounded}
use Rattle.tv_frontier.proofs.WithSigns.{signed-written}
use Rattle.tv_frontier.proofs.signed.signed_series.Goals as goal

pub loop-k-init : goal.loop-k-init
loop-k-init g c = c.new-coefficients.ensures.items ∙ sym (listed-none _)

pub loop-k-preserved : goal.loop-k-preserved
loop-k-preserved g c =
    listed_push (signed_at g.C.Ring.ring c.args.web.now.points c.args.class.now c.args.series.now (to_z w64 (of_z w64 c.first_exponent-low.result))) c.loop-k.k c.loop-k.coefficients.items _ c.in_ok-signed_at.field-0 c.loop-k.invariant c.in_ok-push.ensures.items c.in_ok-signed_at.ensures.value

pub new-requires : goal.new-requires
new-requires g c =
    let bound = c.first_exponent-low.ensures.bound in let order = c.requires.order in let e = c.count_from-count.ensures.value in
    let whole : c.loop-k.k ≡ c.count_from-count.result = (let h = c.loop-k.auto.k-end in let i = c.loop-k-test.false in omega arith) in
    record { bounded = written-bounded (to_z w64 (of_z w64 c.first_exponent-low.result)) c.args.n c.loop-k.k c.loop-k.coefficients.items (omega (arith, ints)) (omega (arith, ints)) (omega (arith, ints)) (ap length c.loop-k.invariant ∙ length-listed _ c.loop-k.k) }

pub returns-clause-value : goal.returns-clause-value
returns-clause-value g c =
    let bound = c.first_exponent-low.ensures.bound in let order = c.requires.order in let e = c.count_from-count.ensures.value in
    let whole : c.loop-k.k ≡ c.count_from-count.result = (let h = c.loop-k.auto.k-end in let i = c.loop-k-test.false in omega arith) in
    let place = above_is (to_z w64 (of_z w64 c.first_exponent-low.result)) (c.args.n +ℤ pos 1) in
    let first : to_z w64 (of_z w64 c.first_exponent-low.result) ≡ int_min c.args.series.now.low (c.args.n +ℤ pos 1) = (let v = c.first_exponent-low.ensures.value in let f = c.known.ensures.value.bounded.low in let l = c.low.ensures.value in omega (arith, ints, clamps)) in
    signed-written g.C.Ring.ring c.args.web.now.points c.args.n c.args.class.now c.args.series.now c.new.result (to_z w64 (of_z w64 c.first_exponent-low.result)) c.loop-k.k c.loop-k.coefficients.items first (omega (arith, ints)) c.loop-k.invariant c.new.ensures.value
