use Rattle.std.proofs.Common.{◌≡◌, length, sym, ◌∙◌, ap, arith, w64, to_z, of_z}
use Rattle.std.specs.Prelude.{pos, ◌+ℤ◌, ◌-ℤ◌}
use Rattle.std.proofs.lemmas.Int.{ints, to_z-of_z}
use Rattle.tv_lattice.proofs.Sums.{small-fits}
use Rattle.tv_laws_series.proofs.Exponents.{above_is}
use Rattle.tv_laws_series.proofs.Listed.{listed-none, listed_push, length-listed}
use Rattle.tv_spec_series.specs.Families.{coefficient}
use Rattle.tv_frontier.specs.Joining.{moved_at}
use Rattle.tv_frontier.proofs.Joined.{moved_at-is, moved_low-read, moved-is, written-bounded}
use Rattle.tv_frontier.proofs.joining.moved.Goals as goal

pub loop-k-init : goal.loop-k-init
loop-k-init g c = c.new-coefficients.ensures.items ∙ sym (listed-none _)

pub loop-k-preserved : goal.loop-k-preserved
loop-k-preserved g c =
    let r = g.C.Ring.ring in let s = c.args.series.now in
    let low = to_z w64 (of_z w64 c.moved_low-low.result) in let by = to_z w64 (of_z w64 c.args.shift) in
    let place = rw (to_z-of_z w64 c.before-in-loop-k.result (small-fits c.before-in-loop-k.result (omega (arith, c.before-in-loop-k.ensures.bound)))) at c.in_ok-coefficient_at.ensures.value in
    let read_low : low ≡ c.moved_low-low.result = to_z-of_z w64 c.moved_low-low.result (small-fits c.moved_low-low.result (omega (arith, c.moved_low-low.ensures.bound))) in
    let read_by : by ≡ c.args.shift = to_z-of_z w64 c.args.shift c.ranges.shift in
    let at_place : c.before-in-loop-k.result ≡ (low +ℤ pos c.loop-k.k) -ℤ by = let e = c.before-in-loop-k.ensures.value in omega (arith, ints) in
    listed_push (moved_at r s by low) c.loop-k.k c.loop-k.coefficients.items _ c.in_ok-coefficient_at.field-0 c.loop-k.invariant c.in_ok-push.ensures.items
    (place ∙ (ap (coefficient r s) at_place ∙ sym (moved_at-is r s by low c.loop-k.k)))

pub new-requires : goal.new-requires
new-requires g c =
    let read_low : to_z w64 (of_z w64 c.moved_low-low.result) ≡ c.moved_low-low.result = to_z-of_z w64 c.moved_low-low.result (small-fits c.moved_low-low.result (omega (arith, c.moved_low-low.ensures.bound))) in
    let bound = c.moved_low-low.ensures.bound in let last = c.requires.range.small_upto in let e = c.count_from-count.ensures.value in
    let whole : c.loop-k.k ≡ c.count_from-count.result = (let h = c.loop-k.auto.k-end in let i = c.loop-k-test.false in omega arith) in
    record { bounded = written-bounded (to_z w64 (of_z w64 c.moved_low-low.result)) c.args.stage.now.upto c.loop-k.k c.loop-k.coefficients.items (omega (arith, ints)) last (omega (arith, ints)) (ap length c.loop-k.invariant ∙ length-listed _ c.loop-k.k) }

pub returns-clause-value : goal.returns-clause-value
returns-clause-value g c =
    let read_low : to_z w64 (of_z w64 c.moved_low-low.result) ≡ c.moved_low-low.result = to_z-of_z w64 c.moved_low-low.result (small-fits c.moved_low-low.result (omega (arith, c.moved_low-low.ensures.bound))) in
    let bound = c.moved_low-low.ensures.bound in let last = c.requires.range.small_upto in let e = c.count_from-count.ensures.value in
    let whole : c.loop-k.k ≡ c.count_from-count.result = (let h = c.loop-k.auto.k-end in let i = c.loop-k-test.false in omega arith) in
    let place = above_is (to_z w64 (of_z w64 c.moved_low-low.result)) (c.args.stage.now.upto +ℤ pos 1) in
    moved-is g.C.Ring.ring c.args.series.now c.new.result c.args.stage.now.floor c.args.stage.now.upto c.args.shift (to_z w64 (of_z w64 c.args.shift)) (to_z w64 (of_z w64 c.moved_low-low.result)) c.loop-k.k c.loop-k.coefficients.items
    (to_z-of_z w64 c.args.shift c.ranges.shift)
    (read_low ∙ moved_low-read c.moved_low-low.result (to_z w64 (of_z w64 c.args.stage.now.floor)) c.args.stage.now.floor (to_z w64 (of_z w64 c.args.stage.now.upto)) c.args.stage.now.upto (to_z w64 (of_z w64 c.low.result)) c.args.series.now.low (to_z w64 (of_z w64 c.args.shift)) c.args.shift c.moved_low-low.ensures.value
    (let f = c.requires.range.small_low in omega (arith, ints))
    (omega (arith, ints))
    (let f = c.known.ensures.value.bounded.low in let e = c.low.ensures.value in omega (arith, ints))
    (let f = c.requires.shift in omega (arith, ints)))
    (omega (arith, ints))
    c.loop-k.invariant c.new.ensures.value
