use Rattle.std.proofs.Common.{◌+ℤ◌, pos, w64, ◌∙◌, ap, arith, unsigned_abs}
use Rattle.std.specs.Int.{w128}
use Rattle.std.proofs.lemmas.Int.{to_z-of_z}
use Rattle.tv_report_reader.proofs.Dense.{filled-start, filled-more, filled-bounded, filled-series, lowest-bound, next-number}
use Rattle.tv_text.proofs.Spellings.{same_number}
use Rattle.tv_report_reader.proofs.series.series_of.Goals as goal

pub loop-k-init : goal.loop-k-init
loop-k-init c =
    let low = rw (to_z-of_z w64 c.args.upto c.ranges.upto) at c.lowest-low.ensures in
    filled-start c.args.upto _ c.args.terms.now _ c.requires (to_z-of_z w64 c.lowest-low.result (record { sfits = c.lowest-low.type_inv }) ∙ low) c.new-coefficients.ensures.items

pub loop-k-preserved : goal.loop-k-preserved
loop-k-preserved c =
    let value = to_z-of_z w128 c.value_here.result (record { sfits = c.value_here.type_inv }) in
    let exponent = to_z-of_z w64 c.exponent_at-exponent.result (record { sfits = c.exponent_at-exponent.type_inv }) ∙ c.exponent_at-exponent.ensures in
    let here = rw exponent at c.value_here.ensures in
    let rest = rw exponent at c.after-next.ensures.rest in
    filled-more c.args.terms.now _ _ _ c.loop-k.next c.loop-k.k c.after-next.result _ c.loop-k.invariant
    (λ cursor. (c.in_ok-whole.ensures ∙ value ∙ here c.args.terms.now cursor, rest c.args.terms.now cursor))
    c.after-next.ensures.step c.in_ok-push.ensures.items

pub new-requires : goal.new-requires
new-requires c =
    let low = rw (to_z-of_z w64 c.args.upto c.ranges.upto) at c.lowest-low.ensures in
    let same = to_z-of_z w64 c.lowest-low.result (record { sfits = c.lowest-low.type_inv }) ∙ low in
    let bound = (lowest-bound c.args.upto c.args.terms.now c.requires).0 in
    record { bounded = filled-bounded c.args.terms.now _ c.loop-k.coefficients.items c.loop-k.k (omega (arith, ap unsigned_abs same, bound)) (omega (arith, c.loop-k.auto.k-end, c.if-count-gt-MOST_EXPONENTS.false)) c.loop-k.invariant.0 }

pub returns : goal.returns
returns c =
    let low = rw (to_z-of_z w64 c.args.upto c.ranges.upto) at c.lowest-low.ensures in
    let same = to_z-of_z w64 c.lowest-low.result (record { sfits = c.lowest-low.type_inv }) ∙ low in
    let spans = rw (to_z-of_z w64 c.args.upto c.ranges.upto, same_number (c.args.upto +ℤ pos 1) (next-number c.args.upto c.args.terms.now c.requires)) at c.span-count.ensures in
    c.new.ensures.value ∙ filled-series c.args.upto _ c.args.terms.now c.loop-k.coefficients.items c.loop-k.k same (omega (arith, c.loop-k-test.false, c.loop-k.auto.k-end, spans)) c.loop-k.invariant.0
