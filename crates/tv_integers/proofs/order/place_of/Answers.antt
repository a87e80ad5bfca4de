use Rattle.std.proofs.Common.{◌+◌, ◌-◌, ◌/◌, ◌<◌, sym, ap, ◌∙◌, arith}
use Rattle.tv_spec_series.specs.Families.{comes_before}
use Rattle.tv_integers.proofs.Search.{bracket_up, bracket_down, class_read}
use Rattle.tv_integers.proofs.order.place_of.Goals as goal

pub loop-low-preserved-then-comes_before : goal.loop-low-preserved-then-comes_before
loop-low-preserved-then-comes_before c =
    let low = c.loop-low.low in let high = c.loop-low.high in let middle = low + (high - low) / 2 in
    let hs = c.args.heights.now in let v = c.args.class.now in let rows = c.args.rows.now in
    let below : middle < high = omega arith in
    let within = c.loop-low.invariant.within in
    let read = class_read rows middle c.index-rows-middle.result c.index-rows-middle.is (omega arith) in
    let test = ap (λ u. comes_before hs u v) (c.class.ensures.value ∙ read) in
    bracket_up hs v rows low high middle c.requires.kept.rises c.loop-low.invariant below (sym (c.comes_before.ensures.value ∙ test) ∙ c.if-comes_before.true)

pub loop-low-preserved : goal.loop-low-preserved
loop-low-preserved c =
    let low = c.loop-low.low in let high = c.loop-low.high in let middle = low + (high - low) / 2 in
    let hs = c.args.heights.now in let v = c.args.class.now in let rows = c.args.rows.now in
    let below : middle < high = omega arith in
    let within = c.loop-low.invariant.within in
    let read = class_read rows middle c.index-rows-middle.result c.index-rows-middle.is (omega arith) in
    let test = ap (λ u. comes_before hs u v) (c.class.ensures.value ∙ read) in
    bracket_down hs v rows low high middle c.requires.kept.rises c.loop-low.invariant (omega arith) below (sym (c.comes_before.ensures.value ∙ test) ∙ c.if-comes_before.false)
