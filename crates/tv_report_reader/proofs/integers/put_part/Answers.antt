use Rattle.std.proofs.Common.{◌≡◌, ◌∙◌, ap, length, arith}
use Rattle.tv_spec_reports.specs.IntegerLines.{GvSection}
use Rattle.tv_report_reader.proofs.Putting.{half-start, half-end, half-can, half-more, index-as}
use Rattle.tv_report_reader.proofs.integers.put_part.Goals as goal

pub loop-k-init : goal.loop-k-init
loop-k-init c = half-start c.args.integers.now c.args.part.now

pub put-requires : goal.put-requires
put-requires c =
    let items = ap (λ (p : GvSection). p.integers) c.part.view_is in
    let count : c.len-count.result ≡ length c.args.part.now.integers = c.len-count.ensures ∙ c.part.inside.integers.ok.0 ∙ ap length items in
    half-can c.args.integers.now c.loop-k.integers c.args.part.now c.loop-k.k _ c.index.result.now c.requires c.loop-k.invariant (omega (arith, c.loop-k-test.true, count)) (index-as _ _ _ c.loop-k.k _ c.index.result.now c.index.ensures items (c.len-count.ensures ∙ c.part.inside.integers.ok.0))

pub loop-k-preserved : goal.loop-k-preserved
loop-k-preserved c =
    let items = ap (λ (p : GvSection). p.integers) c.part.view_is in
    let count : c.len-count.result ≡ length c.args.part.now.integers = c.len-count.ensures ∙ c.part.inside.integers.ok.0 ∙ ap length items in
    half-more c.args.integers.now c.loop-k.integers c.put.new.integers c.args.part.now c.loop-k.k _ c.index.result.now c.loop-k.invariant (omega (arith, c.loop-k-test.true, count)) (index-as _ _ _ c.loop-k.k _ c.index.result.now c.index.ensures items (c.len-count.ensures ∙ c.part.inside.integers.ok.0)) c.in_ok-put.ensures

pub returns : goal.returns
returns c =
    let items = ap (λ (p : GvSection). p.integers) c.part.view_is in
    let count : c.len-count.result ≡ length c.args.part.now.integers = c.len-count.ensures ∙ c.part.inside.integers.ok.0 ∙ ap length items in
    half-end c.args.integers.now c.loop-k.integers c.args.part.now c.loop-k.k c.loop-k.invariant (omega (arith, c.loop-k-test.false, count))
