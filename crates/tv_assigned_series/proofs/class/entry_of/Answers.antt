use Rattle.std.proofs.Common.{◌≡◌, ◌+◌, sym, ◌∙◌, ap, arith, length, get_or, w64, to_z}
use Rattle.tv_spec_plane.specs.Web.{compact}
use Rattle.tv_spec_boxes.proofs.Vectors.{part_by, at-class_on}
use Rattle.tv_assignment.proofs.Summed.{summed-first, summed-next, summed-last, summed-bound, read_total}
use Rattle.tv_assigned_series.proofs.class.entry_of.Goals as goal

pub loop-e-init : goal.loop-e-init
loop-e-init c = summed-first (part_by c.args.web.now c.args.k) 402 (compact c.args.web.now) c.args.assignment.now c.requires.few

pub loop-e-preserved : goal.loop-e-preserved
loop-e-preserved c =
    let w = c.args.web.now in let a = c.args.assignment.now in
    let listed : length c.compact.result.now ≡ length (compact w) = ap length c.compact.ensures.value in
    let each = c.requires.one_each in
    let here : c.index-diagrams-e.result ≡ get_or a c.loop-e.e c.index-diagrams-e.result = c.index-diagrams-e.is ∙ ap (λ ds. get_or ds c.loop-e.e c.index-diagrams-e.result) c.diagrams-diagrams.ensures in
    let next = summed-next (part_by w c.args.k) 402 (compact w) a c.loop-e.e c.index-diagrams-e.result _ c.entry_at-total.result (omega arith) (omega arith) here c.entry_at-total.ensures.value c.entry_at-total.ensures.bound c.loop-e.invariant in
    let before = summed-bound (part_by w c.args.k) 402 (compact w) a c.loop-e.e _ c.loop-e.invariant in
    let after = summed-bound (part_by w c.args.k) 402 (compact w) a (c.loop-e.e + 1) _ next in
    rw (read_total (to_z w64 c.loop-e.total-bits) c.entry_at-total.result (omega arith) (omega arith)) next

pub returns-clause-value : goal.returns-clause-value
returns-clause-value c =
    let w = c.args.web.now in
    let listed : length c.compact.result.now ≡ length (compact w) = ap length c.compact.ensures.value in
    summed-last (part_by w c.args.k) 402 (compact w) c.args.assignment.now c.loop-e.e _ (omega arith) c.loop-e.invariant ∙ sym (at-class_on w (compact w) c.args.assignment.now c.args.k)
