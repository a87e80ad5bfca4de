use Rattle.std.proofs.Common.{arith, ◌∙◌, sym, ap, subst, w64}
use Rattle.std.specs.Prelude.{pos, ◌-ℤ◌}
use Rattle.std.proofs.lemmas.Int.{to_z-of_z}
use Rattle.tv_spec_boxes.specs.Assignments.{edge_costs, overlaps_of}
use Rattle.tv_glue.specs.Asked.{Asks}
use Rattle.tv_glue.proofs.Asking.{asks, still-asked}
use Rattle.tv_glue.proofs.Prepared.{asks-next, asks-for}
use Rattle.tv_assigned_series.proofs.Assembled.{read_left}
use Rattle.tv_glue.proofs.asked.ask.Goals as goal

pub loop-corner-preserved : goal.loop-corner-preserved
loop-corner-preserved c =
    let w = c.args.web.now in let d = c.args.d in let a = c.args.assignment.now in
    let start = c.start_of-start.result in let legs = c.deref-corner-items.result.now in
    let begins = c.start_of-start.ensures.value ∙ ap (λ ls. edge_costs w a -ℤ pos (overlaps_of ls)) (c.deref.ensures.value ∙ sym c.deref-corner-items.ensures.value) in
    let ends = read_left c.args.n start c.boxes_left-boxes.result c.requires.exponent c.start_of-start.ensures.bound c.boxes_left-boxes.ensures.value in
    let here = asks w d c.args.n a legs c.corner-item.result c.loop-corner.corner-index start c.boxes_left-boxes.result c.requires.listed (c.deref-corner-items.ensures.value ∙ c.in_ok-legs.ensures.legs) c.loop-corner-test.true c.corner-item.is begins ends c.boxes_left-boxes.ensures.few c.in_ok-image.image c.in_ok-image.ensures.value c.in_ok-image.ensures.counts in
    let before = rw (to_z-of_z w64 c.args.n c.ranges.n) at c.loop-corner.invariant in
    rw (to_z-of_z w64 c.args.n c.ranges.n) (
      still-asked w d c.args.n c.loop-corner.asked.entries c.raise.new.asked.entries c.in_ok-image.image _ here c.in_ok-raise.ensures.raised before.0,
      (λ q m asked. c.in_ok-raise.ensures.more q m (before.1 q m asked)),
      asks-next legs c.boxes_left-boxes.result c.loop-corner.corner-index c.loop-corner.asked.entries c.raise.new.asked.entries c.corner-item.result c.loop-corner-test.true c.corner-item.is c.in_ok-raise.ensures.more (subst (λ l. Asks l c.boxes_left-boxes.result c.raise.new.asked.entries) c.in_ok-image.ensures.value c.in_ok-raise.ensures.reached) before.2,
    )

pub returns-clause-all : goal.returns-clause-all
returns-clause-all c =
    let w = c.args.web.now in let a = c.args.assignment.now in let es = c.loop-corner.asked.entries in
    let start = c.start_of-start.result in let legs = c.deref-corner-items.result.now in
    let begins = c.start_of-start.ensures.value ∙ ap (λ ls. edge_costs w a -ℤ pos (overlaps_of ls)) (c.deref.ensures.value ∙ sym c.deref-corner-items.ensures.value) in
    let ends = read_left c.args.n start c.boxes_left-boxes.result c.requires.exponent c.start_of-start.ensures.bound c.boxes_left-boxes.ensures.value in
    let before = rw (to_z-of_z w64 c.args.n c.ranges.n) at c.loop-corner.invariant in
    asks-for w c.args.n a es legs start c.boxes_left-boxes.result (c.deref-corner-items.ensures.value ∙ c.in_ok-legs.ensures.legs) begins ends (λ j h. before.2 j (omega (arith, h, c.loop-corner-test.false)))
