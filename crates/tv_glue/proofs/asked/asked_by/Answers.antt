use Rattle.std.proofs.Common.{w64, ap, length, arith}
use Rattle.std.proofs.lemmas.Int.{to_z-of_z}
use Rattle.tv_lemmas.proofs.Members.{all-contains}
use Rattle.tv_spec_boxes.specs.Assignments.{assignments}
use Rattle.tv_assignment.specs.Size.{IsOn}
use Rattle.tv_assignment.proofs.Listed.{listed-on}
use Rattle.tv_glue.proofs.Prepared.{none-gone, one-listed, one-gone, all-gone}
use Rattle.tv_glue.proofs.asked.asked_by.Goals as goal

pub loop-coming-init : goal.loop-coming-init
loop-coming-init c = (rw c.new-asked.ensures.empty tt, none-gone c.args.web.now c.args.d _ c.in_ok-coming.coming c.new-asked.result.entries c.in_ok-coming.ensures)

pub ask-requires-clause-on : goal.ask-requires-clause-on
ask-requires-clause-on c =
    let next = rw c.in-Some.is at c.in_ok-assignment.ensures.ok in
    all-contains (IsOn c.args.web.now) (assignments c.args.web.now c.args.d) c.in-Some.assignment (listed-on c.args.web.now c.args.d c.known.ensures.graded c.requires.degree) (one-listed c.args.web.now c.args.d _ c.loop-coming.coming c.next.new.self c.in-Some.assignment c.loop-coming.asked.entries next c.loop-coming.invariant.1)

pub ask-requires-clause-listed : goal.ask-requires-clause-listed
ask-requires-clause-listed c =
    let next = rw c.in-Some.is at c.in_ok-assignment.ensures.ok in
    one-listed c.args.web.now c.args.d _ c.loop-coming.coming c.next.new.self c.in-Some.assignment c.loop-coming.asked.entries next c.loop-coming.invariant.1

pub ask-requires-clause-asked : goal.ask-requires-clause-asked
ask-requires-clause-asked c = c.loop-coming.invariant.0

pub loop-coming-smaller : goal.loop-coming-smaller
loop-coming-smaller c =
    let next = ap length (rw c.in-Some.is at c.in_ok-assignment.ensures.ok) in omega arith

pub loop-coming-preserved : goal.loop-coming-preserved
loop-coming-preserved c =
    let next = rw c.in-Some.is at c.in_ok-assignment.ensures.ok in
    let here = rw (to_z-of_z w64 c.args.n c.ranges.n) at c.in_ok-ask.ensures.all in
    (c.in_ok-ask.ensures.asked, rw (to_z-of_z w64 c.args.n c.ranges.n) (one-gone c.args.web.now c.args.d c.args.n c.loop-coming.coming c.next.new.self c.in-Some.assignment c.loop-coming.asked.entries c.ask.new.asked.entries next c.in_ok-ask.ensures.more here (rw (to_z-of_z w64 c.args.n c.ranges.n) at c.loop-coming.invariant.1)))

pub returns-clause-asked : goal.returns-clause-asked
returns-clause-asked c = rw (to_z-of_z w64 c.args.n c.ranges.n) at c.loop-coming.invariant.0

pub returns-clause-all : goal.returns-clause-all
returns-clause-all c =
    let ended = rw c.in_default.is at c.in_ok-assignment.ensures.ok in
    all-gone c.args.web.now c.args.d c.args.n c.loop-coming.coming c.loop-coming.asked.entries ended.0 (rw (to_z-of_z w64 c.args.n c.ranges.n) at c.loop-coming.invariant.1)
