use Rattle.std.proofs.Common.{Err, ap, w64}
use Rattle.std.proofs.lemmas.Int.{to_z-of_z}
use Rattle.tv_graded.specs.Calls.{IsAddedWide}
use Rattle.tv_assigned_series.specs.FamilyFaults.{IsCrowded}
use Rattle.tv_assigned_series.proofs.FamilyTold.{ring-told, series-told}
use Rattle.tv_glue.proofs.Adding.{next-one_each, next-few, next-place, next-upto, next-glued, next-crowded, next-too_many}
use Rattle.tv_glue.proofs.glued.add.Goals as goal

pub class_of-requires-clause-one_each : goal.class_of-requires-clause-one_each
class_of-requires-clause-one_each g c = next-one_each g.C.Ring.ring c.args.web.now c.args.d c.args.n c.args.assignment.now c.args.family.now c.known.ensures.graded c.requires.next

pub class_of-requires-clause-few : goal.class_of-requires-clause-few
class_of-requires-clause-few g c = next-few g.C.Ring.ring c.args.web.now c.args.d c.args.n c.args.assignment.now c.args.family.now c.known.ensures.graded c.requires.next c.requires.degree

pub assignment_series-requires-clause-one_each : goal.assignment_series-requires-clause-one_each
assignment_series-requires-clause-one_each g c = next-one_each g.C.Ring.ring c.args.web.now c.args.d c.args.n c.args.assignment.now c.args.family.now c.known.ensures.graded c.requires.next

pub assignment_series-requires-clause-few : goal.assignment_series-requires-clause-few
assignment_series-requires-clause-few g c = next-few g.C.Ring.ring c.args.web.now c.args.d c.args.n c.args.assignment.now c.args.family.now c.known.ensures.graded c.requires.next c.requires.degree

pub returns-in-Err-clause-wide : goal.returns-in-Err-clause-wide
returns-in-Err-clause-wide g c =
    rw c.of_ring.ensures.value (ring-told (IsCrowded g.C.Ring.ring c.args.web.now c.args.d c.args.n) c.in-Err.fault c.in_ok-class.class (λ e. next-too_many g.C.Ring.ring c.args.web.now c.args.d c.args.n c.args.assignment.now c.args.family.now c.known.ensures.graded c.requires.next c.in_ok-class.class c.in_ok-class.ensures (rw (to_z-of_z w64 c.args.n c.ranges.n) at (c.in-Err.ensures.wide (ap Err e)))))

pub add_into-requires-clause-place : goal.add_into-requires-clause-place
add_into-requires-clause-place g c =
    next-place g.C.Ring.ring c.args.web.now c.args.d c.args.n c.args.assignment.now c.args.family.now c.known.ensures.graded c.requires.next c.in-Ok.series (rw (to_z-of_z w64 c.args.n c.ranges.n) at c.in-Ok.ensures.value) c.known.ensures.heighted c.in_ok-class.class c.in_ok-class.ensures

pub add_into-requires-clause-known : goal.add_into-requires-clause-known
add_into-requires-clause-known g c =
    next-upto g.C.Ring.ring c.args.web.now c.args.d c.args.n c.args.assignment.now c.args.family.now c.known.ensures.graded c.requires.next c.in-Ok.series (rw (to_z-of_z w64 c.args.n c.ranges.n) at c.in-Ok.ensures.value)

pub class_of-requires-in-Err-add_into-clause-one_each : goal.class_of-requires-in-Err-add_into-clause-one_each
class_of-requires-in-Err-add_into-clause-one_each g c = next-one_each g.C.Ring.ring c.args.web.now c.args.d c.args.n c.args.assignment.now c.args.family.now c.known.ensures.graded c.requires.next

pub class_of-requires-in-Err-add_into-clause-few : goal.class_of-requires-in-Err-add_into-clause-few
class_of-requires-in-Err-add_into-clause-few g c = next-few g.C.Ring.ring c.args.web.now c.args.d c.args.n c.args.assignment.now c.args.family.now c.known.ensures.graded c.requires.next c.requires.degree

pub returns-in-Ok-add_into-clause-glued : goal.returns-in-Ok-add_into-clause-glued
returns-in-Ok-add_into-clause-glued g c =
    next-glued g.C.Ring.ring c.args.web.now c.args.d c.args.n c.args.assignment.now c.args.family.now c.known.ensures.graded c.requires.next c.in-Ok.series (rw (to_z-of_z w64 c.args.n c.ranges.n) at c.in-Ok.ensures.value) g.met.C.Ring.laws c.known.ensures.heighted c.add_into.new.self c.in_ok-class.class c.in_ok-class.ensures c.known-2.ensures.family c.known-3.ensures.value c.in-Ok-add_into.ensures.ok

pub returns-in_ok-class_of-in-Err-add_into-clause-wide : goal.returns-in_ok-class_of-in-Err-add_into-clause-wide
returns-in_ok-class_of-in-Err-add_into-clause-wide g c =
    rw c.of_series.ensures.value (series-told (IsAddedWide g.C.Ring.ring c.in_ok-class.class c.in-Ok.series c.args.family.now) (IsCrowded g.C.Ring.ring c.args.web.now c.args.d c.args.n) c.in-Err-add_into.fault c.in_ok-class_of-in-Err-add_into.field-0 c.in-Err-add_into.ensures.wide (λ i wide. next-crowded g.C.Ring.ring c.args.web.now c.args.d c.args.n c.args.assignment.now c.args.family.now c.known.ensures.graded c.requires.next c.in-Ok.series (rw (to_z-of_z w64 c.args.n c.ranges.n) at c.in-Ok.ensures.value) g.met.C.Ring.laws g.met.C.Ring.sizes c.in_ok-class.class c.in_ok-class_of-in-Err-add_into.field-0 i c.in_ok-class.ensures c.in_ok-class_of-in-Err-add_into.ensures wide))
