use Rattle.std.proofs.Common.{◌≡◌, to_z, of_z, w64, arith}
use Rattle.std.specs.Prelude.{pos, unsigned_abs}
use Rattle.std.proofs.lemmas.Int.{ints}
use Rattle.tv_spec_boxes.specs.Assignments.{no_legs}
use Rattle.tv_spec_series.specs.Families.{Family, divided}
use Rattle.tv_graded.specs.Calls.{IsDividedWide}
use Rattle.tv_spec_series.specs.ReducedFamilies.{IsReducedFamily}
use Rattle.tv_laws_families.proofs.ZeroClass.{begins_with_one}
use Rattle.tv_laws_families.proofs.ReducedFamilies.{divided_is_reduced}
use Rattle.tv_reduced.specs.Faults.{IsReducedFault, OnSpread}
use Rattle.tv_reduced.proofs.Results.{on_ok, on_err}
use Rattle.tv_reduced.proofs.Divisions.{rows_known, crowd_later, rows_reach, fault_spread, no_legs_diagrams}
use Rattle.tv_reduced.proofs.Exponents.{full_through, order_range, kept_bound, reached_through}
use Rattle.tv_reduced.proofs.families.reduced.Goals as goal

pub overflow_cast-order : goal.overflow_cast-order
overflow_cast-order g c =
    let range = order_range g.C.Ring.ring c.args.web.now c.args.d c.args.n c.in_ok-family.family c.requires.order c.in_ok-family.ensures.full c.order_of-order.result c.order_of-order.ensures c.lowest_known.ensures in
    let least = range.0 in let most = range.1 in
    (omega (arith, ints), omega (arith, ints))

pub divisor-requires : goal.divisor-requires
divisor-requires g c =
    let range = order_range g.C.Ring.ring c.args.web.now c.args.d c.args.n c.in_ok-family.family c.requires.order c.in_ok-family.ensures.full c.order_of-order.result c.order_of-order.ensures c.lowest_known.ensures in
    let least = range.0 in let most = range.1 in
    omega (arith, ints)

pub divided_by-requires-clause-known : goal.divided_by-requires-clause-known
divided_by-requires-clause-known g c =
    let r = g.C.Ring.ring in let w = c.args.web.now in let f = c.in_ok-family.family in let told = c.in_ok-family.ensures.full in
    let full = full_through r w c.args.d c.args.n f c.requires.order told in
    rows_known r w c.args.d c.args.n f.upto c.in-Ok.zero f.rows full.upto full.rows
    (reached_through r w c.args.d c.args.n f c.requires.order told c.order_of-order.result c.order_of-order.ensures c.lowest_known.ensures c.in-Ok.zero c.in-Ok.ensures.known)

pub divided_by-requires-clause-reaches : goal.divided_by-requires-clause-reaches
divided_by-requires-clause-reaches g c =
    let w = c.args.web.now in let f = c.in_ok-family.family in
    let full = full_through g.C.Ring.ring w c.args.d c.args.n f c.requires.order c.in_ok-family.ensures.full in
    rows_reach g.met.C.Ring.laws g.met.C.Ring.sizes w c.args.d c.args.n c.in-Ok.zero c.known.ensures.graded (no_legs_diagrams w) (begins_with_one w c.known.ensures.graded) c.known-in-Ok.ensures.value.values c.in-Ok.ensures.divisor f.rows full.rows

pub returns-in-Ok-clause-reduced : goal.returns-in-Ok-clause-reduced
returns-in-Ok-clause-reduced g c =
    let r = g.C.Ring.ring in let w = c.args.web.now in let f = c.in_ok-family.family in let told = c.in_ok-family.ensures.full in
    let full = full_through r w c.args.d c.args.n f c.requires.order told in
    let reaches = reached_through r w c.args.d c.args.n f c.requires.order told c.order_of-order.result c.order_of-order.ensures c.lowest_known.ensures c.in-Ok.zero c.in-Ok.ensures.known in
    on_ok c.divided_by.result (λ (q : Family g.row.C.Denot). q ≡ divided r c.in-Ok.zero f) (IsReducedFamily r w (no_legs w) c.args.d c.args.n)
    (λ q e. rw e (divided_is_reduced g.met.C.Ring.laws w (no_legs w) c.args.d c.args.n c.in-Ok.zero c.known.ensures.graded (no_legs_diagrams w) (begins_with_one w c.known.ensures.graded) c.known-in-Ok.ensures.value.values c.in-Ok.ensures.divisor f c.known-2.ensures.family full reaches))
    c.divided_by.ensures.value

pub returns-in-Ok-clause-wide : goal.returns-in-Ok-clause-wide
returns-in-Ok-clause-wide g c =
    let r = g.C.Ring.ring in let w = c.args.web.now in let f = c.in_ok-family.family in let told = c.in_ok-family.ensures.full in
    let full = full_through r w c.args.d c.args.n f c.requires.order told in
    let reaches = reached_through r w c.args.d c.args.n f c.requires.order told c.order_of-order.result c.order_of-order.ensures c.lowest_known.ensures c.in-Ok.zero c.in-Ok.ensures.known in
    on_err c.divided_by.result (λ e. OnSpread e (IsDividedWide r c.in-Ok.zero f)) (IsReducedFault r w c.args.d c.args.n)
    (λ e h. fault_spread g.met.C.Ring.laws g.met.C.Ring.sizes w c.args.d c.args.n c.in-Ok.zero c.known.ensures.graded (no_legs_diagrams w) (begins_with_one w c.known.ensures.graded) c.known-in-Ok.ensures.value.values c.in-Ok.ensures.divisor f e c.known-2.ensures.family full reaches h)
    c.divided_by.ensures.wide

pub returns-clause-wide : goal.returns-clause-wide
returns-clause-wide g c =
    let w = c.args.web.now in
    crowd_later g.C.Ring.ring w c.args.d c.args.n (pos (unsigned_abs (to_z w64 (of_z w64 c.order_of-order.result)))) c.in-Err.fault
    (kept_bound g.C.Ring.ring w c.args.d c.args.n c.in_ok-family.family c.requires.order c.in_ok-family.ensures.full c.order_of-order.result c.order_of-order.ensures c.lowest_known.ensures) c.in-Err.ensures.wide
