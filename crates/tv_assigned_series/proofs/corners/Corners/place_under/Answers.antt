use Rattle.std.proofs.Common.{◌≡◌, rules, arith}
use Rattle.std.proofs.lemmas.Int.{ints}
use Rattle.tv_assigned_series.proofs.Keeping.{found-place, found-kept, still-kept, put-place, keeps-more, short-there, none-there, read_back, read_low, read_far, read_near}
use Rattle.tv_assigned_series.proofs.corners.Corners.place_under.Goals as goal
use Rattle.tv_assigned_series.proofs.corners.Corners.place_under.Goals.{in-Some+else-upto-from, in_default}

pub returns-then-upto-from-clause-value : goal.returns-then-upto-from-clause-value
returns-then-upto-from-clause-value g c =
    rw (← c.self.view_is) (found-place g.C.Ring.ring c.self.inside.kept.entries c.args.legs.now c.args.k c.in-Some.place c.index.result.now c.in-Some.ensures.index c.self.invariant c.index.ensures (read_far c.from.result c.upto.result _ c.args.k (read_back c.from.result (omega (arith, ints))) (read_back c.upto.result (omega (arith, ints))) c.from.ensures c.upto.ensures.value c.if-upto-from.true))

pub returns-then-upto-from-clause-kept : goal.returns-then-upto-from-clause-kept
returns-then-upto-from-clause-kept g c = found-kept g.C.Ring.ring c.args.self.now c.args.legs.now c.args.k c.in-Some.place (returns-then-upto-from-clause-value g c) (rw (← c.self.view_is) c.in-Some.ensures.value)

pub invariant_of-self-2 : goal.invariant_of-self-2
invariant_of-self-2 g c =
    let copied : c.in_ok-clone.field-0 ≡ c.args.legs.now = search rules in
    still-kept g.C.Ring.ring c.self.inside.kept.entries c.insert_full.new.self.entries c.in_ok-clone.field-0 c.args.legs.now c.args.k c.in_ok-series.series copied c.in_ok-series.ensures.value c.in_ok-place.ensures.entries c.self.invariant

pub returns-clause-value : goal.returns-clause-value
returns-clause-value g c = put-place g.C.Ring.ring c.self.inside.kept.entries c.insert_full.new.self.entries c.in_ok-clone.field-0 c.args.legs.now c.args.k c.in_ok-place.place c.in_ok-series.series c.in_ok-series.ensures.value c.in_ok-place.ensures.entries c.in_ok-place.ensures.index

pub returns-clause-more : goal.returns-clause-more
returns-clause-more g c =
    let copied : c.in_ok-clone.field-0 ≡ c.args.legs.now = search rules in
    rw (← c.self.view_is) (keeps-more g.C.Ring.ring c.self.inside.kept.entries c.insert_full.new.self.entries c.in_ok-clone.field-0 c.args.legs.now c.args.k c.in_ok-series.series copied c.in_ok-series.ensures.value c.in_ok-place.ensures.updates.0 (elim c.match-get_index_of.branch [
      | in-Some+else-upto-from w ↦ λ t. short-there g.C.Ring.ring c.self.inside.kept.entries c.args.legs.now c.args.k w.in-Some.place w.index.result.now t w.in-Some.ensures.value w.index.ensures (read_near w.from.result w.upto.result _ c.args.k (read_back w.from.result (omega (arith, ints, w.from.type_inv))) (read_low w.upto.result (omega (arith, ints, w.upto.type_inv)) (omega (arith, ints, w.upto.type_inv))) w.from.ensures w.upto.ensures.value w.if-upto-from.false)
      | in_default w ↦ λ t. none-there g.C.Ring.ring c.self.inside.kept.entries c.args.legs.now c.args.k t w.in_default.ensures.found
    ]))
