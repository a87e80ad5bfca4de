use Rattle.tv_ring.specs.Sums.{at}
use Rattle.tv_ring.proofs.Rings.{nought-add}
use Rattle.tv_laws_series.specs.Terms.{padded}
use Rattle.tv_laws_series.proofs.Padded.{plus_is, value_padded}
use Rattle.tv_laurent.proofs.SeriesCalls.{sum_size_is}
use Rattle.tv_laurent.proofs.sums.sum_at.Goals as goal

pub returns-in-Some-Some-clause-value : goal.returns-in-Some-Some-clause-value
returns-in-Some-Some-clause-value g c =
    let r = g.C.Ring.ring in let x = c.in-Some-Some.ensures.value in let y = c.in-Some-Some.ensures'.value in
    rw (plus_is r (padded r c.args.before_a (at r c.args.a.now)) (padded r c.args.before_b (at r c.args.b.now)) c.args.place, ← x, ← y) c.add.ensures.value

pub returns-in-Some-Some-clause-wide : goal.returns-in-Some-Some-clause-wide
returns-in-Some-Some-clause-wide g c =
    let r = g.C.Ring.ring in let x = c.in-Some-Some.ensures.value in let y = c.in-Some-Some.ensures'.value in
    rw (sum_size_is r (padded r c.args.before_a (at r c.args.a.now)) (padded r c.args.before_b (at r c.args.b.now)) c.args.place, ← x, ← y) c.add.ensures.wide

pub returns-in-Some-None-clause-value : goal.returns-in-Some-None-clause-value
returns-in-Some-None-clause-value g c =
    let r = g.C.Ring.ring in let laws = g.met.C.Ring.laws in let f = padded r c.args.before_a (at r c.args.a.now) in let k = c.args.place in
    let x = c.in-Some-None.ensures.value in let y = c.in-Some-None.ensures'.value in
    let v = value_padded laws c.args.before_a (at r c.args.a.now) c.requires.a k in
    rw (plus_is r f (padded r c.args.before_b (at r c.args.b.now)) k, y, laws.add-nought (f k) v, ← x) c.copy.ensures.value

pub returns-in-None-Some-clause-value : goal.returns-in-None-Some-clause-value
returns-in-None-Some-clause-value g c =
    let r = g.C.Ring.ring in let laws = g.met.C.Ring.laws in let f = padded r c.args.before_b (at r c.args.b.now) in let k = c.args.place in
    let x = c.in-None-Some.ensures.value in let y = c.in-None-Some.ensures'.value in
    let v = value_padded laws c.args.before_b (at r c.args.b.now) c.requires.b k in
    rw (plus_is r (padded r c.args.before_a (at r c.args.a.now)) f k, x, nought-add laws (f k) v, ← y) c.copy-in-None-Some.ensures.value

pub returns-in-None-None-clause-value : goal.returns-in-None-None-clause-value
returns-in-None-None-clause-value g c =
    let r = g.C.Ring.ring in let laws = g.met.C.Ring.laws in let k = c.args.place in
    let x = c.in-None-None.ensures.value in let y = c.in-None-None.ensures'.value in
    rw (plus_is r (padded r c.args.before_a (at r c.args.a.now)) (padded r c.args.before_b (at r c.args.b.now)) k, x, y, laws.add-nought r.nought laws.value_nought) c.zero.ensures.value
