use Rattle.std.specs.Prelude.{pos}
use Rattle.std.proofs.Common.{◌≡◌, ◌∙◌, length, sym, ap, arith, suc}
use Rattle.std.proofs.lemmas.Int.{ints}
use Rattle.tv_laws_series.specs.Terms.{terms}
use Rattle.tv_laws_series.proofs.Listed.{length-listed}
use Rattle.tv_vertex.specs.Corners.{extras_times}
use Rattle.tv_vertex.proofs.Corners.{numbers-are}
use Rattle.tv_vertex.proofs.corner.corner_series.Goals as goal

pub new-requires : goal.new-requires
new-requires g c =
    let long : length c.in_ok-counts.counts.items ≡ suc c.args.k = ap length (c.in_ok-counts.ensures.value ∙ numbers-are g.C.Ring.ring c.args.legs.now c.args.k) ∙ length-listed (extras_times g.C.Ring.ring c.args.legs.now) (suc c.args.k) in
    record { bounded = record { low = omega (arith, ints); upto = omega (arith, ints) } }

pub returns-clause-value : goal.returns-clause-value
returns-clause-value g c = c.new.ensures.value ∙ ap (terms (pos 0)) (c.in_ok-counts.ensures.value ∙ numbers-are g.C.Ring.ring c.args.legs.now c.args.k)
