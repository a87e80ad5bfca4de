use Rattle.std.proofs.Common.{◌≡◌, arith, w64, to_z, of_z}
use Rattle.std.specs.Prelude.{◌-ℤ◌}
use Rattle.std.proofs.lemmas.Int.{ints}
use Rattle.tv_frontier.proofs.Spread.{new-long, new-few, corner-there, corner-legs-at, is-join}
use Rattle.tv_frontier.proofs.spreads.join_of.Goals as goal

pub edge_costs-requires-clause-one_each : goal.edge_costs-requires-clause-one_each
edge_costs-requires-clause-one_each c = new-long c.args.stage.now.web.now c.args.stage.now.d c.args.stage.now.t c.args.new.now c.args.added.part c.known.ensures.graded c.requires.stage.degree c.requires.new c.requires.part

pub edge_costs-requires-clause-few : goal.edge_costs-requires-clause-few
edge_costs-requires-clause-few c = new-few c.args.stage.now.web.now c.args.stage.now.d c.args.stage.now.t c.args.new.now c.args.added.part c.known.ensures.graded c.requires.stage.degree c.requires.new c.requires.part

pub legs_at-requires : goal.legs_at-requires
legs_at-requires c = corner-there c.args.stage.now.web.now c.args.stage.now.t c.requires.stage.corner

pub returns-clause-join : goal.returns-clause-join
returns-clause-join c =
    let cost = c.edge_costs.ensures.bound in let overlap = c.overlap_cost.ensures.bound in
    let shift : to_z w64 (of_z w64 (to_z w64 (of_z w64 c.edge_costs.result) -ℤ to_z w64 (of_z w64 c.overlap_cost.result))) ≡ c.edge_costs.result -ℤ c.overlap_cost.result = omega (arith, ints) in
    is-join c.args.stage.now.web.now c.args.stage.now.d c.args.stage.now.t c.args.first.now c.args.new.now c.args.added.part c.args.seen.now c.in_ok-legs.legs c.args.added.class c.args.near c.edge_costs.result c.overlap_cost.result (to_z w64 (of_z w64 (to_z w64 (of_z w64 c.edge_costs.result) -ℤ to_z w64 (of_z w64 c.overlap_cost.result)))) c.requires.part c.requires.seen c.known.ensures.graded c.known.ensures.coordinates c.known.ensures.rule c.requires.stage.degree c.requires.first c.requires.new
    (corner-legs-at c.args.stage.now.web.now c.args.stage.now.t c.args.first.now c.args.new.now c.args.seen.now c.in_ok-legs.legs c.requires.seen c.in_ok-legs.ensures)
    c.requires.class c.requires.near c.requires.within c.edge_costs.ensures.value c.overlap_cost.ensures.value shift (omega (arith, ints))
