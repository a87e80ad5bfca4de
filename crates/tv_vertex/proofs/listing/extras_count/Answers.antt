use Rattle.std.proofs.Common.{◌≡◌, arith, ◌∙◌}
use Rattle.std.specs.Prelude.{pos}
use Rattle.std.proofs.lemmas.Int.{ints}
use Rattle.tv_ring.proofs.Times.{times-wholes}
use Rattle.tv_cells.specs.Extras.{count}
use Rattle.tv_vertex.proofs.listing.extras_count.Goals as goal

is_count : (c : goal.After-get) → c.get.result ≡ pos (count c.args.legs.now c.args.number)
is_count c = c.get.ensures.value ∙ (c.in-Ok.ensures.value ∙ times-wholes (count c.args.legs.now c.args.number))

pub overflow_cast-result : goal.overflow_cast-result
overflow_cast-result c = let e = is_count c in let range = c.get.ensures.range in omega (arith, ints)

pub returns-in-Ok-clause-value : goal.returns-in-Ok-clause-value
returns-in-Ok-clause-value c = let e = is_count c in let range = c.get.ensures.range in omega (arith, ints)

pub returns-in-Ok-clause-bound : goal.returns-in-Ok-clause-bound
returns-in-Ok-clause-bound c = let e = is_count c in let range = c.get.ensures.range in omega (arith, ints)
