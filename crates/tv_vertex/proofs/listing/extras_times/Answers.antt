use Rattle.std.proofs.Common.{◌≡◌, ◌+◌, ◌∙◌, ap}
use Rattle.tv_cells.specs.Extras.{count}
use Rattle.tv_vertex.specs.Rest.{rest}
use Rattle.tv_vertex.proofs.Steps.{start-rises, start-count}
use Rattle.tv_vertex.proofs.listing.extras_times.Goals as goal

pub times_rest-requires : goal.times_rest-requires
times_rest-requires g c =
    start-rises c.new-chosen.result.items c.as_slice.result.now (c.args.number + c.extent.result) c.new-chosen.ensures.items (c.as_slice.ensures.value ∙ c.in-Ok.ensures)

pub returns-clause-value : goal.returns-clause-value
returns-clause-value g c =
    let counts : rest c.args.legs.now c.new-chosen.result.items c.as_slice.result.now c.args.number ≡ count c.args.legs.now c.args.number =
    start-count c.args.legs.now c.new-chosen.result.items c.as_slice.result.now c.args.number (c.args.number + c.extent.result)
    c.new-chosen.ensures.items (c.as_slice.ensures.value ∙ c.in-Ok.ensures) (ap (λ e. c.args.number + e) c.extent.ensures.value) in
    rw (← counts) c.times_rest.ensures.value

pub returns-clause-wide : goal.returns-clause-wide
returns-clause-wide g c =
    let counts : rest c.args.legs.now c.new-chosen.result.items c.as_slice.result.now c.args.number ≡ count c.args.legs.now c.args.number =
    start-count c.args.legs.now c.new-chosen.result.items c.as_slice.result.now c.args.number (c.args.number + c.extent.result)
    c.new-chosen.ensures.items (c.as_slice.ensures.value ∙ c.in-Ok.ensures) (ap (λ e. c.args.number + e) c.extent.ensures.value) in
    rw (← counts) c.times_rest.ensures.wide
