use Rattle.std.proofs.Common.{◌∙◌, arith}
use Rattle.tv_degrees.specs.Edges.{edge_at}
use Rattle.tv_class_assignments.proofs.Lefts.{class_length}
use Rattle.tv_class_assignments.proofs.tables.touches.Goals as goal

pub entry_at-requires-clause-within : goal.entry_at-requires-clause-within
entry_at-requires-clause-within c =
    let one_each = class_length c.args.web.now (edge_at c.args.web.now c.args.e) c.entries.result.now (c.entries.ensures.value ∙ c.class_of.ensures) in
    let within = c.requires.point in
    omega arith
