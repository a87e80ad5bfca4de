use Rattle.std.proofs.Common.{◌∙◌, w64}
use Rattle.std.proofs.lemmas.Int.{to_z-of_z}
use Rattle.tv_lattice.proofs.Sums.{entry-fits}
use Rattle.tv_degrees.specs.Edges.{edge_at}
use Rattle.tv_degrees.proofs.Bounds.{rule_at}
use Rattle.tv_assigned_series.proofs.Entries.{within-class, entry-small}
use Rattle.tv_assigned_series.proofs.class.entry_at.Goals as goal

pub entry_at-requires-clause-within : goal.entry_at-requires-clause-within
entry_at-requires-clause-within c = within-class c.args.web.now (edge_at c.args.web.now c.args.e) c.entries.result.now c.args.k (c.entries.ensures.value ∙ c.class_of.ensures) c.requires.place

pub product-requires-clause-entry : goal.product-requires-clause-entry
product-requires-clause-entry c =
    let w = c.args.web.now in
    rw (to_z-of_z w64 c.entry_at.result (entry-fits c.entry_at.result c.entry_at.ensures.limit))
    (entry-small w (edge_at w c.args.e) c.entries.result.now c.args.k c.entry_at.result c.known.ensures.coordinates (rule_at w c.args.e c.requires.edge c.known.ensures.rule) (c.entries.ensures.value ∙ c.class_of.ensures) c.requires.place c.entry_at.ensures.value)
