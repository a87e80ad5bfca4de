use Rattle.std.proofs.Common.{take}
use Rattle.tv_spec_series.specs.Families.{classes}
use Rattle.tv_frontier.specs.Rows.{HasShape, KeepsRows}
use Rattle.tv_frontier.proofs.joins.join_rows.Given as goal

abbrev pub invariant-loop-k : goal.invariant-loop-k
invariant-loop-k g l = record {
  shape : HasShape l.stage.web.now l.stage.d l.stage.upto l.family;
  held : KeepsRows g.C.Ring.IsValue g.C.Ring.ring l.stage.web.now l.stage.d l.stage.n l.stage.t l.join.first.now l.join.new.now (take l.k (classes l.part.rows)) l.initial.family l.family;
}
