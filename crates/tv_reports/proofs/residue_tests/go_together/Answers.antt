use Rattle.std.proofs.Common.{sym, ◌∙◌}
use Rattle.tv_spec_boxes.proofs.Vectors.{same_vector_tells}
use Rattle.tv_reports.proofs.SameClasses.{not_false}
use Rattle.tv_reports.proofs.residue_tests.go_together.Goals as goal

pub returns-clause-heights : goal.returns-clause-heights
returns-clause-heights c = λ _.
    sym c.heights.ensures.value ∙ same_vector_tells c.heights.result.now c.heights-2.result.now (not_false _ (sym c.ne.ensures ∙ c.if-ne.false)) ∙ c.heights-2.ensures.value
