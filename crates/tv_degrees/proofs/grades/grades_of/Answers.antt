use Rattle.std.proofs.Common.{sym, ◌∙◌}
use Rattle.tv_degrees.specs.Edges.{with_heights}
use Rattle.tv_degrees.proofs.Heights.{compact-heights}
use Rattle.tv_degrees.proofs.Graded.{grades_last, grades_fault}
use Rattle.tv_degrees.proofs.grades.grades_of.Goals as goal

pub returns-in-Err : goal.returns-in-Err
returns-in-Err c = grades_fault (with_heights c.args.web.now c.args.heights.now) c.compact-edges.result.now c.loop-k.k c.loop-k.grades.classes.items c.loop-k.grades.degrees.items c.in-Err.fault c.loop-k-test.true (c.compact-edges.ensures.value ∙ sym (compact-heights c.args.web.now c.args.heights.now)) c.loop-k.invariant c.in-Err.ensures

pub returns : goal.returns
returns c = grades_last (with_heights c.args.web.now c.args.heights.now) c.compact-edges.result.now c.loop-k.k c.loop-k.grades.classes.items c.loop-k.grades.degrees.items c.loop-k-test.false (c.compact-edges.ensures.value ∙ sym (compact-heights c.args.web.now c.args.heights.now)) c.loop-k.invariant
