use Rattle.std.proofs.Common.{take}
use Rattle.tv_degrees.specs.Edges.{with_heights}
use Rattle.tv_degrees.specs.Grades.{AreGrades}
use Rattle.tv_degrees.proofs.grades.grades_of.Given as goal

abbrev pub invariant-loop-k : goal.invariant-loop-k
invariant-loop-k l = AreGrades (with_heights l.web l.heights) (take l.k l.edges) l.grades.classes.items l.grades.degrees.items
