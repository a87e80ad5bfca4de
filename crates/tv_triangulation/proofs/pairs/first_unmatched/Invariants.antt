use Rattle.std.proofs.Common.{take}
use Rattle.tv_triangulation.proofs.Earliest.{IsEarliest}
use Rattle.tv_triangulation.proofs.Matching.{IsAlone}
use Rattle.tv_triangulation.proofs.pairs.first_unmatched.Given as goal

abbrev pub invariant-loop-s : goal.invariant-loop-s
invariant-loop-s l = IsEarliest (IsAlone l.edges l.hull) (take l.s-index l.edges) l.first
