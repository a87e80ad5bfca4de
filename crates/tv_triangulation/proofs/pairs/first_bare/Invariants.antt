use Rattle.std.proofs.Common.{take}
use Rattle.tv_triangulation.proofs.Earliest.{IsEarliest}
use Rattle.tv_triangulation.proofs.Matching.{IsLeft}
use Rattle.tv_triangulation.proofs.pairs.first_bare.Given as goal

abbrev pub invariant-loop-s : goal.invariant-loop-s
invariant-loop-s l = IsEarliest (IsLeft l.edges) (take l.s-index l.hull) l.first
