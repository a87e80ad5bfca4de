use Rattle.std.proofs.Common.{pos, ◌≤ℤ◌}
use Rattle.tv_candidates.proofs.Closed.{IsRound}
use Rattle.tv_candidates.proofs.rounds.close_at.Given as goal

abbrev pub invariant-loop-first : goal.invariant-loop-first
invariant-loop-first l = record {
  least : pos 1 ≤ℤ l.first;
  most : l.first ≤ℤ l.degree;
  round : IsRound l.family l.fn.closed l.degree l.first l.closed;
}
