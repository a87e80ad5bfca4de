use Rattle.std.proofs.Common.{ℕ, ◌≤◌, ◌↔◌}
use Rattle.tv_candidates.specs.Degrees.{listed}
use Rattle.tv_candidates.proofs.Depths.{AreAbove}
use Rattle.tv_candidates.proofs.slopes.slope.Given as goal

abbrev pub invariant-loop-entry : goal.invariant-loop-entry
invariant-loop-entry l = record {
  can : (goal.iterator-loop-entry).can_next l.entry-iterator;
  finite : (goal.iterator-loop-entry).is_finite l.entry-iterator;
  whole : (c : ℕ) → AreAbove c (listed l.family) ↔ ((l.slope ≤ c) × AreAbove c l.entry-iterator);
}
