use Rattle.std.proofs.Common.{ℕ, ◌<◌, ◌≤◌, ◌^◌, take}
use Rattle.std.specs.List.{AllByRecursion}
use Rattle.tv_spec_slices.specs.Slices.{reach}
use Rattle.tv_sums.proofs.table.longest.Given as goal

abbrev pub invariant-loop-j : goal.invariant-loop-j
invariant-loop-j g l =
    (l.most < 2 ^ 31) × (AllByRecursion (λ e. reach e.0 ≤ l.most) (take l.j l.table.entries) × ((m : ℕ) → AllByRecursion (λ e. reach e.0 ≤ m) l.table.entries → l.most ≤ m))
