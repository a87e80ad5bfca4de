use Rattle.std.proofs.Common.{◌≡◌, ◌↔◌, pos, drop}
use Rattle.std.specs.List.{AllByRecursion}
use Rattle.tv_report_reader.proofs.checks.are_zero.Given as goal

abbrev pub invariant-loop-entry : goal.invariant-loop-entry
invariant-loop-entry l = AllByRecursion (λ z. z ≡ pos 0) (drop l.entry-index l.entries) ↔ AllByRecursion (λ z. z ≡ pos 0) l.entries
