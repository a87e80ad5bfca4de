use Rattle.std.proofs.Common.{◌≡◌, length, drop}
use Rattle.tv_spec_boxes.specs.Assignments.{zeros, same_vector}
use Rattle.tv_class_assignments.proofs.remaining.is_zero.Given as goal

abbrev pub invariant-loop-entry : goal.invariant-loop-entry
invariant-loop-entry l = same_vector (zeros (length (drop l.entry-index l.entries))) (drop l.entry-index l.entries) ≡ same_vector (zeros (length l.entries)) l.entries
