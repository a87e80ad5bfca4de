use Rattle.std.proofs.Common.{take}
use Rattle.tv_integers.specs.Kept.{classes_of}
use Rattle.tv_candidates.specs.Closing.{AddsClasses}
use Rattle.tv_cert.proofs.classes.add_classes.Given as goal

abbrev pub invariant-loop-k : goal.invariant-loop-k
invariant-loop-k l = AddsClasses (take l.k (classes_of l.integers.heights l.integers.integers)) l.initial.family l.family
