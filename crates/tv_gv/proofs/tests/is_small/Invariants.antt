use Rattle.std.proofs.Common.{take}
use Rattle.tv_gv.proofs.TestFamilies.{IsSmallAt}
use Rattle.tv_gv.proofs.tests.is_small.Given as goal

abbrev pub invariant-loop-entry : goal.invariant-loop-entry
invariant-loop-entry l = IsSmallAt l.degree (take l.entry-index l.entries)
