use Rattle.tv_degrees.proofs.Entries.{AreEntries}
use Rattle.tv_degrees.proofs.classes.entries_of.Given as goal

abbrev pub invariant-loop-k : goal.invariant-loop-k
invariant-loop-k l = AreEntries l.edge l.a l.b l.k l.count l.entries.items
