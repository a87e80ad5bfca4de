use Rattle.std.specs.Prelude.{string_bytes}
use Rattle.tv_reports.proofs.ResidueLines.{ArePrinted}
use Rattle.tv_reports.proofs.residues.put_terms.Given as goal

abbrev pub invariant-loop-n : goal.invariant-loop-n
invariant-loop-n l = ArePrinted l.first l.second l.upto l.n (string_bytes l.initial.text) (string_bytes l.text)
