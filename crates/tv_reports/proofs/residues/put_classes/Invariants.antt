use Rattle.std.proofs.Common.{◌≡◌, ◌++◌, take}
use Rattle.std.specs.Prelude.{string_bytes}
use Rattle.std.specs.List.{flat_map, zip}
use Rattle.tv_reports.proofs.ResidueLines.{pair_text}
use Rattle.tv_reports.proofs.residues.put_classes.Given as goal

abbrev pub invariant-loop-k : goal.invariant-loop-k
invariant-loop-k l = string_bytes l.text ≡ string_bytes l.initial.text ++ flat_map (pair_text l.first.heights l.first.upto) (take l.k (zip l.first.rows l.second.rows))
