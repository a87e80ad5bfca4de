use Rattle.std.proofs.Common.{◌≡◌, take}
use Rattle.tv_spec_series.specs.Families.{classes}
use Rattle.tv_reports.proofs.residue_tests.have_one_list.Given as goal

abbrev pub invariant-loop-k : goal.invariant-loop-k
invariant-loop-k l = take l.k (classes l.first.rows) ≡ take l.k (classes l.second.rows)
