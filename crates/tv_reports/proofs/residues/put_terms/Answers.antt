use Rattle.std.proofs.Common.{arith, w64, to_z}
use Rattle.std.proofs.lemmas.Int.{ints, to_z-of_z}
use Rattle.tv_reports.proofs.ResidueLines.{none_printed, one_printed, all_printed}
use Rattle.tv_reports.proofs.residues.put_terms.Goals as goal

pub loop-n-init : goal.loop-n-init
loop-n-init c = none_printed c.args.first.now c.args.second.now _ _ _ (omega (arith, ints))

pub loop-n-preserved : goal.loop-n-preserved
loop-n-preserved c = one_printed c.args.first.now c.args.second.now _ (to_z w64 c.loop-n.n-bits) _ _ _ _ (omega (arith, ints)) (omega (arith, ints)) c.loop-n.invariant c.in_ok-put_exponent.ensures

pub returns : goal.returns
returns c = all_printed c.args.first.now c.args.second.now _ c.args.upto (to_z w64 c.loop-n.n-bits) _ _ (to_z-of_z w64 c.args.upto c.ranges.upto) (omega (arith, ints)) c.loop-n.invariant
