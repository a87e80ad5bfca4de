use Rattle.std.proofs.Common.{w64}
use Rattle.std.proofs.lemmas.Int.{to_z-of_z}
use Rattle.tv_answers.proofs.ResidueReport.{alike, full_told}
use Rattle.tv_answers.proofs.residues.full_by_residues.Goals as goal

pub print-requires : goal.print-requires
print-requires c =
    let first = rw (to_z-of_z w64 c.args.upto c.ranges.upto) at c.in-Ok.ensures.full in
    let second = rw (to_z-of_z w64 c.args.upto c.ranges.upto) at c.in-Ok-full.ensures.full in
    alike _ _ c.args.web.now c.args.degree c.args.upto c.in-Ok.first c.in-Ok-full.second first second

pub returns : goal.returns
returns c =
    let first = rw (to_z-of_z w64 c.args.upto c.ranges.upto) at c.in-Ok.ensures.full in
    let second = rw (to_z-of_z w64 c.args.upto c.ranges.upto) at c.in-Ok-full.ensures.full in
    full_told c.args.web.now c.args.degree c.args.upto c.in-Ok.first c.in-Ok-full.second c.print.result first second c.print.ensures
