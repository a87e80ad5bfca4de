use Rattle.std.proofs.Common.{arith, w64, to_z, of_z}
use Rattle.std.proofs.lemmas.Int.{ints}
use Rattle.tv_spec_series.specs.Families.{row}
use Rattle.tv_reports.proofs.ResidueLines.{pair_at, entry_told}
use Rattle.tv_reports.proofs.residues.put_class.Goals as goal

pub returns-in_ok-put_entry : goal.returns-in_ok-put_entry
returns-in_ok-put_entry c =
    let v = c.in-Some.entry.class.now in let x = c.in-Some.entry.series.now in
    let w = c.in-Some-at.other.class.now in let y = c.in-Some-at.other.series.now in
    let f = c.args.first.now in (
      (row v x, row w y),
      pair_at f.rows c.args.second.now.rows c.args.k (row v x) (row w y) c.in-Some.ensures.row c.in-Some-at.ensures.row,
      entry_told _ _ f.heights c.in-Some.entry.degree (to_z w64 (of_z w64 c.upto.result)) f.upto v w x y c.in-Some.ensures.degree c.in_ok-put_entry.ensures (omega (arith, ints)),
    )
