use Rattle.std.proofs.Common.{◌≤◌, length, arith}
use Rattle.std.specs.List.{zip}
use Rattle.std.proofs.lemmas.Slice.Zip.{length-zip}
use Rattle.tv_spec_reports.specs.Residues.{residue_section_lines}
use Rattle.tv_reports.specs.Residues.{residue_section}
use Rattle.tv_reports.proofs.Printing.{piece_more, sections-whole}
use Rattle.tv_reports.proofs.ResidueLines.{pair_text}
use Rattle.tv_reports.proofs.residues.put_classes.Goals as goal

pub loop-k-preserved : goal.loop-k-preserved
loop-k-preserved c =
    let put = c.in_ok-put_class.ensures in let f = c.args.first.now in
    piece_more (pair_text f.heights f.upto) (zip f.rows c.args.second.now.rows) _ _ _ c.loop-k.k put.0 put.1 c.loop-k.invariant put.2

pub returns : goal.returns
returns c =
    let f = c.args.first.now in let rows = zip f.rows c.args.second.now.rows in
    let all : length rows ≤ c.loop-k.k = omega (arith, length-zip f.rows c.args.second.now.rows) in
    sections-whole residue_section_lines (residue_section f.heights f.upto) rows _ _ c.loop-k.k all c.loop-k.invariant
