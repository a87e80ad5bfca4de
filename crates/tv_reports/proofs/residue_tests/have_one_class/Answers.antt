use Rattle.std.proofs.Common.{◌≡◌, Some, sym, ap, ◌∙◌}
use Rattle.tv_spec_boxes.proofs.Vectors.{same_vector_tells}
use Rattle.tv_reports.proofs.SameClasses.{class_at}
use Rattle.tv_reports.proofs.residue_tests.have_one_class.Goals as goal

pub returns : goal.returns
returns c = λ same.
    let v = c.in-Some.entry.class.now in let w = c.in-Some-at.other.class.now in
    let entries : v ≡ w = sym c.entries.ensures.value ∙ same_vector_tells c.entries.result.now c.entries-2.result.now (sym c.eq.ensures ∙ same) ∙ c.entries-2.ensures.value in
    class_at c.args.first.now.rows c.args.k v c.in-Some.entry.series.now c.in-Some.ensures.row ∙ ap Some entries
    ∙ sym (class_at c.args.second.now.rows c.args.k w c.in-Some-at.other.series.now c.in-Some-at.ensures.row)
