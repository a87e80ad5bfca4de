use Rattle.std.proofs.Common.{◌≡◌, refl, w64, to_z, of_z}
use Rattle.tv_class_assignments.proofs.Assigned.{assigned-on}
use Rattle.tv_boxes.proofs.Staged.{chi_read}
use Rattle.tv_boxes.proofs.stages.Stages.start.Goals as goal

pub returns-clause-valid : goal.returns-clause-valid
returns-clause-valid c =
    let chi : to_z w64 (of_z w64 c.args.chi) ≡ c.args.chi = chi_read c.args.chi c.requires.chi in
    record {
      on = rw c.in_ok-all.ensures (assigned-on c.args.web.now c.args.class c.known.ensures.graded c.requires.degree);
      chosen = λ e. absurd cc;
      chi = rw chi c.requires.chi;
    }

pub returns-clause-value : goal.returns-clause-value
returns-clause-value c = rw (chi_read c.args.chi c.requires.chi, c.in_ok-all.ensures) refl
