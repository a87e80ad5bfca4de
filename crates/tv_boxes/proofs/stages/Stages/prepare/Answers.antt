use Rattle.std.proofs.Common.{arith}
use Rattle.tv_boxes.proofs.Staged.{filled-on, prepared-same, left_read}
use Rattle.tv_boxes.proofs.stages.Stages.prepare.Goals as goal

pub returns : goal.returns
returns c =
    let s = c.args.self.now in
    let valid = c.requires.valid in
    let left = left_read c.start_of-start.result s.chi c.boxes_left.result valid.chi c.start_of-start.ensures.bound c.boxes_left.ensures.value in
    let filled = filled-on s.web.now s.assignment s.chi c.start_of-start.result c.in_ok-legs.legs.items c.deref.result.now c.boxes_left.result c.in_ok-self.field-0.to_come c.in_ok-legs.ensures.legs c.deref.ensures.value c.start_of-start.ensures.value left c.in_ok-self.ensures.value in
    record {
      kept = record {
        valid = record { on = valid.on; chosen = λ e. absurd cc; chi = valid.chi };
        same = prepared-same s.web.now s.chi s.stage s.assignment s.fillings c.in_ok-self.field-0 s.all c.requires.stage filled;
      };
      fewer = rw c.requires.stage (omega arith);
    }
