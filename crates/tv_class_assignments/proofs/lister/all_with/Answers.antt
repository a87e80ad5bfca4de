use Rattle.tv_class_assignments.proofs.Moved.{first_all}
use Rattle.tv_class_assignments.proofs.lister.all_with.Goals as goal

pub returns : goal.returns
returns c = first_all c.args.web.now c.args.left c.in_ok-frames.frames.items c.in_ok-frames.ensures c.requires
