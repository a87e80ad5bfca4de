use Rattle.std.proofs.Common.{refl}
use Rattle.tv_class_assignments.proofs.Ends.{entered_by}
use Rattle.tv_class_assignments.proofs.moves.enter.Goals as goal

pub returns-clause-ok : goal.returns-clause-ok
returns-clause-ok c = entered_by c.args.frames.now.items c.push.new.self.items c.args.top c.index_mut.result.now _ c.args.left c.requires.top c.in_ok-push.ensures.items c.index_mut.ensures.value refl
