use Rattle.std.proofs.Common.{refl}
use Rattle.tv_class_assignments.proofs.Ends.{enlarged_then, enlarged_else}
use Rattle.tv_class_assignments.proofs.moves.enlarge.Goals as goal

pub returns-then-frame-degree : goal.returns-then-frame-degree
returns-then-frame-degree c = enlarged_then c.args.frames.now.items c.args.top c.degree.result c.index_mut-frame.result.now _ c.requires c.index_mut-frame.ensures.value c.degree.ensures.value c.if-frame-degree.true refl

pub returns-else-frame-degree : goal.returns-else-frame-degree
returns-else-frame-degree c = enlarged_else c.args.frames.now.items _ c.truncate.new.self.items c.args.top c.args.top c.degree.result c.index_mut-frame.result.now c.requires refl refl c.truncate.ensures.items c.index_mut-frame.ensures.value c.degree.ensures.value c.if-frame-degree.false
