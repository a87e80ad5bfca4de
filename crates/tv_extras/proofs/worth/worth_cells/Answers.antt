use Rattle.std.proofs.Common.{◌+◌, sym, ◌∙◌, ap, arith}
use Rattle.tv_extras.specs.Room.{is_worth}
use Rattle.tv_extras.proofs.Writing.{diagonals-next}
use Rattle.tv_extras.proofs.WorthSets.{worth-none, worth-done}
use Rattle.tv_extras.proofs.worth.worth_cells.Goals as goal

pub returns-then-side-eq0 : goal.returns-then-side-eq0
returns-then-side-eq0 c = c.new-cells.ensures.items ∙ sym (worth-none c.args.legs.now c.args.most (ap (λ e. c.args.most + e) (sym c.extent.ensures.value) ∙ c.if-side-eq0.true))

pub loop-k-preserved : goal.loop-k-preserved
loop-k-preserved c =
    diagonals-next (is_worth c.args.legs.now c.args.most) (c.args.most + c.extent.result) _ c.loop-k.k c.push_diagonal.new.cells.items c.loop-k.cells.items _ c.loop-k-test.true
    c.in_ok-push_diagonal.ensures c.loop-k.invariant

pub returns : goal.returns
returns c =
    worth-done c.args.legs.now c.args.most (c.args.most + c.extent.result) c.loop-k.k c.loop-k.cells.items (ap (λ e. c.args.most + e) c.extent.ensures.value) (omega arith) (omega arith) c.loop-k.invariant
