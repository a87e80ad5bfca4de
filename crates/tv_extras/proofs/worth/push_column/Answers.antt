use Rattle.std.proofs.Common.{◌≡◌, ◌-◌, false, sym, ◌∙◌, arith}
use Rattle.std.specs.Prelude.{filter}
use Rattle.tv_cells.specs.Cells.{cell}
use Rattle.tv_cells.specs.Grid.{heights}
use Rattle.tv_extras.specs.Room.{is_worth}
use Rattle.tv_extras.proofs.Room.{worth-grows}
use Rattle.tv_extras.proofs.Writing.{column-next, column-none, all-written}
use Rattle.tv_extras.proofs.worth.push_column.Goals as goal

pub returns-then-not-is_worth : goal.returns-then-not-is_worth
returns-then-not-is_worth c =
    let legs = c.args.legs.now in
    let off : is_worth legs c.args.most (cell c.args.x c.args.y c.loop-z.z) ≡ false = sym c.is_worth.ensures ∙ c.if-not-is_worth.true in
    all-written c.loop-z.cells.items (filter (is_worth legs c.args.most) (heights c.args.x c.args.y c.loop-z.z (c.args.height - c.loop-z.z))) _
    (column-none (is_worth legs c.args.most) c.args.x c.args.y c.loop-z.z (c.args.height - c.loop-z.z)
    (λ z l. worth-grows legs c.args.most (cell c.args.x c.args.y c.loop-z.z) (cell c.args.x c.args.y z) (omega arith) (omega arith) l off))
    c.loop-z.invariant

pub loop-z-preserved : goal.loop-z-preserved
loop-z-preserved c =
    column-next (is_worth c.args.legs.now c.args.most) c.args.x c.args.y c.args.height c.loop-z.z c.push.new.self.items c.loop-z.cells.items _ c.loop-z-test.true
    (sym c.is_worth.ensures ∙ c.if-not-is_worth.false) c.in_ok-push.ensures.items c.loop-z.invariant
