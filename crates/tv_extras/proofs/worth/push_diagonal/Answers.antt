use Rattle.std.proofs.Common.{◌≡◌, ◌+◌, ◌-◌, ◌++◌, false, sym, ◌∙◌, ap, arith}
use Rattle.std.specs.Prelude.{filter}
use Rattle.tv_cells.specs.Cells.{cell}
use Rattle.tv_cells.specs.Grid.{columns}
use Rattle.tv_extras.specs.Room.{is_worth}
use Rattle.tv_extras.proofs.Room.{worth-grows}
use Rattle.tv_extras.proofs.Writing.{columns-next, columns-none, all-written, diagonal-whole}
use Rattle.tv_extras.proofs.worth.push_diagonal.Goals as goal

pub returns-then-not-is_worth : goal.returns-then-not-is_worth
returns-then-not-is_worth c =
    let legs = c.args.legs.now in
    let q = is_worth legs c.args.most in
    let x = c.saturating_sub-x.result in
    let y = c.saturating_sub-y.result in
    let d = c.loop-d.d in
    let n = c.args.side - (x + y) in
    let off : is_worth legs c.args.most (cell (d + x) (d + y) 0) ≡ false = sym c.is_worth.ensures ∙ c.if-not-is_worth.true in
    all-written c.loop-d.cells.items (filter q (columns x y c.args.side d (n - d))) _
    (columns-none q x y c.args.side d (n - d)
    (λ e z l. worth-grows legs c.args.most (cell (d + x) (d + y) 0) (cell (e + x) (e + y) z) (omega arith) (omega arith) (omega arith) off))
    c.loop-d.invariant
    ∙ ap (λ cs. c.args.cells.now.items ++ cs) (diagonal-whole q c.args.side c.args.k x y c.saturating_sub-x.ensures c.saturating_sub-y.ensures)

pub loop-d-preserved : goal.loop-d-preserved
loop-d-preserved c =
    columns-next (is_worth c.args.legs.now c.args.most) c.saturating_sub-x.result c.saturating_sub-y.result c.args.side _ c.loop-d.d c.push_column.new.cells.items c.loop-d.cells.items _ c.loop-d-test.true
    c.in_ok-push_column.ensures c.loop-d.invariant
