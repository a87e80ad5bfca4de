use Rattle.std.proofs.Common.{◌-◌, arith, ◌∙◌, ap}
use Rattle.std.specs.Prelude.{◌+ℤ◌}
use Rattle.std.proofs.lemmas.Int.{ints}
use Rattle.tv_cells.specs.Costs.{row_cost}
use Rattle.tv_cells.proofs.Bounded.{read_one, same_cell, same_row, read_sum, few_low, few_high, row-none, row-step}
use Rattle.tv_cells.proofs.costs.+cost_of_row.Goals as goal

pub returns-then-n-eq0-clause-value : goal.returns-then-n-eq0-clause-value
returns-then-n-eq0-clause-value t c = row-none c.args.ma c.args.mb c.args.i c.args.n c.if-n-eq0.true

pub returns-clause-value : goal.returns-clause-value
returns-clause-value t c =
    read_sum c.cost_of_row-before.result c.cost_of_cell.result
    (few_low c.cost_of_row-before.result (c.args.n - 1) (omega arith) c.cost_of_row-before.ensures.low)
    (few_high c.cost_of_row-before.result (c.args.n - 1) (omega arith) c.cost_of_row-before.ensures.high)
    (few_low c.cost_of_cell.result 1 (omega arith) (omega (arith, ints, c.cost_of_cell.ensures.low)))
    (few_high c.cost_of_cell.result 1 (omega arith) (omega (arith, ints, c.cost_of_cell.ensures.high)))
    ∙ (ap (λ a. a +ℤ c.cost_of_cell.result) (c.cost_of_row-before.ensures.value ∙ same_row _ _ c.args.ma c.args.mb c.args.i (c.args.n - 1) (read_one c.args.ma c.requires.ma_low c.requires.ma_high) (read_one c.args.mb c.requires.mb_low c.requires.mb_high))
    ∙ (ap (λ b. row_cost c.args.ma c.args.mb c.args.i (c.args.n - 1) +ℤ b) (c.cost_of_cell.ensures.value ∙ same_cell _ _ c.args.ma c.args.mb c.args.i (c.args.n - 1) (read_one c.args.ma c.requires.ma_low c.requires.ma_high) (read_one c.args.mb c.requires.mb_low c.requires.mb_high))
    ∙ row-step c.args.ma c.args.mb c.args.i c.args.n (omega arith)))
