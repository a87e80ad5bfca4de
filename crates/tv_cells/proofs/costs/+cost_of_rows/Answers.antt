use Rattle.std.proofs.Common.{◌≡◌, ◌+◌, arith, ◌∙◌, ap}
use Rattle.std.specs.Prelude.{◌+ℤ◌}
use Rattle.tv_partition.specs.Rows.{size}
use Rattle.tv_cells.specs.Costs.{row_cost}
use Rattle.tv_cells.proofs.Bounded.{read_one, same_row, same_rows, read_sum, few_low, few_high, sum_low, sum_high, rows-none, rows-step}
use Rattle.tv_cells.proofs.costs.+cost_of_rows.Goals as goal

pub returns-in_default-clause-value : goal.returns-in_default-clause-value
returns-in_default-clause-value t c = rows-none c.args.ma c.args.mb c.args.i c.args.rows.now c.in_default.ensures.cases

pub returns-clause-value : goal.returns-clause-value
returns-clause-value t c =
    let cells : size c.args.rows.now ≡ c.in-Some.row.now + size c.in-Some.rest.now = ap size c.in-Some.ensures.cases.0 in
    read_sum c.cost_of_row-first.result c.cost_of_rows.result
    (few_low c.cost_of_row-first.result c.in-Some.row.now (omega (arith, c.requires.small)) c.cost_of_row-first.ensures.low)
    (few_high c.cost_of_row-first.result c.in-Some.row.now (omega (arith, c.requires.small)) c.cost_of_row-first.ensures.high)
    (few_low c.cost_of_rows.result (size c.in-Some.rest.now) (omega (arith, c.requires.small)) c.cost_of_rows.ensures.low)
    (few_high c.cost_of_rows.result (size c.in-Some.rest.now) (omega (arith, c.requires.small)) c.cost_of_rows.ensures.high)
    ∙ (ap (λ a. a +ℤ c.cost_of_rows.result) (c.cost_of_row-first.ensures.value ∙ same_row _ _ c.args.ma c.args.mb c.args.i c.in-Some.row.now (read_one c.args.ma c.requires.ma_low c.requires.ma_high) (read_one c.args.mb c.requires.mb_low c.requires.mb_high))
    ∙ (ap (λ b. row_cost c.args.ma c.args.mb c.args.i c.in-Some.row.now +ℤ b) (c.cost_of_rows.ensures.value ∙ same_rows _ _ c.args.ma c.args.mb (c.args.i + 1) c.in-Some.rest.now (read_one c.args.ma c.requires.ma_low c.requires.ma_high) (read_one c.args.mb c.requires.mb_low c.requires.mb_high))
    ∙ rows-step c.args.ma c.args.mb c.args.i c.in-Some.row.now c.in-Some.rest.now c.args.rows.now c.in-Some.ensures.cases.0))

pub returns-clause-low : goal.returns-clause-low
returns-clause-low t c =
    let cells : size c.args.rows.now ≡ c.in-Some.row.now + size c.in-Some.rest.now = ap size c.in-Some.ensures.cases.0 in
    rw (read_sum c.cost_of_row-first.result c.cost_of_rows.result
    (few_low c.cost_of_row-first.result c.in-Some.row.now (omega (arith, c.requires.small)) c.cost_of_row-first.ensures.low)
    (few_high c.cost_of_row-first.result c.in-Some.row.now (omega (arith, c.requires.small)) c.cost_of_row-first.ensures.high)
    (few_low c.cost_of_rows.result (size c.in-Some.rest.now) (omega (arith, c.requires.small)) c.cost_of_rows.ensures.low)
    (few_high c.cost_of_rows.result (size c.in-Some.rest.now) (omega (arith, c.requires.small)) c.cost_of_rows.ensures.high))
    (sum_low c.cost_of_row-first.result c.cost_of_rows.result c.in-Some.row.now (size c.in-Some.rest.now) (size c.args.rows.now) cells c.cost_of_row-first.ensures.low c.cost_of_rows.ensures.low)

pub returns-clause-high : goal.returns-clause-high
returns-clause-high t c =
    let cells : size c.args.rows.now ≡ c.in-Some.row.now + size c.in-Some.rest.now = ap size c.in-Some.ensures.cases.0 in
    rw (read_sum c.cost_of_row-first.result c.cost_of_rows.result
    (few_low c.cost_of_row-first.result c.in-Some.row.now (omega (arith, c.requires.small)) c.cost_of_row-first.ensures.low)
    (few_high c.cost_of_row-first.result c.in-Some.row.now (omega (arith, c.requires.small)) c.cost_of_row-first.ensures.high)
    (few_low c.cost_of_rows.result (size c.in-Some.rest.now) (omega (arith, c.requires.small)) c.cost_of_rows.ensures.low)
    (few_high c.cost_of_rows.result (size c.in-Some.rest.now) (omega (arith, c.requires.small)) c.cost_of_rows.ensures.high))
    (sum_high c.cost_of_row-first.result c.cost_of_rows.result c.in-Some.row.now (size c.in-Some.rest.now) (size c.args.rows.now) cells c.cost_of_row-first.ensures.high c.cost_of_rows.ensures.high)
