use Rattle.std.proofs.Common.{◌∙◌, ap}
use Rattle.std.specs.Prelude.{pos, ◌-ℤ◌, ◌*ℤ◌}
use Rattle.tv_cells.proofs.Bounded.{read_one, read_cell, cell_low, cell_high}
use Rattle.tv_cells.proofs.costs.cost_of_cell.Goals as goal

pub returns-clause-value : goal.returns-clause-value
returns-clause-value c =
    read_cell c.times-first.result c.times-second.result c.times-first.ensures.low c.times-first.ensures.high c.times-second.ensures.low c.times-second.ensures.high
    ∙ (ap (λ a. (pos 1 -ℤ a) -ℤ c.times-second.result) (c.times-first.ensures.value ∙ ap (λ m. m *ℤ pos c.args.i) (read_one c.args.ma c.requires.ma_low c.requires.ma_high))
    ∙ ap (λ b. (pos 1 -ℤ (c.args.ma *ℤ pos c.args.i)) -ℤ b) (c.times-second.ensures.value ∙ ap (λ m. m *ℤ pos c.args.j) (read_one c.args.mb c.requires.mb_low c.requires.mb_high)))

pub returns-clause-low : goal.returns-clause-low
returns-clause-low c =
    rw (read_cell c.times-first.result c.times-second.result c.times-first.ensures.low c.times-first.ensures.high c.times-second.ensures.low c.times-second.ensures.high)
    (cell_low c.times-first.result c.times-second.result c.times-first.ensures.high c.times-second.ensures.high)

pub returns-clause-high : goal.returns-clause-high
returns-clause-high c =
    rw (read_cell c.times-first.result c.times-second.result c.times-first.ensures.low c.times-first.ensures.high c.times-second.ensures.low c.times-second.ensures.high)
    (cell_high c.times-first.result c.times-second.result c.times-first.ensures.low c.times-second.ensures.low)
