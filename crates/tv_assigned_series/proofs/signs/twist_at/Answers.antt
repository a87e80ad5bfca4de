use Rattle.std.proofs.Common.{arith, ◌∙◌}
use Rattle.std.specs.Prelude.{pos, ◌*ℤ◌}
use Rattle.std.proofs.lemmas.Int.{ints}
use Rattle.tv_assignment.proofs.Bounded.{twist-small, read_small, read_cells}
use Rattle.tv_assigned_series.proofs.signs.twist_at.Goals as goal

pub returns-clause-bound : goal.returns-clause-bound
returns-clause-bound c =
    let a = c.normals-a.result.0 in let n = c.size.result in
    let normal = read_small a (omega (arith, c.normals-a.ensures.first_small)) in
    let number = read_small c.from.result (omega (arith, ints)) ∙ c.from.ensures in
    rw (normal, number, ← c.size.ensures.value) (read_cells (a *ℤ pos n) n 402 (twist-small a n c.normals-a.ensures.first_small) c.size.ensures.bound (omega arith))
