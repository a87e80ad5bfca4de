use Rattle.std.proofs.Common.{◌≡◌, ◌≤ℤ◌, pos, ◌+ℤ◌, ◌-ℤ◌, ◌<◌, length, arith}
use Rattle.std.proofs.lemmas.Int.{ints}
use Rattle.tv_laws_series.specs.Terms.{above}
use Rattle.tv_laws_series.proofs.Exponents.{above_is}
use Rattle.tv_laws_series.proofs.Listed.{read_at}
use Rattle.tv_laurent.proofs.series.Series.coefficient.Goals as goal

pub returns-else-n-self : goal.returns-else-n-self
returns-else-n-self g c =
    let a = c.self.inside in let xs = a.coefficients.items in let n = c.args.n in let o = above_is a.low n in
    let last : c.upto.result ≡ (a.low +ℤ pos (length xs)) -ℤ pos 1 = rw (← c.self.view_is) at c.upto.ensures.value in
    let at_least : a.low ≤ℤ n = omega (arith, ints) in
    let at_most : n ≤ℤ ((a.low +ℤ pos (length xs)) -ℤ pos 1) = omega (arith, ints) in
    let within : above a.low n < length xs = omega (arith, ints) in
    record { told = rw (← c.self.view_is) (at_least, at_most, read_at g.C.Ring.ring xs _ (above a.low n) c.index.result.now c.index.ensures (omega (arith, ints)) within) }
