use Rattle.std.proofs.Common.{refl, pos}
use Rattle.tv_ring.specs.Sums.{at}
use Rattle.tv_recurrence.proofs.tests.third.Goals as goal

pub coefficient-requires-clause-exact : goal.coefficient-requires-clause-exact
unfolding at
coefficient-requires-clause-exact c = record {
  quotient = pos 7;
  exact =
      let first = c.new-first.ensures.value in let second = c.new-second.ensures.value in
      let rows = c.in_ok-rows.ensures.items in let only = c.in_ok-vec.ensures.items in
      let line = c.requires.line in let unit = c.requires.unit in
      let powers = c.requires.powers in let double = c.requires.double in
      rw (first, second, rows, only, powers, double, line, unit) refl;
}
