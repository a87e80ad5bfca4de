use Rattle.tv_integers.proofs.Listed.{kept_listed}
use Rattle.tv_integers.proofs.integers.Integers.known.Goals as goal

pub returns-clause-kept : goal.returns-clause-kept
returns-clause-kept c = rw (← c.self.view_is) (kept_listed c.self.inside.heights.items c.self.inside.rows.items c.self.invariant.rises c.self.invariant.each)
