use Rattle.std.proofs.Common.{◌≡◌}
use Rattle.tv_web.specs.Found.{found_of, owners_in}
use Rattle.tv_web.proofs.Finding.{and_all}
use Rattle.tv_web.proofs.Finding.{left}
use Rattle.tv_web.proofs.owners.owners_of.Given as goal

abbrev pub invariant-loop-t : goal.invariant-loop-t
invariant-loop-t l = and_all l.found (left l.triangles l.a l.b l.t) ≡ found_of (owners_in l.triangles l.a l.b)
