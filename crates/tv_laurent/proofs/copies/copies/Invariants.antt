use Rattle.std.proofs.Common.{◌≡◌, take}
use Rattle.tv_laurent.proofs.copies.copies.Given as goal

abbrev pub invariant-loop-coefficient : goal.invariant-loop-coefficient
invariant-loop-coefficient g l = l.copies.items ≡ take l.coefficient-index l.row
