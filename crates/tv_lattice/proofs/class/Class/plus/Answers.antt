use Rattle.std.proofs.Common.{ap, ◌∙◌, length, arith}
use Rattle.tv_lattice.proofs.Sums.{sums-entries}
use Rattle.tv_lattice.proofs.class.Class.plus.Goals as goal

pub invariant_of-result : goal.invariant_of-result
invariant_of-result c =
    let first = c.deref.ensures.value ∙ c.self.view_is in
    let second = c.deref-2.ensures.value ∙ c.other.view_is in
    rw (c.in_ok-sums.ensures, first, second) (sums-entries c.args.self.now c.args.other.now c.requires.same_length (omega (arith, ap length c.self.view_is)) c.requires.small)
