use Rattle.std.proofs.Common.{◌≡◌, max, drop}
use Rattle.tv_cert.specs.Slopes.{values_genus}
use Rattle.tv_cert.proofs.slopes.genus_of.Given as goal

abbrev pub invariant-loop-value : goal.invariant-loop-value
invariant-loop-value l = values_genus l.values ≡ max l.genus (values_genus (drop l.value-index l.values))
