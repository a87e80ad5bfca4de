use Rattle.tv_cert.proofs.Gathered.{IsGathered}
use Rattle.tv_cert.proofs.powers.class_powers.Given as goal

abbrev pub invariant-loop-value : goal.invariant-loop-value
invariant-loop-value l = IsGathered l.base l.values l.count l.value-index l.powers.items
