use Rattle.tv_class_integers.proofs.GatheredPowers.{IsListedTo}
use Rattle.tv_class_integers.proofs.gathered.gathered_powers.Given as goal

abbrev pub invariant-loop-step : goal.invariant-loop-step
invariant-loop-step l = IsListedTo l.powers l.step l.list.items
