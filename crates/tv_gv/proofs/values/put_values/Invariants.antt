use Rattle.std.proofs.Common.{◌≡◌, take, reverse}
use Rattle.tv_class_integers.specs.ClassIntegers.{onto}
use Rattle.tv_gv.proofs.values.put_values.Given as goal

abbrev pub invariant-loop-k : goal.invariant-loop-k
invariant-loop-k l = record {
  heights : l.integers.heights ≡ l.initial.integers.heights;
  integers : l.integers.integers ≡ onto l.class l.base (reverse (take l.k l.values)) l.initial.integers.integers;
}
