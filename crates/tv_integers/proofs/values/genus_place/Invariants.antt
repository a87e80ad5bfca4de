use Rattle.std.proofs.Common.{◌≡◌, ◌+◌, drop}
use Rattle.tv_integers.specs.Places.{genus_place}
use Rattle.tv_integers.proofs.values.genus_place.Given as goal

abbrev pub invariant-loop-k : goal.invariant-loop-k
invariant-loop-k l = genus_place l.genus l.values ≡ l.k + genus_place l.genus (drop l.k l.values)
