use Rattle.std.proofs.Common.{◌≡◌, take}
use Rattle.tv_assignment.specs.Listing.{degrees_of}
use Rattle.tv_assignment.proofs.listing.degrees_of.Given as goal

abbrev pub invariant-loop-e : goal.invariant-loop-e
invariant-loop-e l = l.degrees.items ≡ take l.e (degrees_of l.web)
