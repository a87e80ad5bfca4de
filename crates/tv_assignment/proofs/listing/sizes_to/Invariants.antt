use Rattle.std.proofs.Common.{◌≡◌, length}
use Rattle.tv_assignment.specs.Listing.{AreSizes}
use Rattle.tv_assignment.proofs.listing.sizes_to.Given as goal

abbrev pub invariant-loop-size : goal.invariant-loop-size
invariant-loop-size l = record {
  sizes : AreSizes l.sizes.items;
  number : length l.sizes.items ≡ l.size;
}
