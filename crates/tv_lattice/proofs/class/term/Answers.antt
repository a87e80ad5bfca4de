use Rattle.std.proofs.Common.{◌*ℤ◌, w64, lit<, refl}
use Rattle.std.proofs.lemmas.Int.{to_z-of_z, fits_signed_mul}
use Rattle.tv_lattice.proofs.Sums.{product-limit}
use Rattle.tv_lattice.proofs.class.term.Goals as goal

pub returns-clause-value : goal.returns-clause-value
returns-clause-value c =
    let fits = fits_signed_mul w64 c.args.height c.args.entry 1000000 100000000000 c.requires.height c.requires.entry (lit< tt) in
    rw (to_z-of_z w64 c.args.height c.ranges.height, to_z-of_z w64 c.args.entry c.ranges.entry, to_z-of_z w64 (c.args.height *ℤ c.args.entry) fits) refl

pub returns-clause-bound : goal.returns-clause-bound
returns-clause-bound c =
    let fits = fits_signed_mul w64 c.args.height c.args.entry 1000000 100000000000 c.requires.height c.requires.entry (lit< tt) in
    rw (to_z-of_z w64 c.args.height c.ranges.height, to_z-of_z w64 c.args.entry c.ranges.entry, to_z-of_z w64 (c.args.height *ℤ c.args.entry) fits) (product-limit c.args.height c.args.entry c.requires.height c.requires.entry)
