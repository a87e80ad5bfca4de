use Rattle.std.proofs.Common.{◌*ℤ◌, w64, lit<, refl}
use Rattle.std.proofs.lemmas.Int.{to_z-of_z, fits_signed_mul, unsigned_abs-mul}
use Rattle.std.proofs.Math.Nat.{mul-le-mul}
use Rattle.tv_degrees.proofs.relation.product.Goals as goal

pub returns-clause-value : goal.returns-clause-value
returns-clause-value c =
    let fits = fits_signed_mul w64 c.args.a c.args.b 80000 80000 c.requires.first c.requires.second (lit< tt) in
    rw (to_z-of_z w64 c.args.a c.ranges.a, to_z-of_z w64 c.args.b c.ranges.b, to_z-of_z w64 (c.args.a *ℤ c.args.b) fits) refl

pub returns-clause-bound : goal.returns-clause-bound
returns-clause-bound c =
    let fits = fits_signed_mul w64 c.args.a c.args.b 80000 80000 c.requires.first c.requires.second (lit< tt) in
    rw (to_z-of_z w64 c.args.a c.ranges.a, to_z-of_z w64 c.args.b c.ranges.b, to_z-of_z w64 (c.args.a *ℤ c.args.b) fits, unsigned_abs-mul c.args.a c.args.b) (mul-le-mul c.requires.first c.requires.second)
