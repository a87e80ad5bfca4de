-- The next diagonal is a signed number of 32 bits.
use Rattle.std.proofs.Common.{◌<◌, ◌^◌, ℤ, pos, ◌+ℤ◌, unsigned_abs, SFits, w32, arith}
use Rattle.std.proofs.lemmas.Int.{ints}

pub up-fits : (t : ℤ) → unsigned_abs t < 2 ^ 30 → SFits w32 (t +ℤ pos 1)
up-fits t l = omega (arith, ints)
