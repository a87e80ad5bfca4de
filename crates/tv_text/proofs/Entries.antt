-- Numbers of at most nine digits are entries of classes.
use Rattle.std.proofs.Common.{ℤ, pos, negsuc, arith}
use Rattle.tv_lattice.specs.Classes.{IsEntry}
use Rattle.tv_spec_text.specs.Lines.{IsNumber}

pub number_is_entry : (z : ℤ) → IsNumber z → IsEntry z
number_is_entry (pos n) h = omega arith
number_is_entry (negsuc n) h = omega arith
