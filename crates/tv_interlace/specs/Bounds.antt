-- The heights that a slice a at t lets stand at a place of the slices at t + 1 that interlace with it.
--
-- WITHOUT_END     == higher than every column that is listed
-- floor t a d     == the least height at place d
-- ceiling t a d   == the greatest one
use Rattle.std.specs.Prelude.{ℕ, suc, ◌-◌, ℤ, pos, negsuc, cond, nat_lt, nat_le}
use Rattle.tv_spec_slices.specs.Slices.{Shape, at}
use Rattle.tv_interlace.specs.declared.bounds.TheConstants.{WITHOUT_END}

abbrev pub floor : ℤ → Shape → ℕ → ℕ
floor (pos n) a d = cond (nat_lt (suc d) a.full) WITHOUT_END (at a (suc d))
floor (negsuc n) a d = cond (nat_lt d a.full) WITHOUT_END (at a d)

abbrev pub ceiling : ℤ → Shape → ℕ → ℕ
ceiling (pos n) a d = cond (nat_lt d a.full) WITHOUT_END (at a d)
ceiling (negsuc n) a d = cond (nat_le d a.full) WITHOUT_END (at a (d - 1))
