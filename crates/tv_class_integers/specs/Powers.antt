-- The powers of 1 - X of one integer, from its lowest exponent on. An integer of genus g has its lowest factor at the exponent
-- 1 - g, the next one at the exponent above, and so on: without end in genus 0, else 2 g - 1 of them.
--
-- magnitude g j      == the size of the power j for an integer 1 of genus g: j + 1 in genus 0, else binomial(2g - 2, j)
-- lead_sign g j      == its sign: 1 in genus 0, else (-1)^(j + g)
-- power_of g j x     == the power j of an integer x of genus g
-- added s g x t      == the power at the weight t where the powers begin at the weight s: 0 below s
-- AreMagnitudes g n row == the row has the first n magnitudes
use Rattle.std.specs.Prelude.{ℕ, zero, suc, ◌+◌, ◌-◌, ◌*◌, ℤ, pos, ◌*ℤ◌, List, nat_lt, if◌then◌else◌}
use Rattle.tv_spec_katz.specs.Binomials.{choose, power_sign}
use Rattle.tv_class_integers.specs.Rows.{IsRow}

abbrev pub magnitude : ℕ → ℕ → ℕ
magnitude zero j = j + 1
magnitude (suc h) j = choose (2 * h) j

abbrev pub lead_sign : ℕ → ℕ → ℤ
lead_sign zero j = pos 1
lead_sign (suc h) j = power_sign (j + suc h)

abbrev pub power_of : ℕ → ℕ → ℤ → ℤ
power_of g j x = (lead_sign g j *ℤ x) *ℤ pos (magnitude g j)

abbrev pub added : ℕ → ℕ → ℤ → ℕ → ℤ
added s g x t = if nat_lt t s then pos 0 else power_of g (t - s) x

abbrev pub AreMagnitudes : ℕ → ℕ → List ℤ → Type 0
AreMagnitudes g n row = IsRow n (λ j. pos (magnitude g j)) row
