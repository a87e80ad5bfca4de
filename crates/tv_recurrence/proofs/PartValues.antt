-- Worked values: the parts of the classes 1 and 2 for the class 2, at the weight 3, in the product of (1 - y Q)^-1,
-- (1 - y^2 Q)^-2 and (1 - y^3 Q^2)^-5. Its coefficient of y^3 Q^2 is 1 * 2 + 5, and twice that is 14.
use Rattle.std.specs.Prelude.{◌≡◌, pos, negsuc, [], ◌∷◌}
use Rattle.std.proofs.Common.{refl}
use Rattle.tv_ring.specs.Sums.{at}
use Rattle.tv_recurrence.specs.Parts.{Addends, taken_sum, parts_total, parts_size}
use Rattle.tv_recurrence.specs.Products.{class_after, power_by}

-- from the line 0, 1, 2 of the class 1 and the line 1 of class zero
abbrev single : Addends
single = record {
  degree = 1;
  powers = record { step = 1; power = negsuc 0 } ∷ record { step = 2; power = negsuc 1 } ∷ [];
  rows = (pos 0 ∷ pos 1 ∷ pos 2 ∷ []) ∷ (pos 1 ∷ []) ∷ [];
}

-- the same with the powers of other signs
abbrev turned : Addends
turned = record {
  degree = 1;
  powers = record { step = 1; power = pos 1 } ∷ record { step = 2; power = pos 2 } ∷ [];
  rows = (pos 0 ∷ negsuc 0 ∷ negsuc 1 ∷ []) ∷ (pos 1 ∷ []) ∷ [];
}

abbrev double : Addends
double = record {
  degree = 2;
  powers = record { step = 3; power = negsuc 4 } ∷ [];
  rows = (pos 1 ∷ []) ∷ [];
}

-- at the weight 2 the step 1 takes the line 1 at 1, and class zero at 0
two-steps : taken_sum single.rows 1 2 ≡ pos 2
unfolding at
two-steps = refl

-- the step 2 takes the line 1 at 0, and no more
one-step : taken_sum single.rows 2 2 ≡ pos 0
unfolding at
one-step = refl

whole : parts_total 3 (single ∷ double ∷ []) ≡ pos 14
unfolding at
whole = refl

-- with (1 - y Q) (1 - y^2 Q)^2 in place of these the coefficients of the class 1 have the other sign, and that of the class 2
-- at the weight 3 the same
other-signs : parts_total 3 (turned ∷ double ∷ []) ≡ pos 14
unfolding at
other-signs = refl

whole-size : parts_size 3 (single ∷ double ∷ []) ≡ 14
unfolding at
whole-size = refl

power-of-step : power_by single.powers 2 ≡ negsuc 1
power-of-step = refl

two-taken : class_after 2 (pos 5 ∷ pos 3 ∷ []) (pos 2 ∷ pos 1 ∷ []) ≡ pos 1 ∷ pos 1 ∷ []
two-taken = refl
