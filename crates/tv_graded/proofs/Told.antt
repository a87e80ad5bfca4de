-- What a call tells of a coefficient, as the coefficient of the definitions.
use Rattle.std.proofs.Common.{◌≡◌, ℤ, sym, ◌∙◌}
use Rattle.tv_ring.specs.Operations.{Operations}
use Rattle.tv_laws_series.specs.Terms.{Terms}
use Rattle.tv_laurent.specs.SeriesCalls.{Tells}
use Rattle.tv_laurent.specs.declared.coefficient.Coefficient.{Coefficient}
use Rattle.tv_laurent.specs.declared.coefficient.Coefficient.TheVariants.{Beyond, Zero, Is}
use Rattle.tv_spec_series.specs.Families.{coefficient}
use Rattle.tv_laws_series.proofs.Coefficients.{coefficient_below, coefficient_at, coefficient_beyond}

-- the coefficient that is told, and nought where none is
abbrev pub told : {A : Type 0} → Operations A → Coefficient A → A
told r Beyond = r.nought
told r Zero = r.nought
told r (Is x) = x.now

pub coefficient_told : {A : Type 0} (r : Operations A) (a : Terms A) (n : ℤ) (c : Coefficient A) → Tells r a n c → coefficient r a n ≡ told r c
coefficient_told r a n Beyond tells = coefficient_beyond r a n tells
coefficient_told r a n Zero tells = coefficient_below r a n tells.0
coefficient_told r a n (Is x) tells = coefficient_at r a n tells.0 ∙ sym tells.2
