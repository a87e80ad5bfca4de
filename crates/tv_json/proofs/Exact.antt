-- The answer of the reader is exact.
use Rattle.std.proofs.Common.{◌≡◌, ℕ, List, Some, refl, sym, ◌∙◌, ap, subst, arith}
use Rattle.serde_json.specs.Data.{Data}
use Rattle.tv_lattice.specs.declared.fault.FileFault.{FileFault}
use Rattle.tv_lattice.specs.declared.fault.FileFault.TheVariants.{TooLong, Json, TooMany}
use Rattle.tv_lattice.specs.declared.fault.InputError.TheVariants.{Fault}
use Rattle.tv_lattice.specs.Excesses.{IsExcess}
use Rattle.tv_lattice.proofs.Excesses.{IsExcess-unique, IsExcess-none}
use Rattle.tv_spec_plane.specs.Web.{Web}
use Rattle.tv_spec_json.specs.Files.{SpellsValue, IsFileJson}
use Rattle.tv_spec_json.proofs.Readings.{SpellsValue-unique}
use Rattle.tv_json.specs.Faults.{IsJson, IsJsonFault}

pub IsFileJson-unique : (bytes : List ℕ) (w v : Web) → IsFileJson bytes w → IsFileJson bytes v → w ≡ v
IsFileJson-unique bytes w v f g =
    let both : Some f.value ≡ Some g.value = sym f.reads ∙ g.reads in
    let same : f.value ≡ g.value = cc in
    SpellsValue-unique f.value w v f.spells (subst (λ (d : Data). SpellsValue d v) (sym same) g.spells)

pub IsJsonFault-unique : (bytes : List ℕ) (f g : FileFault) → IsJsonFault bytes (Fault f) → IsJsonFault bytes (Fault g) → f ≡ g
IsJsonFault-unique bytes TooLong TooLong x y = refl
IsJsonFault-unique bytes TooLong Json x y = absurd (omega (arith, x, y.short))
IsJsonFault-unique bytes TooLong (TooMany f) x y = absurd (omega (arith, x, y.0))
IsJsonFault-unique bytes TooLong g x y = absurd y
IsJsonFault-unique bytes Json TooLong x y = absurd (omega (arith, y, x.short))
IsJsonFault-unique bytes Json Json x y = refl
IsJsonFault-unique bytes Json (TooMany f) x y = absurd (x.other y.1.0 y.1.1)
IsJsonFault-unique bytes Json g x y = absurd y
IsJsonFault-unique bytes (TooMany e) TooLong x y = absurd (omega (arith, y, x.0))
IsJsonFault-unique bytes (TooMany e) Json x y = absurd (y.other x.1.0 x.1.1)
IsJsonFault-unique bytes (TooMany e) (TooMany f) x y =
    let same : y.1.0 ≡ x.1.0 = IsFileJson-unique bytes y.1.0 x.1.0 y.1.1 x.1.1 in
    ap TooMany (IsExcess-unique x.1.0 e f x.1.2 (subst (λ (w : Web). IsExcess w f) same y.1.2))
IsJsonFault-unique bytes (TooMany e) g x y = absurd y
IsJsonFault-unique bytes f g x y = absurd x

pub IsJson-accepted : (bytes : List ℕ) (w : Web) (f : FileFault) → IsJson bytes w → IsJsonFault bytes (Fault f) → ⊥
IsJson-accepted bytes w TooLong t x = omega (arith, x, t.0)
IsJson-accepted bytes w Json t x = x.other w t.1
IsJson-accepted bytes w (TooMany e) t x =
    let same : x.1.0 ≡ w = IsFileJson-unique bytes x.1.0 w x.1.1 t.1 in
    IsExcess-none w e t.2 (subst (λ (v : Web). IsExcess v e) same x.1.2)
IsJson-accepted bytes w f t x = x
