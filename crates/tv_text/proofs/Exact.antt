-- The answer of the reader is exact.
use Rattle.std.proofs.Common.{◌≡◌, ℕ, suc, List, refl, sym, ◌∙◌, ap, subst, arith}
use Rattle.tv_lattice.specs.declared.fault.FileFault.{FileFault}
use Rattle.tv_lattice.specs.declared.fault.FileFault.TheVariants.{TooLong, Line, TooMany}
use Rattle.tv_lattice.specs.declared.fault.InputError.TheVariants.{Fault}
use Rattle.tv_lattice.specs.Excesses.{IsExcess}
use Rattle.tv_lattice.proofs.Excesses.{IsExcess-unique, IsExcess-none}
use Rattle.tv_spec_plane.specs.Web.{Web}
use Rattle.tv_spec_text.specs.Lines.{word_lines}
use Rattle.tv_spec_text.specs.Files.{IsFile}
use Rattle.tv_spec_text.proofs.Places.{IsPlace-unique, IsPlace-none}
use Rattle.tv_spec_text.proofs.Readings.{Spells-unique}
use Rattle.tv_text.specs.Faults.{IsText, IsTextFault}

pub IsTextFault-unique : (bytes : List ℕ) (f g : FileFault) → IsTextFault bytes (Fault f) → IsTextFault bytes (Fault g) → f ≡ g
IsTextFault-unique bytes TooLong TooLong x y = refl
IsTextFault-unique bytes TooLong (Line n) x y = absurd (omega (arith, x, y.0))
IsTextFault-unique bytes TooLong (TooMany f) x y = absurd (omega (arith, x, y.0))
IsTextFault-unique bytes TooLong g x y = absurd y
IsTextFault-unique bytes (Line m) TooLong x y = absurd (omega (arith, y, x.0))
IsTextFault-unique bytes (Line m) (Line n) x y = ap Line (x.1.1 ∙ ap suc (IsPlace-unique IsFile (word_lines bytes) x.1.0 y.1.0 x.1.2 y.1.2) ∙ sym y.1.1)
IsTextFault-unique bytes (Line m) (TooMany f) x y = absurd (IsPlace-none IsFile (word_lines bytes) x.1.0 (y.1.0, y.1.1) x.1.2)
IsTextFault-unique bytes (Line m) g x y = absurd y
IsTextFault-unique bytes (TooMany e) TooLong x y = absurd (omega (arith, y, x.0))
IsTextFault-unique bytes (TooMany e) (Line n) x y = absurd (IsPlace-none IsFile (word_lines bytes) y.1.0 (x.1.0, x.1.1) y.1.2)
IsTextFault-unique bytes (TooMany e) (TooMany f) x y =
    let same : y.1.0 ≡ x.1.0 = Spells-unique (word_lines bytes) y.1.0 x.1.0 y.1.1 x.1.1 in
    ap TooMany (IsExcess-unique x.1.0 e f x.1.2 (subst (λ (w : Web). IsExcess w f) same y.1.2))
IsTextFault-unique bytes (TooMany e) g x y = absurd y
IsTextFault-unique bytes f g x y = absurd x

pub IsText-accepted : (bytes : List ℕ) (w : Web) (f : FileFault) → IsText bytes w → IsTextFault bytes (Fault f) → ⊥
IsText-accepted bytes w TooLong t x = omega (arith, x, t.0)
IsText-accepted bytes w (Line n) t x = IsPlace-none IsFile (word_lines bytes) x.1.0 (w, t.1) x.1.2
IsText-accepted bytes w (TooMany e) t x =
    let same : x.1.0 ≡ w = Spells-unique (word_lines bytes) x.1.0 w x.1.1 t.1 in
    IsExcess-none w e t.2 (subst (λ (v : Web). IsExcess v e) same x.1.2)
IsText-accepted bytes w f t x = x
