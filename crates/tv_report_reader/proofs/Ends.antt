-- The last item of a list decides what may follow.
use Rattle.std.proofs.Common.{◌≡◌, ℕ, ℤ, suc, ◌-◌, ◌<◌, List, [], ◌∷◌, ◌++◌, length, sym, ◌∙◌, ap, subst, arith, ◌<ℤ◌}
use Rattle.std.specs.Prelude.{Some, slice_get}
use Rattle.tv_spec_text.specs.Reports.{Term, Rises}
use Rattle.tv_spec_reports.specs.IntegerLines.{GenusValue}
use Rattle.tv_spec_reports.specs.Grammar.{GeneraRise}
use Rattle.tv_report_reader.specs.Checks.{RisesTo, GeneraRiseTo}

further : {A : Type 0} (x y : A) (xs : List A) (t : A) → slice_get (x ∷ y ∷ xs) (length (x ∷ y ∷ xs) - 1) ≡ Some t → slice_get (y ∷ xs) (length (y ∷ xs) - 1) ≡ Some t
further x y xs t e = let last : length (x ∷ y ∷ xs) - 1 ≡ suc (length (y ∷ xs) - 1) = omega arith in ap (slice_get (x ∷ y ∷ xs)) (sym last) ∙ e

pub RisesTo-last : (ts : List Term) (n : ℤ) (t : Term) → slice_get ts (length ts - 1) ≡ Some t → (RisesTo ts n → t.exponent <ℤ n) × (t.exponent <ℤ n → RisesTo ts n)
RisesTo-last [] n t e = absurd (cc)
RisesTo-last (u ∷ []) n t e = let same : u ≡ t = cc in (λ h. subst (λ (x : Term). x.exponent <ℤ n) same h, λ h. subst (λ (x : Term). x.exponent <ℤ n) (sym same) h)
RisesTo-last (u ∷ v ∷ us) n t e = RisesTo-last (v ∷ us) n t (further u v us t e)

pub GeneraRiseTo-last : (is : List GenusValue) (g : ℕ) (i : GenusValue) → slice_get is (length is - 1) ≡ Some i → (GeneraRiseTo is g → i.genus < g) × (i.genus < g → GeneraRiseTo is g)
GeneraRiseTo-last [] g i e = absurd (cc)
GeneraRiseTo-last (u ∷ []) g i e = let same : u ≡ i = cc in (λ h. subst (λ (x : GenusValue). x.genus < g) same h, λ h. subst (λ (x : GenusValue). x.genus < g) (sym same) h)
GeneraRiseTo-last (u ∷ v ∷ us) g i e = GeneraRiseTo-last (v ∷ us) g i (further u v us i e)

-- rising lists, with one more

pub Rises-push : (ts : List Term) (t : Term) → Rises ts → RisesTo ts t.exponent → Rises (ts ++ t ∷ [])
Rises-push [] t r h = tt
Rises-push (u ∷ []) t r h = (h, tt)
Rises-push (u ∷ v ∷ us) t r h = (r.0, Rises-push (v ∷ us) t r.1 h)

pub Rises-at : (ts : List Term) (t : Term) (more : List Term) → Rises (ts ++ t ∷ more) → RisesTo ts t.exponent
Rises-at [] t more r = tt
Rises-at (u ∷ []) t more r = first u t more r where
  first : (u t : Term) (more : List Term) → Rises (u ∷ t ∷ more) → u.exponent <ℤ t.exponent
  first u t more r = r.0
Rises-at (u ∷ v ∷ us) t more r = Rises-at (v ∷ us) t more r.1

pub GeneraRise-push : (is : List GenusValue) (i : GenusValue) → GeneraRise is → GeneraRiseTo is i.genus → GeneraRise (is ++ i ∷ [])
GeneraRise-push [] i r h = tt
GeneraRise-push (u ∷ []) i r h = (h, tt)
GeneraRise-push (u ∷ v ∷ us) i r h = (r.0, GeneraRise-push (v ∷ us) i r.1 h)

pub GeneraRise-at : (is : List GenusValue) (i : GenusValue) (more : List GenusValue) → GeneraRise (is ++ i ∷ more) → GeneraRiseTo is i.genus
GeneraRise-at [] i more r = tt
GeneraRise-at (u ∷ []) i more r = r.0
GeneraRise-at (u ∷ v ∷ us) i more r = GeneraRise-at (v ∷ us) i more r.1
