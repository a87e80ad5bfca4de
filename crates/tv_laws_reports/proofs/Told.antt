-- The integers of a class: there are none at a class of degree 0, none of them is 0, and their genera rise.
use Rattle.std.proofs.Common.{◌≡◌, ◌≢◌, inl, inr, ℕ, ◌<◌, ℤ, pos, List, [], ◌∷◌, sym, ◌∙◌, ap, refl, arith}
use Rattle.std.specs.Prelude.{not, ◌&&◌}
use Rattle.std.proofs.lemmas.Int.{ints}
use Rattle.std.proofs.lemmas.Bool.{and_parts}
use Rattle.std.specs.List.{AllByRecursion}
use Rattle.std.specs.Ordering.{int_eq}
use Rattle.tv_laws_series.proofs.NormalForm.{bool_cases}
use Rattle.tv_spec_plane.specs.Web.{degree_of}
use Rattle.tv_spec_boxes.specs.Assignments.{same_vector}
use Rattle.tv_spec_boxes.proofs.Vectors.{same_vector_tells}
use Rattle.tv_spec_series.proofs.Order.{before_apart}
use Rattle.tv_spec_katz.specs.Katz.{Integer}
use Rattle.tv_spec_katz.specs.Relations.{ComesLater, IsInteger, AreOrdered}
use Rattle.tv_spec_reports.specs.IntegerLines.{GenusValue}
use Rattle.tv_spec_reports.specs.IntegersReport.{genus_value, integers_of}
use Rattle.tv_spec_reports.specs.Grammar.{GeneraRise}

-- what each integer of the class gives holds of those that are told
pub told_all : (v : List ℤ) (P : GenusValue → Type 0) (Q : Integer → Type 0) → ((i : Integer) → Q i → i.class ≡ v → P (genus_value i))
    → (is : List Integer) → AllByRecursion Q is → AllByRecursion P (integers_of v is)
told_all v P Q step [] all = tt
told_all v P Q step (i ∷ is) all = bool_cases (same_vector i.class v && not (int_eq i.value (pos 0)))
    (λ b. rw b (
      step i all.0 (same_vector_tells i.class v (and_parts (same_vector i.class v) (not (int_eq i.value (pos 0))) b).0),
      told_all v P Q step is all.1,
    ))
    (λ b. rw b (told_all v P Q step is all.1))

nothing : (js : List GenusValue) → AllByRecursion (λ j. ⊥) js → js ≡ []
nothing [] all = refl
nothing (j ∷ js) all = absurd all.0

module _ (D : ℕ) (hs v : List ℤ) where
  pub none_told : degree_of hs v ≡ pos 0 → (is : List Integer) → AllByRecursion (IsInteger D hs) is → integers_of v is ≡ []
  none_told none is all = nothing (integers_of v is) (told_all v (λ j. ⊥) (IsInteger D hs)
      (λ i integer same. let degree = ap (degree_of hs) same in let up = integer.positive.degree in omega (arith, ints)) is all)

  pub told_other : (is : List Integer) → AllByRecursion (IsInteger D hs) is → AllByRecursion (λ j. j.value ≢ pos 0) (integers_of v is)
  told_other is all = told_all v (λ j. j.value ≢ pos 0) (IsInteger D hs) (λ i integer same. integer.value) is all

  greater : (i : Integer) → i.class ≡ v → (k : Integer) → ComesLater hs i k → k.class ≡ v → i.genus < k.genus
  greater i own k (inl before) same = absurd (before_apart hs k.class i.class before (same ∙ sym own))
  greater i own k (inr later) same = later.1

  rise_next : (j : GenusValue) (js : List GenusValue) → AllByRecursion (λ k. j.genus < k.genus) js → GeneraRise js → GeneraRise (j ∷ js)
  rise_next j [] all rise = tt
  rise_next j (k ∷ ks) all rise = (all.0, rise)

  pub told_rise : (is : List Integer) → AreOrdered D hs is → GeneraRise (integers_of v is)
  told_rise [] order = tt
  told_rise (i ∷ is) order = bool_cases (same_vector i.class v && not (int_eq i.value (pos 0)))
      (λ b.
      let own = same_vector_tells i.class v (and_parts (same_vector i.class v) (not (int_eq i.value (pos 0))) b).0 in
      let after = told_all v (λ j. i.genus < j.genus) (ComesLater hs i) (greater i own) is order.1.0 in
      rw b (rise_next (genus_value i) (integers_of v is) after (told_rise is order.1.1)))
      (λ b. rw b (told_rise is order.1.1))
