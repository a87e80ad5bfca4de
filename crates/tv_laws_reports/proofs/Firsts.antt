-- Class zero is the first class of a normalized family, and its only term is 1 at exponent 0.
--
-- IsFirst hs zero vs == the first of the classes is that one, and each further class is positive
use Rattle.std.proofs.Common.{◌≡◌, ◌≢◌, ◌⊎◌, inl, inr, Contains, ℤ, pos, ◌≤ℤ◌, ◌<ℤ◌, List, [], ◌∷◌, refl, sym, ◌∙◌, ap, arith}
use Rattle.std.proofs.lemmas.Int.{ints}
use Rattle.std.specs.List.{AllByRecursion}
use Rattle.std.specs.Ordering.{int_eq}
use Rattle.std.proofs.lemmas.Bool.Decides.{Decides-int_eq}
use Rattle.tv_lemmas.proofs.Members.{all-both, all-contains, contains-head, contains-later, contains-cases}
use Rattle.tv_ring.specs.Whole.{wholes}
use Rattle.tv_laws_series.proofs.NormalForm.{bool_cases}
use Rattle.tv_spec_plane.specs.Web.{degree_of}
use Rattle.tv_spec_boxes.specs.Assignments.{same_vector}
use Rattle.tv_spec_boxes.specs.Classes.{IsBefore, ClassesRise}
use Rattle.tv_spec_boxes.proofs.Vectors.{same_vector_tells}
use Rattle.tv_spec_series.specs.Families.{Row, classes, find, series_coefficient}
use Rattle.tv_spec_series.proofs.Order.{before_apart, first_before}
use Rattle.tv_spec_series.proofs.Rows.{find-next}
use Rattle.tv_spec_katz.specs.Relations.{IsPositiveClass}
use Rattle.tv_spec_text.specs.Reports.{Term, IsTerm, AreTerms}

-- ---- the first class

abbrev pub IsFirst : List ℤ → List ℤ → List (List ℤ) → Type 0
IsFirst hs zero [] = ⊥
IsFirst hs zero (v ∷ vs) = (v ≡ zero) × AllByRecursion (IsPositiveClass hs) vs

-- a class with a coefficient other than 0 is there
pub there : (v : List ℤ) (m : ℤ) (rows : List (Row ℤ)) → series_coefficient wholes m (find v rows) ≢ pos 0 → Contains (classes rows) v
unfolding find
there v m [] other = absurd (other refl)
there v m (x ∷ rows) other = bool_cases (same_vector x.class v)
    (λ b. contains-head v x.class (classes rows) (same_vector_tells x.class v b))
    (λ b. contains-later v x.class (classes rows) (there v m rows (λ e. other (ap (series_coefficient wholes m) (find-next v x rows b) ∙ e))))

not_before_zero : (hs zero v : List ℤ) → degree_of hs zero ≡ pos 0 → pos 0 <ℤ degree_of hs v → IsBefore hs v zero → ⊥
not_before_zero hs zero v none up (inl h) = omega (arith, ints)
not_before_zero hs zero v none up (inr h) = let e = h.0 in omega (arith, ints)

pub first_of : (hs zero : List ℤ) (vs : List (List ℤ)) → degree_of hs zero ≡ pos 0 → Contains vs zero → ClassesRise hs vs
    → AllByRecursion (λ v. (v ≡ zero) ⊎ IsPositiveClass hs v) vs → IsFirst hs zero vs
first_of hs zero [] none has rises all = let no = has.1 in omega arith
first_of hs zero (v ∷ vs) none has rises all = elim all.0 as (λ _. IsFirst hs zero (v ∷ vs)) [
  | inl same ↦ (
    same,
    all-both (IsBefore hs v) (λ u. (u ≡ zero) ⊎ IsPositiveClass hs u) (IsPositiveClass hs) (later same) vs
        (first_before hs v vs rises) all.1,
  )
  | inr positive ↦ elim (contains-cases zero v vs has) as (λ _. IsFirst hs zero (v ∷ vs)) [
    | inl same ↦ let degree = ap (degree_of hs) same in let up = positive.degree in absurd (omega (arith, ints))
    | inr behind ↦ absurd (not_before_zero hs zero v none positive.degree
        (all-contains (IsBefore hs v) vs zero (first_before hs v vs rises) behind))
  ]
]
  where
    later : v ≡ zero → (u : List ℤ) → IsBefore hs v u → (u ≡ zero) ⊎ IsPositiveClass hs u → IsPositiveClass hs u
    later same u before (inl e) = absurd (before_apart hs v u before (same ∙ sym e))
    later same u before (inr positive) = positive

-- ---- its only term

term : ℤ → ℤ → Term
term n x = record { exponent = n; coefficient = x }

module _ (f : ℤ → ℤ) (N : ℤ) (up : pos 0 ≤ℤ N) (unit : f (pos 0) ≡ pos 1) (none : (n : ℤ) → n ≤ℤ N → n ≢ pos 0 → f n ≡ pos 0) where
  at_zero : (t : Term) → IsTerm f N t → t.exponent ≡ pos 0
  at_zero t is = bool_cases (int_eq t.exponent (pos 0))
      (λ b. (Decides-int_eq t.exponent (pos 0)).0 b)
      (λ b. absurd (is.nonzero (is.value ∙ none t.exponent is.within (λ e. let yes = (Decides-int_eq t.exponent (pos 0)).1 e in absurd (cc)))))

  is_unit : (t : Term) → IsTerm f N t → t ≡ record { exponent = pos 0; coefficient = pos 1 }
  unfolding term
  is_unit t is =
      ap (λ n. term n t.coefficient) (at_zero t is) ∙ ap (λ x. term (pos 0) x) (is.value ∙ (ap f (at_zero t is) ∙ unit))

  pub only_unit : (ts : List Term) → AreTerms f N ts → ts ≡ record { exponent = pos 0; coefficient = pos 1 } ∷ []
  only_unit [] are =
      let has = are.whole (pos 0) up (λ e. let clash = sym unit ∙ e in absurd (cc)) in let no = has.1 in absurd (omega arith)
  only_unit (t ∷ []) are = ap (λ (x : Term). x ∷ []) (is_unit t are.each.0)
  only_unit (t ∷ u ∷ ts) are =
      let first = at_zero t are.each.0 in
      let second = at_zero u are.each.1.0 in
      let rises = are.rises.0 in
      absurd (omega (arith, ints))
