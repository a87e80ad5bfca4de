-- The sections of a report of integers tell its integers: class by class they are the list itself, as it is in order.
use Rattle.std.proofs.Common.{◌≡◌, ◌≢◌, inl, inr, Contains, ℕ, ℤ, pos, List, [], ◌∷◌, ◌++◌, map, true, false, sym, ◌∙◌, ap, subst, refl, arith}
use Rattle.std.specs.Prelude.{not, ◌&&◌}
use Rattle.std.proofs.lemmas.Bool.Decides.{Decides-int_eq}
use Rattle.std.specs.List.{AllByRecursion}
use Rattle.std.specs.Ordering.{int_eq}
use Rattle.tv_lemmas.proofs.Members.{all-contains, contains-cases}
use Rattle.tv_laws_series.proofs.NormalForm.{bool_cases}
use Rattle.tv_spec_boxes.specs.Assignments.{same_vector}
use Rattle.tv_spec_boxes.specs.Classes.{IsBefore, ClassesRise}
use Rattle.tv_spec_series.specs.Families.{Family, classes}
use Rattle.tv_spec_series.proofs.Order.{same_vector-other, same_vector-equal, before_apart, before_trans, first_before, rise_tail}
use Rattle.tv_spec_katz.specs.Katz.{Integer}
use Rattle.tv_spec_katz.specs.Relations.{ComesLater, AreOrdered}
use Rattle.tv_spec_reports.specs.IntegerLines.{GvSection}
use Rattle.tv_spec_reports.specs.IntegersReport.{genus_value, TellsClass}
use Rattle.tv_spec_reports.specs.IntegersReport.{integers_of as values_of}
use Rattle.tv_report_reader.specs.Told.{integer_of, integers_of}
use Rattle.tv_laws_reports.specs.Verdicts.{IntegersAreTold}

-- ---- one class

own : List ℤ → List Integer → List Integer
own v is = map (integer_of v) (values_of v is)

passes : (v : List ℤ) (i : Integer) → i.class ≡ v → i.value ≢ pos 0 → (same_vector i.class v && not (int_eq i.value (pos 0))) ≡ true
passes v i same other = rw (same_vector-equal i.class v same, is_other i.value other) refl
  where
    is_other : (x : ℤ) → x ≢ pos 0 → int_eq x (pos 0) ≡ false
    is_other x other = bool_cases (int_eq x (pos 0)) (λ b. absurd (other ((Decides-int_eq x (pos 0)).0 b))) (λ b. b)

own-here : (v : List ℤ) (i : Integer) (is : List Integer) → i.class ≡ v → i.value ≢ pos 0 → own v (i ∷ is) ≡ i ∷ own v is
unfolding own
own-here v i is same other = rw (passes v i same other) (ap (λ u. integer_of u (genus_value i) ∷ map (integer_of v) (values_of v is)) (sym same))

own-apart : (v : List ℤ) (i : Integer) (is : List Integer) → (i.class ≡ v → ⊥) → own v (i ∷ is) ≡ own v is
unfolding own
own-apart v i is apart = rw (same_vector-other i.class v apart) refl

-- ---- all classes, the last first

all_own : List (List ℤ) → List Integer → List Integer
all_own [] is = []
all_own (v ∷ vs) is = all_own vs is ++ own v is

all_own-none : (vs : List (List ℤ)) → all_own vs [] ≡ []
unfolding all_own own
all_own-none [] = refl
all_own-none (v ∷ vs) = rw (all_own-none vs) refl

module _ (hs : List ℤ) where
  -- the list of an integer of one class has none of a later class
  own-later : (v : List ℤ) (i : Integer) (is : List Integer) → AllByRecursion (ComesLater hs i) is → IsBefore hs i.class v → own v is ≡ []
  unfolding own
  own-later v i [] later before = refl
  own-later v i (j ∷ js) later before = own-apart v j js (apart later.0) ∙ own-later v i js later.1 before
    where
      apart : ComesLater hs i j → j.class ≡ v → ⊥
      apart (inl earlier) same = before_apart hs j.class v (before_trans hs j.class i.class v earlier before) same
      apart (inr here) same = before_apart hs i.class v before (here.0 ∙ same)

  all_own-later : (vs : List (List ℤ)) (i : Integer) (is : List Integer) → AllByRecursion (ComesLater hs i) is
      → AllByRecursion (IsBefore hs i.class) vs → all_own vs is ≡ []
  unfolding all_own
  all_own-later [] i is later before = refl
  all_own-later (v ∷ vs) i is later before = rw (all_own-later vs i is later before.1, own-later v i is later before.0) refl

  all_own-still : (vs : List (List ℤ)) (i : Integer) (is : List Integer) → AllByRecursion (IsBefore hs i.class) vs
      → all_own vs (i ∷ is) ≡ all_own vs is
  unfolding all_own
  all_own-still [] i is before = refl
  all_own-still (v ∷ vs) i is before =
      rw (all_own-still vs i is before.1, own-apart v i is (before_apart hs i.class v before.0)) refl

  -- an integer that comes later than all stands in front
  all_own-next : (vs : List (List ℤ)) (i : Integer) (is : List Integer) → ClassesRise hs vs → Contains vs i.class → i.value ≢ pos 0
      → AllByRecursion (ComesLater hs i) is → all_own vs (i ∷ is) ≡ i ∷ all_own vs is
  unfolding all_own
  all_own-next [] i is rises among other later = let no = among.1 in absurd (omega arith)
  all_own-next (v ∷ vs) i is rises among other later = elim (contains-cases i.class v vs among) as
      (λ _. all_own (v ∷ vs) (i ∷ is) ≡ i ∷ all_own (v ∷ vs) is) [
        | inl same ↦ here same
        | inr behind ↦ further behind (all_own-next vs i is (rise_tail hs v vs rises) behind other later)
      ]
    where
      before : AllByRecursion (IsBefore hs v) vs
      before = first_before hs v vs rises

      here : v ≡ i.class → all_own (v ∷ vs) (i ∷ is) ≡ i ∷ all_own (v ∷ vs) is
      here same =
          let beyond : AllByRecursion (IsBefore hs i.class) vs = subst (λ (u : List ℤ). AllByRecursion (IsBefore hs u) vs) same before in
          rw (all_own-still vs i is beyond, all_own-later vs i is later beyond, own-here v i is (sym same) other) refl

      further : Contains vs i.class → all_own vs (i ∷ is) ≡ i ∷ all_own vs is → all_own (v ∷ vs) (i ∷ is) ≡ i ∷ all_own (v ∷ vs) is
      further behind rest =
          let apart : i.class ≡ v → ⊥ = λ same. before_apart hs v i.class (all-contains (IsBefore hs v) vs i.class before behind) (sym same) in
          rw (rest, own-apart v i is apart) refl

  all_own-whole : (D : ℕ) (vs : List (List ℤ)) (is : List Integer) → ClassesRise hs vs → AreOrdered D hs is
      → AllByRecursion (λ (i : Integer). Contains vs i.class) is → all_own vs is ≡ is
  all_own-whole D vs [] rises order among = all_own-none vs
  all_own-whole D vs (i ∷ is) rises order among =
      all_own-next vs i is rises among.0 order.0.value order.1.0
      ∙ ap (λ js. i ∷ js) (all_own-whole D vs is rises order.1.1 among.1)

-- ---- the sections

sections_own : (f : Family ℤ) (is : List Integer) (ss : List GvSection) → AllByRecursion (TellsClass f is) ss
    → integers_of ss ≡ all_own (map (λ (s : GvSection). s.section.entries) ss) is
unfolding integers_of all_own own
sections_own f is [] tells = refl
sections_own f is (s ∷ ss) tells = rw (sections_own f is ss tells.1, tells.0.integers) refl

pub integers_are_told : IntegersAreTold
integers_are_told w D N text r =
    let f = r.family in
    let rises = subst (λ (hs : List ℤ). ClassesRise hs (classes f.rows)) (sym r.reduced.heights) r.reduced.classes.rises in
    sections_own f r.integers r.tells.sections r.tells.each
    ∙ ap (λ (vs : List (List ℤ)). all_own vs r.integers) r.tells.classes
    ∙ all_own-whole f.heights D (classes f.rows) r.integers rises r.are.ordered r.told
