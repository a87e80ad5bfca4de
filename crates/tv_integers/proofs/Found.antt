-- The integers of a class among those of rows, and the classes that have some.
use Rattle.std.proofs.Common.{◌≡◌, ℕ, zero, suc, ◌<◌, ◌≤◌, ℤ, true, false, List, [], ◌∷◌, ◌++◌, length, map, Some, slice_get, get_or, refl, sym, ◌∙◌, ap, arith}
use Rattle.std.proofs.lemmas.List.{map-append}
use Rattle.std.specs.List.{AllByRecursion}
use Rattle.tv_lemmas.proofs.Members.{all-append}
use Rattle.tv_laws_series.proofs.NormalForm.{bool_cases}
use Rattle.tv_spec_boxes.specs.Assignments.{same_vector}
use Rattle.tv_spec_boxes.proofs.Vectors.{same_vector-same}
use Rattle.tv_spec_boxes.specs.Classes.{IsBefore, ClassesRise}
use Rattle.tv_spec_series.specs.Families.{comes_before}
use Rattle.tv_spec_series.proofs.Order.{same_vector-equal, comes_before-true, rise_tail, first_before}
use Rattle.tv_spec_katz.specs.Katz.{Integer}
use Rattle.tv_spec_katz.specs.Integers.{insert_class, sorted}
use Rattle.tv_integers.specs.declared.genus_value.GenusValue.{GenusValue}
use Rattle.tv_integers.specs.Kept.{integer_at, value_of, values_of, classes_of}
use Rattle.tv_integers.specs.Rows.{ClassRow, classes, row_integers, listed, IsKeptRow}
use Rattle.tv_integers.proofs.Later.{itself_not_before}

-- ---- the integers of a class

pub values_of-append : (v : List ℤ) (is js : List Integer) → values_of v (is ++ js) ≡ values_of v is ++ values_of v js
values_of-append v [] js = refl
values_of-append v (i ∷ is) js = bool_cases (same_vector i.class v)
    (λ e. rw e (ap (λ zs. value_of i ∷ zs) (values_of-append v is js)))
    (λ e. rw e (values_of-append v is js))

pub values_of-row : (v u : List ℤ) (gs : List GenusValue) → u ≡ v → values_of v (map (integer_at u) gs) ≡ gs
values_of-row v u [] e = refl
values_of-row v u (g ∷ gs) e = rw (same_vector-equal u v e) (ap (λ zs. g ∷ zs) (values_of-row v u gs e))

pub values_of-none : (v : List ℤ) (is : List Integer) → AllByRecursion (λ (i : Integer). same_vector i.class v ≡ false) is → values_of v is ≡ []
values_of-none v [] all = refl
values_of-none v (i ∷ is) all = rw (all.0) (values_of-none v is all.1)

-- ---- the classes

module _ (hs : List ℤ) where
  -- the classes us sorted into vs
  sorted_into : List (List ℤ) → List (List ℤ) → List (List ℤ)
  sorted_into vs [] = vs
  sorted_into vs (u ∷ us) = insert_class hs u (sorted_into vs us)

  sorted-append : (us vs : List (List ℤ)) → sorted hs (us ++ vs) ≡ sorted_into (sorted hs vs) us
  unfolding sorted_into
  sorted-append [] vs = refl
  sorted-append (u ∷ us) vs = ap (insert_class hs u) (sorted-append us vs)

  into_nothing : (us : List (List ℤ)) → sorted_into [] us ≡ sorted hs us
  unfolding sorted_into
  into_nothing [] = refl
  into_nothing (u ∷ us) = ap (insert_class hs u) (into_nothing us)

  insert-later : (u v : List ℤ) (us : List (List ℤ)) → IsBefore hs u v → insert_class hs v (u ∷ us) ≡ u ∷ insert_class hs v us
  insert-later u v us before = rw (comes_before-true hs u v before) refl

  into_later : (u : List ℤ) (us vs : List (List ℤ)) → AllByRecursion (IsBefore hs u) us → sorted_into (u ∷ vs) us ≡ u ∷ sorted_into vs us
  unfolding sorted_into
  into_later u [] vs all = refl
  into_later u (w ∷ us) vs all = ap (insert_class hs w) (into_later u us vs all.1) ∙ insert-later u w (sorted_into vs us) all.0

  insert-once : (v : List ℤ) → insert_class hs v (v ∷ []) ≡ v ∷ []
  insert-once v = rw (itself_not_before hs v, same_vector-same v) refl

  sorted-row : (v : List ℤ) (gs : List GenusValue) → 1 ≤ length gs → sorted hs (map (λ (i : Integer). i.class) (map (integer_at v) gs)) ≡ v ∷ []
  sorted-row v [] some = absurd (omega arith)
  sorted-row v (g ∷ []) some = refl
  sorted-row v (g ∷ h ∷ gs) some = ap (insert_class hs v) (sorted-row v (h ∷ gs) (omega arith)) ∙ insert-once v

  listed_later : (Q : List ℤ → Type 0) (rows : List ClassRow) → AllByRecursion Q (classes rows) → AllByRecursion Q (map (λ (i : Integer). i.class) (listed rows))
  listed_later Q [] all = tt
  listed_later Q (r ∷ rows) all = rw (map-append (λ (i : Integer). i.class) (listed rows) (row_integers r))
      (all-append Q (map (λ (i : Integer). i.class) (listed rows)) (map (λ (i : Integer). i.class) (row_integers r)) (listed_later Q rows all.1) (row r.values))
    where
      row : (gs : List GenusValue) → AllByRecursion Q (map (λ (i : Integer). i.class) (map (integer_at r.class) gs))
      row [] = tt
      row (g ∷ gs) = (all.0, row gs)

  pub classes-listed : (rows : List ClassRow) → ClassesRise hs (classes rows) → AllByRecursion (IsKeptRow hs) rows → classes_of hs (listed rows) ≡ classes rows
  classes-listed [] rises each = refl
  classes-listed (r ∷ rows) rises each =
      let us : List (List ℤ) = map (λ (i : Integer). i.class) (listed rows) in
      ap (sorted hs) (map-append (λ (i : Integer). i.class) (listed rows) (row_integers r))
      ∙ sorted-append us (map (λ (i : Integer). i.class) (row_integers r))
      ∙ ap (λ vs. sorted_into vs us) (sorted-row r.class r.values each.0.some)
      ∙ into_later r.class us [] (listed_later (IsBefore hs r.class) rows (first_before hs r.class (classes rows) rises))
      ∙ ap (λ vs. r.class ∷ vs) (into_nothing us ∙ classes-listed rows (rise_tail hs r.class (classes rows) rises) each.1)

-- ---- the class of a row

pub class_found : (rows : List ClassRow) (k : ℕ) (r : ClassRow) → k < length rows → r ≡ get_or rows k r → slice_get (classes rows) k ≡ Some r.class
class_found [] k r h read = absurd (omega arith)
class_found (x ∷ rows) zero r h read = ap (λ (z : ClassRow). Some z.class) (sym read)
class_found (x ∷ rows) (suc k) r h read = class_found rows k r (omega arith) read
