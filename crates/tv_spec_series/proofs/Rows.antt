-- What is found among rows, and what a sum into a class changes: that class, and no other.
use Rattle.std.proofs.Common.{◌≡◌, ℤ, true, false, List, [], ◌∷◌, length, Some, None, refl, sym, ◌∙◌, ap, subst}
use Rattle.std.specs.List.{AllByRecursion}
use Rattle.tv_ring.specs.Operations.{Operations}
use Rattle.tv_laws_series.specs.Terms.{Terms}
use Rattle.tv_laws_series.specs.Series.{series_sum, series_cut}
use Rattle.tv_laws_series.proofs.NormalForm.{bool_cases}
use Rattle.tv_spec_boxes.specs.Assignments.{same_vector}
use Rattle.tv_spec_boxes.specs.Classes.{IsBefore, ClassesRise}
use Rattle.tv_spec_series.specs.Families.{Row, row, classes, comes_before, find, put, with_series}
use Rattle.tv_spec_boxes.proofs.Vectors.{same_vector_tells, same_vector-same}
use Rattle.tv_spec_series.proofs.Order.{same_vector-equal, same_vector-other, comes_before_tells, before_apart, before_strict, before_trans, after_from, rise_tail, all_after, first_before, rise_onto}

-- ---- the equations of `find` and `put`

pub find-nil : {A : Type 0} (v : List ℤ) → find {A = A} v [] ≡ None
unfolding find
find-nil v = refl

pub find-here : {A : Type 0} (v : List ℤ) (x : Row A) (rows : List (Row A)) → same_vector x.class v ≡ true → find v (x ∷ rows) ≡ Some x
unfolding find
find-here v x rows e = rw e refl

pub find-next : {A : Type 0} (v : List ℤ) (x : Row A) (rows : List (Row A)) → same_vector x.class v ≡ false → find v (x ∷ rows) ≡ find v rows
unfolding find
find-next v x rows e = rw e refl

pub find-class : {A : Type 0} (x : Row A) (rows : List (Row A)) → find x.class (x ∷ rows) ≡ Some x
find-class x rows = find-here x.class x rows (same_vector-same x.class)

module _ {A : Type 0} (r : Operations A) (hs : List ℤ) (n : ℤ) (v : List ℤ) (s : Terms A) where
  pub put-nil : put r hs n v s [] ≡ row v (series_cut n s) ∷ []
  unfolding put
  put-nil = refl

  pub put-before : (x : Row A) (rows : List (Row A)) → comes_before hs x.class v ≡ true → put r hs n v s (x ∷ rows) ≡ x ∷ put r hs n v s rows
  unfolding put
  put-before x rows e = rw e refl

  pub put-same : (x : Row A) (rows : List (Row A)) → comes_before hs x.class v ≡ false → same_vector x.class v ≡ true → put r hs n v s (x ∷ rows) ≡ row v (series_cut n (series_sum r x.series s)) ∷ rows
  unfolding put
  put-same x rows e e' = rw (e, e') refl

  pub put-new : (x : Row A) (rows : List (Row A)) → comes_before hs x.class v ≡ false → same_vector x.class v ≡ false → put r hs n v s (x ∷ rows) ≡ row v (series_cut n s) ∷ x ∷ rows
  unfolding put
  put-new x rows e e' = rw (e, e') refl

  -- what a sum does is shown at no row, at an earlier one, at the class's own, and at a later one
  pub put_cases : (P : List (Row A) → List (Row A) → Type 0) →
      P [] (row v (series_cut n s) ∷ []) →
      ((x : Row A) (rows : List (Row A)) → comes_before hs x.class v ≡ true → P rows (put r hs n v s rows) → P (x ∷ rows) (x ∷ put r hs n v s rows)) →
      ((x : Row A) (rows : List (Row A)) → x.class ≡ v → P (x ∷ rows) (row v (series_cut n (series_sum r x.series s)) ∷ rows)) →
      ((x : Row A) (rows : List (Row A)) → comes_before hs x.class v ≡ false → same_vector x.class v ≡ false → P (x ∷ rows) (row v (series_cut n s) ∷ x ∷ rows)) →
      (rows : List (Row A)) → P rows (put r hs n v s rows)
  put_cases P none earlier here later [] = rw put-nil none
  put_cases P none earlier here later (x ∷ rows) = bool_cases (comes_before hs x.class v)
      (λ b. rw (put-before x rows b) (earlier x rows b (put_cases P none earlier here later rows)))
      (λ b. bool_cases (same_vector x.class v)
      (λ e. rw (put-same x rows b e) (here x rows (same_vector_tells x.class v e)))
      (λ e. rw (put-new x rows b e) (later x rows b e)))

-- ---- what is found

-- a row that is found has its class
pub found_class : {A : Type 0} (v : List ℤ) (rows : List (Row A)) (x : Row A) → find v rows ≡ Some x → x.class ≡ v
found_class {A} v [] x e = let n = find-nil {A = A} v in absurd (cc)
found_class v (y ∷ rows) x e = bool_cases (same_vector y.class v)
    (λ b. let h = find-here v y rows b in let s : y ≡ x = cc in rw (← s) (same_vector_tells y.class v b))
    (λ b. found_class v rows x (sym (find-next v y rows b) ∙ e))

-- and what all rows have
pub found_all : {A : Type 0} (P : Row A → Type 0) (v : List ℤ) (rows : List (Row A)) (x : Row A) → AllByRecursion P rows → find v rows ≡ Some x → P x
found_all {A} P v [] x all e = let n = find-nil {A = A} v in absurd (cc)
found_all P v (y ∷ rows) x all e = bool_cases (same_vector y.class v)
    (λ b. let h = find-here v y rows b in let s : y ≡ x = cc in subst P s all.0)
    (λ b. found_all P v rows x all.1 (sym (find-next v y rows b) ∙ e))

-- among later classes nothing is found
pub find_after : {A : Type 0} (hs v : List ℤ) (rows : List (Row A)) → AllByRecursion (IsBefore hs v) (classes rows) → find v rows ≡ None
find_after hs v [] all = find-nil v
find_after hs v (x ∷ rows) all =
    find-next v x rows (same_vector-other x.class v (λ e. before_apart hs v x.class all.0 (sym e))) ∙ find_after hs v rows all.1

pub found_after : {A : Type 0} (hs u v : List ℤ) (rows : List (Row A)) (x : Row A) → AllByRecursion (IsBefore hs u) (classes rows) → find v rows ≡ Some x → IsBefore hs u v
found_after {A} hs u v [] x all e = let n = find-nil {A = A} v in absurd (cc)
found_after hs u v (y ∷ rows) x all e = bool_cases (same_vector y.class v)
    (λ b. rw (← same_vector_tells y.class v b) all.0)
    (λ b. found_after hs u v rows x all.1 (sym (find-next v y rows b) ∙ e))

-- ---- the classes of rows

pub classes_all : {A : Type 0} (P : List ℤ → Type 0) (rows : List (Row A)) → AllByRecursion (λ x. P x.class) rows → AllByRecursion P (classes rows)
classes_all P [] all = tt
classes_all P (x ∷ rows) all = (all.0, classes_all P rows all.1)

pub all_classes : {A : Type 0} (P : List ℤ → Type 0) (rows : List (Row A)) → AllByRecursion P (classes rows) → AllByRecursion (λ x. P x.class) rows
all_classes P [] all = tt
all_classes P (x ∷ rows) all = (all.0, all_classes P rows all.1)

pub all_rows : {A : Type 0} (P Q : Row A → Type 0) (rows : List (Row A)) → ((x : Row A) → P x → Q x) → AllByRecursion P rows → AllByRecursion Q rows
all_rows P Q [] step all = tt
all_rows P Q (x ∷ rows) step all = (step x all.0, all_rows P Q rows step all.1)

-- ---- after a sum

module _ {A : Type 0} (r : Operations A) (hs : List ℤ) (n : ℤ) (v : List ℤ) (s : Terms A) where
  pub put_all : (P : Row A → Type 0) (rows : List (Row A)) → P (row v (series_cut n s)) → ((x : Row A) → P x → x.class ≡ v → P (row v (series_cut n (series_sum r x.series s)))) → AllByRecursion P rows → AllByRecursion P (put r hs n v s rows)
  put_all P rows new sum = put_cases r hs n v s (λ xs ys. AllByRecursion P xs → AllByRecursion P ys)
      (λ _. (new, tt))
      (λ x xs _ rest all. (all.0, rest all.1))
      (λ x xs e all. (sum x all.0 e, all.1))
      (λ x xs _ _ all. (new, all))
      rows

  pub put_classes : (P : List ℤ → Type 0) (rows : List (Row A)) → P v → AllByRecursion P (classes rows) → AllByRecursion P (classes (put r hs n v s rows))
  put_classes P rows p all = classes_all P (put r hs n v s rows) (put_all (λ x. P x.class) rows p (λ _ _ _. p) (all_classes P rows all))

  pub put_rises : (rows : List (Row A)) → AllByRecursion (λ u. length u ≡ length v) (classes rows) → ClassesRise hs (classes rows) → ClassesRise hs (classes (put r hs n v s rows))
  put_rises rows = put_cases r hs n v s (λ xs ys. AllByRecursion (λ u. length u ≡ length v) (classes xs) → ClassesRise hs (classes xs) → ClassesRise hs (classes ys))
      (λ _ _. tt)
      (λ x xs b rest lengths rises. rise_onto hs x.class (classes (put r hs n v s xs))
      (put_classes (IsBefore hs x.class) xs (comes_before_tells hs x.class v b) (first_before hs x.class (classes xs) rises))
      (rest lengths.1 (rise_tail hs x.class (classes xs) rises)))
      (λ x xs e lengths rises. let P : List ℤ → Type 0 = λ u. ClassesRise hs (u ∷ classes xs) in subst P e rises)
      (λ x xs b e lengths rises.
      let later = after_from hs x.class v lengths.0 b e in
      (later, rises))
      rows

  -- the class has the sum
  pub find-put : (rows : List (Row A)) → AllByRecursion (λ u. length u ≡ length v) (classes rows) → ClassesRise hs (classes rows) → find v (put r hs n v s rows) ≡ Some (row v (with_series r n s (find v rows)))
  find-put rows = put_cases r hs n v s (λ xs ys. AllByRecursion (λ u. length u ≡ length v) (classes xs) → ClassesRise hs (classes xs) → find v ys ≡ Some (row v (with_series r n s (find v xs))))
      (λ _ _. rw (find-nil v) (find-class (row v (series_cut n s)) []))
      (λ x xs b rest lengths rises.
      let other = same_vector-other x.class v (before_apart hs x.class v (comes_before_tells hs x.class v b)) in
      find-next v x (put r hs n v s xs) other ∙ rest lengths.1 (rise_tail hs x.class (classes xs) rises) ∙ rw (find-next v x xs other) refl)
      (λ x xs e lengths rises.
      let sum = series_cut n (series_sum r x.series s) in
      find-class (row v sum) xs ∙ rw (find-here v x xs (same_vector-equal x.class v e)) refl)
      (λ x xs b e lengths rises.
      let later = after_from hs x.class v lengths.0 b e in
      let none = find_after hs v (x ∷ xs) (later, all_after hs v x.class (classes xs) later (first_before hs x.class (classes xs) rises)) in
      find-class (row v (series_cut n s)) (x ∷ xs) ∙ rw none refl)
      rows

  -- every other class has what it had
  pub find-put_other : (u : List ℤ) (rows : List (Row A)) → (u ≡ v → ⊥) → find u (put r hs n v s rows) ≡ find u rows
  find-put_other u rows apart = put_cases r hs n v s (λ xs ys. find u ys ≡ find u xs)
      (find-next u (row v (series_cut n s)) [] other)
      (λ x xs b rest. bool_cases (same_vector x.class u)
      (λ e. find-here u x (put r hs n v s xs) e ∙ sym (find-here u x xs e))
      (λ e. find-next u x (put r hs n v s xs) e ∙ rest ∙ sym (find-next u x xs e)))
      (λ x xs e. find-next u (row v (series_cut n (series_sum r x.series s))) xs other ∙ sym (find-next u x xs (rw e other)))
      (λ x xs b e. find-next u (row v (series_cut n s)) (x ∷ xs) other)
      rows
    where
      other : same_vector v u ≡ false
      other = same_vector-other v u (λ e. apart (sym e))

-- ---- rows that rise are told by what is found

same_tails : {A : Type 0} (hs : List ℤ) (x : Row A) (xs ys : List (Row A)) → AllByRecursion (IsBefore hs x.class) (classes xs) → AllByRecursion (IsBefore hs x.class) (classes ys) → ((u : List ℤ) → find u (x ∷ xs) ≡ find u (x ∷ ys)) → (u : List ℤ) → find u xs ≡ find u ys
same_tails hs x xs ys after after' same u = bool_cases (same_vector x.class u)
    (λ e. let c = same_vector_tells x.class u e in
    let none : find u xs ≡ None = find_after hs u xs (rw c at after) in
    let none' : find u ys ≡ None = find_after hs u ys (rw c at after') in
    none ∙ sym none')
    (λ e. sym (find-next u x xs e) ∙ same u ∙ find-next u x ys e)

same_first : {A : Type 0} (hs : List ℤ) (x y : Row A) (xs ys : List (Row A)) → AllByRecursion (IsBefore hs x.class) (classes xs) → AllByRecursion (IsBefore hs y.class) (classes ys) → ((u : List ℤ) → find u (x ∷ xs) ≡ find u (y ∷ ys)) → x ≡ y
same_first hs x y xs ys after after' same = bool_cases (same_vector y.class x.class)
    (λ e. let a = find-class x xs in let b = find-here x.class y ys e in let c = same x.class in cc)
    (λ e.
    let turned = same_vector-other x.class y.class (λ s. let t = same_vector-equal y.class x.class (sym s) in cc) in
    let up = found_after hs y.class x.class ys x after' (sym (find-next x.class y ys e) ∙ sym (same x.class) ∙ find-class x xs) in
    let down = found_after hs x.class y.class xs y after (sym (find-next y.class x xs turned) ∙ same y.class ∙ find-class y ys) in
    absurd (before_strict hs x.class (before_trans hs x.class y.class x.class down up)))

pub same_rows : {A : Type 0} (hs : List ℤ) (xs ys : List (Row A)) → ClassesRise hs (classes xs) → ClassesRise hs (classes ys) → ((u : List ℤ) → find u xs ≡ find u ys) → xs ≡ ys
same_rows hs [] [] rises rises' same = refl
same_rows {A} hs [] (y ∷ ys) rises rises' same = let a = find-nil {A = A} y.class in let b = find-class y ys in let c = same y.class in absurd (cc)
same_rows {A} hs (x ∷ xs) [] rises rises' same = let a = find-nil {A = A} x.class in let b = find-class x xs in let c = same x.class in absurd (cc)
same_rows hs (x ∷ xs) (y ∷ ys) rises rises' same =
    let after = first_before hs x.class (classes xs) rises in let after' = first_before hs y.class (classes ys) rises' in
    let e = same_first hs x y xs ys after after' same in
    let P : Row _ → Type 0 = λ z. AllByRecursion (IsBefore hs z.class) (classes ys) in
    let Q : Row _ → Type 0 = λ z. (u : List ℤ) → find u (x ∷ xs) ≡ find u (z ∷ ys) in
    let tails = same_rows hs xs ys (rise_tail hs x.class (classes xs) rises) (rise_tail hs y.class (classes ys) rises')
    (same_tails hs x xs ys after (subst P (sym e) after') (subst Q (sym e) same)) in
    ap (λ z. z ∷ xs) e ∙ ap (λ zs. y ∷ zs) tails
