-- An integer put among rows is put into the list of their integers.
use Rattle.std.proofs.Common.{◌≡◌, ℤ, true, false, nat_eq, nat_lt, List, [], ◌∷◌, ◌++◌, length, map, refl, sym, ◌∙◌, ap}
use Rattle.std.specs.List.{AllByRecursion}
use Rattle.tv_laws_series.proofs.NormalForm.{bool_cases}
use Rattle.tv_spec_boxes.specs.Assignments.{same_vector}
use Rattle.tv_spec_boxes.proofs.Vectors.{same_vector-same, same_vector_tells}
use Rattle.tv_spec_boxes.specs.Classes.{IsBefore, ClassesRise}
use Rattle.tv_spec_series.specs.Families.{comes_before}
use Rattle.tv_spec_series.proofs.Order.{after_from, rise_tail, first_before, all_after}
use Rattle.tv_spec_katz.specs.Katz.{Integer}
use Rattle.tv_integers.specs.declared.genus_value.GenusValue.{GenusValue}
use Rattle.tv_integers.specs.Kept.{AreKept, comes_later, has_place, set_in, integer_at}
use Rattle.tv_integers.specs.Rows.{ClassRow, classes, row_integers, listed, put_value, put_row}
use Rattle.tv_integers.proofs.Later.{Passes, passes, later-true, itself_not_before}
use Rattle.tv_integers.proofs.Listed.{all-row, all-listed}

-- ---- into lists of integers

pub set_in_front : (hs : List ℤ) (i : Integer) (is : List Integer) → AreKept hs (i ∷ is) → set_in hs i is ≡ i ∷ is
set_in_front hs i [] k = refl
set_in_front hs i (j ∷ js) k = rw (later-true hs i j k.1.0.0) refl

set_in-over : (hs : List ℤ) (i : Integer) (is js : List Integer) → AllByRecursion (λ j. comes_later hs i j ≡ true) js → set_in hs i (is ++ js) ≡ set_in hs i is ++ js
set_in-over hs i [] [] all = refl
set_in-over hs i [] (j ∷ js) all = rw (all.0) refl
set_in-over hs i (k ∷ is) js all = bool_cases (comes_later hs i k)
    (λ b. rw b refl)
    (λ b. bool_cases (has_place i k) (λ e. rw (b, e) refl) (λ e. rw (b, e) (ap (λ zs. k ∷ zs) (set_in-over hs i is js all))))

set_in-after : (hs : List ℤ) (i : Integer) (is js : List Integer) → AllByRecursion (Passes hs i) is → set_in hs i (is ++ js) ≡ is ++ set_in hs i js
set_in-after hs i [] js all = refl
set_in-after hs i (k ∷ is) js all = rw (all.0.0, all.0.1) (ap (λ zs. k ∷ zs) (set_in-after hs i is js all.1))

set_in-last : (hs : List ℤ) (i : Integer) (is : List Integer) → AllByRecursion (Passes hs i) is → set_in hs i is ≡ is ++ i ∷ []
set_in-last hs i [] all = refl
set_in-last hs i (k ∷ is) all = rw (all.0.0, all.0.1) (ap (λ zs. k ∷ zs) (set_in-last hs i is all.1))

set_in-row : (hs v : List ℤ) (g : GenusValue) (gs : List GenusValue) → set_in hs (integer_at v g) (map (integer_at v) gs) ≡ map (integer_at v) (put_value g gs)
set_in-row hs v g [] = refl
set_in-row hs v g (h ∷ gs) =
    let c = itself_not_before hs v in let s = same_vector-same v in
    bool_cases (nat_lt g.genus h.genus)
    (λ l. rw (c, s, l) refl)
    (λ l. bool_cases (nat_eq g.genus h.genus) (λ e. rw (c, s, l, e) refl) (λ e. rw (c, s, l, e) (ap (λ zs. integer_at v h ∷ zs) (set_in-row hs v g gs))))

-- ---- among rows

module _ (hs v : List ℤ) (g : GenusValue) where
  pub put-before : (r : ClassRow) (rows : List ClassRow) → comes_before hs r.class v ≡ true → put_row hs v g (r ∷ rows) ≡ r ∷ put_row hs v g rows
  put-before r rows b = rw b refl

  pub put-same : (r : ClassRow) (rows : List ClassRow) → comes_before hs r.class v ≡ false → same_vector r.class v ≡ true → put_row hs v g (r ∷ rows) ≡ record r { values = put_value g r.values } ∷ rows
  put-same r rows b e = rw (b, e) refl

  pub put-new : (r : ClassRow) (rows : List ClassRow) → comes_before hs r.class v ≡ false → same_vector r.class v ≡ false → put_row hs v g (r ∷ rows) ≡ record { class = v; values = g ∷ [] } ∷ r ∷ rows
  put-new r rows b e = rw (b, e) refl

  later_earlier : (r : ClassRow) (rows : List ClassRow) → comes_before hs r.class v ≡ true → listed (put_row hs v g rows) ≡ set_in hs (integer_at v g) (listed rows) → listed (put_row hs v g (r ∷ rows)) ≡ set_in hs (integer_at v g) (listed (r ∷ rows))
  later_earlier r rows b rest =
      ap listed (put-before r rows b) ∙ ap (λ zs. zs ++ row_integers r) rest
      ∙ sym (set_in-over hs (integer_at v g) (listed rows) (row_integers r) (all-row (λ j. comes_later hs (integer_at v g) j ≡ true) r.class (λ h. rw b refl) r.values))

  here : (r : ClassRow) (rows : List ClassRow) → ClassesRise hs (classes (r ∷ rows)) → r.class ≡ v → listed (record r { values = put_value g r.values } ∷ rows) ≡ set_in hs (integer_at v g) (listed (r ∷ rows))
  here r rows rises e =
      ap (λ zs. listed rows ++ zs) (sym (set_in-row hs r.class g r.values))
      ∙ sym (set_in-after hs (integer_at r.class g) (listed rows) (row_integers r) (all-listed (Passes hs (integer_at r.class g)) (IsBefore hs r.class) (λ u k before. passes hs r.class g (integer_at u k) before) rows (first_before hs r.class (classes rows) rises)))
      ∙ ap (λ u. set_in hs (integer_at u g) (listed (r ∷ rows))) e

  new : (r : ClassRow) (rows : List ClassRow) → ClassesRise hs (classes (r ∷ rows)) → IsBefore hs v r.class → listed (record { class = v; values = g ∷ [] } ∷ r ∷ rows) ≡ set_in hs (integer_at v g) (listed (r ∷ rows))
  new r rows rises before =
      let all : AllByRecursion (IsBefore hs v) (classes (r ∷ rows)) = (before, all_after hs v r.class (classes rows) before (first_before hs r.class (classes rows) rises)) in
      sym (set_in-last hs (integer_at v g) (listed (r ∷ rows)) (all-listed (Passes hs (integer_at v g)) (IsBefore hs v) (λ u k b. passes hs v g (integer_at u k) b) (r ∷ rows) all))

  pub listed-put : (rows : List ClassRow) → ClassesRise hs (classes rows) → AllByRecursion (λ (r : ClassRow). length r.class ≡ length v) rows → listed (put_row hs v g rows) ≡ set_in hs (integer_at v g) (listed rows)
  listed-put [] rises lengths = refl
  listed-put (r ∷ rows) rises lengths = bool_cases (comes_before hs r.class v)
      (λ b. later_earlier r rows b (listed-put rows (rise_tail hs r.class (classes rows) rises) lengths.1))
      (λ b. bool_cases (same_vector r.class v)
      (λ e. ap listed (put-same r rows b e) ∙ here r rows rises (same_vector_tells r.class v e))
      (λ e. ap listed (put-new r rows b e) ∙ new r rows rises (after_from hs r.class v lengths.0 b e)))
