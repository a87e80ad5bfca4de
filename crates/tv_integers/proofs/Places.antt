-- What is found and put at the place of a class among sorted rows.
use Rattle.std.proofs.Common.{◌≡◌, ℕ, zero, suc, ◌<◌, ◌≤◌, ℤ, true, false, List, [], ◌∷◌, ◌++◌, length, get_or, set, refl, sym, ◌∙◌, ap, arith, append-nil}
use Rattle.std.specs.List.{AllByRecursion, insert}
use Rattle.tv_spec_boxes.specs.Assignments.{same_vector}
use Rattle.tv_spec_boxes.proofs.Vectors.{same_vector_tells}
use Rattle.tv_spec_boxes.specs.Classes.{IsBefore, ClassesRise}
use Rattle.tv_spec_series.specs.Families.{comes_before}
use Rattle.tv_spec_series.proofs.Order.{same_vector-other, comes_before_tells, before_apart, rise_tail, first_before, all_after, after_from}
use Rattle.tv_spec_katz.specs.Katz.{Integer}
use Rattle.tv_integers.specs.declared.genus_value.GenusValue.{GenusValue}
use Rattle.tv_integers.specs.Kept.{values_of}
use Rattle.tv_integers.specs.Rows.{ClassRow, classes, row_integers, listed, put_value, put_row, is_at, IsPlace}
use Rattle.tv_integers.proofs.Listed.{all-row, all-listed}
use Rattle.tv_integers.proofs.Putting.{put-before, put-same, put-new}
use Rattle.tv_integers.proofs.Found.{values_of-append, values_of-row, values_of-none}

place_tail : (hs v : List ℤ) (r : ClassRow) (rows : List ClassRow) (p : ℕ) → IsPlace hs v (r ∷ rows) (suc p) → IsPlace hs v rows p
place_tail hs v r rows p is = let w = is.within in record { within = omega arith; earlier = λ k h. is.earlier (suc k) (omega arith); later = λ k h l. is.later (suc k) (omega arith) (omega arith) }

first_other : (hs v : List ℤ) (r : ClassRow) (rows : List ClassRow) (p : ℕ) → IsPlace hs v (r ∷ rows) (suc p) → same_vector r.class v ≡ false
first_other hs v r rows p is = same_vector-other r.class v (before_apart hs r.class v (comes_before_tells hs r.class v (is.earlier 0 (omega arith))))

pub place_within : (v : List ℤ) (rows : List ClassRow) (p : ℕ) → is_at v rows p ≡ true → p < length rows
place_within v [] p here = absurd (cc)
place_within v (y ∷ rows) zero here = omega arith
place_within v (y ∷ rows) (suc p) here = let h = place_within v rows p here in omega arith

-- ---- an integer put in there

pub put-place : (hs v : List ℤ) (g : GenusValue) (rows : List ClassRow) (p : ℕ) (r : ClassRow) → IsPlace hs v rows p → is_at v rows p ≡ true → r ≡ get_or rows p r →
    put_row hs v g rows ≡ set rows p (record r { values = put_value g r.values })
put-place hs v g [] p r is here read = absurd (cc)
put-place hs v g (y ∷ rows) zero r is here read =
    put-same hs v g y rows (is.later 0 (omega arith) (omega arith)) here ∙ ap (λ (z : ClassRow). record z { values = put_value g z.values } ∷ rows) (sym read)
put-place hs v g (y ∷ rows) (suc p) r is here read =
    put-before hs v g y rows (is.earlier 0 (omega arith)) ∙ ap (λ zs. y ∷ zs) (put-place hs v g rows p r (place_tail hs v y rows p is) here read)

pub put-gap : (hs v : List ℤ) (g : GenusValue) (rows : List ClassRow) (p : ℕ) → IsPlace hs v rows p → is_at v rows p ≡ false → put_row hs v g rows ≡ insert rows p (record { class = v; values = g ∷ [] })
put-gap hs v g [] zero is gap = refl
put-gap hs v g [] (suc p) is gap = let w = is.within in absurd (omega arith)
put-gap hs v g (y ∷ rows) zero is gap = put-new hs v g y rows (is.later 0 (omega arith) (omega arith)) gap
put-gap hs v g (y ∷ rows) (suc p) is gap =
    put-before hs v g y rows (is.earlier 0 (omega arith)) ∙ ap (λ zs. y ∷ zs) (put-gap hs v g rows p (place_tail hs v y rows p is) gap)

-- ---- the integers of the class

pub values-place : (hs v : List ℤ) (rows : List ClassRow) (p : ℕ) (r : ClassRow) → ClassesRise hs (classes rows) → IsPlace hs v rows p → is_at v rows p ≡ true → r ≡ get_or rows p r → values_of v (listed rows) ≡ r.values
values-place hs v [] p r rises is here read = absurd (cc)
values-place hs v (y ∷ rows) zero r rises is here read =
    let e = same_vector_tells y.class v here in
    values_of-append v (listed rows) (row_integers y)
    ∙ ap (λ zs. zs ++ values_of v (row_integers y)) (values_of-none v (listed rows) (all-listed (λ (i : Integer). same_vector i.class v ≡ false) (IsBefore hs y.class)
    (λ u g b. same_vector-other u v (λ s. before_apart hs y.class u b (e ∙ sym s))) rows (first_before hs y.class (classes rows) rises)))
    ∙ values_of-row v y.class y.values e ∙ ap (λ (z : ClassRow). z.values) (sym read)
values-place hs v (y ∷ rows) (suc p) r rises is here read =
    let other = first_other hs v y rows p is in
    values_of-append v (listed rows) (row_integers y)
    ∙ ap (λ zs. zs ++ values_of v (row_integers y)) (values-place hs v rows p r (rise_tail hs y.class (classes rows) rises) (place_tail hs v y rows p is) here read)
    ∙ ap (λ zs. r.values ++ zs) (values_of-none v (row_integers y) (all-row (λ (i : Integer). same_vector i.class v ≡ false) y.class (λ g. other) y.values))
    ∙ append-nil r.values

pub values-gap : (hs v : List ℤ) (rows : List ClassRow) (p : ℕ) → AllByRecursion (λ (r : ClassRow). length r.class ≡ length v) rows → ClassesRise hs (classes rows) → IsPlace hs v rows p → is_at v rows p ≡ false → values_of v (listed rows) ≡ []
values-gap hs v [] p lengths rises is gap = refl
values-gap hs v (y ∷ rows) zero lengths rises is gap =
    let before = after_from hs y.class v lengths.0 (is.later 0 (omega arith) (omega arith)) gap in
    let all : AllByRecursion (IsBefore hs v) (classes (y ∷ rows)) = (before, all_after hs v y.class (classes rows) before (first_before hs y.class (classes rows) rises)) in
    values_of-none v (listed (y ∷ rows)) (all-listed (λ (i : Integer). same_vector i.class v ≡ false) (IsBefore hs v) (λ u g b. same_vector-other u v (λ s. before_apart hs v u b (sym s))) (y ∷ rows) all)
values-gap hs v (y ∷ rows) (suc p) lengths rises is gap =
    let other = first_other hs v y rows p is in
    values_of-append v (listed rows) (row_integers y)
    ∙ ap (λ zs. zs ++ values_of v (row_integers y)) (values-gap hs v rows p lengths.1 (rise_tail hs y.class (classes rows) rises) (place_tail hs v y rows p is) gap)
    ∙ values_of-none v (row_integers y) (all-row (λ (i : Integer). same_vector i.class v ≡ false) y.class (λ g. other) y.values)

class_lengths : (n : ℕ) (rows : List ClassRow) → AllByRecursion (λ (r : ClassRow). length r.class ≡ n) rows → AllByRecursion (λ u. length u ≡ n) (classes rows)
class_lengths n [] all = tt
class_lengths n (r ∷ rows) all = (all.0, class_lengths n rows all.1)

-- a vector of another length is no class
pub values-other_length : (n : ℕ) (v : List ℤ) (rows : List ClassRow) → AllByRecursion (λ (r : ClassRow). length r.class ≡ n) rows → (length v ≡ n → ⊥) → values_of v (listed rows) ≡ []
values-other_length n v rows lengths other = values_of-none v (listed rows)
    (all-listed (λ (i : Integer). same_vector i.class v ≡ false) (λ u. length u ≡ n) (λ u g l. same_vector-other u v (λ s. other (ap length (sym s) ∙ l))) rows (class_lengths n rows lengths))
