-- What is found and put at the place of a class among sorted rows.
use Rattle.std.proofs.Common.{◌≡◌, ℕ, zero, suc, ◌<◌, ℤ, true, false, List, [], ◌∷◌, length, get_or, set, Option, Some, None, refl, sym, ◌∙◌, ap, arith}
use Rattle.std.specs.List.{insert}
use Rattle.tv_ring.specs.Operations.{Operations}
use Rattle.tv_laws_series.specs.Terms.{Terms}
use Rattle.tv_laws_series.specs.Series.{series_sum, series_cut}
use Rattle.tv_spec_boxes.specs.Assignments.{same_vector}
use Rattle.tv_spec_boxes.specs.Classes.{ClassesRise}
use Rattle.tv_spec_series.specs.Families.{Row, row, classes, find, put}
use Rattle.tv_spec_series.proofs.Order.{same_vector-other, comes_before-true, comes_before_tells, before_apart, rise_tail, first_before}
use Rattle.tv_spec_series.proofs.Rows.{find-nil, find-here, find-next, put-nil, put-before, put-same, put-new, found_class, found_all, found_after}
use Rattle.tv_graded.specs.Places.{HaveEntries, is_at, IsPlace}

place_tail : {A : Type 0} (hs v : List ℤ) (x : Row A) (rows : List (Row A)) (p : ℕ) → IsPlace hs v (x ∷ rows) (suc p) → IsPlace hs v rows p
place_tail hs v x rows p is = let w = is.within in record { within = omega arith; earlier = λ k h. is.earlier (suc k) (omega arith); later = λ k h l. is.later (suc k) (omega arith) (omega arith) }

first_other : {A : Type 0} (hs v : List ℤ) (x : Row A) (rows : List (Row A)) (p : ℕ) → IsPlace hs v (x ∷ rows) (suc p) → same_vector x.class v ≡ false
first_other hs v x rows p is = same_vector-other x.class v (before_apart hs x.class v (comes_before_tells hs x.class v (is.earlier 0 (omega arith))))

-- the row there has the class
pub find-place : {A : Type 0} (hs v : List ℤ) (rows : List (Row A)) (p : ℕ) (x : Row A) → IsPlace hs v rows p → is_at v rows p ≡ true → x ≡ get_or rows p x → find v rows ≡ Some x
find-place hs v [] p x is here read = absurd (cc)
find-place hs v (y ∷ rows) zero x is here read = find-here v y rows here ∙ ap Some (sym read)
find-place hs v (y ∷ rows) (suc p) x is here read = find-next v y rows (first_other hs v y rows p is) ∙ find-place hs v rows p x (place_tail hs v y rows p is) here read

pub place_within : {A : Type 0} (v : List ℤ) (rows : List (Row A)) (p : ℕ) → is_at v rows p ≡ true → p < length rows
place_within v [] p here = absurd (cc)
place_within v (y ∷ rows) zero here = omega arith
place_within v (y ∷ rows) (suc p) here = let h = place_within v rows p here in omega arith

pub put-place : {A : Type 0} (r : Operations A) (hs : List ℤ) (n : ℤ) (v : List ℤ) (s : Terms A) (rows : List (Row A)) (p : ℕ) (x : Row A) → IsPlace hs v rows p → is_at v rows p ≡ true → x ≡ get_or rows p x →
    put r hs n v s rows ≡ set rows p (row v (series_cut n (series_sum r x.series s)))
put-place r hs n v s [] p x is here read = absurd (cc)
put-place r hs n v s (y ∷ rows) zero x is here read =
    put-same r hs n v s y rows (is.later 0 (omega arith) (omega arith)) here ∙ ap (λ z. row v (series_cut n (series_sum r z.series s)) ∷ rows) (sym read)
put-place r hs n v s (y ∷ rows) (suc p) x is here read =
    put-before r hs n v s y rows (is.earlier 0 (omega arith)) ∙ ap (λ zs. y ∷ zs) (put-place r hs n v s rows p x (place_tail hs v y rows p is) here read)

-- no row has the class
pub find-gap : {A : Type 0} (hs v : List ℤ) (rows : List (Row A)) (p : ℕ) → ClassesRise hs (classes rows) → IsPlace hs v rows p → is_at v rows p ≡ false → find v rows ≡ None
find-gap hs v [] p rises is gap = find-nil v
find-gap {A} hs v (y ∷ rows) zero rises is gap = find-next v y rows gap ∙ nothing (find v rows) refl
  where
    nothing : (found : Option (Row A)) → find v rows ≡ found → found ≡ None
    nothing None e = refl
    nothing (Some x) e =
        let t = comes_before-true hs y.class v (found_after hs y.class v rows x (first_before hs y.class (classes rows) rises) e) in
        let f = is.later 0 (omega arith) (omega arith) in absurd (cc)
find-gap hs v (y ∷ rows) (suc p) rises is gap =
    find-next v y rows (first_other hs v y rows p is) ∙ find-gap hs v rows p (rise_tail hs y.class (classes rows) rises) (place_tail hs v y rows p is) gap

pub put-gap : {A : Type 0} (r : Operations A) (hs : List ℤ) (n : ℤ) (v : List ℤ) (s : Terms A) (rows : List (Row A)) (p : ℕ) → IsPlace hs v rows p → is_at v rows p ≡ false → put r hs n v s rows ≡ insert rows p (row v (series_cut n s))
put-gap r hs n v s [] zero is gap = put-nil r hs n v s
put-gap r hs n v s [] (suc p) is gap = let w = is.within in absurd (omega arith)
put-gap r hs n v s (y ∷ rows) zero is gap = put-new r hs n v s y rows (is.later 0 (omega arith) (omega arith)) gap
put-gap r hs n v s (y ∷ rows) (suc p) is gap =
    put-before r hs n v s y rows (is.earlier 0 (omega arith)) ∙ ap (λ zs. y ∷ zs) (put-gap r hs n v s rows p (place_tail hs v y rows p is) gap)

-- a vector of another length is no class
pub find-other_length : {A : Type 0} (n : ℕ) (v : List ℤ) (rows : List (Row A)) → HaveEntries n rows → (length v ≡ n → ⊥) → find v rows ≡ None
find-other_length {A} n v rows have other = nothing (find v rows) refl
  where
    nothing : (found : Option (Row A)) → find v rows ≡ found → found ≡ None
    nothing None e = refl
    nothing (Some x) e = absurd (other (ap length (sym (found_class v rows x e)) ∙ found_all (λ y. length y.class ≡ n) v rows x have e))
