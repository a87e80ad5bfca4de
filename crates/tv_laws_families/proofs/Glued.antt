-- What a family is into which the series of some assignments were added, each into its class.
use Rattle.std.proofs.Common.{◌≡◌, ℕ, ℤ, pos, ◌≤ℤ◌, List, [], ◌∷◌, ◌++◌, Contains, refl, sym, ◌∙◌, ap, subst, inl, inr, arith}
use Rattle.std.proofs.lemmas.Int.{ints, clamps}
use Rattle.tv_ring.specs.Operations.{Operations, RingLaws}
use Rattle.tv_ring.specs.Sums.{whole_times}
use Rattle.tv_ring.proofs.Times.{times-none, whole_times-pos, whole_times-add}
use Rattle.tv_laws_series.specs.Terms.{Terms}
use Rattle.tv_laws_series.specs.Series.{series_sum, series_cut}
use Rattle.tv_laws_series.proofs.NormalForm.{bool_cases}
use Rattle.tv_spec_plane.specs.Web.{Web}
use Rattle.tv_spec_boxes.specs.Assignments.{Rows, Assignment, assignments, class_of, same_vector}
use Rattle.tv_spec_boxes.specs.Classes.{IsClass}
use Rattle.tv_spec_series.specs.Families.{Row, Family, row, without_rows, classes, coefficient, coefficient_of, added, IsFamily, IsAddend}
use Rattle.tv_spec_boxes.proofs.Vectors.{same_vector_tells}
use Rattle.tv_spec_series.proofs.Order.{same_vector-equal}
use Rattle.tv_spec_series.proofs.Rows.{find-nil, put_all, put_classes}
use Rattle.tv_spec_series.proofs.Members.{members_put}
use Rattle.tv_spec_series.proofs.Sums.{coefficient_of-added, coefficient_of-added_other}
use Rattle.tv_laws_counts.specs.Ways.{assignment_coefficient}
use Rattle.tv_lemmas.proofs.Members.{all-append, all-onto}
use Rattle.tv_laws_counts.proofs.Bounds.{starts_above}
use Rattle.tv_laws_families.specs.Glued.{class_total, StartsAbove, IsGlued}
use Rattle.tv_laws_families.proofs.Addends.{IsTermsOf}
use Rattle.tv_laws_families.proofs.Totals.{class_total-none, class_total-here, class_total-other}

module _ {A : Type 0} (r : Operations A) (w : Web) (fixed : List Rows) (d : ℕ) (n : ℤ) where
  pub glued-none : IsGlued r w fixed d n [] (without_rows w.heights (pos d) n)
  glued-none = record {
    heights = refl;
    top = refl;
    upto = refl;
    each = tt;
    whole = tt;
    coefficients = λ v i h. rw (find-nil {A = A} v, class_total-none w fixed v i) (sym (whole_times-pos r 0 ∙ times-none r));
    low = tt;
  }

module _ {A : Type 0} {IsValue : A → Type 0} {r : Operations A} (laws : RingLaws IsValue r) (w : Web) (fixed : List Rows) (d : ℕ) (n : ℤ) where
  -- the coefficients with one series more
  more-coefficients : (front : List Assignment) (a : Assignment) (t : Terms A) (f : Family A) → IsFamily IsValue r f → IsAddend IsValue r f (class_of w a) t → IsTermsOf r w fixed n a t → IsGlued r w fixed d n front f →
      (v : List ℤ) (i : ℤ) → i ≤ℤ n → coefficient_of r (added r (class_of w a) t f) v i ≡ whole_times r (class_total w fixed v i (front ++ a ∷ []))
  more-coefficients front a t f family addend is glued v i h = bool_cases (same_vector (class_of w a) v)
      (λ b. let same : class_of w a ≡ v = same_vector_tells (class_of w a) v b in
      let P : List ℤ → Type 0 = λ u. coefficient_of r (added r (class_of w a) t f) u i ≡ r.add (coefficient_of r f u i) (coefficient r t i) in
      subst P same (coefficient_of-added laws f (class_of w a) t i family addend (within glued.upto))
      ∙ rw (glued.coefficients v i h, is.coefficients i h, class_total-here w fixed v i front a b) (sym (whole_times-add laws (class_total w fixed v i front) (assignment_coefficient w fixed a i))))
      (λ b. coefficient_of-added_other r f v (class_of w a) t i (λ same. let k = same_vector-equal (class_of w a) v (sym same) in cc)
      ∙ (glued.coefficients v i h ∙ ap (whole_times r) (sym (class_total-other w fixed v i front a b))))
    where
      within : f.upto ≡ n → i ≤ℤ f.upto
      within e = rw e h

  cut-low : (a : Assignment) (t : Terms A) (f : Family A) → Contains (assignments w d) a → IsTermsOf r w fixed n a t → f.upto ≡ n → StartsAbove w fixed d n (row (class_of w a) (series_cut f.upto t))
  cut-low a t f among is e = let start = starts_above w fixed d a among in let low = is.low in rw e (omega (arith, ints, clamps))

  sum-low : (a : Assignment) (t : Terms A) (f : Family A) (x : Row A) → Contains (assignments w d) a → IsTermsOf r w fixed n a t → f.upto ≡ n → StartsAbove w fixed d n x → StartsAbove w fixed d n (row (class_of w a) (series_cut f.upto (series_sum r x.series t)))
  sum-low a t f x among is e h = let start = starts_above w fixed d a among in let low = is.low in rw e (omega (arith, ints, clamps))

  pub glued-more : (front : List Assignment) (a : Assignment) (t : Terms A) (f : Family A) → Contains (assignments w d) a → IsFamily IsValue r f → IsAddend IsValue r f (class_of w a) t → IsTermsOf r w fixed n a t → IsGlued r w fixed d n front f → IsGlued r w fixed d n (front ++ a ∷ []) (added r (class_of w a) t f)
  glued-more front a t f among family addend is glued = record {
    heights = glued.heights;
    top = glued.top;
    upto = glued.upto;
    each = put_classes r f.heights f.upto (class_of w a) t (IsClass w d) f.rows (record { witness = a; listed = among; same = refl }) glued.each;
    whole = all-append (λ b. Contains (classes (added r (class_of w a) t f).rows) (class_of w b)) front (a ∷ [])
        (all-onto (λ b. Contains (classes f.rows) (class_of w b)) (λ b. Contains (classes (added r (class_of w a) t f).rows) (class_of w b)) (λ b held. members_put r f.heights f.upto (class_of w a) t (class_of w b) f.rows (inr held)) front glued.whole)
        (members_put r f.heights f.upto (class_of w a) t (class_of w a) f.rows (inl refl), tt);
    coefficients = more-coefficients front a t f family addend is glued;
    low = put_all r f.heights f.upto (class_of w a) t (StartsAbove w fixed d n) f.rows (cut-low a t f among is glued.upto) (λ x held e. sum-low a t f x among is glued.upto held) glued.low;
  }
