-- What a family is into which some numbers were added: one series more.
use Rattle.std.proofs.Common.{◌≡◌, true, false, cond, ℤ, pos, ◌+ℤ◌, ◌≤ℤ◌, List, [], ◌∷◌, ◌++◌, Contains, refl, sym, ◌∙◌, ap, subst, inl, inr, arith}
use Rattle.std.proofs.lemmas.Int.{ints, clamps}
use Rattle.tv_ring.specs.Operations.{Operations, RingLaws}
use Rattle.tv_ring.specs.Sums.{whole_times}
use Rattle.tv_ring.proofs.Times.{times-none, whole_times-pos, whole_times-add}
use Rattle.tv_laws_series.specs.Terms.{Terms, IsWithin}
use Rattle.tv_laws_series.proofs.NormalForm.{bool_cases}
use Rattle.tv_spec_boxes.specs.Assignments.{same_vector}
use Rattle.tv_spec_boxes.proofs.Vectors.{same_vector_tells}
use Rattle.tv_spec_series.specs.Families.{Family, without_rows, classes, coefficient, coefficient_of, added, IsAddend}
use Rattle.tv_spec_series.proofs.Order.{same_vector-equal}
use Rattle.tv_spec_series.proofs.Rows.{put_all, put_classes}
use Rattle.tv_spec_series.proofs.Members.{members_put}
use Rattle.tv_spec_series.proofs.Sums.{coefficient_of-added, coefficient_of-added_other, coefficient_of-without_rows, without_rows_is_family, added_is_family}
use Rattle.tv_lemmas.proofs.Members.{all-append, all-onto}
use Rattle.tv_frontier.specs.Sums.{Addend, added_up, StartsAt, Holds}

added-none : (v : List ℤ) (i : ℤ) → added_up [] v i ≡ pos 0
unfolding added_up
added-none v i = refl

one-more : (x y z w : ℤ) → y ≡ z +ℤ w → x +ℤ y ≡ (x +ℤ z) +ℤ w
one-more x y z w e = omega (arith, ints)

pub added-append : (front : List Addend) (a : Addend) (v : List ℤ) (i : ℤ) → added_up (front ++ a ∷ []) v i ≡ added_up front v i +ℤ cond (same_vector a.class v) (a.number i) (pos 0)
unfolding added_up
added-append [] a v i = omega (arith, ints)
added-append (b ∷ front) a v i = one-more _ _ _ _ (added-append front a v i)

added-here : (front : List Addend) (a : Addend) (v : List ℤ) (i : ℤ) → same_vector a.class v ≡ true → added_up (front ++ a ∷ []) v i ≡ added_up front v i +ℤ a.number i
added-here front a v i e = added-append front a v i ∙ ap (λ b. added_up front v i +ℤ cond b (a.number i) (pos 0)) e

added-other : (front : List Addend) (a : Addend) (v : List ℤ) (i : ℤ) → same_vector a.class v ≡ false → added_up (front ++ a ∷ []) v i ≡ added_up front v i
added-other front a v i e = added-append front a v i ∙ (ap (λ b. added_up front v i +ℤ cond b (a.number i) (pos 0)) e ∙ none (added_up front v i))
  where
    none : (z : ℤ) → z +ℤ pos 0 ≡ z
    none z = omega (arith, ints)

module _ {A : Type 0} {IsValue : A → Type 0} {r : Operations A} (laws : RingLaws IsValue r) (hs : List ℤ) (greatest last least : ℤ) (P : List ℤ → Type 0) where
  pub holds-none : IsWithin last → Holds IsValue r hs greatest last least P [] (without_rows hs greatest last)
  holds-none within = record {
    heights = refl;
    top = refl;
    upto = refl;
    family = without_rows_is_family hs greatest last within;
    each = tt;
    whole = tt;
    low = tt;
    numbers = λ v i h. coefficient_of-without_rows r hs greatest last v i ∙ sym (ap (whole_times r) (added-none v i) ∙ (whole_times-pos r 0 ∙ times-none r));
  }

  module _ (front : List Addend) (a : Addend) (s : Terms A) (f : Family A) (held : Holds IsValue r hs greatest last least P front f) (addend : IsAddend IsValue r f a.class s) (is : (i : ℤ) → i ≤ℤ last → coefficient r s i ≡ whole_times r (a.number i)) where
    more-numbers : (v : List ℤ) (i : ℤ) → i ≤ℤ last → coefficient_of r (added r a.class s f) v i ≡ whole_times r (added_up (front ++ a ∷ []) v i)
    more-numbers v i h = bool_cases (same_vector a.class v)
        (λ b. let same : a.class ≡ v = same_vector_tells a.class v b in
        let Q : List ℤ → Type 0 = λ u. coefficient_of r (added r a.class s f) u i ≡ r.add (coefficient_of r f u i) (coefficient r s i) in
        let within : i ≤ℤ f.upto = rw held.upto h in
        subst Q same (coefficient_of-added laws f a.class s i held.family addend within)
        ∙ rw (held.numbers v i h, is i h, added-here front a v i b) (sym (whole_times-add laws (added_up front v i) (a.number i))))
        (λ b. coefficient_of-added_other r f v a.class s i (λ same. let k = same_vector-equal a.class v (sym same) in cc)
        ∙ (held.numbers v i h ∙ ap (whole_times r) (sym (added-other front a v i b))))

    pub holds-more : P a.class → least ≤ℤ s.low → least ≤ℤ (last +ℤ pos 1) → Holds IsValue r hs greatest last least P (front ++ a ∷ []) (added r a.class s f)
    holds-more has low end = record {
      heights = held.heights;
      top = held.top;
      upto = held.upto;
      family = added_is_family laws f a.class s held.family addend;
      each = put_classes r f.heights f.upto a.class s P f.rows has held.each;
      whole = all-append (λ (b : Addend). Contains (classes (added r a.class s f).rows) b.class) front (a ∷ [])
          (all-onto (λ (b : Addend). Contains (classes f.rows) b.class) (λ (b : Addend). Contains (classes (added r a.class s f).rows) b.class) (λ b there. members_put r f.heights f.upto a.class s b.class f.rows (inr there)) front held.whole)
          (members_put r f.heights f.upto a.class s a.class f.rows (inl refl), tt);
      low = put_all r f.heights f.upto a.class s (StartsAt least) f.rows (let e = held.upto in omega (arith, ints, clamps)) (λ x there e. (let u = held.upto in omega (arith, ints, clamps))) held.low;
      numbers = more-numbers;
    }
