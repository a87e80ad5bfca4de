-- Two reduced families of one web have the same classes, in the same order, and the same coefficients
-- through the order n.
use Rattle.std.proofs.Common.{◌≡◌, ℕ, ℤ, pos, ◌≤ℤ◌, ◌⊎◌, inl, inr, true, false, List, [], ◌∷◌, Contains, refl, sym, ◌∙◌, ap, subst}
use Rattle.std.specs.List.{AllByRecursion}
use Rattle.tv_ring.specs.Operations.{Operations}
use Rattle.tv_ring.specs.Sums.{whole_times}
use Rattle.tv_laws_series.proofs.NormalForm.{bool_cases}
use Rattle.tv_spec_plane.specs.Web.{Web}
use Rattle.tv_spec_boxes.specs.Assignments.{Rows, same_vector}
use Rattle.tv_spec_boxes.specs.Classes.{IsClass, IsBefore, ClassesRise, AreClasses}
use Rattle.tv_spec_series.specs.Families.{Row, classes, coefficient, find, series_coefficient}
use Rattle.tv_spec_series.specs.Reduced.{IsReduced, full_coefficient, zero_coefficient}
use Rattle.tv_spec_series.proofs.Order.{before_apart, before_strict, before_trans, rise_tail, first_before}
use Rattle.tv_spec_series.proofs.Rows.{find-here, find-next}
use Rattle.tv_lemmas.proofs.Members.{all-onto, all-contains, all-members}
use Rattle.tv_spec_series.specs.ReducedFamilies.{IsReducedRow}
use Rattle.tv_laws_families.specs.Laws.{ReducedIsOnly}
use Rattle.tv_laws_families.proofs.Products.{only_quotient_is}

-- ---- rising lists with the same members are one

module _ (hs : List ℤ) where
  first_or_after : (u x : List ℤ) (us : List (List ℤ)) → ClassesRise hs (u ∷ us) → Contains (u ∷ us) x → (u ≡ x) ⊎ IsBefore hs u x
  first_or_after u x us rises held = all-contains (λ y. (u ≡ y) ⊎ IsBefore hs u y) (u ∷ us) x (inl refl, all-onto (IsBefore hs u) (λ y. (u ≡ y) ⊎ IsBefore hs u y) (λ y h. inr h) us (first_before hs u us rises)) held

  among_others : (u x : List ℤ) (us : List (List ℤ)) → IsBefore hs u x → Contains (u ∷ us) x → Contains us x
  among_others u x us h held = all-contains (λ y. y ≡ x → Contains us x) (u ∷ us) x (λ e. absurd (before_apart hs u x h e), all-onto (Contains us) (λ y. y ≡ x → Contains us x) (λ y k e. subst (λ z. Contains us z) e k) us (all-members us)) held refl

  same_firsts : (u v : List ℤ) (us vs : List (List ℤ)) → ClassesRise hs (u ∷ us) → ClassesRise hs (v ∷ vs) → Contains (u ∷ us) v → Contains (v ∷ vs) u → u ≡ v
  same_firsts u v us vs rises rises' held held' = elim (first_or_after u v us rises held) as (λ _. u ≡ v) [
    | inl e ↦ e
    | inr h ↦ elim (first_or_after v u vs rises' held') as (λ _. u ≡ v) [ inl e ↦ sym e | inr k ↦ absurd (before_strict hs u (before_trans hs u v u h k)) ]
  ]

  -- a member of the tail is one of the other tail
  tail_within : (u v x : List ℤ) (us vs : List (List ℤ)) → ClassesRise hs (u ∷ us) → u ≡ v → ((y : List ℤ) → Contains (u ∷ us) y → Contains (v ∷ vs) y) → Contains us x → Contains vs x
  tail_within u v x us vs rises e into held =
      let after : IsBefore hs u x = all-contains (IsBefore hs u) us x (first_before hs u us rises) held in
      among_others v x vs (subst (λ y. IsBefore hs y x) e after) (into x (all-contains (Contains (u ∷ us)) us x (all-members (u ∷ us)).1 held))

  same_members : (us vs : List (List ℤ)) → ClassesRise hs us → ClassesRise hs vs → ((x : List ℤ) → Contains us x → Contains vs x) → ((x : List ℤ) → Contains vs x → Contains us x) → us ≡ vs
  same_members [] [] rises rises' into back = refl
  same_members [] (v ∷ vs) rises rises' into back = absurd (all-contains (λ _. ⊥) [] v tt (back v (all-members (v ∷ vs)).0))
  same_members (u ∷ us) [] rises rises' into back = absurd (all-contains (λ _. ⊥) [] u tt (into u (all-members (u ∷ us)).0))
  same_members (u ∷ us) (v ∷ vs) rises rises' into back =
      let e : u ≡ v = same_firsts u v us vs rises rises' (back v (all-members (v ∷ vs)).0) (into u (all-members (u ∷ us)).0) in
      let tails : us ≡ vs = same_members us vs (rise_tail hs u us rises) (rise_tail hs v vs rises') (λ x. tail_within u v x us vs rises e into) (λ x. tail_within v u x vs us rises' (sym e) back) in
      ap (λ y. y ∷ us) e ∙ ap (λ ys. v ∷ ys) tails

classes_within : (w : Web) (d : ℕ) (us vs : List (List ℤ)) → AreClasses w d us → AreClasses w d vs → (x : List ℤ) → Contains us x → Contains vs x
classes_within w d us vs is is' x held = is'.whole x (all-contains (IsClass w d) us x is.each held)

pub same_classes : (w : Web) (d : ℕ) (us vs : List (List ℤ)) → AreClasses w d us → AreClasses w d vs → us ≡ vs
same_classes w d us vs is is' = same_members w.heights us vs is.rises is'.rises (classes_within w d us vs is is') (classes_within w d vs us is' is)

-- ---- rows of the same class have the same coefficients

module _ {A : Type 0} (r : Operations A) (w : Web) (fixed : List Rows) (d : ℕ) (n : ℤ) where
  same_row : (x y : Row A) → x.class ≡ y.class → IsReducedRow r w fixed d n x → IsReducedRow r w fixed d n y → (i : ℤ) → i ≤ℤ n → coefficient r x.series i ≡ coefficient r y.series i
  same_row x y e is is' i h =
      let P : List ℤ → Type 0 = λ u. IsReduced w fixed n u is'.series in
      let same = only_quotient_is n (full_coefficient w fixed x.class) (zero_coefficient w fixed) is.series is'.series is.reduced (subst P (sym e) is'.reduced) i h in
      is.values i h ∙ (ap (whole_times r) same ∙ sym (is'.values i h))

  same_found : (xs ys : List (Row A)) → classes xs ≡ classes ys → AllByRecursion (IsReducedRow r w fixed d n) xs → AllByRecursion (IsReducedRow r w fixed d n) ys → (v : List ℤ) (i : ℤ) → i ≤ℤ n → series_coefficient r i (find v xs) ≡ series_coefficient r i (find v ys)
  same_found [] [] e all all' v i h = refl
  same_found [] (y ∷ ys) e all all' v i h = absurd (cc)
  same_found (x ∷ xs) [] e all all' v i h = absurd (cc)
  same_found (x ∷ xs) (y ∷ ys) e all all' v i h =
      let first : x.class ≡ y.class = cc in
      let rest : classes xs ≡ classes ys = cc in
      bool_cases (same_vector x.class v)
      (λ b. ap (series_coefficient r i) (find-here v x xs b) ∙ (same_row x y first all.0 all'.0 i h ∙ sym (ap (series_coefficient r i) (find-here v y ys (subst (λ u. same_vector u v ≡ true) first b)))))
      (λ b. ap (series_coefficient r i) (find-next v x xs b) ∙ (same_found xs ys rest all.1 all'.1 v i h ∙ sym (ap (series_coefficient r i) (find-next v y ys (subst (λ u. same_vector u v ≡ false) first b)))))

pub reduced_is_only : {A : Type 0} (r : Operations A) → ReducedIsOnly r
reduced_is_only r w fixed d n f g is is' =
    let same = same_classes w d (classes f.rows) (classes g.rows) is.classes is'.classes in
    record { classes = same; coefficients = λ v i h. same_found r w fixed d n f.rows g.rows same is.rows is'.rows v i h }
