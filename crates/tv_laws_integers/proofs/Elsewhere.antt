-- Where nothing is read the product and a normalized family agree: at class zero both are 1, and at every other class outside a
-- closed list both are 0.
use Rattle.std.proofs.Common.{◌≡◌, ◌≢◌, ◌⊎◌, inl, inr, Contains, ℕ, zero, suc, ℤ, pos, ◌+ℤ◌, ◌-ℤ◌, ◌≤ℤ◌, true, false, List, [], ◌∷◌, length, Option, Some, None, refl, sym, ◌∙◌, ap, arith}
use Rattle.std.proofs.lemmas.Int.{ints}
use Rattle.std.proofs.lemmas.Bool.{and_parts}
use Rattle.std.proofs.lemmas.Bool.Decides.{Decides-int_eq}
use Rattle.std.specs.List.{AllByRecursion}
use Rattle.std.specs.Ordering.{int_eq}
use Rattle.tv_lemmas.proofs.Members.{all-onto, all-contains, all-members}
use Rattle.tv_ring.specs.Whole.{wholes}
use Rattle.tv_laws_series.proofs.NormalForm.{bool_cases}
use Rattle.tv_spec_plane.specs.Web.{degree_of}
use Rattle.tv_spec_boxes.specs.Assignments.{zeros, plus}
use Rattle.tv_spec_boxes.proofs.OneCornerCrowd.{degree_zero}
use Rattle.tv_spec_series.specs.Families.{Row, Family, classes, coefficient_of, series_coefficient, find}
use Rattle.tv_spec_series.proofs.Rows.{found_class, found_all, all_classes}
use Rattle.tv_spec_katz.specs.Places.{place, class_difference, is_zero_class}
use Rattle.tv_spec_katz.specs.Katz.{Integer, katz}
use Rattle.tv_spec_katz.specs.Integers.{Agrees, IsCompared}
use Rattle.tv_spec_katz.specs.Relations.{IsPositiveClass, IsNormalized}
use Rattle.tv_laws_katz.proofs.Units.{unit-one, unit-none}
use Rattle.tv_laws_katz.proofs.Elsewhere.{AddsTo, elsewhere, unit_below_one}
use Rattle.tv_laws_integers.specs.Closed.{IsClassTo, IsClosedList, IsListed}

-- ---- class zero

zero_class-zeros : (n : ℕ) → is_zero_class (zeros n) ≡ true
zero_class-zeros zero = refl
zero_class-zeros (suc n) = zero_class-zeros n

pub zero_class_is : (v : List ℤ) → is_zero_class v ≡ true → v ≡ zeros (length v)
zero_class_is [] h = refl
zero_class_is (x ∷ v) h =
    let parts = and_parts (int_eq x (pos 0)) (is_zero_class v) h in
    ap (λ z. z ∷ v) ((Decides-int_eq x (pos 0)).0 parts.0) ∙ ap (λ w. pos 0 ∷ w) (zero_class_is v parts.1)

zeros-low : (hs : List ℤ) (m : ℕ) → degree_of hs (zeros m) ≤ℤ pos 0
zeros-low hs m = let e = degree_zero hs m in omega (arith, ints)

pub katz-zero_unit : (hs : List ℤ) (is : List Integer) (m : ℕ) → katz hs is (zeros m) (pos 0) ≡ pos 1
katz-zero_unit hs is m = unit_below_one hs is (zeros m) (pos 0) (zeros-low hs m)
    ∙ unit-one (place hs (zeros m) (pos 0)) (record { degree = degree_zero hs m; class = zero_class-zeros m; exponent = refl })

katz-zero_none : (hs : List ℤ) (is : List Integer) (m : ℕ) (n : ℤ) → n ≢ pos 0 → katz hs is (zeros m) n ≡ pos 0
katz-zero_none hs is m n other = unit_below_one hs is (zeros m) n (zeros-low hs m)
    ∙ unit-none (place hs (zeros m) n) (λ is_unit. other is_unit.exponent)

pub agrees_zero : (N : ℤ) (f : Family ℤ) (is : List Integer) (n : ℤ) → IsNormalized N f → n ≤ℤ N
    → Agrees f is (zeros (length f.heights)) n
agrees_zero N f is n normal h = bool_cases (int_eq n (pos 0))
    (λ b. rw ((Decides-int_eq n (pos 0)).0 b) (katz-zero_unit f.heights is (length f.heights) ∙ sym normal.unit))
    (λ b. let other : n ≢ pos 0 = λ e. let t = (Decides-int_eq n (pos 0)).1 e in cc in
    katz-zero_none f.heights is (length f.heights) n other ∙ sym (normal.none n h other))

-- ---- all other classes

pub plus-difference : (v x : List ℤ) → length v ≡ length x → plus (class_difference v x) x ≡ v
plus-difference [] [] e = refl
plus-difference [] (y ∷ x) e = absurd (omega arith)
plus-difference (z ∷ v) [] e = absurd (omega arith)
plus-difference (z ∷ v) (y ∷ x) e = let back : (z -ℤ y) +ℤ y ≡ z = omega (arith, ints) in
    rw (back, plus-difference v x (omega arith)) refl

pub zero-difference : (v x : List ℤ) → length v ≡ length x → is_zero_class (class_difference v x) ≡ true → v ≡ x
zero-difference [] [] e h = refl
zero-difference [] (y ∷ x) e h = absurd (omega arith)
zero-difference (z ∷ v) [] e h = absurd (omega arith)
zero-difference (z ∷ v) (y ∷ x) e h =
    let parts = and_parts (int_eq (z -ℤ y) (pos 0)) (is_zero_class (class_difference v x)) h in
    let none : z -ℤ y ≡ pos 0 = (Decides-int_eq (z -ℤ y) (pos 0)).0 parts.0 in
    let first : z ≡ y = omega (arith, ints) in
    ap (λ a. a ∷ v) first ∙ ap (λ w. y ∷ w) (zero-difference v x (omega arith) parts.1)

abbrev pub HasPlace : List (List ℤ) → List ℤ → Type 0
HasPlace vs v = (is_zero_class v ≡ true) ⊎ Contains vs v

module _ (D : ℕ) (f : Family ℤ) (vs : List (List ℤ)) (closed : IsClosedList D f vs) where
  same_length : (i : Integer) → IsListed vs i → (v : List ℤ) → length v ≡ length f.heights → length v ≡ length i.class
  same_length i listed v entries = entries ∙ sym (all-contains (IsClassTo D f.heights) vs i.class closed.each listed).positive.entries

  with_listed : (i : Integer) → IsListed vs i → (v : List ℤ) → length v ≡ length f.heights → degree_of f.heights v ≤ℤ pos D
      → HasPlace vs (class_difference v i.class) → HasPlace vs v
  with_listed i listed v entries within (inl none) = inr (rw (zero-difference v i.class (same_length i listed v entries) none) listed)
  with_listed i listed v entries within (inr other) =
      let back = plus-difference v i.class (same_length i listed v entries) in
      inr (rw back at (closed.sums (class_difference v i.class) i.class other listed (rw back within)))

  listed_adds : (i : Integer) → IsListed vs i → AddsTo f.heights D (HasPlace vs) i
  listed_adds i listed =
      let class = all-contains (IsClassTo D f.heights) vs i.class closed.each listed in
      let up = class.positive.degree in
      record { entries = class.positive.entries; positive = omega (arith, ints); sums = with_listed i listed }

  pub product-elsewhere : (is : List Integer) (v : List ℤ) (n : ℤ) → AllByRecursion (IsListed vs) is → length v ≡ length f.heights
      → degree_of f.heights v ≤ℤ pos D → (HasPlace vs v → ⊥) → katz f.heights is v n ≡ pos 0
  product-elsewhere is v n listed entries within none = elsewhere f.heights D (HasPlace vs) is v n (λ u e z. inl z)
      (all-onto (IsListed vs) (AddsTo f.heights D (HasPlace vs)) listed_adds is listed) entries within none

  -- a class that is neither zero nor listed is not one of the family
  series-elsewhere : (N : ℤ) (v : List ℤ) (n : ℤ) → IsNormalized N f → degree_of f.heights v ≤ℤ pos D → (HasPlace vs v → ⊥)
      → coefficient_of wholes f v n ≡ pos 0
  series-elsewhere N v n normal within none = found (find v f.rows) refl
    where
      listed_rows : AllByRecursion (λ x. Contains (classes f.rows) x.class) f.rows
      listed_rows = all_classes (Contains (classes f.rows)) f.rows (all-members (classes f.rows))

      not_found : (x : Row ℤ) → find v f.rows ≡ Some x
          → (x.class ≡ zeros (length f.heights)) ⊎ IsPositiveClass f.heights x.class → ⊥
      not_found x e (inl zero_class) = none
          (inl (rw (sym (found_class v f.rows x e) ∙ zero_class) (zero_class-zeros (length f.heights))))
      not_found x e (inr positive) =
          let same = found_class v f.rows x e in
          none (inr (closed.whole v (rw same at (found_all (λ y. Contains (classes f.rows) y.class) v f.rows x listed_rows e))
          (record { positive = rw same at positive; within = within })))

      found : (x : Option (Row ℤ)) → find v f.rows ≡ x → series_coefficient wholes n x ≡ pos 0
      found None e = refl
      found (Some x) e = absurd (not_found x e
          (found_all (λ y. (y.class ≡ zeros (length f.heights)) ⊎ IsPositiveClass f.heights y.class) v f.rows x
          (all_classes (λ w. (w ≡ zeros (length f.heights)) ⊎ IsPositiveClass f.heights w) f.rows normal.others) e))

  pub agrees_elsewhere : (N : ℤ) (is : List Integer) (v : List ℤ) (n : ℤ) → IsNormalized N f → AllByRecursion (IsListed vs) is
      → IsCompared D N f v n → (Contains vs v → ⊥) → Agrees f is v n
  agrees_elsewhere N is v n normal listed compared none = bool_cases (is_zero_class v)
      (λ b. let zero_class : v ≡ zeros (length f.heights) = zero_class_is v b ∙ ap zeros compared.entries in
      rw zero_class (agrees_zero N f is n normal compared.exponent))
      (λ b. let out : HasPlace vs v → ⊥ = has_none b in
      product-elsewhere is v n listed compared.entries compared.degree out ∙ sym (series-elsewhere N v n normal compared.degree out))
    where
      has_none : is_zero_class v ≡ false → HasPlace vs v → ⊥
      has_none b (inl zero_class) = cc
      has_none b (inr listed) = none listed
