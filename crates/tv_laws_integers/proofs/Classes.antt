-- What is read of a whole class, and of a rising list of classes: the product agrees with the family at every exponent at most 1
-- of each, and stays the same at all earlier classes.
--
-- ArePast vs is      == each of the integers comes before all of the classes
-- IsReadOf D f v is more == `more` is `is` after the class v
-- AreReadOf D f vs is more == `more` is `is` after the classes
use Rattle.std.proofs.Common.{◌≡◌, inl, inr, ℕ, zero, suc, ◌*◌, ◌≤◌, ℤ, pos, ◌*ℤ◌, ◌-ℤ◌, ◌≤ℤ◌, ◌<ℤ◌, List, [], ◌∷◌, ◌++◌, refl, sym, ◌∙◌, ap, arith, mul_comm}
use Rattle.std.proofs.lemmas.Int.{ints}
use Rattle.std.proofs.lemmas.Bool.{cases_lt}
use Rattle.std.proofs.lemmas.Nat.{mul-le}
use Rattle.std.specs.List.{AllByRecursion}
use Rattle.std.specs.Ordering.{int_eq}
use Rattle.tv_lemmas.proofs.Members.{all-onto, all-both}
use Rattle.tv_ring.specs.Whole.{wholes}
use Rattle.tv_lemmas.specs.Naturals.{as_natural}
use Rattle.tv_laws_series.proofs.NormalForm.{bool_cases}
use Rattle.tv_spec_plane.specs.Web.{degree_of}
use Rattle.tv_spec_boxes.specs.Classes.{IsBefore, ClassesRise}
use Rattle.tv_spec_series.specs.Families.{Family, coefficient_of}
use Rattle.tv_spec_series.proofs.Order.{rise_tail, first_before}
use Rattle.tv_spec_katz.specs.Katz.{Integer, katz}
use Rattle.tv_spec_katz.specs.Integers.{Agrees, genus_depth, depth, first_genus, new_integer, with_integer, read_genus, read_down, read_class, read_classes}
use Rattle.tv_spec_katz.specs.Relations.{AreOrdered}
use Rattle.tv_laws_katz.specs.Further.{IsPositive}
use Rattle.tv_laws_katz.specs.Weights.{IsWithinSlope}
use Rattle.tv_laws_katz.proofs.LargerBound.{vanishes_by_slope}
use Rattle.tv_laws_integers.specs.Closed.{IsClassTo}
use Rattle.tv_laws_integers.specs.Reading.{AgreesThrough}
use Rattle.tv_laws_integers.proofs.Later.{positives}
use Rattle.tv_laws_integers.proofs.Genera.{IsPast, down}
use Rattle.tv_laws_integers.proofs.Depth.{below_series, genera_within}
use Rattle.tv_lemmas.proofs.Naturals.{as_natural-is}

-- ---- where the classes come from

module _ (f : Family ℤ) (P : List ℤ → Type 0) where
  abbrev pub Of : Integer → Type 0
  Of i = P i.class

  with_integer_of : (v : List ℤ) (g : ℕ) (z : ℤ) (is : List Integer) → P v → AllByRecursion Of is
      → AllByRecursion Of (with_integer v g z is)
  with_integer_of v g z is p all = bool_cases (int_eq z (pos 0)) (λ b. rw b all) (λ b. rw b (p, all))

  pub read_genus_of : (v : List ℤ) (g : ℕ) (is : List Integer) → P v → AllByRecursion Of is
      → AllByRecursion Of (read_genus f v g is)
  read_genus_of v g is p all = with_integer_of v g (new_integer f v g is) is p all

  read_down_of : (v : List ℤ) (g : ℕ) (is : List Integer) → P v → AllByRecursion Of is → AllByRecursion Of (read_down f v g is)
  read_down_of v zero is p all = read_genus_of v 0 is p all
  read_down_of v (suc g) is p all = read_down_of v g (read_genus f v (suc g) is) p (read_genus_of v (suc g) is p all)

  pub read_class_of : (v : List ℤ) (is : List Integer) → P v → AllByRecursion Of is → AllByRecursion Of (read_class f is v)
  read_class_of v is p all = read_down_of v (first_genus f v is) is p all

  pub read_classes_of : (vs : List (List ℤ)) (is : List Integer) → AllByRecursion P vs → AllByRecursion Of is
      → AllByRecursion Of (read_classes f is vs)
  read_classes_of [] is each all = all
  read_classes_of (v ∷ vs) is each all = read_classes_of vs (read_class f is v) each.1 (read_class_of v is each.0 all)

-- what is read of two lists is read of one after the other
pub read_append : (f : Family ℤ) (is : List Integer) (us vs : List (List ℤ))
    → read_classes f is (us ++ vs) ≡ read_classes f (read_classes f is us) vs
read_append f is [] vs = refl
read_append f is (u ∷ us) vs = read_append f (read_class f is u) us vs

-- ---- one class

abbrev pub ArePast : List ℤ → List (List ℤ) → List Integer → Type 0
ArePast hs vs is = AllByRecursion (λ i. AllByRecursion (IsBefore hs i.class) vs) is

pub record IsReadOf (D : ℕ) (f : Family ℤ) (v : List ℤ) (is more : List Integer) : Type 0 where
  pub ordered : AreOrdered D f.heights more
  pub agrees : AgreesThrough (pos 1) f more v
  pub same : (u : List ℤ) (n : ℤ) → IsBefore f.heights u v → katz f.heights more u n ≡ katz f.heights is u n

pub record AreReadOf (D : ℕ) (f : Family ℤ) (vs : List (List ℤ)) (is more : List Integer) : Type 0 where
  pub ordered : AreOrdered D f.heights more
  pub agrees : AllByRecursion (AgreesThrough (pos 1) f more) vs
  pub same : (u : List ℤ) (n : ℤ) → AllByRecursion (IsBefore f.heights u) vs → katz f.heights more u n ≡ katz f.heights is u n

pub one-less : (n : ℤ) → n ≤ℤ pos 1 → pos 1 -ℤ pos (as_natural (pos 1 -ℤ n)) ≡ n
one-less n h = let e = as_natural-is (pos 1 -ℤ n) (omega (arith, ints)) in omega (arith, ints)

-- w is a slope for genera of at most w + 1
slope-by : (w d : ℕ) → 1 ≤ d → w ≤ w * d
slope-by w d h = let more : w * 1 ≤ w * d = mul-le w 1 w d (omega arith) h in omega arith

within_slope : (hs : List ℤ) (w : ℕ) (i : Integer) → i.genus ≤ suc w → IsPositive hs i → IsWithinSlope hs w i
within_slope hs w i h positive =
    let d = as_natural (degree_of hs i.class) in
    let degree = as_natural-is (degree_of hs i.class) (omega (arith, ints)) in
    let slope = slope-by w d (omega (arith, ints)) in
    let product : pos w *ℤ degree_of hs i.class ≡ pos (w * d) = ap (λ z. pos w *ℤ z) degree in
    record { positive = positive; slope = omega (arith, ints) }

module _ (D : ℕ) (f : Family ℤ) where
  -- below the exponents that are read both are 0
  below_first : (v : List ℤ) (is : List Integer) (n : ℤ) → IsClassTo D f.heights v → AreOrdered D f.heights is
      → n <ℤ (pos 1 -ℤ pos (first_genus f v is)) → (katz f.heights is v n ≡ pos 0) × (coefficient_of wholes f v n ≡ pos 0)
  below_first v is n class order low =
      let w = depth f v is in
      let d = as_natural (degree_of f.heights v) in
      let up = class.positive.degree in
      let degree = as_natural-is (degree_of f.heights v) (omega (arith, ints)) in
      let product : pos w *ℤ degree_of f.heights v ≡ pos (d * w) = ap (λ z. pos w *ℤ z) degree ∙ ap pos (mul_comm w d) in
      let once : w ≤ d * w = rw (mul_comm d w) (slope-by w d (omega (arith, ints))) in
      let genera = all-both (λ i. i.genus ≤ suc (genus_depth is)) (IsPositive f.heights) (IsWithinSlope f.heights w)
      (λ i h k. within_slope f.heights w i (omega arith) k) is (genera_within is) (positives D f.heights is order) in
      (vanishes_by_slope f.heights w is v n genera (omega (arith, ints)), below_series f v n (omega (arith, ints)))

  pub read_one : (v : List ℤ) (is : List Integer) → IsClassTo D f.heights v → AreOrdered D f.heights is
      → AllByRecursion (λ i. IsBefore f.heights i.class v) is → IsReadOf D f v is (read_class f is v)
  read_one v is class order past =
      let g = first_genus f v is in
      let d = down D f v g is class order
      (all-onto (λ i. IsBefore f.heights i.class v) (IsPast f.heights v g) (λ i b. inl b) is past) in
      record {
        ordered = d.ordered;
        agrees = λ n h. elim (cases_lt g (as_natural (pos 1 -ℤ n))) as (λ _. Agrees f (read_class f is v) v n) [
          | inl low ↦
              let far : n <ℤ (pos 1 -ℤ pos g) = let e = one-less n h in omega (arith, ints) in
              let both = below_first v is n class order far in
              d.same v n (inr (refl, far)) ∙ (both.0 ∙ sym both.1)
          | inr near ↦ rw (one-less n h) at (d.agrees (as_natural (pos 1 -ℤ n)) near)
        ];
        same = λ u n b. d.same u n (inl b);
      }

  -- ---- a list of classes

  pub read_all : (vs : List (List ℤ)) (is : List Integer) → AllByRecursion (IsClassTo D f.heights) vs → ClassesRise f.heights vs
      → AreOrdered D f.heights is → ArePast f.heights vs is → AreReadOf D f vs is (read_classes f is vs)
  read_all [] is each rises order past = record { ordered = order; agrees = tt; same = λ u n b. refl }
  read_all (v ∷ vs) is each rises order past =
      let first = first_before f.heights v vs rises in
      let one = read_one v is each.0 order
      (all-onto (λ i. AllByRecursion (IsBefore f.heights i.class) (v ∷ vs)) (λ i. IsBefore f.heights i.class v) (λ i b. b.0)
      is past) in
      let later : ArePast f.heights vs (read_class f is v) = read_class_of f (λ w. AllByRecursion (IsBefore f.heights w) vs)
      v is first (all-onto (λ i. AllByRecursion (IsBefore f.heights i.class) (v ∷ vs))
      (λ i. AllByRecursion (IsBefore f.heights i.class) vs) (λ i b. b.1) is past) in
      let rest = read_all vs (read_class f is v) each.1 (rise_tail f.heights v vs rises) one.ordered later in
      record {
        ordered = rest.ordered;
        agrees = (λ n h. rest.same v n first ∙ one.agrees n h, rest.agrees);
        same = λ u n b. rest.same u n b.1 ∙ one.same u n b.0;
      }
