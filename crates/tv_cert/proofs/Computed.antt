-- The product over the integers of a report at the next class, by the recurrence.
--
-- absent-none       a class of a lower degree that is neither zero nor computed has no product
-- found-katz        the row that is found has the product
-- part-is, are-parts  what the classes of integers add to the next class
-- logarithmic       so the recurrence holds at each weight
use Rattle.std.specs.Prelude.{◌≡◌, ◌⊎◌, Contains, ℕ, suc, ◌*◌, ◌/◌, ◌<◌, ◌≤◌, ℤ, pos, ◌-ℤ◌, ◌*ℤ◌, ◌≤ℤ◌, ◌<ℤ◌, unsigned_abs, List, [], ◌∷◌, ◌++◌, length, map, false}
use Rattle.std.specs.List.{AllByRecursion, IsDistinct}
use Rattle.std.proofs.Common.{sym, ap, arith, ◌∙◌, inl, inr, mul_comm, mul-le-mul_left, mul-le-mul_right}
use Rattle.std.proofs.Math.IntN.{*ℤ-zero}
use Rattle.std.proofs.lemmas.Int.{ints}
use Rattle.std.proofs.lemmas.List.{get_or_past}
use Rattle.std.proofs.lemmas.List.Elements.{Contains-append_cases}
use Rattle.std.proofs.lemmas.List.FromFn.{get_or-map-range_with_len}
use Rattle.std.proofs.lemmas.Bool.{cases_lt}
use Rattle.tv_lemmas.proofs.Members.{all-onto, all-contains, contains-head, contains-later, contains-cases}
use Rattle.tv_ring.specs.Whole.{wholes}
use Rattle.tv_ring.specs.Sums.{at}
use Rattle.tv_laws_series.specs.Terms.{listed}
use Rattle.tv_laws_series.proofs.Listed.{length-listed}
use Rattle.tv_spec_plane.specs.Web.{degree_of}
use Rattle.tv_spec_boxes.specs.Assignments.{zeros, same_vector}
use Rattle.tv_spec_boxes.specs.Classes.{IsBefore, ClassesRise}
use Rattle.tv_spec_series.specs.Families.{Family}
use Rattle.tv_spec_series.proofs.Order.{before_apart, first_before, rise_tail, same_vector-other}
use Rattle.tv_spec_katz.specs.Binomials.{power_sign}
use Rattle.tv_spec_katz.specs.Places.{place}
use Rattle.tv_spec_katz.specs.Katz.{Integer, factors, katz}
use Rattle.tv_laws_katz.specs.Weights.{IsWithinSlope}
use Rattle.tv_laws_katz.proofs.Elsewhere.{unit_below_one}
use Rattle.tv_laws_katz.proofs.Units.{unit-none}
use Rattle.tv_laws_integers.specs.Closed.{IsClassTo, IsClosedList, IsListed}
use Rattle.tv_laws_integers.proofs.Elsewhere.{zero_class_is, HasPlace, product-elsewhere}
use Rattle.tv_laws_integers.proofs.Existence.{back_rises}
use Rattle.tv_recurrence.specs.KatzParts.{katz_by_weight, IsKatzLogarithmic}
use Rattle.tv_recurrence.specs.Products.{class_after, row_at, exponent_at, IsPartOf, ArePartsOf}
use Rattle.tv_recurrence.proofs.TakenRows.{at-empty}
use Rattle.tv_class_parts.specs.ReadClasses.{ReadClass, find_row, part_rows, part_of}
use Rattle.tv_class_parts.proofs.ClassesAfter.{length-after, degree-after}
use Rattle.tv_class_parts.proofs.Lookups.{find-cases}
use Rattle.tv_class_parts.proofs.Tables.{distinct-rises, before-degree, signed-none}
use Rattle.tv_cert.specs.Plans.{IsPowerLine, IsProductLine}

-- the classes before v are computed
pub record IsNext (D : ℕ) (f : Family ℤ) (w T : ℕ) (is : List Integer) (read back : List (List ℤ)) (v : List ℤ)
    (ls : List ReadClass) : Type 0 where
  pub closed : IsClosedList D f (read ++ v ∷ back)
  pub listed : AllByRecursion (IsListed (read ++ v ∷ back)) is
  pub class : IsClassTo D f.heights v
  pub classes : map (λ (l : ReadClass). l.class) ls ≡ zeros (length f.heights) ∷ read
  pub each : AllByRecursion (IsProductLine f.heights w T is) ls

module _ (D : ℕ) (f : Family ℤ) (w T : ℕ) (is : List Integer) (read back : List (List ℤ)) (v : List ℤ) (ls : List ReadClass)
    (next : IsNext D f w T is read back v ls) where
  abbrev hs : List ℤ
  hs = f.heights

  abbrev vs : List (List ℤ)
  vs = read ++ v ∷ back

  not-later : (u : List ℤ) → degree_of hs u <ℤ degree_of hs v → Contains (v ∷ back) u → ⊥
  not-later u less there = elim (contains-cases u v back there) as (λ _. ⊥) [
    | inl same ↦ absurd (let e = ap (degree_of hs) same in omega (arith, ints))
    | inr later ↦
        let order = all-contains (IsBefore hs v) back u (first_before hs v back (back_rises hs read (v ∷ back) next.closed.rises))
        later in
        absurd (omega (arith, ints, before-degree hs v u order))
  ]

  no-place : (u : List ℤ) → length u ≡ length hs → degree_of hs u <ℤ degree_of hs v →
      (Contains (zeros (length hs) ∷ read) u → ⊥) → HasPlace vs u → ⊥
  no-place u entries less none (inl none_of) =
      none (contains-head u (zeros (length hs)) read (sym (zero_class_is u none_of ∙ ap zeros entries)))
  no-place u entries less none (inr there) = elim (Contains-append_cases read (v ∷ back) u there) as (λ _. ⊥) [
    | inl front ↦ none (contains-later u (zeros (length hs)) read front)
    | inr later ↦ not-later u less later
  ]

  absent-none : (u : List ℤ) (n : ℤ) → length u ≡ length hs → degree_of hs u <ℤ degree_of hs v →
      (Contains (zeros (length hs) ∷ read) u → ⊥) → katz hs is u n ≡ pos 0
  absent-none u n entries less none =
      let within = next.class.within in
      product-elsewhere D f vs next.closed is u n next.listed entries (omega (arith, ints)) (no-place u entries less none)

  found-katz : (u : List ℤ) (s : ℕ) → s ≤ T → length u ≡ length hs → degree_of hs u <ℤ degree_of hs v →
      at wholes (find_row u ls) s ≡ katz_by_weight hs w is u s
  found-katz u s h entries less = elim (find-cases (IsProductLine hs w T is) u ls next.each) as (λ _. at wholes
      (find_row u ls) s ≡ katz_by_weight hs w is u s) [
        | inl found ↦
            ap (λ r. at wholes r s) found.row ∙ (found.holds.coefficients s h ∙ ap (λ x. katz_by_weight hs w is x s) found.class)
        | inr absent ↦
            let n = exponent_at hs w u s in
            let none = absent-none u n entries less (λ there. absent.none (rw next.classes there)) in
            ap (λ r. at wholes r s) absent.row ∙ (at-empty s ∙ sym (signed-none (power_sign (unsigned_abs n)) (katz hs is u n) none))
      ]

  below-none : (u : List ℤ) (s : ℕ) → degree_of hs u <ℤ pos 0 → katz_by_weight hs w is u s ≡ pos 0
  below-none u s less =
      let n = exponent_at hs w u s in
      signed-none (power_sign (unsigned_abs n)) (katz hs is u n)
      (unit_below_one hs is u n (omega (arith, ints)) ∙ unit-none (place hs u n) (λ is_unit. let e = is_unit.degree in
      absurd (omega (arith, ints))))

  module _ (d : ℕ) (degree : pos d ≡ degree_of hs v) (l : ReadClass) (line : IsPowerLine hs w T is l) where
    abbrev F : ℕ → List ℤ
    F j = find_row (class_after (suc j) v l.class) ls

    left : (j : ℕ) → degree_of hs (class_after (suc j) v l.class) ≡ pos d -ℤ pos (suc j * l.degree)
    left j =
        degree-after hs (suc j) v l.class next.class.positive.entries line.entries ∙
        (ap (λ z. z -ℤ (pos (suc j) *ℤ degree_of hs l.class)) (sym degree) ∙
        ap (λ z. pos d -ℤ (pos (suc j) *ℤ z)) (sym line.degree))

    row-is : (j s : ℕ) → s ≤ T → at wholes (row_at (part_rows ls v l.class (d / l.degree)) j) s ≡ katz_by_weight hs w is
        (class_after (suc j) v l.class) s
    unfolding listed
    row-is j s h = elim (cases_lt j (d / l.degree)) [
      | inl within ↦
          let row : row_at (part_rows ls v l.class (d / l.degree)) j ≡ F j = get_or-map-range_with_len F 0
          (d / l.degree) j j [] within (omega arith) in
          let count = length-after (suc j) v l.class in
          let entries = next.class.positive.entries in
          let less : degree_of hs (class_after (suc j) v l.class) <ℤ degree_of hs v = omega
          (arith, ints, left j, degree, positive-times j line.positive) in
          ap (λ r. at wholes r s) row ∙ found-katz (class_after (suc j) v l.class) s h (count ∙ entries) less
      | inr past ↦
          let row : row_at (part_rows ls v l.class (d / l.degree)) j ≡ [] =
          get_or_past (part_rows ls v l.class (d / l.degree)) j [] (omega (arith, length-listed F (d / l.degree))) in
          let low : degree_of hs (class_after (suc j) v l.class) <ℤ pos 0 =
          omega (arith, ints, left j, past-times j line.positive past) in
          ap (λ r. at wholes r s) row ∙ (at-empty s ∙ sym (below-none (class_after (suc j) v l.class) s low))
    ]
      where
        positive-times : (j : ℕ) → 1 ≤ l.degree → 0 < suc j * l.degree
        positive-times j up = grind arith

        past-times : (j : ℕ) → 1 ≤ l.degree → d / l.degree ≤ j → d < suc j * l.degree
        past-times j up h =
            let most : l.degree * (d / l.degree) ≤ l.degree * j = mul-le-mul_left l.degree h in
            let turned = mul_comm l.degree j in omega arith

    part-is : IsPartOf hs w D T (factors hs T is) (katz_by_weight hs w is) v l.class (part_of ls v d l)
    part-is = record {
      entries = line.entries;
      degree = line.degree;
      powers = line.factors;
      once = line.once;
      count = let within = next.class.within in omega (arith, ints, length-listed F (d / l.degree), quotient-most line.positive);
      rows = λ j s k h. row-is j s h;
    }
      where
        quotient-most : 1 ≤ l.degree → d / l.degree ≤ d
        quotient-most up =
            let most : 1 * (d / l.degree) ≤ l.degree * (d / l.degree) = mul-le-mul_right (d / l.degree) up in omega arith

  are-parts : (d : ℕ) → pos d ≡ degree_of hs v → (ps : List ReadClass) → AllByRecursion (IsPowerLine hs w T is) ps →
      ArePartsOf hs w D T (factors hs T is) (katz_by_weight hs w is) v (map (λ (l : ReadClass). l.class) ps) (map (part_of ls v d) ps)
  are-parts d degree [] each = tt
  are-parts d degree (l ∷ ps) each = (part-is d degree l each.0, are-parts d degree ps each.1)

  pub logarithmic : (d t : ℕ) → pos d ≡ degree_of hs v → t ≤ T → AllByRecursion (IsWithinSlope hs w) is → (Bs : List (List ℤ)) →
      ClassesRise hs Bs → AllByRecursion (IsListed Bs) is → (ps : List ReadClass) → map (λ (l : ReadClass). l.class) ps ≡ Bs →
      AllByRecursion (IsPowerLine hs w T is) ps → IsKatzLogarithmic hs w D T is v t Bs (map (part_of ls v d) ps)
  logarithmic d t degree h slope Bs rises all ps e each = record {
    entries = next.class.positive.entries;
    within = h;
    degree = next.class.within;
    slope = slope;
    listed = all-onto (IsListed Bs) (λ i. Contains Bs i.class ⊎ (degree_of hs v <ℤ degree_of hs i.class)) (λ i there. inl there)
        is all;
    once = distinct-rises hs Bs rises;
    parts = rw (sym e) (are-parts d degree ps each);
  }
