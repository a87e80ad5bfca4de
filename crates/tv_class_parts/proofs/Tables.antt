-- Tables of classes that were read: what is found in them, and how they go on.
--
-- absent-none       a class of a lower degree that is neither zero nor read has no product
-- found-katz        the row that is found has the product
-- are-parts         what the classes add to the next one
-- parts_are_katz, table_goes_on  the laws
use Rattle.std.specs.Prelude.{◌≡◌, ◌⊎◌, Contains, ℕ, suc, ◌+◌, ◌*◌, ◌/◌, ◌<◌, ◌≤◌, ℤ, pos, ◌+ℤ◌, ◌-ℤ◌, ◌*ℤ◌, ◌≤ℤ◌, ◌<ℤ◌, unsigned_abs, List, [], ◌∷◌, ◌++◌, length, map, drop, false}
use Rattle.std.specs.List.{AllByRecursion, IsDistinct}
use Rattle.std.proofs.Common.{sym, ap, arith, ◌∙◌, inl, inr, mul_comm, mul-le-mul_left, mul-le-mul_right}
use Rattle.std.proofs.Math.IntN.{*ℤ-zero}
use Rattle.std.proofs.lemmas.Int.{ints}
use Rattle.std.proofs.lemmas.List.{map-append, get_or_past}
use Rattle.std.proofs.lemmas.List.Elements.{Contains-append_left, Contains-append_cases}
use Rattle.std.proofs.lemmas.List.FromFn.{get_or-map-range_with_len}
use Rattle.std.proofs.lemmas.Bool.{cases_lt}
use Rattle.tv_lemmas.proofs.Members.{all-onto, all-both, all-append, all-front, all-contains, contains-head, contains-later, contains-cases}
use Rattle.tv_ring.specs.Whole.{wholes}
use Rattle.tv_ring.specs.Sums.{at}
use Rattle.tv_laws_series.specs.Terms.{listed}
use Rattle.tv_laws_series.proofs.Listed.{length-listed}
use Rattle.tv_spec_plane.specs.Web.{degree_of}
use Rattle.tv_spec_boxes.specs.Assignments.{zeros, same_vector}
use Rattle.tv_spec_boxes.specs.Classes.{IsBefore, ClassesRise}
use Rattle.tv_spec_boxes.proofs.OneCornerCrowd.{degree_zero}
use Rattle.tv_spec_series.specs.Families.{Family}
use Rattle.tv_spec_series.proofs.Order.{before_apart, first_before, rise_tail, same_vector-other}
use Rattle.tv_spec_katz.specs.Binomials.{power_sign}
use Rattle.tv_spec_katz.specs.Places.{place}
use Rattle.tv_spec_katz.specs.Katz.{Integer, factors, katz}
use Rattle.tv_laws_katz.specs.Gathered.{power_in}
use Rattle.tv_laws_katz.specs.Logarithm.{begins_at}
use Rattle.tv_laws_katz.proofs.Elsewhere.{unit_below_one}
use Rattle.tv_laws_katz.proofs.Units.{unit-none}
use Rattle.tv_laws_integers.specs.Closed.{IsClassTo, IsListed}
use Rattle.tv_recurrence.specs.KatzParts.{katz_by_weight}
use Rattle.tv_recurrence.specs.Products.{class_after, row_at, exponent_at, IsPartOf, ArePartsOf}
use Rattle.tv_class_integers.specs.NextClasses.{read_onto}
use Rattle.tv_class_integers.proofs.NextClass.{slopes, classes_keep, product_is_read}
use Rattle.tv_class_integers.specs.Readings.{power_sum}
use Rattle.tv_class_integers.specs.NextClasses.{series_by_weight, class_readings}
use Rattle.tv_class_integers.proofs.Readings.{length-readings}
use Rattle.tv_class_parts.specs.ReadClasses.{ReadClass, find_row, part_rows, part_of}
use Rattle.tv_class_parts.specs.Tables.{IsReadClass, IsTable, IsBeforeClass, IsAfterClass, PartsAreKatz, TableGoesOn}
use Rattle.tv_class_parts.proofs.ClassesAfter.{length-after, degree-after}
use Rattle.tv_class_parts.proofs.Lookups.{find-cases}
use Rattle.tv_class_parts.proofs.OwnPowersIn.{powers-onto, powers-onto_other}
use Rattle.tv_laws_integers.proofs.Elsewhere.{zero_class_is, HasPlace, product-elsewhere}
use Rattle.tv_laws_integers.proofs.Existence.{back_rises}
use Rattle.tv_recurrence.proofs.TakenRows.{at-empty}

-- ---- classes outside a closed list

-- ---- classes in order

pub distinct-rises : (hs : List ℤ) (vs : List (List ℤ)) → ClassesRise hs vs → IsDistinct same_vector vs
unfolding IsDistinct
distinct-rises hs [] rises = tt
distinct-rises hs (u ∷ vs) rises = (
  all-onto (IsBefore hs u) (λ y. same_vector u y ≡ false) (λ y b. same_vector-other u y (before_apart hs u y b)) vs
      (first_before hs u vs rises),
  distinct-rises hs vs (rise_tail hs u vs rises),
)

distinct-front : (us vs : List (List ℤ)) → IsDistinct same_vector (us ++ vs) → IsDistinct same_vector us
unfolding IsDistinct
distinct-front [] vs once = tt
distinct-front (u ∷ us) vs once = (all-front (λ y. same_vector u y ≡ false) us vs once.0, distinct-front us vs once.1)

pub before-degree : (hs u v : List ℤ) → IsBefore hs u v → degree_of hs u ≤ℤ degree_of hs v
before-degree hs u v (inl less) = omega (arith, ints)
before-degree hs u v (inr same) = omega (arith, ints, same.0)

all-unmap : {A B : Type 0} (P : B → Type 0) (g : A → B) (xs : List A) → AllByRecursion P (map g xs) →
    AllByRecursion (λ x. P (g x)) xs
all-unmap P g [] all = tt
all-unmap P g (x ∷ xs) all = (all.0, all-unmap P g xs all.1)

-- ---- what is found in a table

pub signed-none : (a z : ℤ) → z ≡ pos 0 → a *ℤ z ≡ pos 0
signed-none a z e = ap (λ y. a *ℤ y) e ∙ *ℤ-zero a

module _ (D : ℕ) (f : Family ℤ) (w T : ℕ) (read back : List (List ℤ)) (is : List Integer) (v : List ℤ) (base : ℕ)
    (ls : List ReadClass) (before : IsBeforeClass D f w read back is v base) (table : IsTable f.heights w T read is ls) where
  abbrev hs : List ℤ
  hs = f.heights

  abbrev vs : List (List ℤ)
  vs = read ++ v ∷ back

  all-listed : AllByRecursion (IsListed vs) is
  all-listed = all-onto (IsListed read) (IsListed vs) (λ i there. Contains-append_left read
      (v ∷ back) i.class there) is before.next.begun.listed

  not-later : (u : List ℤ) → degree_of hs u <ℤ degree_of hs v → Contains (v ∷ back) u → ⊥
  not-later u less there = elim (contains-cases u v back there) as (λ _. ⊥) [
    | inl same ↦ absurd (let e = ap (degree_of hs) same in omega (arith, ints))
    | inr later ↦
        let order = all-contains (IsBefore hs v) back u (first_before hs v back (back_rises hs read
        (v ∷ back) before.closed.rises)) later in
        absurd (omega (arith, ints, before-degree hs v u order))
  ]

  no-place : (u : List ℤ) → length u ≡ length hs → degree_of hs u <ℤ degree_of hs v →
      (Contains (zeros (length hs) ∷ read) u → ⊥) →
      HasPlace vs u → ⊥
  no-place u entries less none (inl none_of) = none (contains-head u (zeros (length hs)) read (sym (zero_class_is u none_of ∙
      ap zeros entries)))
  no-place u entries less none (inr there) = elim (Contains-append_cases read (v ∷ back) u there) as (λ _. ⊥) [
    | inl front ↦ none (contains-later u (zeros (length hs)) read front)
    | inr later ↦ not-later u less later
  ]

  absent-none : (u : List ℤ) (n : ℤ) → length u ≡ length hs → degree_of hs u <ℤ degree_of hs v →
      (Contains (zeros (length hs) ∷ read) u → ⊥) → katz hs is u n ≡ pos 0
  absent-none u n entries less none =
      let within = before.next.class.within in
      product-elsewhere D f vs before.closed is u n all-listed entries (omega (arith, ints)) (no-place u entries less none)

  found-katz : (u : List ℤ) (s : ℕ) → s ≤ T → length u ≡ length hs → degree_of hs u <ℤ degree_of hs v →
      at wholes (find_row u ls) s ≡ katz_by_weight hs w is u s
  found-katz u s h entries less = elim (find-cases (IsReadClass hs w T is) u ls table.each) as (λ _. at wholes
      (find_row u ls) s ≡ katz_by_weight hs w is u s) [
        | inl found ↦
            ap (λ r. at wholes r s) found.row ∙ (found.holds.coefficients s h ∙ ap (λ x. katz_by_weight hs w is x s) found.class)
        | inr absent ↦
            let n = exponent_at hs w u s in
            let none = absent-none u n entries less (λ there. absent.none (rw table.classes there)) in
            ap (λ r. at wholes r s) absent.row ∙ (at-empty s ∙ sym (signed-none (power_sign (unsigned_abs n)) (katz hs is u n) none))
      ]

  below-none : (u : List ℤ) (s : ℕ) → degree_of hs u <ℤ pos 0 → katz_by_weight hs w is u s ≡ pos 0
  below-none u s less =
      let n = exponent_at hs w u s in
      signed-none (power_sign (unsigned_abs n)) (katz hs is u n)
      (unit_below_one hs is u n (omega (arith, ints)) ∙ unit-none (place hs u n) (λ is_unit. let e = is_unit.degree in
      absurd (omega (arith, ints))))

  -- ---- what one class adds
  module _ (d : ℕ) (degree : pos d ≡ degree_of hs v) (l : ReadClass) (line : IsReadClass hs w T is l) (up : 0 < l.degree) where
    abbrev F : ℕ → List ℤ
    F j = find_row (class_after (suc j) v l.class) ls

    left : (j : ℕ) → degree_of hs (class_after (suc j) v l.class) ≡ pos d -ℤ pos (suc j * l.degree)
    left j =
        degree-after hs (suc j) v l.class before.next.class.positive.entries line.entries ∙
        (ap (λ z. z -ℤ (pos (suc j) *ℤ degree_of hs l.class)) (sym degree) ∙
        ap (λ z. pos d -ℤ (pos (suc j) *ℤ z)) (sym line.degree))

    row-is : (j s : ℕ) → s ≤ T → at wholes (row_at (part_rows ls v l.class (d / l.degree)) j) s ≡ katz_by_weight hs w is
        (class_after (suc j) v l.class) s
    unfolding listed
    row-is j s h = elim (cases_lt j (d / l.degree)) [
      | inl within ↦
          let row : row_at (part_rows ls v l.class (d / l.degree)) j ≡ F j = get_or-map-range_with_len F 0
          (d / l.degree) j j [] within (omega arith) in
          let count = length-after (suc j) v l.class in
          let entries = before.next.class.positive.entries in
          let less : degree_of hs (class_after (suc j) v l.class) <ℤ degree_of hs v = omega
          (arith, ints, left j, degree, positive-times j) in
          ap (λ r. at wholes r s) row ∙ found-katz (class_after (suc j) v l.class) s h (count ∙ entries) less
      | inr past ↦
          let row : row_at (part_rows ls v l.class (d / l.degree)) j ≡ [] =
          get_or_past (part_rows ls v l.class (d / l.degree)) j [] (omega (arith, length-listed F (d / l.degree))) in
          let low : degree_of hs (class_after (suc j) v l.class) <ℤ pos 0 = omega (arith, ints, left j, past-times j past) in
          ap (λ r. at wholes r s) row ∙ (at-empty s ∙ sym (below-none (class_after (suc j) v l.class) s low))
    ]
      where
        positive-times : (j : ℕ) → 0 < suc j * l.degree
        positive-times j = grind arith

        past-times : (j : ℕ) → d / l.degree ≤ j → d < suc j * l.degree
        past-times j h =
            let most : l.degree * (d / l.degree) ≤ l.degree * j = mul-le-mul_left l.degree h in
            let turned = mul_comm l.degree j in omega arith

    part-is : IsPartOf hs w D T (factors hs T is) (katz_by_weight hs w is) v l.class (part_of ls v d l)
    part-is = record {
      entries = line.entries;
      degree = line.degree;
      powers = line.factors;
      once = line.once;
      count = let within = before.next.class.within in omega (arith, ints, length-listed F (d / l.degree), quotient-most);
      rows = λ j s k h. row-is j s h;
    }
      where
        quotient-most : d / l.degree ≤ d
        quotient-most =
            let most : 1 * (d / l.degree) ≤ l.degree * (d / l.degree) = mul-le-mul_right (d / l.degree) up in omega arith

  are-parts : (d : ℕ) → pos d ≡ degree_of hs v → (rest : List ReadClass) → AllByRecursion (IsReadClass hs w T is) rest →
      AllByRecursion (λ (l : ReadClass). 0 < l.degree) rest →
      ArePartsOf hs w D T (factors hs T is) (katz_by_weight hs w is) v (map (λ (l : ReadClass). l.class) rest) (map
      (part_of ls v d) rest)
  are-parts d degree [] each up = tt
  are-parts d degree (l ∷ rest) each up = (part-is d degree l each.0 up.0, are-parts d degree rest each.1 up.1)

tail-classes : (ls : List ReadClass) (z : List ℤ) (read : List (List ℤ)) → map (λ (l : ReadClass). l.class) ls ≡ z ∷ read →
    map (λ (l : ReadClass). l.class) (drop 1 ls) ≡ read
tail-classes [] z read e = cc
tail-classes (l ∷ ls) z read e = cc

pub tail-each : (P : ReadClass → Type 0) (ls : List ReadClass) → AllByRecursion P ls → AllByRecursion P (drop 1 ls)
tail-each P [] all = tt
tail-each P (l ∷ ls) all = all.1

pub positive-tail : (D : ℕ) (hs : List ℤ) (w T : ℕ) (read : List (List ℤ)) (is : List Integer) (ls : List ReadClass) →
    AllByRecursion (IsClassTo D hs) read → IsTable hs w T read is ls →
    AllByRecursion (λ (l : ReadClass). 0 < l.degree) (drop 1 ls)
positive-tail D hs w T read is ls each table =
    let rest = tail-classes ls (zeros (length hs)) read table.classes in
    all-both (IsReadClass hs w T is) (λ l. IsClassTo D hs l.class) (λ l. 0 < l.degree)
    (λ l line class. let up = class.positive.degree in let degree = line.degree in omega (arith, ints)) (drop 1 ls)
    (tail-each (IsReadClass hs w T is) ls table.each)
    (all-unmap (IsClassTo D hs) (λ (l : ReadClass). l.class) (drop 1 ls) (rw rest each))

pub parts_are_katz : PartsAreKatz
parts_are_katz D f w T read back is v base ls d t before table degree h =
    let rest = tail-classes ls (zeros (length f.heights)) read table.classes in
    let each = all-front (IsClassTo D f.heights) read (v ∷ back) before.closed.each in
    record {
      entries = before.next.class.positive.entries;
      within = h;
      degree = before.next.class.within;
      slope = slopes D f w read is v base before.next;
      listed = all-onto (IsListed read) (λ i. Contains read i.class ⊎ (degree_of f.heights v <ℤ degree_of f.heights i.class))
          (λ i there. inl there) is before.next.begun.listed;
      once = distinct-front read (v ∷ back) (distinct-rises f.heights (read ++ v ∷ back) before.closed.rises);
      parts = rw rest at (are-parts D f w T read back is v base ls before table d degree (drop 1 ls)
          (tail-each (IsReadClass f.heights w T is) ls table.each) (positive-tail D f.heights w T read is ls each table));
    }

module _ (D : ℕ) (f : Family ℤ) (w T : ℕ) (read back : List (List ℤ)) (is : List Integer) (v : List ℤ) (base : ℕ)
    (ls : List ReadClass) (l : ReadClass) (before : IsBeforeClass D f w read back is v base)
    (table : IsTable f.heights w T read is ls) (after : IsAfterClass f w T is v base l) where
  abbrev hs' : List ℤ
  hs' = f.heights

  abbrev numbers : List ℤ
  numbers = class_readings f w base is v

  abbrev is' : List Integer
  is' = read_onto f w base is v

  zero-before : IsBefore hs' (zeros (length hs')) v
  zero-before =
      let up = before.next.class.positive.degree in let none = degree_zero hs' (length hs') in inl (omega (arith, ints))

  all-before : AllByRecursion (λ (k : ReadClass). IsBefore hs' k.class v) ls
  all-before = all-unmap (λ u. IsBefore hs' u v) (λ (k : ReadClass). k.class) ls (rw table.classes
      (zero-before, before.next.after))

  still : (k : ReadClass) → IsReadClass hs' w T is k → IsBefore hs' k.class v → IsReadClass hs' w T is' k
  still k line b = record {
    entries = line.entries;
    degree = line.degree;
    coefficients = λ t h.
        line.coefficients t h ∙ ap (λ z. power_sign (unsigned_abs (exponent_at hs' w k.class t)) *ℤ z)
        (sym (classes_keep D f w read is v base before.next k.class (exponent_at hs' w k.class t) b));
    factors = λ s h.
        line.factors s h ∙ sym (powers-onto_other hs' T v base is numbers k.class (begins_at hs' w k.class +ℤ pos s)
        (λ e. before_apart hs' k.class v b (sym e)));
    once = line.once;
  }

  apart : AllByRecursion (λ i. i.class ≡ v → ⊥) is
  apart = all-onto (IsListed read) (λ i. i.class ≡ v → ⊥)
      (λ i there. before_apart hs' i.class v (all-contains (λ u. IsBefore hs' u v) read i.class before.next.after there)) is
      before.next.begun.listed

  own-factors : (s : ℕ) → s ≤ T → power_sum base numbers s ≡ power_in (factors hs' T is') v (begins_at hs' w v +ℤ pos s)
  own-factors s h =
      let place = before.next.place in
      let count = length-readings base (series_by_weight f w v) (katz_by_weight hs' w is v) (base + 2) in
      sym (powers-onto hs' T v base is numbers s (begins_at hs' w v +ℤ pos s) (omega (arith, ints)) h (omega arith) apart)

  new-line : IsReadClass hs' w T is' l
  new-line = record {
    entries = ap length after.class ∙ before.next.class.positive.entries;
    degree = after.degree ∙ ap (degree_of hs') (sym after.class);
    coefficients = λ t h.
        after.coefficients t h ∙
        (sym (product_is_read D f w read is v base before.next t) ∙ ap (λ u. katz_by_weight hs' w is' u t) (sym after.class));
    factors = λ s h.
        after.powers s h ∙
        (own-factors s h ∙ ap (λ u. power_in (factors hs' T is') u (begins_at hs' w u +ℤ pos s)) (sym after.class));
    once = after.once;
  }

  goes-on : IsTable hs' w T (read ++ v ∷ []) is' (ls ++ l ∷ [])
  goes-on = record {
    classes =
        map-append (λ (k : ReadClass). k.class) ls (l ∷ []) ∙
        (ap (λ cs. cs ++ l.class ∷ []) table.classes ∙ ap (λ u. zeros (length hs') ∷ (read ++ u ∷ [])) after.class);
    each = all-append (IsReadClass hs' w T is') ls (l ∷ [])
        (all-both (IsReadClass hs' w T is) (λ k. IsBefore hs' k.class v) (IsReadClass hs' w T is') still ls table.each all-before)
        (new-line, tt);
  }

pub table_goes_on : TableGoesOn
table_goes_on D f w T read back is v base ls l before table after = goes-on D f w T read back is v base ls l before table after
