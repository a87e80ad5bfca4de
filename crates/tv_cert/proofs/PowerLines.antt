-- The lines of the powers of a report's classes.
--
-- majorant-least    what degree times the product without signs bounds, the majorant bounds
-- power-line        the powers of a class's integers are those of its factors
-- power-wide        powers that are too wide make the majorant so
-- lines-none, lines-more, lines-all  the lines of no class, of one more, and of all
use Rattle.std.specs.Prelude.{◌≡◌, ℕ, ◌+◌, ◌*◌, ◌<◌, ◌≤◌, ◌^◌, ℤ, pos, ◌+ℤ◌, ◌-ℤ◌, ◌*ℤ◌, ◌≤ℤ◌, unsigned_abs, int_le, nat_eq, true, List, [], ◌∷◌, ◌++◌, length, map, take}
use Rattle.std.specs.List.{AllByRecursion, IsDistinct}
use Rattle.std.proofs.Common.{refl, sym, ap, arith, ◌∙◌, inl, inr}
use Rattle.std.proofs.lemmas.Int.{ints}
use Rattle.std.proofs.lemmas.Nat.{mul-le}
use Rattle.std.proofs.lemmas.Bool.{cases_Bool}
use Rattle.tv_spec_boxes.specs.Assignments.{same_vector}
use Rattle.tv_spec_boxes.proofs.Vectors.{same_vector_tells}
use Rattle.std.proofs.lemmas.List.{map-append, take_all}
use Rattle.tv_lemmas.specs.Naturals.{as_natural}
use Rattle.tv_lemmas.proofs.Naturals.{as_natural-is}
use Rattle.tv_lemmas.proofs.Members.{all-onto, all-append, all-at}
use Rattle.tv_lemmas.proofs.Signs.{mul-nonneg-nonneg}
use Rattle.tv_lemmas.proofs.Integers.{mul-sub}
use Rattle.tv_lemmas.proofs.Tests.{eq-on, most-true}
use Rattle.tv_ring.specs.Operations.{limit}
use Rattle.tv_ring.specs.Whole.{wholes}
use Rattle.tv_ring.specs.Sums.{at}
use Rattle.tv_spec_plane.specs.Web.{degree_of}
use Rattle.tv_spec_series.specs.Families.{Family}
use Rattle.tv_spec_katz.specs.Katz.{Integer, factors}
use Rattle.tv_spec_katz.specs.Majorant.{absolute_product, is_counted_class, majorant_end, bound_at, majorant, greatest_slope}
use Rattle.tv_laws_katz.specs.Gathered.{power_in}
use Rattle.tv_laws_katz.specs.Logarithm.{begins_at}
use Rattle.tv_laws_katz.specs.Weights.{IsWithinSlope}
use Rattle.tv_laws_integers.specs.Closed.{IsClassTo}
use Rattle.tv_laws_majorant.proofs.Wide.{wide_powers}
use Rattle.tv_integers.specs.Kept.{Kept, values_of}
use Rattle.tv_integers.specs.declared.genus_value.GenusValue.{GenusValue}
use Rattle.tv_recurrence.specs.declared.fault.RowFault.{RowFault}
use Rattle.tv_recurrence.specs.declared.fault.RowFault.TheVariants.{Wide as RowWide, Memory as RowMemory}
use Rattle.tv_recurrence.specs.Products.{power_by, same_step}
use Rattle.tv_class_integers.specs.Rows.{IsRow, IsTooWideAt}
use Rattle.tv_class_integers.proofs.Majorants.{counts, majorant-is, scale-most, twice-scaled}
use Rattle.tv_class_parts.specs.ReadClasses.{ReadClass}
use Rattle.tv_gv.specs.Extracted.{degree_to}
use Rattle.tv_cert.specs.declared.fault.CertFault.{CertFault}
use Rattle.tv_cert.specs.declared.fault.CertFault.TheVariants.{Wide, Memory}
use Rattle.tv_cert.specs.Verified.{IsTooWideReport, IsCertFault}
use Rattle.tv_cert.specs.Powers.{values_sum, values_size}
use Rattle.tv_cert.specs.Slopes.{class_number}
use Rattle.tv_gv.specs.Progress.{last_weight}
use Rattle.tv_cert.specs.Plans.{IsPlan, IsPowerLine, ArePowerLines, IsWeightBelow, IsAtWeight}
use Rattle.tv_cert.proofs.Genera.{numbered, take-next}
use Rattle.tv_cert.proofs.Named.{numbered-class}
use Rattle.tv_cert.proofs.OwnFactors.{power-values, size-values}

-- ---- the majorant of a planned report

module _ (f : Family ℤ) (k : Kept) (w : ℕ) (vs : List (List ℤ)) (plan : IsPlan f k w vs) (v : List ℤ)
    (class : IsClassTo (degree_to f) f.heights v) (d base : ℕ) (degree : pos d ≡ degree_of f.heights v) (placed : base ≡ w * d) where
  abbrev hs : List ℤ
  hs = f.heights

  abbrev T : ℕ
  T = last_weight f w

  upto-is : f.upto ≡ pos (as_natural f.upto)
  upto-is = let least = plan.checkable.extractable.least in as_natural-is f.upto (omega (arith, ints))

  pub base-is : pos base ≡ pos w *ℤ degree_of hs v
  base-is = rw (sym degree) (ap pos placed)

  pub exponent-far : (t : ℕ) → t ≤ T → (pos t -ℤ pos base) ≤ℤ majorant_end (degree_to f) f.upto f k.integers
  exponent-far t h =
      let steep : w * degree_to f ≤ greatest_slope hs k.integers * degree_to f =
      mul-le w (degree_to f) (greatest_slope hs k.integers) (degree_to f) plan.slope.least (omega arith) in
      let is = upto-is in
      omega (arith, ints)

  pub majorant-least : (t x : ℕ) → t ≤ T →
      pos x ≤ℤ (degree_of hs v *ℤ absolute_product hs k.integers v (pos t -ℤ pos base)) → limit < x →
      IsTooWideReport f k.integers v (pos t -ℤ pos base)
  majorant-least t x h bound wide =
      let n = pos t -ℤ pos base in
      let A = unsigned_abs (absolute_product hs k.integers v n) in
      let up = class.positive.degree in
      let e = as_natural (degree_of hs v) in
      let degree_is = as_natural-is (degree_of hs v) (omega (arith, ints)) in
      let least : absolute_product hs k.integers v n ≤ℤ pos A = omega (arith, ints) in
      let scaled : pos x ≤ℤ (pos e *ℤ absolute_product hs k.integers v n) = rw (← degree_is) bound in
      rw (majorant-is (degree_to f) f.upto f k.integers v n class (exponent-far t h))
      (omega (arith, ints, scale-most e A (absolute_product hs k.integers v n) least, twice-scaled e A))

  -- ---- the powers of one class

  low-genera : AllByRecursion (λ (i : Integer). i.class ≡ v → i.genus ≤ base + 1) k.integers
  low-genera = all-onto (IsWithinSlope hs w) (λ (i : Integer). i.class ≡ v → i.genus ≤ base + 1)
      (λ i within same.
      let slope = rw same at within.slope in
      let is = base-is in omega (arith, ints)) k.integers plan.slope.within

  begins : (t : ℕ) → begins_at hs w v +ℤ pos t ≡ pos t -ℤ pos base
  begins t = let is = base-is in omega (arith, ints)

  pub powers-are : (powers : List ℤ) → IsRow (T + 1) (values_sum base (values_of v k.integers)) powers →
      (s : ℕ) → s ≤ T → at wholes powers s ≡ power_in (factors hs T k.integers) v (begins_at hs w v +ℤ pos s)
  powers-are powers row s h =
      row.each s (omega arith) ∙
      sym (power-values hs T v base s (begins_at hs w v +ℤ pos s) (begins s) h k.integers low-genera)

  pub powers-wide : (t : ℕ) → t ≤ T → limit < values_size base (values_of v k.integers) t →
      IsTooWideReport f k.integers v (pos t -ℤ pos base)
  powers-wide t h wide =
      let n = pos t -ℤ pos base in
      let up = class.positive.degree in
      let is = base-is in
      let size = size-values hs T v base t n refl h k.integers low-genera in
      rw (majorant-is (degree_to f) f.upto f k.integers v n class (exponent-far t h))
      (wide_powers f.upto f w k.integers v n T plan.slope.within (omega (arith, ints)) (omega (arith, ints))
      (omega (arith, ints, size, wide)))

  -- ---- what the code asks

  pub values-low : AllByRecursion (λ (g : GenusValue). g.genus ≤ base + 1) (values_of v k.integers)
  values-low = low-of k.integers low-genera
    where
      low-of : (is : List Integer) → AllByRecursion (λ (i : Integer). i.class ≡ v → i.genus ≤ base + 1) is →
          AllByRecursion (λ (g : GenusValue). g.genus ≤ base + 1) (values_of v is)
      low-of [] low = tt
      low-of (i ∷ is) low = elim (cases_Bool (same_vector i.class v)) as
          (λ _. AllByRecursion (λ (g : GenusValue). g.genus ≤ base + 1) (values_of v (i ∷ is))) [
            | inl on ↦ rw on (low.0 (same_vector_tells i.class v on), low-of is low.1)
            | inr off ↦ rw off (low-of is low.1)
          ]

  degree-low : d ≤ degree_to f
  degree-low = let most = class.within in omega (arith, ints)

  base-low : base ≤ w * degree_to f
  base-low = rw placed (mul-le w d w (degree_to f) (omega arith) degree-low)

  pub base-room : base + 2 ≤ T + 1
  base-room = let low = base-low in let is = upto-is in let least = plan.checkable.extractable.least in omega (arith, ints)

  last-small : T ≤ 1600
  last-small =
      let most = plan.checkable.extractable.most in
      let is = upto-is in
      let top = plan.checkable.extractable.most_degree in
      let top_is = as_natural-is f.top plan.checkable.extractable.least_degree in
      let steep : w * degree_to f ≤ 64 * 24 = mul-le w (degree_to f) 64 24 plan.low (omega (arith, ints)) in
      omega (arith, ints)

  pub fault-below : (S : ℕ → ℕ) (fault : RowFault) → IsTooWideAt (T + 1) S fault → IsWeightBelow (2 ^ 31) fault
  fault-below S (RowWide t) wide = let small = last-small in omega (arith, wide.0)
  fault-below S RowMemory wide = tt

  pub fault-is : (S : ℕ → ℕ) → ((t : ℕ) → t ≤ T → limit < S t → IsTooWideReport f k.integers v (pos t -ℤ pos base)) →
      (fault : RowFault) (result : CertFault) → IsTooWideAt (T + 1) S fault → IsAtWeight v base fault result →
      IsCertFault f k.integers result
  fault-is S wide (RowWide t) (Wide u n) found at_weight =
      rw (at_weight.0, at_weight.1) (wide t (omega (arith, found.0)) found.1)
  fault-is S wide (RowWide t) Memory found at_weight = absurd at_weight
  fault-is S wide RowMemory (Wide u n) found at_weight = absurd at_weight
  fault-is S wide RowMemory Memory found at_weight = tt

  pub line-is : (l : ReadClass) (powers : List ℤ) → l.class ≡ v → l.degree ≡ d →
      IsRow (T + 1) (values_sum base (values_of v k.integers)) powers →
      ((s : ℕ) → power_by l.powers s ≡ at wholes powers s) → IsDistinct same_step l.powers → IsPowerLine hs w T k.integers l
  line-is l powers e same row gathered once = record {
    entries = ap length e ∙ class.positive.entries;
    degree = ap pos same ∙ (degree ∙ ap (degree_of hs) (sym e));
    positive = let up = class.positive.degree in omega (arith, ints, same);
    factors = λ s h. gathered s ∙ (powers-are powers row s h ∙
        ap (λ u. power_in (factors hs T k.integers) u (begins_at hs w u +ℤ pos s)) (sym e));
    once = once;
  }

-- ---- the classes one after the other

pub number-class : (f : Family ℤ) (k : Kept) (w : ℕ) (vs : List (List ℤ)) → IsPlan f k w vs → (n : ℕ) → n < length (numbered k) →
    IsClassTo (degree_to f) f.heights (class_number k n)
number-class f k w vs plan n h =
    all-at (IsClassTo (degree_to f) f.heights) (numbered k) [] (numbered-class f k plan.checkable plan.kept) n h

pub record ArePowerLinesTo (f : Family ℤ) (k : Kept) (w n : ℕ) (ls : List ReadClass) : Type 0 where
  pub classes : map (λ (l : ReadClass). l.class) ls ≡ take n (numbered k)
  pub each : AllByRecursion (IsPowerLine f.heights w (last_weight f w) k.integers) ls

pub lines-none : (f : Family ℤ) (k : Kept) (w : ℕ) (ls : List ReadClass) → ls ≡ [] → ArePowerLinesTo f k w 0 ls
lines-none f k w ls e = rw e (record { classes = refl; each = tt })

pub lines-more : (f : Family ℤ) (k : Kept) (w n : ℕ) (ls more : List ReadClass) (l : ReadClass) → n < length (numbered k) →
    ArePowerLinesTo f k w n ls → l.class ≡ class_number k n → IsPowerLine f.heights w (last_weight f w) k.integers l →
    more ≡ ls ++ l ∷ [] → ArePowerLinesTo f k w (n + 1) more
lines-more f k w n ls more l h was e line grown = rw grown (record {
  classes =
      map-append (λ (x : ReadClass). x.class) ls (l ∷ []) ∙
      (ap (λ us. us ++ l.class ∷ []) was.classes ∙
      (ap (λ u. take n (numbered k) ++ u ∷ []) e ∙ sym (take-next (numbered k) n [] h)));
  each = all-append (IsPowerLine f.heights w (last_weight f w) k.integers) ls (l ∷ []) was.each (line, tt);
})

pub lines-all : (f : Family ℤ) (k : Kept) (w n : ℕ) (ls : List ReadClass) → length (numbered k) ≤ n → ArePowerLinesTo f k w n ls →
    ArePowerLines f k w ls
lines-all f k w n ls past was =
    record { classes = was.classes ∙ take_all n (numbered k) past; each = was.each }
