-- The next class of a family, and what follows of reading it.
use Rattle.std.specs.Prelude.{◌≡◌, ℕ, suc, ◌+◌, ◌*◌, ◌≤◌, ◌<◌, ◌^◌, ℤ, pos, ◌-ℤ◌, ◌*ℤ◌, ◌≤ℤ◌, int_le, List, [], ◌∷◌, ◌++◌, length, take, drop, reverse, Bool, true, false, ◌&&◌}
use Rattle.std.proofs.Common.{sym, ap, subst, arith, ◌∙◌, inl, inr, get_or}
use Rattle.std.proofs.Math.ListN.{drop_of_length-le}
use Rattle.std.proofs.Math.Seq.{take-suc, drop-cons}
use Rattle.std.proofs.lemmas.Int.{ints}
use Rattle.std.proofs.lemmas.Bool.{cases_Bool}
use Rattle.std.proofs.lemmas.Bool.Decides.{nat_tests}
use Rattle.std.proofs.lemmas.Nat.{mul-le}
use Rattle.std.proofs.lemmas.List.{reverse-reverse, length-reverse}
use Rattle.tv_lemmas.specs.Naturals.{as_natural}
use Rattle.tv_lemmas.proofs.Naturals.{as_natural-is}
use Rattle.tv_lemmas.proofs.Members.{all-onto, all-contains}
use Rattle.tv_ring.specs.Operations.{limit}
use Rattle.tv_ring.specs.Whole.{wholes}
use Rattle.tv_ring.specs.Sums.{at}
use Rattle.tv_spec_plane.specs.Web.{degree_of}
use Rattle.tv_spec_boxes.specs.Classes.{IsBefore}
use Rattle.tv_spec_series.specs.Families.{Family, coefficient_of}
use Rattle.tv_spec_katz.specs.Katz.{Integer}
use Rattle.tv_spec_katz.specs.Relations.{IsPositiveClass}
use Rattle.tv_spec_katz.specs.Majorant.{majorant, majorant_end, is_counted_class, has_majorant, greatest_slope}
use Rattle.tv_laws_integers.specs.Closed.{IsClassTo, IsListed}
use Rattle.tv_laws_integers.proofs.Proved.{slope_of_series}
use Rattle.tv_integers.specs.Kept.{Kept}
use Rattle.tv_class_integers.specs.Rows.{IsRow}
use Rattle.tv_class_integers.specs.NextClasses.{class_readings, series_by_weight, read_onto}
use Rattle.tv_class_integers.specs.ClassIntegers.{onto}
use Rattle.tv_class_integers.proofs.Readings.{length-readings}
use Rattle.tv_recurrence.specs.KatzParts.{katz_by_weight}
use Rattle.tv_recurrence.specs.Products.{exponent_at}
use Rattle.tv_class_parts.specs.declared.fault.ClassFault.{ClassFault}
use Rattle.tv_class_parts.specs.declared.fault.ClassFault.TheVariants.{Wide as ClassWide, Differ, Memory as ClassMemory}
use Rattle.tv_class_parts.specs.ReadClasses.{ReadClass}
use Rattle.tv_class_parts.specs.Ways.{Way, IsGiven, IsReadOn, IsFaultOn}
use Rattle.tv_class_parts.specs.Progress.{IsLaterRead, IsWidePlace, IsUnequalPlace}
use Rattle.tv_class_parts.proofs.Progress.{next-of, ends_well}
use Rattle.tv_gv.specs.declared.fault.GvFault.{GvFault}
use Rattle.tv_gv.specs.declared.fault.GvFault.TheVariants.{Wide, Mismatch, Memory}
use Rattle.tv_gv.specs.Extracted.{IsExtractable, HasIntegers, IsTooWide, IsUnequal, IsGvFault, degree_to}
use Rattle.tv_gv.specs.Progress.{last_weight, way_at, IsReadTo, IsLastClass, IsWeightBelow, IsAtWeight}

second : (a b : Bool) → (a && b) ≡ true → b ≡ true
second true b e = e
second false b e = absurd (cc)

wide-within : (D : ℕ) (N : ℤ) (f : Family ℤ) (is : List Integer) (v : List ℤ) (n : ℤ) → limit < majorant D N f is v n →
    n ≤ℤ majorant_end D N f is
unfolding majorant
wide-within D N f is v n wide = elim (cases_Bool (has_majorant D N f is v n)) as (λ _. n ≤ℤ majorant_end D N f is) [
  | inl on ↦ let within = second (is_counted_class D f.heights v) (int_le n (majorant_end D N f is)) on in grind (arith, ints, nat_tests)
  | inr off ↦ let no = rw off at wide in absurd (omega arith)
]

too-wide : (f : Family ℤ) (u v : List ℤ) (n m : ℤ) → u ≡ v → n ≡ m → IsWidePlace (degree_to f) f.upto f v m → IsTooWide f u n
too-wide f u v n m e h wide = rw (e, h) (record { integers = wide.integers; are = wide.are; wide = wide.wide })

unequal-at : (f : Family ℤ) (u v : List ℤ) (n m s x p y : ℤ) → u ≡ v → n ≡ m → s ≡ x → p ≡ y →
    IsUnequalPlace (degree_to f) f.upto f v m x y → IsUnequal f u n s p
unequal-at f u v n m s x p y e h i j at = rw (e, h, i, j) (record {
  integers = at.integers;
  are = at.are;
  mismatch = at.mismatch;
  family = at.family;
  katz = at.katz;
})

module _ (f : Family ℤ) (w : ℕ) (vs : List (List ℤ)) (k : ℕ) (kept : Kept) (ls : List ReadClass) (v : List ℤ)
    (d base : ℕ) (given : IsExtractable f) (low : w ≤ 10000) (within : k < length vs) (here : v ≡ get_or vs k v)
    (read : IsReadTo f w vs k kept ls) (degree : pos d ≡ degree_of f.heights v) (place : base ≡ w * d) where
  abbrev g : Way
  g = way_at f w vs k kept.integers

  base-is : pos base ≡ pos w *ℤ degree_of f.heights v
  base-is = rw (sym degree) (ap pos place)

  left : drop k vs ≡ v ∷ drop (suc k) vs
  left = drop-cons vs k v within ∙ ap (λ u. u ∷ drop (suc k) vs) (sym here)

  later : IsLaterRead g.D g.N g.f g.w g.T g.read g.back g.integers v base ls
  later = record { way = rw left at read.way; place = base-is }

  class : IsClassTo (degree_to f) f.heights v
  class = (next-of g.D g.N g.f g.w g.T g.read g.back g.integers v base ls later).class

  degree-low : d ≤ degree_to f
  degree-low = let most = class.within in omega (arith, ints)

  top-low : degree_to f ≤ 24
  top-low =
      let least = given.least_degree in let most = given.most_degree in
      let top_is = as_natural-is f.top least in omega (arith, ints)

  base-low : base ≤ w * degree_to f
  base-low = rw place (mul-le w d w (degree_to f) (omega arith) degree-low)

  last-low : w * degree_to f ≤ 10000 * 24
  last-low = mul-le w (degree_to f) 10000 24 low top-low

  pub base-small : base < 2 ^ 31
  base-small = let a = base-low in let b = last-low in omega arith

  upto-is : f.upto ≡ pos (as_natural f.upto)
  upto-is = let least = given.least in as_natural-is f.upto (omega (arith, ints))

  upto-low : as_natural f.upto ≤ 64
  upto-low = let most = given.most in let is = upto-is in omega (arith, ints)

  pub given-is : (end : ℕ) (series : List ℤ) → end ≡ as_natural f.upto + base + 1 →
      IsRow (last_weight f w + 1) (λ t. coefficient_of wholes f v (pos t -ℤ pos base)) series →
      IsGiven g v base d end ls series
  given-is end series end_is row =
      let a = base-low in let b = last-low in let is = upto-is in let least = given.least in let u = upto-low in
      record {
        later = later;
        degree = degree;
        count = row.count;
        each = λ t h. row.each t (omega arith) ∙ ap (λ x. coefficient_of wholes f v (pos t -ℤ x)) base-is;
        after = omega (arith, ints);
        low = let dl = degree-low in let tl = top-low in omega arith;
        short = omega arith;
        least = omega (arith, ints);
        most = omega arith;
      }

  -- the integers that are put in
  pub class-positive : IsPositiveClass kept.heights v
  class-positive = rw read.heights class.positive

  pub last-class : IsLastClass kept.heights v kept.integers
  last-class = rw read.heights (all-onto (IsListed g.read) (λ (i : Integer). IsBefore f.heights i.class v)
      (λ i there. all-contains (λ u. IsBefore f.heights u v) g.read i.class
      (next-of g.D g.N g.f g.w g.T g.read g.back g.integers v base ls later).after there) kept.integers read.way.begun.listed)

  abbrev numbers : List ℤ
  numbers = class_readings f w base kept.integers v

  module _ (l : ReadClass) (values : List ℤ) (on : IsReadOn g v base ls l values) where
    pub values-count : length values ≡ base + 2
    values-count = ap length on.all ∙ (length-reverse numbers ∙
        length-readings base (series_by_weight f w v) (katz_by_weight f.heights w kept.integers v) (base + 2))

    pub read-next : (next : Kept) → next ≡ record { heights = kept.heights; integers = onto v base (reverse values) kept.integers } →
        IsReadTo f w vs (k + 1) next (ls ++ l ∷ [])
    read-next next e =
        let back : reverse values ≡ numbers = ap reverse on.all ∙ reverse-reverse numbers in
        let more : take (suc k) vs ≡ take k vs ++ v ∷ [] =
        take-suc vs k v within ∙ ap (λ u. take k vs ++ u ∷ []) (sym here) in
        let same : next ≡ record { heights = kept.heights; integers = read_onto f w base kept.integers v } =
        e ∙ ap (λ ys. record { heights = kept.heights; integers = onto v base ys kept.integers }) back in
        let further : suc k ≡ k + 1 = omega arith in
        subst (λ x. IsReadTo f w vs (k + 1) x (ls ++ l ∷ [])) (sym same)
        (subst (λ j. IsReadTo f w vs j (record { heights = kept.heights; integers = read_onto f w base kept.integers v })
        (ls ++ l ∷ [])) further (record { heights = read.heights; way = rw more on.way }))

  wide-weight : (t : ℕ) → IsWidePlace g.D g.N f v (exponent_at f.heights w v t) → t < 2 ^ 31
  wide-weight t wide =
      let slope = (slope_of_series g.D f wide.integers w wide.are).1 read.way.begins in
      let reaches = wide-within g.D g.N f wide.integers v (exponent_at f.heights w v t) wide.wide in
      let steep = mul-le (greatest_slope f.heights wide.integers) g.D w g.D slope (omega arith) in
      let at_base = base-is in
      let a = base-low in let b = last-low in let is = upto-is in let u = upto-low in omega (arith, ints)

  pub weight-below : (fault : ClassFault) → IsFaultOn g v fault → IsWeightBelow fault
  weight-below (ClassWide t) wide = wide-weight t wide
  weight-below (Differ x) unequal =
      let reaches = unequal.mismatch.compared.exponent in
      let at_base = base-is in
      let a = base-low in let b = last-low in let is = upto-is in let u = upto-low in omega (arith, ints)
  weight-below ClassMemory none = tt

  pub fault-is : (fault : ClassFault) (result : GvFault) → IsFaultOn g v fault → IsAtWeight v base fault result → IsGvFault f result
  fault-is (ClassWide t) (Wide u n) wide at_weight =
      too-wide f u v n _ at_weight.0 (at_weight.1 ∙ ap (λ x. pos t -ℤ x) base-is) wide
  fault-is (ClassWide t) (Mismatch u n x y) wide at_weight = absurd at_weight
  fault-is (ClassWide t) Memory wide at_weight = absurd at_weight
  fault-is (Differ x) (Wide u n) unequal at_weight = absurd at_weight
  fault-is (Differ x) (Mismatch u n s p) unequal at_weight =
      unequal-at f u v n _ s x.series p x.product at_weight.0 (at_weight.1 ∙ ap (λ y. pos x.weight -ℤ y) base-is)
      at_weight.2 at_weight.3 unequal
  fault-is (Differ x) Memory unequal at_weight = absurd at_weight
  fault-is ClassMemory (Wide u n) none at_weight = absurd at_weight
  fault-is ClassMemory (Mismatch u n x y) none at_weight = absurd at_weight
  fault-is ClassMemory Memory none at_weight = tt

pub reads-all : (f : Family ℤ) (w : ℕ) (vs : List (List ℤ)) (kept : Kept) (ls : List ReadClass) (k : ℕ) → length vs ≤ k →
    IsReadTo f w vs k kept ls → HasIntegers f kept
reads-all f w vs kept ls k past read =
    let all = ends_well (degree_to f) f.upto f w (last_weight f w) (take k vs) kept.integers ls
    (rw (drop_of_length-le vs past) at read.way) in
    record { heights = read.heights; are = all.are; agrees = all.agrees }
