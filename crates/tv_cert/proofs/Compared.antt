-- The classes of a planned report, one after the other.
--
-- next-is           the next class, with those before it computed
-- exact, line-is, sums-wide  what the recurrence gives there, and sums that are too wide
-- katz-value        the product at an exponent, from the row
-- computed-none, computed-more  class zero alone, and one class more
-- agrees-here, agree-more  a class at which product and series agree
-- verified          all classes agree
-- first-difference  the first place at which they differ
use Rattle.std.specs.Prelude.{◌≡◌, ◌≢◌, ◌⊎◌, Contains, ℕ, zero, suc, ◌+◌, ◌*◌, ◌<◌, ◌≤◌, ℤ, pos, ◌+ℤ◌, ◌-ℤ◌, ◌*ℤ◌, ◌≤ℤ◌, ◌<ℤ◌, unsigned_abs, List, [], ◌∷◌, ◌++◌, length, map, take, slice_index_or}
use Rattle.std.specs.List.{AllByRecursion}
use Rattle.std.proofs.Common.{refl, sym, ap, subst, arith, ◌∙◌, inl, inr, drop}
use Rattle.std.proofs.Math.IntN.{*ℤ-zero}
use Rattle.std.proofs.Math.Seq.{drop-cons}
use Rattle.std.proofs.lemmas.Int.{ints, by_lt_z}
use Rattle.std.proofs.lemmas.List.{map-append, take_all, take-append-drop}
use Rattle.std.proofs.lemmas.List.Elements.{Contains-append_cases}
use Rattle.tv_lemmas.specs.Naturals.{as_natural}
use Rattle.tv_lemmas.proofs.Naturals.{as_natural-is}
use Rattle.tv_lemmas.proofs.Members.{all-onto, all-append, all-contains, all-at, all-members, contains-cases}
use Rattle.tv_ring.specs.Operations.{limit}
use Rattle.tv_ring.specs.Whole.{wholes}
use Rattle.tv_ring.specs.Sums.{at}
use Rattle.tv_spec_plane.specs.Web.{degree_of}
use Rattle.tv_spec_boxes.specs.Assignments.{zeros}
use Rattle.tv_spec_boxes.specs.Classes.{IsBefore, ClassesRise}
use Rattle.tv_spec_boxes.proofs.Vectors.{length-zeros}
use Rattle.tv_spec_boxes.proofs.OneCornerCrowd.{degree_zero}
use Rattle.tv_spec_series.specs.Families.{Family, coefficient_of}
use Rattle.tv_spec_series.proofs.Order.{first_before}
use Rattle.tv_spec_katz.specs.Binomials.{power_sign}
use Rattle.tv_spec_katz.specs.Katz.{Integer, katz}
use Rattle.tv_spec_katz.specs.Integers.{Differs, IsCompared}
use Rattle.tv_spec_katz.specs.Relations.{IsPositiveClass}
use Rattle.tv_spec_katz.specs.Places.{place}
use Rattle.tv_laws_katz.proofs.Elsewhere.{unit_below_one}
use Rattle.tv_laws_katz.proofs.LargerBound.{vanishes_by_slope}
use Rattle.tv_laws_katz.proofs.Units.{unit-none}
use Rattle.tv_laws_katz.proofs.Powers.{power_sign-square, twice_signed}
use Rattle.tv_laws_integers.specs.Closed.{IsClassTo, IsListed}
use Rattle.tv_laws_integers.specs.Reading.{AgreesThrough}
use Rattle.tv_laws_integers.proofs.Elsewhere.{agrees_elsewhere, katz-zero_unit}
use Rattle.tv_laws_integers.proofs.Existence.{agrees_through, back_rises, listed_or_not}
use Rattle.tv_laws_integers.proofs.Sorted.{sorted_rises}
use Rattle.tv_integers.specs.Kept.{Kept}
use Rattle.tv_recurrence.specs.declared.fault.RowFault.{RowFault}
use Rattle.tv_recurrence.specs.declared.fault.RowFault.TheVariants.{Wide as RowWide, Memory as RowMemory}
use Rattle.tv_recurrence.specs.KatzParts.{katz_by_weight, IsKatzLogarithmic}
use Rattle.tv_recurrence.specs.Parts.{Addends, parts_total, parts_size, IsMultiple}
use Rattle.tv_recurrence.specs.Products.{exponent_at}
use Rattle.tv_recurrence.specs.Rows.{IsQuotientRow, IsRowTooWide}
use Rattle.tv_recurrence.proofs.KatzTotals.{coefficient_is_katz, katz_parts_are_exact, sizes_of_katz_parts}
use Rattle.tv_class_integers.specs.Rows.{IsTooWideAt}
use Rattle.tv_class_parts.specs.ReadClasses.{ReadClass, CanBePart, part_of}
use Rattle.tv_gv.specs.Extracted.{degree_to}
use Rattle.tv_gv.specs.Progress.{last_weight, zero_line}
use Rattle.tv_cert.specs.declared.differences.Difference.{Difference}
use Rattle.tv_cert.specs.Verified.{IsVerified, IsFirstDifferenceOf, IsTooWideReport}
use Rattle.tv_cert.specs.Differences.{value_at, AgreeThrough, IsFirstUnequal}
use Rattle.tv_cert.specs.Plans.{IsPlan, IsPowerLine, ArePowerLines, IsProductLine, IsComputedTo, AgreeTo}
use Rattle.tv_cert.proofs.Genera.{numbered, class-positive, listed-class, take-next}
use Rattle.tv_cert.proofs.PowerLines.{base-is, majorant-least}
use Rattle.tv_cert.proofs.Computed.{IsNext, logarithmic}
use Rattle.tv_cert.proofs.Unequal.{value-below, value-late}

pub numbered-rises : (k : Kept) → AllByRecursion (λ (i : Integer). IsPositiveClass k.heights i.class) k.integers →
    ClassesRise k.heights (numbered k)
numbered-rises k positive =
    sorted_rises k.heights (length k.heights) (map (λ (i : Integer). i.class) k.integers) (lengths k.integers positive)
  where
    lengths : (is : List Integer) → AllByRecursion (λ (i : Integer). IsPositiveClass k.heights i.class) is →
        AllByRecursion (λ v. length v ≡ length k.heights) (map (λ (i : Integer). i.class) is)
    lengths [] all = tt
    lengths (i ∷ is) all = (all.0.entries, lengths is all.1)

pub row-wide : (xs : List Addends) (n : ℕ) (fault : RowFault) → IsRowTooWide xs n fault → IsTooWideAt n (λ t. parts_size t xs) fault
row-wide xs n (RowWide t) wide = wide
row-wide xs n RowMemory wide = tt

module _ (f : Family ℤ) (k : Kept) (w : ℕ) (vs : List (List ℤ)) (plan : IsPlan f k w vs) where
  abbrev hs : List ℤ
  hs = f.heights

  abbrev T : ℕ
  T = last_weight f w

  abbrev D : ℕ
  D = degree_to f

  module _ (n : ℕ) (within : n < length vs) where
    abbrev v : List ℤ
    v = slice_index_or vs n []

    abbrev back : List (List ℤ)
    back = drop (suc n) vs

    rejoined : take n vs ++ v ∷ back ≡ vs
    rejoined = ap (λ us. take n vs ++ us) (sym (drop-cons vs n [] within)) ∙ take-append-drop n vs

    pub class-at : IsClassTo D hs v
    class-at = all-at (IsClassTo D hs) vs [] plan.closed.each n within

    module _ (ls : List ReadClass) (computed : IsComputedTo f k w vs n ls) where
      next-is : IsNext D f w T k.integers (take n vs) back v ls
      next-is = record {
        closed = rw rejoined plan.closed;
        listed = rw rejoined plan.listed;
        class = class-at;
        classes = computed.classes;
        each = computed.each;
      }

      pub lines-lengths : AllByRecursion (λ (l : ReadClass). length l.class ≡ length v) ls
      lines-lengths = all-onto (IsProductLine hs w T k.integers) (λ (l : ReadClass). length l.class ≡ length v)
          (λ l line. line.entries ∙ sym class-at.positive.entries) ls computed.each

      module _ (ps : List ReadClass) (powers : ArePowerLines f k w ps) (d : ℕ) (degree : pos d ≡ degree_of hs v) where
        abbrev xs : List Addends
        xs = map (part_of ls v d) ps

        pub can-be : AllByRecursion (λ (l : ReadClass). CanBePart v l) ps
        can-be = all-onto (IsPowerLine hs w T k.integers) (λ (l : ReadClass). CanBePart v l)
            (λ l line. record {
              entries = line.entries ∙ sym class-at.positive.entries;
              positive = let up = line.positive in omega arith;
            }) ps powers.each

        pub degree-positive : 0 < d
        degree-positive = let up = class-at.positive.degree in omega (arith, ints)

        logs : (t : ℕ) → t ≤ T → IsKatzLogarithmic hs w D T k.integers v t (numbered k) xs
        logs t h =
            logarithmic D f w T k.integers (take n vs) back v ls next-is d t degree h plan.slope.within (numbered k)
            (subst (λ us. ClassesRise us (numbered k)) plan.checkable.heights
            (numbered-rises k (class-positive k.heights k.integers plan.kept)))
            (all-onto (Contains k.integers) (IsListed (numbered k)) (λ i there. listed-class k i there) k.integers
            (all-members k.integers)) ps powers.classes powers.each

        pub exact : (t : ℕ) → t < T + 1 → IsMultiple d (parts_total t xs)
        exact t h = katz_parts_are_exact hs w D T k.integers v t (numbered k) xs d (logs t (omega arith)) degree

        pub product-line : (l : ReadClass) → l.class ≡ v → l.degree ≡ d → IsQuotientRow d xs (T + 1) l.row →
            IsProductLine hs w T k.integers l
        product-line l e same row = record {
          entries = ap length e ∙ class-at.positive.entries;
          degree = ap pos same ∙ (degree ∙ ap (degree_of hs) (sym e));
          coefficients = λ t h.
              coefficient_is_katz hs w D T k.integers v t (numbered k) xs d (at wholes l.row t) (logs t h) degree-positive degree
              (row.each t (omega arith)) ∙ ap (λ u. katz_by_weight hs w k.integers u t) (sym e);
        }

        pub sums-wide : (base : ℕ) → base ≡ w * d → (t : ℕ) → t ≤ T → limit < parts_size t xs →
            IsTooWideReport f k.integers v (pos t -ℤ pos base)
        sums-wide base placed t h wide =
            let is = base-is f k w vs plan v class-at d base degree placed in
            let same : exponent_at hs w v t ≡ pos t -ℤ pos base = ap (λ z. pos t -ℤ z) (sym is) in
            let bound = sizes_of_katz_parts hs w D T k.integers v t (numbered k) xs (logs t h) in
            majorant-least f k w vs plan v class-at d base degree placed t (parts_size t xs) h (rw same at bound) wide

    -- ---- what the row says

    module _ (l : ReadClass) (e : l.class ≡ v) (line : IsProductLine hs w T k.integers l) (d base : ℕ)
        (degree : pos d ≡ degree_of hs v) (placed : base ≡ w * d) where
      based : pos base ≡ pos w *ℤ degree_of hs v
      based = base-is f k w vs plan v class-at d base degree placed

      reach : (m : ℤ) → m ≤ℤ f.upto → pos 0 ≤ℤ (m +ℤ pos base) → as_natural (m +ℤ pos base) ≤ T
      reach m h up =
          let most = class-at.within in
          let upto_is = as_natural-is f.upto (let least = plan.checkable.extractable.least in omega (arith, ints)) in
          let natural = as_natural-is (m +ℤ pos base) up in
          let low : base ≤ w * D = rw placed (steeper w d D (omega (arith, ints))) in
          omega (arith, ints)
        where
          steeper : (a b c : ℕ) → b ≤ c → a * b ≤ a * c
          steeper a b c h = grind arith

      late : (m : ℤ) → m ≤ℤ f.upto → pos 0 ≤ℤ (m +ℤ pos base) → value_at base l.row m ≡ katz hs k.integers v m
      late m h up =
          let t = as_natural (m +ℤ pos base) in
          let natural = as_natural-is (m +ℤ pos base) up in
          let at_t : exponent_at hs w v t ≡ m = omega (arith, ints, based, natural) in
          let entry : at wholes l.row t ≡ power_sign (unsigned_abs m) *ℤ katz hs k.integers v m =
          line.coefficients t (reach m h up) ∙ (ap (λ u. katz_by_weight hs w k.integers u t) e ∙
          ap (λ z. power_sign (unsigned_abs z) *ℤ katz hs k.integers v z) at_t) in
          value-late base l.row m up ∙ (ap (λ z. power_sign (unsigned_abs m) *ℤ z) entry ∙
          twice_signed (power_sign (unsigned_abs m)) (katz hs k.integers v m) (power_sign-square (unsigned_abs m)))

      early : (m : ℤ) → (m +ℤ pos base) <ℤ pos 0 → value_at base l.row m ≡ katz hs k.integers v m
      early m less =
          value-below base l.row m less ∙
          sym (vanishes_by_slope hs w k.integers v m plan.slope.within (omega (arith, ints, based)))

      pub katz-value : (m : ℤ) → m ≤ℤ f.upto → value_at base l.row m ≡ katz hs k.integers v m
      katz-value m h = by_lt_z (m +ℤ pos base) (pos 0) (λ less. early m less) (λ least. late m h (omega (arith, ints)))

      pub agrees-here : AgreeThrough f v base l.row f.upto → AgreesThrough f.upto f k.integers v
      agrees-here agree m h = sym (agree m h ∙ katz-value m h)

      pub agree-more : AgreeTo f k.integers vs n → AgreeThrough f v base l.row f.upto → AgreeTo f k.integers vs (n + 1)
      agree-more was agree =
          rw (take-next vs n [] within) (all-append (AgreesThrough f.upto f k.integers) (take n vs) (v ∷ []) was
          (agrees-here agree, tt))

      module _ (was : AgreeTo f k.integers vs n) (x : Difference) (unequal : IsFirstUnequal f v base l.row x) where
        differs-here : katz hs k.integers v x.exponent ≢ coefficient_of wholes f v x.exponent
        differs-here same =
            unequal.differ (unequal.series ∙ (sym same ∙ (sym (katz-value x.exponent unequal.within) ∙ sym unequal.product)))

        first-after : (u : List ℤ) (m : ℤ) → Differs f k.integers u m → Contains (v ∷ back) u →
            IsBefore hs v u ⊎ ((u ≡ v) × (x.exponent ≤ℤ m))
        first-after u m other there = elim (contains-cases u v back there) as
            (λ _. IsBefore hs v u ⊎ ((u ≡ v) × (x.exponent ≤ℤ m))) [
              | inl same ↦ by_lt_z m x.exponent
                  (λ less. absurd (other (rw (sym same) (sym (unequal.before m less ∙ katz-value m
                  (let h = unequal.within in omega (arith, ints)))))))
                  (λ least. inr (sym same, least))
              | inr later ↦ inl (all-contains (IsBefore hs v) back u
                  (first_before hs v back (back_rises hs (take n vs) (v ∷ back) (rw rejoined plan.closed.rises))) later)
            ]

        first : (u : List ℤ) (m : ℤ) → IsCompared D f.upto f u m → Differs f k.integers u m →
            IsBefore hs v u ⊎ ((u ≡ v) × (x.exponent ≤ℤ m))
        first u m compared other = elim (listed_or_not vs u) as (λ _. IsBefore hs v u ⊎ ((u ≡ v) × (x.exponent ≤ℤ m))) [
          | inl there ↦ elim (Contains-append_cases (take n vs) (v ∷ back) u (rw rejoined there)) as
              (λ _. IsBefore hs v u ⊎ ((u ≡ v) × (x.exponent ≤ℤ m))) [
                | inl front ↦ absurd (other (all-contains (AgreesThrough f.upto f k.integers) (take n vs) u was front m compared.exponent))
                | inr here ↦ first-after u m other here
              ]
          | inr none ↦ absurd (other (agrees_elsewhere D f vs plan.closed f.upto k.integers u m
              plan.checkable.extractable.normalized plan.listed compared none))
        ]

        pub first-difference : IsFirstDifferenceOf f k.integers v x.exponent x.series x.product
        first-difference = record {
          mismatch = record {
            compared = record { entries = class-at.positive.entries; degree = class-at.within; exponent = unequal.within };
            differs = differs-here;
            first = first;
          };
          series = unequal.series;
          product = unequal.product ∙ katz-value x.exponent unequal.within;
        }

  -- ---- the table

  zero-exponent : (t : ℕ) → exponent_at hs w (zeros (length hs)) t ≡ pos t
  zero-exponent t = rw (degree_zero hs (length hs), *ℤ-zero (pos w)) (omega (arith, ints))

  coefficient-zero : (t : ℕ) → at wholes (pos 1 ∷ []) t ≡ katz_by_weight hs w k.integers (zeros (length hs)) t
  unfolding at
  coefficient-zero zero = rw (zero-exponent 0) (rw (katz-zero_unit hs k.integers (length hs)) refl)
  coefficient-zero (suc t) =
      let low = degree_zero hs (length hs) in
      let none : katz hs k.integers (zeros (length hs)) (pos (suc t)) ≡ pos 0 =
      unit_below_one hs k.integers (zeros (length hs)) (pos (suc t)) (omega (arith, ints)) ∙
      unit-none (place hs (zeros (length hs)) (pos (suc t))) (λ is. let e = is.exponent in absurd (omega (arith, ints))) in
      rw (zero-exponent (suc t)) (rw none (sym (*ℤ-zero (power_sign (suc t)))))

  pub computed-none : IsComputedTo f k w vs 0 (zero_line hs ∷ [])
  computed-none = record {
    classes = refl;
    each = (
      record {
        entries = length-zeros (length hs);
        degree = sym (degree_zero hs (length hs));
        coefficients = λ t h. coefficient-zero t;
      },
      tt,
    );
  }

  pub computed-more : (n : ℕ) (ls more : List ReadClass) (l : ReadClass) → n < length vs → IsComputedTo f k w vs n ls →
      l.class ≡ slice_index_or vs n [] → IsProductLine hs w T k.integers l → more ≡ ls ++ l ∷ [] → IsComputedTo f k w vs (n + 1) more
  computed-more n ls more l h was e line grown = rw grown (record {
    classes =
        map-append (λ (x : ReadClass). x.class) ls (l ∷ []) ∙
        (ap (λ us. us ++ l.class ∷ []) was.classes ∙
        (ap (λ u. zeros (length hs) ∷ (take n vs ++ u ∷ [])) e ∙ ap (λ us. zeros (length hs) ∷ us) (sym (take-next vs n [] h))));
    each = all-append (IsProductLine hs w T k.integers) ls (l ∷ []) was.each (line, tt);
  })

  pub verified : (n : ℕ) → length vs ≤ n → AgreeTo f k.integers vs n → IsVerified f k.integers
  verified n past agree = agrees_through D f f.upto vs k.integers plan.closed plan.checkable.extractable.normalized plan.listed
      (rw (take_all n vs past) at agree)
