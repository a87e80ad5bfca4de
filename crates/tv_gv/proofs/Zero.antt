-- Class zero, and a family of which no class is read yet.
--
-- zeros-more        one entry more
-- zeros-entries     they are entries of a class
-- known-beyond      the family is 0 beyond its exponent
-- begins-way        no class is read yet
use Rattle.std.specs.Prelude.{◌≡◌, ℕ, zero, suc, ◌+◌, ◌≤◌, ℤ, pos, ◌<ℤ◌, slice_get, List, [], ◌∷◌, ◌++◌, length, Option, Some, None}
use Rattle.std.specs.List.{AllByRecursion}
use Rattle.std.proofs.Common.{refl, sym, ap, arith, ◌∙◌}
use Rattle.std.proofs.lemmas.Int.{ints}
use Rattle.tv_lattice.specs.Classes.{IsEntry, IsEntries}
use Rattle.tv_spec_plane.specs.declared.limits.TheConstants.{MOST_POINTS}
use Rattle.tv_lemmas.proofs.Naturals.{as_natural-is}
use Rattle.tv_ring.specs.Whole.{wholes, IsAny}
use Rattle.tv_laws_series.specs.Terms.{Terms, upto}
use Rattle.tv_laws_series.proofs.Coefficients.{coefficient_beyond}
use Rattle.tv_spec_boxes.specs.Assignments.{zeros}
use Rattle.tv_spec_boxes.proofs.Vectors.{length-zeros}
use Rattle.tv_spec_series.specs.Families.{Row, Family, row, find, coefficient_of, series_coefficient, IsFamily, IsRow}
use Rattle.tv_spec_series.proofs.Rows.{find-nil, found_all}
use Rattle.tv_laws_integers.specs.Closed.{IsClosedList}
use Rattle.tv_laws_integers.proofs.Steps.{begun_none}
use Rattle.tv_class_parts.specs.Progress.{IsUnderWay}
use Rattle.tv_class_parts.proofs.ZeroLine.{zero-read}
use Rattle.tv_gv.specs.Extracted.{IsExtractable, degree_to}
use Rattle.tv_gv.specs.Progress.{last_weight, IsSlope, zero_line}

pub zeros-more : (n : ℕ) → zeros (n + 1) ≡ zeros n ++ pos 0 ∷ []
zeros-more zero = refl
zeros-more (suc n) = let e : suc n + 1 ≡ suc (n + 1) = omega arith in rw e (ap (λ zs. pos 0 ∷ zs) (zeros-more n))

zeros-small : (n : ℕ) → AllByRecursion IsEntry (zeros n)
zeros-small zero = tt
zeros-small (suc n) = (omega arith, zeros-small n)

pub zeros-entries : (n : ℕ) → n ≤ MOST_POINTS → IsEntries (zeros n)
zeros-entries n h = let count = length-zeros n in record { few = omega arith; small = zeros-small n }

known-row : (N n : ℤ) → N <ℤ n → (x : Option (Row ℤ)) → ((r : Row ℤ) → x ≡ Some r → upto r.series ≡ N) →
    series_coefficient wholes n x ≡ pos 0
known-row N n h None is = refl
known-row N n h (Some r) is = let e = is r refl in coefficient_beyond wholes r.series n (omega (arith, ints))

pub known-beyond : (f : Family ℤ) → IsFamily IsAny wholes f → (v : List ℤ) (n : ℤ) → f.upto <ℤ n →
    coefficient_of wholes f v n ≡ pos 0
known-beyond f family v n h = known-row f.upto n h (find v f.rows)
    (λ r e. (found_all (IsRow IsAny wholes f.heights f.top f.upto) v f.rows r family.rows e).known)

pub begins-way : (f : Family ℤ) (w : ℕ) (vs : List (List ℤ)) → IsFamily IsAny wholes f → IsExtractable f → IsSlope f w →
    IsClosedList (degree_to f) f vs →
    IsUnderWay (degree_to f) f.upto f w (last_weight f w) [] vs [] (zero_line f.heights ∷ [])
begins-way f w vs family given slope closed =
    let least = given.least in let upto_is = as_natural-is f.upto (omega (arith, ints)) in
    record {
      reach = omega (arith, ints);
      far = given.least;
      normalized = given.normalized;
      known = known-beyond f family;
      begins = slope.begins;
      least = slope.least;
      closed = closed;
      begun = begun_none (degree_to f) f;
      agrees = tt;
      table = record { classes = refl; each = (zero-read f.heights w (last_weight f w), tt) };
    }

-- ---- the first row

pub some-row : (v : List ℤ) (n : ℤ) (rows : List (Row ℤ)) → length rows ≤ 0 →
    series_coefficient wholes n (find v rows) ≡ pos 1 → ⊥
some-row v n [] h one = let none = rw (find-nil {A = ℤ} v) at one in omega (arith, ints, none)
some-row v n (x ∷ rows) h one = absurd (omega arith)

pub first-entries : (hs : List ℤ) (top n : ℤ) (rows : List (Row ℤ)) (v : List ℤ) (s : Terms ℤ) →
    AllByRecursion (IsRow IsAny wholes hs top n) rows → slice_get rows 0 ≡ Some (row v s) → length v ≡ length hs
first-entries hs top n [] v s all e = absurd (cc)
first-entries hs top n (x ∷ rows) v s all e =
    let same : x ≡ row v s = cc in ap (λ (y : Row ℤ). length y.class) (sym same) ∙ all.0.place.entries
