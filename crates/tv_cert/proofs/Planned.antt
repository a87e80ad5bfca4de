-- A report that can be checked, before its classes.
--
-- ordered           its integers are in order to the greatest degree
-- wide-at-once      a class with a great genus is too wide at exponent 0
-- planned           without one the slope is at most 64
use Rattle.std.specs.Prelude.{◌≡◌, ℕ, ◌+◌, ◌<◌, ◌≤◌, ℤ, pos, ◌+ℤ◌, ◌≤ℤ◌, ◌<ℤ◌, ◌*◌, List, length}
use Rattle.std.specs.List.{AllByRecursion}
use Rattle.std.proofs.Common.{sym, subst, arith}
use Rattle.std.proofs.lemmas.Int.{ints}
use Rattle.std.proofs.lemmas.Nat.{mul-le}
use Rattle.tv_lemmas.proofs.Naturals.{as_natural-is}
use Rattle.tv_lemmas.proofs.Members.{all-onto, all-both}
use Rattle.tv_ring.specs.Whole.{wholes, IsAny}
use Rattle.tv_spec_plane.specs.Web.{degree_of}
use Rattle.tv_spec_series.specs.Families.{Family, IsFamily}
use Rattle.tv_spec_katz.specs.Katz.{Integer}
use Rattle.tv_spec_katz.specs.Majorant.{greatest_slope}
use Rattle.tv_spec_katz.specs.Relations.{AreOrdered}
use Rattle.tv_laws_katz.specs.Weights.{IsWithinSlope}
use Rattle.tv_laws_katz.specs.Further.{IsPositive}
use Rattle.tv_laws_integers.specs.Closed.{IsClassTo, IsClosedList, IsListed}
use Rattle.tv_laws_integers.proofs.Later.{positives}
use Rattle.tv_laws_integers.proofs.Slopes.{slopes-most}
use Rattle.tv_laws_majorant.specs.Laws.{least_wide_genus}
use Rattle.tv_laws_majorant.proofs.Wide.{wide_majorant}
use Rattle.tv_integers.specs.Kept.{Kept, AreKept}
use Rattle.tv_integers.specs.Laws.{HasDegreeTo}
use Rattle.tv_integers.proofs.Degrees.{ordered_from}
use Rattle.tv_gv.specs.Extracted.{degree_to}
use Rattle.tv_cert.specs.Verified.{IsCheckable, IsTooWideReport}
use Rattle.tv_cert.specs.Slopes.{IsSlopeOf, IsWideClass}
use Rattle.tv_gv.specs.Progress.{last_weight}
use Rattle.tv_cert.specs.Plans.{IsPlan}

module _ (f : Family ℤ) (k : Kept) (checkable : IsCheckable f k) (kept : AreKept k.heights k.integers) where
  ordered : AreOrdered (degree_to f) f.heights k.integers
  ordered =
      let top_is = as_natural-is f.top checkable.extractable.least_degree in
      ordered_from (degree_to f) f.heights k.integers (
        rw checkable.heights at kept,
        all-onto (λ (i : Integer). degree_of f.heights i.class ≤ℤ f.top) (HasDegreeTo (degree_to f) f.heights)
            (λ i within. omega (arith, ints)) k.integers checkable.within,
      )

  pub wide-at-once : (v : List ℤ) → IsWideClass k.integers v → IsTooWideReport f k.integers v (pos 0)
  wide-at-once v wide =
      let least = checkable.extractable.least in
      rw (sym wide.class) (wide_majorant (degree_to f) f.upto f k.integers wide.integer ordered wide.among wide.genus
      (omega (arith, ints)))

  low-slope : AllByRecursion (λ (i : Integer). i.genus < least_wide_genus) k.integers → greatest_slope f.heights k.integers ≤ 64
  low-slope low =
      slopes-most (degree_to f) f.heights 64 k.integers ordered (all-both (IsPositive f.heights)
      (λ (i : Integer). i.genus < least_wide_genus) (IsWithinSlope f.heights 64)
      (λ i positive less. record { positive = positive; slope = omega (arith, ints, positive, less) }) k.integers
      (positives (degree_to f) f.heights k.integers ordered) low)

  pub planned : IsFamily IsAny wholes f → AllByRecursion (λ (i : Integer). i.genus < least_wide_genus) k.integers → (w : ℕ) →
      IsSlopeOf k.heights k.integers w → (vs : List (List ℤ)) → IsClosedList (degree_to f) f vs →
      AllByRecursion (IsListed vs) k.integers → IsPlan f k w vs
  planned family low w slope vs closed listed =
      let same : IsSlopeOf f.heights k.integers w = subst (λ hs. IsSlopeOf hs k.integers w) checkable.heights slope in
      record {
        checkable = checkable;
        family = family;
        kept = kept;
        slope = same;
        low = omega (arith, same.least, low-slope low);
        closed = closed;
        listed = listed;
      }

-- a row through the last weight has each exponent through the last one
pub row-room : (f : Family ℤ) (k : Kept) (w : ℕ) (vs : List (List ℤ)) → IsPlan f k w vs → (v : List ℤ) →
    IsClassTo (degree_to f) f.heights v → (d base : ℕ) → pos d ≡ degree_of f.heights v → base ≡ w * d → (row : List ℤ) →
    length row ≡ last_weight f w + 1 → (f.upto +ℤ pos base) <ℤ pos (length row)
row-room f k w vs plan v class d base degree placed row count =
    let most = class.within in
    let least = plan.checkable.extractable.least in
    let upto_is = as_natural-is f.upto (omega (arith, ints)) in
    let steep : w * d ≤ w * degree_to f = mul-le w d w (degree_to f) (omega arith) (omega (arith, ints)) in
    omega (arith, ints, count, placed)
