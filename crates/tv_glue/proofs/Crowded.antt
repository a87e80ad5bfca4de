-- A number that is too wide on the way to the series of an assignment, or to a sum with it, has its cause in the crowd of
-- the class.
use Rattle.std.specs.Prelude.{◌≡◌, Contains, ℕ, ◌+◌, ◌*◌, ◌<◌, ◌≤◌, min, ℤ, pos, ◌+ℤ◌, ◌≤ℤ◌, List, [], ◌∷◌, ◌++◌, map}
use Rattle.std.specs.Int.{int_min}
use Rattle.std.specs.List.{AllByRecursion}
use Rattle.std.proofs.Common.{ap, ◌∙◌, arith, inl, inr}
use Rattle.std.proofs.Math.Nat.{mul-le-mul_right}
use Rattle.std.proofs.lemmas.Int.{ints, clamps}
use Rattle.tv_ring.specs.Operations.{Operations, RingLaws, SizeLaws, limit}
use Rattle.tv_laws_series.specs.Terms.{Terms, upto, known, from}
use Rattle.tv_laws_series.proofs.Exponents.{above_is}
use Rattle.tv_laurent.proofs.SeriesCalls.{sum_size_is}
use Rattle.tv_spec_plane.specs.declared.records.OuterEdge.{OuterEdge}
use Rattle.tv_spec_plane.specs.Web.{Web, outer}
use Rattle.tv_partition.specs.Rows.{IsDiagram}
use Rattle.tv_spec_boxes.specs.Assignments.{Assignment, assignments, class_of, no_legs}
use Rattle.tv_spec_boxes.specs.Numbers.{lowest, box_bound}
use Rattle.tv_spec_series.specs.Families.{Family, coefficient, series_coefficient, coefficient_of}
use Rattle.tv_laws_series.proofs.Coefficients.{coefficient-from}
use Rattle.tv_graded.specs.Calls.{IsAddedWide}
use Rattle.tv_spec_plane.specs.Graded.{IsGraded}
use Rattle.tv_laws_counts.proofs.Bounds.{boxes_within}
use Rattle.tv_laws_counts.proofs.Crowds.{crowd_of_front, crowd_of_corner}
use Rattle.tv_assigned_series.specs.Terms.{IsTooMany}
use Rattle.tv_laws_families.specs.Glued.{IsGlued}
use Rattle.tv_laws_families.proofs.Addends.{IsTermsOf}
use Rattle.tv_laws_families.proofs.Wide.{sum-crowd}
use Rattle.tv_assigned_series.specs.FamilyFaults.{IsCrowded}

-- the legs on open edges are diagrams
pub open-diagrams : (w : Web) → AllByRecursion IsDiagram (no_legs w)
open-diagrams w = none (outer w)
  where
    none : (es : List OuterEdge) → AllByRecursion IsDiagram (map (λ (e : OuterEdge). []) es)
    none [] = tt
    none (e ∷ es) = (tt, none es)

more-wide : (x y u : ℕ) → limit < x * u → x ≤ y → limit < y * u
more-wide x y u h k = let more : x * u ≤ y * u = mul-le-mul_right u k in omega arith

module _ {A : Type 0} {r : Operations A} where
  pub crowded-series : (w : Web) (d : ℕ) (n : ℤ) (a : Assignment) → IsGraded w → Contains (assignments w d) a → IsTooMany r w (no_legs w) n a → IsCrowded r w d n (class_of w a)
  crowded-series w d n a graded among many = elim many.beyond [
    | inl front ↦ more-wide _ _ (r.size r.unit) front.beyond (crowd_of_front w (no_legs w) d a n front.corners front.boxes graded (open-diagrams w) among (within front.boxes front.within))
    | inr corner ↦ more-wide _ _ (r.size r.unit) corner.beyond (crowd_of_corner w (no_legs w) d a n corner.corner corner.boxes graded (open-diagrams w) among corner.listed (within corner.boxes corner.within))
  ]
    where
      within : (m : ℕ) → m ≤ many.left → m ≤ box_bound n (lowest w (no_legs w) d)
      within m h = let boxes = boxes_within w (no_legs w) d a n n among (let e : n ≤ℤ n = omega (arith, ints) in e) in let left = many.boxes in omega (arith, ints)

-- a place that both series know is no further than either does
place-known : {A : Type 0} (m i n : ℤ) (p : ℕ) (t : Terms A) → m ≤ℤ t.low → p < known m t → upto t ≡ n → i ≡ m +ℤ pos p → i ≤ℤ n
place-known m i n p t low h last e = omega (arith, ints, above_is m t.low)

module _ {A : Type 0} {IsValue : A → Type 0} {r : Operations A} (laws : RingLaws IsValue r) (sizes : SizeLaws IsValue r) where
  pub crowded-sum : (w : Web) (d : ℕ) (n : ℤ) (front later : List Assignment) (a : Assignment) (t : Terms A) (f : Family A) (i : ℤ) → IsGraded w → Contains (assignments w d) a → (front ++ a ∷ []) ++ later ≡ assignments w d → IsTermsOf r w (no_legs w) n a t → upto t ≡ n → IsGlued r w (no_legs w) d n front f → IsAddedWide r (class_of w a) t f i → IsCrowded r w d n (class_of w a)
  crowded-sum w d n front later a t f i graded among split is last glued wide =
      let s = wide.row.series in let m = int_min s.low t.low in let p = wide.wide.place in
      let first : m ≤ℤ s.low = omega (arith, ints, clamps) in
      let second : m ≤ℤ t.low = omega (arith, ints, clamps) in
      let in_sum : p < min (known m s) (known m t) = wide.wide.within in
      let within : i ≤ℤ n = place-known m i n p t second (omega arith) last wide.wide.exponent in
      let here : coefficient r t i ≡ from r m t p = ap (coefficient r t) wide.wide.exponent ∙ coefficient-from r m t p second in
      let there : coefficient_of r f (class_of w a) i ≡ from r m s p = ap (series_coefficient r i) wide.found ∙ (ap (coefficient r s) wide.wide.exponent ∙ coefficient-from r m s p first) in
      let both : limit < r.size (coefficient_of r f (class_of w a) i) + r.size (coefficient r t i) = rw (there, here, ← sum_size_is r (from r m s) (from r m t) p) wide.wide.wide in
      let bound = sum-crowd laws sizes w (no_legs w) d n front later a t f i graded (open-diagrams w) among split within is glued in
      omega arith
