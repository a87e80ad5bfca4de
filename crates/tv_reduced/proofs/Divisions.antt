-- What a division of a full family by the series of class zero asks for, and what its faults mean.
use Rattle.std.proofs.Common.{◌≡◌, ℕ, ◌+◌, ◌<◌, refl, sym, ap, arith, Some, ◌∙◌}
use Rattle.std.specs.Prelude.{Bool, true, false, ℤ, pos, ◌+ℤ◌, ◌-ℤ◌, ◌≤ℤ◌, List, [], ◌∷◌, map, if◌then◌else◌}
use Rattle.std.specs.Int.{int_max, int_min}
use Rattle.std.specs.List.{AllByRecursion}
use Rattle.std.proofs.lemmas.Int.{ints, clamps}
use Rattle.tv_ring.specs.Operations.{Operations, RingLaws, SizeLaws, limit}
use Rattle.tv_ring.specs.Sums.{at, size_term, total_below}
use Rattle.tv_laws_series.specs.Terms.{Terms, upto}
use Rattle.tv_laws_series.specs.SeriesLaws.{HasValues}
use Rattle.tv_laws_series.specs.Quotients.{quotient_upto, series_quotient}
use Rattle.tv_laurent.specs.QuotientCalls.{QuotientReaches, IsQuotientWide}
use Rattle.tv_laurent.proofs.Divided.{owed_size_is, quotient_size_is}
use Rattle.tv_spec_plane.specs.declared.records.OuterEdge.{OuterEdge}
use Rattle.tv_spec_plane.specs.Web.{Web, outer}
use Rattle.tv_partition.specs.Rows.{IsDiagram}
use Rattle.tv_spec_plane.specs.Graded.{IsGraded}
use Rattle.tv_spec_boxes.specs.Assignments.{no_legs, same_vector}
use Rattle.tv_spec_boxes.specs.Classes.{IsClass}
use Rattle.tv_spec_boxes.specs.Numbers.{lowest}
use Rattle.tv_spec_series.specs.Families.{Row, Family, classes, find, IsRow, IsFamily}
use Rattle.tv_spec_series.specs.Reduced.{full_coefficient, zero_coefficient, quotient_size}
use Rattle.tv_lemmas.proofs.Members.{all-onto, all-both}
use Rattle.tv_spec_boxes.proofs.Vectors.{same_vector_tells}
use Rattle.tv_graded.specs.Calls.{IsDividedWide}
use Rattle.tv_spec_series.specs.Full.{IsFullRow, IsFull}
use Rattle.tv_spec_series.specs.ReducedFamilies.{IsDivisor}
use Rattle.tv_laws_families.specs.Laws.{HasUnit}
use Rattle.tv_laws_families.proofs.ReducedFamilies.{Reaches, row_given}
use Rattle.tv_laws_families.proofs.Rows.{IsGiven, quotient_from, given_quotient, given_quotient-low, given_quotient-first}
use Rattle.tv_laws_families.proofs.Spread.{spread-wide}
use Rattle.tv_reduced.specs.declared.fault.ReducedFault.{ReducedFault}
use Rattle.tv_reduced.specs.declared.fault.ReducedFault.TheVariants.{Crowd, Spread, Memory}
use Rattle.tv_assigned_series.specs.FamilyFaults.{IsCrowded}
use Rattle.tv_reduced.specs.Faults.{IsSpreadOut, OnCrowd, OnSpread, IsReducedFault}
use Rattle.tv_reduced.specs.Orders.{StartsFrom, ReachedBy, IsOrder}
use Rattle.tv_reduced.proofs.Crowds.{crowded_later}
use Rattle.tv_reduced.proofs.Reaches.{multiples_reach}

-- ---- the order of the divisor

pub order_most : {A : Type 0} (r : Operations A) (w : Web) (d : ℕ) (n m k : ℤ) (rows : List (Row A)) → m ≡ n → AllByRecursion (IsFullRow r w (no_legs w) d n) rows → IsOrder m rows k → k ≤ℤ int_max (pos 0) (n -ℤ lowest w (no_legs w) d)
order_most r w d n m k rows e full order =
    let most = order.most (int_min (lowest w (no_legs w) d) (n +ℤ pos 1)) (all-onto (IsFullRow r w (no_legs w) d n) (StartsFrom (int_min (lowest w (no_legs w) d) (n +ℤ pos 1))) (λ x is. is.low) rows full) in
    omega (arith, ints, clamps)

pub rows_reached : {A : Type 0} (n m k : ℤ) (b : Terms A) (rows : List (Row A)) → m ≡ n → upto b ≡ k → AllByRecursion (ReachedBy m k) rows → AllByRecursion (Reaches n b) rows
rows_reached n m k b rows e known = all-onto (ReachedBy m k) (Reaches n b) (λ x h. omega (arith, ints)) rows

pub rows_known : {A : Type 0} (r : Operations A) (w : Web) (d : ℕ) (n f : ℤ) (b : Terms A) (rows : List (Row A)) → f ≡ n → AllByRecursion (IsFullRow r w (no_legs w) d n) rows → AllByRecursion (Reaches n b) rows → AllByRecursion (λ x. f ≤ℤ quotient_upto x.series b) rows
rows_known r w d n f b rows e = all-both (IsFullRow r w (no_legs w) d n) (Reaches n b) (λ x. f ≤ℤ quotient_upto x.series b) (λ x is h. let known = is.known in omega (arith, ints, clamps)) rows

-- ---- a divisor that is too crowded

pub crowd_later : {A : Type 0} (r : Operations A) (w : Web) (d : ℕ) (n m : ℤ) (e : ReducedFault) → m ≤ℤ int_max (pos 0) (n -ℤ lowest w (no_legs w) d) → OnCrowd e (IsCrowded r w 0 m) → IsReducedFault r w d n e
crowd_later r w d n m (Crowd v) h is = crowded_later r w d n m v h is
crowd_later r w d n m (Spread v k) h is = absurd is
crowd_later r w d n m Memory h is = tt

-- ---- rows

each_class : {A : Type 0} (P : List ℤ → Type 0) (rows : List (Row A)) → AllByRecursion P (classes rows) → AllByRecursion (λ (x : Row A). P x.class) rows
each_class P [] all = tt
each_class P (x ∷ rows) all = (all.0, each_class P rows all.1)

found_has : {A : Type 0} (P : Row A → Type 0) (rows : List (Row A)) (v : List ℤ) (x : Row A) → find v rows ≡ Some x → AllByRecursion P rows → (x.class ≡ v) × P x
unfolding find
found_has P [] v x e all = cc
found_has P (y ∷ rows) v x e all = step (same_vector y.class v) refl e (λ h. found_has P rows v x h all.1)
  where
    step : (b : Bool) → same_vector y.class v ≡ b → (if b then Some y else find v rows) ≡ Some x → (find v rows ≡ Some x → (x.class ≡ v) × P x) → (x.class ≡ v) × P x
    step true s h rest = let same : y ≡ x = cc in rw (← same) (same_vector_tells y.class v s, all.0)
    step false s h rest = rest h

module _ {A : Type 0} {IsValue : A → Type 0} {r : Operations A} (laws : RingLaws IsValue r) (sizes : SizeLaws IsValue r) (w : Web) (d : ℕ) (n : ℤ) (b : Terms A) (graded : IsGraded w) (diagrams : AllByRecursion IsDiagram (no_legs w)) (starts : HasUnit (zero_coefficient w (no_legs w))) (values : HasValues IsValue r b) (divisor : IsDivisor r w (no_legs w) b) where
  pub rows_reach : (rows : List (Row A)) → AllByRecursion (IsFullRow r w (no_legs w) d n) rows → AllByRecursion (λ x. QuotientReaches r x.series b) rows
  rows_reach = all-onto (IsFullRow r w (no_legs w) d n) (λ x. QuotientReaches r x.series b) (λ x is.
      multiples_reach laws sizes x.series b (full_coefficient w (no_legs w) x.class) (zero_coefficient w (no_legs w)) (λ i h. is.counts i (let known = is.known in omega (arith, ints))) divisor.values)

  spread_out : (x : Row A) (m : ℤ) → IsClass w d x.class → (given : IsGiven IsValue r n (full_coefficient w (no_legs w) x.class) (zero_coefficient w (no_legs w)) x.series b) → IsQuotientWide r x.series b m → IsSpreadOut r w d n x.class m
  spread_out x m is given wide =
      let z = full_coefficient w (no_legs w) x.class in let g = zero_coefficient w (no_legs w) in
      let low = int_min x.series.low given.least in
      let known = given.known in let within = wide.within in let exponent = wide.exponent in
      let size : limit < r.size (at r x.series.coefficients wide.place) + total_below (size_term r (at r (series_quotient r x.series b).coefficients) (at r b.coefficients) wide.place) wide.place = rw (quotient_size_is r (at r x.series.coefficients) (at r b.coefficients) (at r (series_quotient r x.series b).coefficients) wide.place, owed_size_is r (at r (series_quotient r x.series b).coefficients) (at r b.coefficients) wide.place) at wide.wide in
      record {
        class = is;
        number = quotient_size z g (quotient_from z g low) low (pos 0) m;
        spread = record {
          series = quotient_from z g low;
          reduced = given_quotient laws n z g x.series b given;
          within = omega (arith, ints);
          size = ap (λ (l : ℤ). quotient_size z g (quotient_from z g low) l (pos 0) m) (sym (given_quotient-low laws n z g x.series b given))
              ∙ ap (λ (a : ℤ). quotient_size z g (quotient_from z g low) (given_quotient laws n z g x.series b given).low a m) (sym (given_quotient-first laws n z g x.series b given));
        };
        wide = spread-wide laws sizes n z g x.series b given wide.place m wide.exponent wide.within size;
      }

  pub divided_spread : (f : Family A) (v : List ℤ) (m : ℤ) → IsFamily IsValue r f → IsFull r w (no_legs w) d n f → AllByRecursion (Reaches n b) f.rows → IsDividedWide r b f v m → IsSpreadOut r w d n v m
  divided_spread f v m is full reaches wide =
      let row = found_has (IsRow IsValue r f.heights f.top f.upto) f.rows v wide.row wide.found is.rows in
      let counts = found_has (IsFullRow r w (no_legs w) d n) f.rows v wide.row wide.found full.rows in
      let reached = found_has (Reaches n b) f.rows v wide.row wide.found reaches in
      let class = found_has (λ (x : Row A). IsClass w d x.class) f.rows v wide.row wide.found (each_class (IsClass w d) f.rows full.classes.each) in
      let here = spread_out wide.row m class.1 (row_given laws w (no_legs w) d n b graded diagrams starts values divisor wide.row (rw (full.heights, full.top, full.upto) at row.1) counts.1 reached.1) wide.wide in
      rw row.0 at here

  pub fault_spread : (f : Family A) (e : ReducedFault) → IsFamily IsValue r f → IsFull r w (no_legs w) d n f → AllByRecursion (Reaches n b) f.rows → OnSpread e (IsDividedWide r b f) → IsReducedFault r w d n e
  fault_spread f (Crowd v) is full reaches wide = absurd wide
  fault_spread f (Spread v m) is full reaches wide = divided_spread f v m is full reaches wide
  fault_spread f Memory is full reaches wide = tt

-- ---- no open edge has a box

empty_diagrams : (es : List OuterEdge) → AllByRecursion IsDiagram (map (λ (e : OuterEdge). []) es)
empty_diagrams [] = tt
empty_diagrams (e ∷ es) = (tt, empty_diagrams es)

pub no_legs_diagrams : (w : Web) → AllByRecursion IsDiagram (no_legs w)
no_legs_diagrams w = empty_diagrams (outer w)
