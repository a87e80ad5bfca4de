-- A family that is divided is a family, and where a quotient is too wide its class is there.
use Rattle.std.proofs.Common.{◌≡◌, min, ℤ, ◌≤ℤ◌, List, [], ◌∷◌, map, length, refl, sym, subst, arith}
use Rattle.std.specs.List.{AllByRecursion}
use Rattle.std.proofs.lemmas.Int.{ints, clamps}
use Rattle.tv_ring.specs.Operations.{Operations, RingLaws}
use Rattle.tv_ring.specs.Sums.{at}
use Rattle.tv_laws_series.specs.Terms.{Terms, upto}
use Rattle.tv_laws_series.specs.Series.{IsSeries}
use Rattle.tv_laws_series.specs.Quotients.{quotient_upto, series_quotient, IsUnitSeries}
use Rattle.tv_laws_series.proofs.Quotients.{length-quotients}
use Rattle.tv_laurent.proofs.SeriesResults.{quotient_is_series}
use Rattle.tv_spec_boxes.specs.Classes.{ClassesRise}
use Rattle.tv_spec_series.specs.Families.{Row, Family, divided_row, divided, IsRow, IsFamily}
use Rattle.tv_spec_series.proofs.Divided.{classes-divided}
use Rattle.tv_spec_series.proofs.Members.{row_found}
use Rattle.tv_graded.specs.Calls.{IsHeld, IsAmongWide, IsDividedWide, OnWideClass}
use Rattle.tv_graded.specs.declared.fault.GradedFault.{GradedFault}
use Rattle.tv_graded.specs.declared.fault.GradedFault.TheVariants.{Wide, Memory}

-- a quotient that is known through n at least is known through n exactly, as its dividend is
pub upto-quotient : {A : Type 0} (r : Operations A) (s z : Terms A) (n : ℤ) → IsUnitSeries r z → upto s ≡ n → n ≤ℤ quotient_upto s z → upto (series_quotient r s z) ≡ n
upto-quotient r s z n unit known through =
    let l = length-quotients r (at r s.coefficients) (at r z.coefficients) (min (length s.coefficients) (length z.coefficients)) in let low = unit.low in
    omega (arith, ints, clamps)

module _ {A : Type 0} {IsValue : A → Type 0} {r : Operations A} (laws : RingLaws IsValue r) (z : Terms A) (unit : IsUnitSeries r z) (series : IsSeries IsValue r z) where
  rows-divided : (hs : List ℤ) (top n : ℤ) (rows : List (Row A)) → AllByRecursion (λ x. n ≤ℤ quotient_upto x.series z) rows → AllByRecursion (IsRow IsValue r hs top n) rows → AllByRecursion (IsRow IsValue r hs top n) (map (divided_row r z) rows)
  rows-divided hs top n [] through all = tt
  rows-divided hs top n (x ∷ rows) through all =
      (record { place = all.0.place; known = upto-quotient r x.series z n unit all.0.known through.0; series = quotient_is_series laws x.series z unit all.0.series series }, rows-divided hs top n rows through.1 all.1)

  pub divided_is_family : (f : Family A) → IsFamily IsValue r f → AllByRecursion (λ x. f.upto ≤ℤ quotient_upto x.series z) f.rows → IsFamily IsValue r (divided r z f)
  divided_is_family f family through = record {
    within = family.within;
    rises = subst (ClassesRise f.heights) (sym (classes-divided r z f.rows)) family.rises;
    rows = rows-divided f.heights f.top f.upto f.rows through family.rows;
  }

  pub divided_held : (f f' : Family A) → IsHeld IsValue r f → AllByRecursion (λ x. f.upto ≤ℤ quotient_upto x.series z) f.rows → f' ≡ divided r z f → IsHeld IsValue r f'
  divided_held f f' held through e = subst (IsHeld IsValue r) (sym e) (record { family = divided_is_family f held.family through; heights = held.heights })

-- equal heights, equal bounds, equal rows
pub same_family : {A : Type 0} (hs hs' : List ℤ) (top top' n n' : ℤ) (rows rows' : List (Row A)) → hs ≡ hs' → top ≡ top' → n ≡ n' → rows ≡ rows' → (let f : Family A = record { heights = hs; top = top; upto = n; rows = rows } in f) ≡ record { heights = hs'; top = top'; upto = n'; rows = rows' }
same_family hs hs' top top' n n' rows rows' eh et en er = rw (eh, et, en, er) refl

-- a quotient that is too wide is so at its class
pub divided_wide : {A : Type 0} {IsValue : A → Type 0} {r : Operations A} (z : Terms A) (f : Family A) (e : GradedFault) → IsFamily IsValue r f → OnWideClass e (IsAmongWide r z f.rows) → OnWideClass e (IsDividedWide r z f)
divided_wide z f (Wide v n) family w =
    let found = row_found f.heights f.rows w.row family.rises w.among in
    record { row = w.row; found = rw (← w.here.class) found; wide = w.here.wide }
divided_wide z f Memory family w = tt
