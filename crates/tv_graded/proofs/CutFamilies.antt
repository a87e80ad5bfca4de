-- A family that is cut after an exponent that it knows is a family.
use Rattle.std.proofs.Common.{◌≡◌, ℤ, ◌≤ℤ◌, List, [], ◌∷◌, map, sym, subst, arith}
use Rattle.std.specs.List.{AllByRecursion}
use Rattle.std.proofs.lemmas.Int.{ints, clamps}
use Rattle.tv_ring.specs.Operations.{Operations, RingLaws}
use Rattle.tv_laws_series.specs.Terms.{upto, IsWithin}
use Rattle.tv_laws_series.specs.Series.{series_cut}
use Rattle.tv_laws_series.proofs.Coefficients.{upto-cut}
use Rattle.tv_laurent.proofs.SeriesCalls.{cut_is_series}
use Rattle.tv_spec_boxes.specs.Classes.{ClassesRise}
use Rattle.tv_spec_series.specs.Families.{Row, Family, cut_row, cut, IsRow, IsFamily}
use Rattle.tv_spec_series.proofs.Cut.{classes-cut}
use Rattle.tv_graded.specs.Calls.{IsHeld}

module _ {A : Type 0} {IsValue : A → Type 0} {r : Operations A} (laws : RingLaws IsValue r) (n : ℤ) (within : IsWithin n) where
  rows-cut : (hs : List ℤ) (top m : ℤ) (rows : List (Row A)) → n ≤ℤ m → AllByRecursion (IsRow IsValue r hs top m) rows → AllByRecursion (IsRow IsValue r hs top n) (map (cut_row n) rows)
  rows-cut hs top m [] h all = tt
  rows-cut hs top m (x ∷ rows) h all =
      let u = upto-cut n x.series in let k = all.0.known in let known : upto (series_cut n x.series) ≡ n = omega (arith, ints, clamps) in
      (record { place = all.0.place; known = known; series = cut_is_series laws n x.series within all.0.series }, rows-cut hs top m rows h all.1)

  pub cut_is_family : (f : Family A) → n ≤ℤ f.upto → IsFamily IsValue r f → IsFamily IsValue r (cut n f)
  cut_is_family f h family = record {
    within = within;
    rises = subst (ClassesRise f.heights) (sym (classes-cut n f.rows)) family.rises;
    rows = rows-cut f.heights f.top f.upto f.rows h family.rows;
  }

  pub cut_held : (f f' : Family A) → n ≤ℤ f.upto → IsHeld IsValue r f → f' ≡ cut n f → IsHeld IsValue r f'
  cut_held f f' h held e = subst (IsHeld IsValue r) (sym e) (record { family = cut_is_family f h held.family; heights = held.heights })
