-- A corner without legs is its own least image.
use Rattle.std.proofs.Common.{◌≡◌, ℕ, Bool, true, false, ◌&&◌, List, [], ◌∷◌, length, refl, sym, ◌∙◌, ap, arith}
use Rattle.std.specs.Prelude.{◌==◌}
use Rattle.std.proofs.lemmas.Bool.Decides.{nat_tests}
use Rattle.tv_cells.specs.declared.legs.Legs.{Legs}
use Rattle.tv_cells.specs.Extras.{empty_legs}
use Rattle.tv_images.specs.Least.{is_empty, first_of, least}

none-there : (xs : List ℕ) → (length xs == 0) ≡ true → xs ≡ []
none-there [] e = refl
none-there (x ∷ xs) e = absurd (let l : length (x ∷ xs) ≡ 0 = grind (arith, nat_tests) in omega arith)

both-true : (a b : Bool) → (a && b) ≡ true → (a ≡ true) × (b ≡ true)
both-true true b e = (refl, e)
both-true false b e = absurd (cc)

pub empty-is : (l : Legs) → is_empty l ≡ true → l ≡ empty_legs
empty-is l e =
    let xy = both-true ((length l.along_x == 0) && (length l.along_y == 0)) (length l.along_z == 0) e in
    let x = both-true (length l.along_x == 0) (length l.along_y == 0) xy.0 in
    let ex = none-there l.along_x x.0 in let ey = none-there l.along_y x.1 in let ez = none-there l.along_z xy.1 in
    λ i. record { along_x = ex i; along_y = ey i; along_z = ez i }

empty-own : empty_legs ≡ least empty_legs
unfolding least first_of
empty-own = refl

pub least-empty : (l : Legs) → is_empty l ≡ true → l ≡ least l
least-empty l e = let is = empty-is l e in is ∙ (empty-own ∙ sym (ap least is))
