-- The least image is one of the six, so it has the counts of the legs.
use Rattle.std.specs.Prelude.{◌≡◌, Bool, true, false, cond, List, [], ◌∷◌}
use Rattle.std.specs.List.{AllByRecursion}
use Rattle.std.proofs.Common.{refl}
use Rattle.tv_cells.specs.declared.legs.Legs.{Legs}
use Rattle.tv_cells.specs.Extras.{AreDiagrams, count}
use Rattle.tv_laws_symmetry.specs.Symmetry.{exchanged_xy, exchanged_yz}
use Rattle.tv_laws_symmetry.proofs.Images.{all_images, count-kept}
use Rattle.tv_images.specs.Least.{legs_before, first_of, first_among, least, HasCountsOf}

first-has : (P : Legs → Type 0) (a b : Legs) → P a → P b → P (first_of a b)
unfolding first_of
first-has P a b here there = decided (legs_before b a)
  where
    decided : (q : Bool) → P (cond q b a)
    decided true = there
    decided false = here

among-has : (P : Legs → Type 0) (a : Legs) (bs : List Legs) → P a → AllByRecursion P bs → P (first_among a bs)
among-has P a [] here all = here
among-has P a (b ∷ bs) here all = among-has P (first_of a b) bs (first-has P a b here all.0) all.1

pub least-counts : (legs : Legs) → AreDiagrams legs → HasCountsOf legs (least legs)
unfolding least
least-counts legs are i =
    among-has (λ image. count image i ≡ count legs i) legs (exchanged_xy legs ∷ exchanged_yz legs ∷ exchanged_xy (exchanged_yz (exchanged_xy legs)) ∷ exchanged_xy (exchanged_yz legs) ∷ exchanged_yz (exchanged_xy legs) ∷ []) refl (all_images (λ image. count image i ≡ count legs i) (count-kept legs i) legs are refl).1

-- the least of the six, one after another
pub first-then : (a b : Legs) → legs_before b a ≡ true → b ≡ first_of a b
unfolding first_of
first-then a b e = rw e refl

pub first-else : (a b : Legs) → legs_before b a ≡ false → a ≡ first_of a b
unfolding first_of
first-else a b e = rw e refl

pub least-is : (legs copy xy yz turned turned_back xz two three four five all : Legs) → copy ≡ legs → xy ≡ exchanged_xy legs → yz ≡ exchanged_yz legs → turned ≡ exchanged_xy yz → turned_back ≡ exchanged_yz xy →
    xz ≡ exchanged_xy turned_back → two ≡ first_of copy xy → three ≡ first_of two yz → four ≡ first_of three xz → five ≡ first_of four turned → all ≡ first_of five turned_back → all ≡ least legs
unfolding least
least-is legs copy xy yz turned turned_back xz two three four five all ec exy eyz et eb ez e2 e3 e4 e5 e = rw (e, e5, e4, e3, e2, ez, eb, et, eyz, exy, ec) refl
