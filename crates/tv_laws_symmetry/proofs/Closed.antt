-- An exchange only changes the place among the six images, since a leg that is flipped twice is the leg. So each of the six
-- has the same six.
use Rattle.std.specs.Prelude.{◌≡◌, Contains, ℕ, List}
use Rattle.std.specs.List.{AllByRecursion}
use Rattle.std.proofs.Common.{refl, sym, ap, arith}
use Rattle.tv_lemmas.proofs.Members.{all-contains}
use Rattle.tv_partition.specs.Rows.{flipped}
use Rattle.tv_cells.specs.declared.legs.Legs.{Legs}
use Rattle.tv_cells.specs.Extras.{AreDiagrams}
use Rattle.tv_laws_symmetry.specs.Symmetry.{legs_along, exchanged_xy, exchanged_yz, images, ImagesAreClosed, ImagesAreOneSet}
use Rattle.tv_laws_symmetry.proofs.Flipped.{flipped-twice}
use Rattle.tv_laws_symmetry.proofs.Exchanges.{diagrams_xy, diagrams_yz}
use Rattle.tv_laws_symmetry.proofs.Images.{IsKept, an_image, images_are_diagrams}

module _ (legs : Legs) (d : AreDiagrams legs) where
  abbrev X : List ℕ
  X = legs.along_x

  abbrev Y : List ℕ
  Y = legs.along_y

  abbrev Z : List ℕ
  Z = legs.along_z

  twice_x : X ≡ flipped (flipped X)
  twice_x = sym (flipped-twice X d.along_x)

  twice_y : Y ≡ flipped (flipped Y)
  twice_y = sym (flipped-twice Y d.along_y)

  twice_z : Z ≡ flipped (flipped Z)
  twice_z = sym (flipped-twice Z d.along_z)

  closed_xy : AllByRecursion (λ image. Contains (images legs) (exchanged_xy image)) (images legs)
  closed_xy = (
    (1, omega arith, refl),
    (
      (0, omega arith, ap (legs_along X Y) twice_z),
      (
        (4, omega arith, refl),
        (
          (5, omega arith, ap (legs_along (flipped Y) (flipped Z)) twice_x),
          (
            (2, omega arith, ap (legs_along (flipped X) Z) twice_y),
            ((3, omega arith, refl), tt),
          ),
        ),
      ),
    ),
  )

  closed_yz : AllByRecursion (λ image. Contains (images legs) (exchanged_yz image)) (images legs)
  closed_yz = (
    (2, omega arith, refl),
    (
      (5, omega arith, refl),
      (
        (0, omega arith, ap (λ rows. legs_along rows Y Z) twice_x),
        (
          (4, omega arith, ap (λ rows. legs_along rows (flipped X) (flipped Y)) twice_z),
          (
            (3, omega arith, refl),
            ((1, omega arith, ap (λ rows. legs_along rows X (flipped Z)) twice_y), tt),
          ),
        ),
      ),
    ),
  )

among_xy : (legs image : Legs) → AreDiagrams legs → Contains (images legs) image → Contains (images legs) (exchanged_xy image)
among_xy legs image d = all-contains (λ other. Contains (images legs) (exchanged_xy other)) (images legs) image (closed_xy legs d)

among_yz : (legs image : Legs) → AreDiagrams legs → Contains (images legs) image → Contains (images legs) (exchanged_yz image)
among_yz legs image d = all-contains (λ other. Contains (images legs) (exchanged_yz other)) (images legs) image (closed_yz legs d)

pub images_are_closed : ImagesAreClosed
images_are_closed = record {
  xy = among_xy;
  yz = among_yz;
  turn = λ legs image d among. among_xy legs (exchanged_yz image) d (among_yz legs image d among);
}

-- ---- each of the six has the same six

-- the way back of an exchange is that exchange
back_xy : (legs : Legs) → AreDiagrams legs → Contains (images (exchanged_xy legs)) legs
back_xy legs d = (1, omega arith, ap (legs_along legs.along_x legs.along_y) (flipped-twice legs.along_z d.along_z))

back_yz : (legs : Legs) → AreDiagrams legs → Contains (images (exchanged_yz legs)) legs
back_yz legs d =
    (2, omega arith, ap (λ rows. legs_along rows legs.along_y legs.along_z) (flipped-twice legs.along_x d.along_x))

image_of_image : (legs image other : Legs) → AreDiagrams legs → Contains (images legs) image → Contains (images image) other →
    Contains (images legs) other
image_of_image legs image other d among =
    an_image (Contains (images legs))
    (record { xy = λ turned dt. among_xy legs turned d; yz = λ turned dt. among_yz legs turned d })
    image other (images_are_diagrams legs image d among) among

legs_of_image : (legs image : Legs) → AreDiagrams legs → Contains (images legs) image → Contains (images image) legs
legs_of_image legs image d among = an_image (λ other. Contains (images other) legs) kept legs image d (0, omega arith, refl) among
  where
    kept : IsKept (λ other. Contains (images other) legs)
    kept = record {
      xy = λ other e. image_of_image (exchanged_xy other) other legs (diagrams_xy other e) (back_xy other e);
      yz = λ other e. image_of_image (exchanged_yz other) other legs (diagrams_yz other e) (back_yz other e);
    }

pub images_are_one_set : ImagesAreOneSet
images_are_one_set legs image other d among =
    let di = images_are_diagrams legs image d among in
    (image_of_image legs image other d among, image_of_image image legs other di (legs_of_image legs image d among))
