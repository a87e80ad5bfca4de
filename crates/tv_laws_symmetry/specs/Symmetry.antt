-- The axes of a corner in another order: the legs change places, and a leg is flipped where its two entries do.
--
-- legs_along X Y Z  == the legs X along x, Y along y and Z along z
-- exchanged_xy legs == the legs after an exchange of the axes x and y; that along z is flipped
-- exchanged_yz legs == the legs after an exchange of the axes y and z; that along x is flipped
-- rotated legs      == the legs after one turn of the axes: z to x, x to y, y to z
-- six_of X Y Z      == these three legs in each of the six orders of the axes
-- images legs       == the legs of a corner in each of them
-- ExchangedCount    == legs of diagrams have as many sets of i extras after either exchange
-- RotatedCount      == and after a turn
-- ImageCounts       == and in each order of the axes
-- ImageOverlaps     == so is their overlap cost the same
-- ImagesAreDiagrams == the legs in each order are diagrams
-- ImagesAreClosed   == either exchange, and a turn, takes each of the six to one of the six
-- ImagesAreOneSet   == each of the six has the same six
use Rattle.std.specs.Prelude.{◌≡◌, ◌↔◌, Contains, ℕ, List, [], ◌∷◌}
use Rattle.tv_partition.specs.Rows.{flipped}
use Rattle.tv_cells.specs.declared.legs.Legs.{Legs}
use Rattle.tv_cells.specs.Extras.{AreDiagrams, count}
use Rattle.tv_cells.specs.Costs.{overlap_cost}

abbrev pub legs_along : List ℕ → List ℕ → List ℕ → Legs
legs_along X Y Z = record { along_x = X; along_y = Y; along_z = Z }

abbrev pub exchanged_xy : Legs → Legs
exchanged_xy legs = legs_along legs.along_y legs.along_x (flipped legs.along_z)

abbrev pub exchanged_yz : Legs → Legs
exchanged_yz legs = legs_along (flipped legs.along_x) legs.along_z legs.along_y

abbrev pub rotated : Legs → Legs
rotated legs = legs_along legs.along_z (flipped legs.along_x) (flipped legs.along_y)

-- an exchange of two neighbours flips one leg, that of x and z all three, a turn two
abbrev pub six_of : List ℕ → List ℕ → List ℕ → List Legs
six_of X Y Z =
    legs_along X Y Z
    ∷ legs_along Y X (flipped Z)
    ∷ legs_along (flipped X) Z Y
    ∷ legs_along (flipped Z) (flipped Y) (flipped X)
    ∷ legs_along Z (flipped X) (flipped Y)
    ∷ legs_along (flipped Y) (flipped Z) X
    ∷ []

abbrev pub images : Legs → List Legs
images legs = six_of legs.along_x legs.along_y legs.along_z

pub record ExchangedCount : Type 0 where
  pub xy : (legs : Legs) (i : ℕ) → AreDiagrams legs → count (exchanged_xy legs) i ≡ count legs i
  pub yz : (legs : Legs) (i : ℕ) → AreDiagrams legs → count (exchanged_yz legs) i ≡ count legs i

abbrev pub RotatedCount : Type 0
RotatedCount = (legs : Legs) (i : ℕ) → AreDiagrams legs → count (rotated legs) i ≡ count legs i

abbrev pub ImageCounts : Type 0
ImageCounts = (legs image : Legs) (i : ℕ) → AreDiagrams legs → Contains (images legs) image → count image i ≡ count legs i

abbrev pub ImageOverlaps : Type 0
ImageOverlaps = (legs image : Legs) → AreDiagrams legs → Contains (images legs) image → overlap_cost image ≡ overlap_cost legs

abbrev pub ImagesAreDiagrams : Type 0
ImagesAreDiagrams = (legs image : Legs) → AreDiagrams legs → Contains (images legs) image → AreDiagrams image

pub record ImagesAreClosed : Type 0 where
  pub xy : (legs image : Legs) → AreDiagrams legs → Contains (images legs) image → Contains (images legs) (exchanged_xy image)
  pub yz : (legs image : Legs) → AreDiagrams legs → Contains (images legs) image → Contains (images legs) (exchanged_yz image)
  pub turn : (legs image : Legs) → AreDiagrams legs → Contains (images legs) image → Contains (images legs) (rotated image)

abbrev pub ImagesAreOneSet : Type 0
ImagesAreOneSet =
    (legs image other : Legs) → AreDiagrams legs → Contains (images legs) image →
    Contains (images image) other ↔ Contains (images legs) other
