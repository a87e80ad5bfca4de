-- The one of the six images of a corner's legs that stands for all of them.
--
-- is_empty legs     == no leg has a row
-- rows_before u v   == at the first row where the diagrams differ that of u is the lesser, or u has none there
-- legs_before a b   == a has more cells along z than b, or as many, and the rows of the first legs that differ are before those
--                      of b: those along z, along x and along y
-- first_of a b      == b where it comes before a, else a
-- first_among a bs  == the first of a and of those in bs
-- least legs        == the first of the six images of the legs
-- HasCountsOf legs image == as many sets of extras, of any number, are beside the image as beside the legs
use Rattle.std.specs.Prelude.{◌≡◌, ℕ, Bool, true, false, cond, ◌&&◌, ◌||◌, ◌==◌, nat_eq, nat_lt, List, [], ◌∷◌, length}
use Rattle.std.specs.Cmp.Lexicographic.{pointwise}
use Rattle.tv_partition.specs.Rows.{size}
use Rattle.tv_cells.specs.declared.legs.Legs.{Legs}
use Rattle.tv_cells.specs.Extras.{count}
use Rattle.tv_laws_symmetry.specs.Symmetry.{exchanged_xy, exchanged_yz}

abbrev pub is_empty : Legs → Bool
is_empty legs = ((length legs.along_x == 0) && (length legs.along_y == 0)) && (length legs.along_z == 0)

abbrev pub rows_before : List ℕ → List ℕ → Bool
rows_before u [] = false
rows_before [] (y ∷ v) = true
rows_before (x ∷ u) (y ∷ v) = nat_lt x y || (nat_eq x y && rows_before u v)

abbrev pub legs_before : Legs → Legs → Bool
legs_before a b =
    cond (nat_eq (size a.along_z) (size b.along_z))
    (cond (pointwise nat_eq a.along_z b.along_z) (cond (pointwise nat_eq a.along_x b.along_x) (rows_before a.along_y b.along_y) (rows_before a.along_x b.along_x)) (rows_before a.along_z b.along_z))
    (nat_lt (size b.along_z) (size a.along_z))

unfoldable pub first_of : Legs → Legs → Legs
first_of a b = cond (legs_before b a) b a

abbrev pub first_among : Legs → List Legs → Legs
first_among a [] = a
first_among a (b ∷ bs) = first_among (first_of a b) bs

unfoldable pub least : Legs → Legs
least legs =
    first_among legs (
    exchanged_xy legs
    ∷ exchanged_yz legs
    ∷ exchanged_xy (exchanged_yz (exchanged_xy legs))
    ∷ exchanged_xy (exchanged_yz legs)
    ∷ exchanged_yz (exchanged_xy legs)
    ∷ []
    )

abbrev pub HasCountsOf : Legs → Legs → Type 0
HasCountsOf legs image = (i : ℕ) → count image i ≡ count legs i
