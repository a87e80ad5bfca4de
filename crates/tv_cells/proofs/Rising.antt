-- The order of cells is transitive and has no loop, so that a cell of a rising list precedes every later one.
use Rattle.std.proofs.Common.{◌≡◌, Bool, true, false, ◌||◌, List, [], ◌∷◌, ◌++◌, arith, refl}
use Rattle.std.specs.Prelude.{⊤}
use Rattle.std.proofs.lemmas.Bool.{and_parts, and_from}
use Rattle.std.proofs.lemmas.Bool.Decides.{nat_tests}
use Rattle.std.specs.List.{list_any}
use Rattle.tv_cells.specs.declared.cell.Cell.{Cell}
use Rattle.tv_cells.specs.Cells.{same, precedes, rises}

pub precedes-trans : (c d e : Cell) → precedes c d ≡ true → precedes d e ≡ true → precedes c e ≡ true
precedes-trans c d e p q = grind (arith, nat_tests)

pub precedes_differs : (c d : Cell) → precedes c d ≡ true → same c d ≡ false
precedes_differs c d p = grind (arith, nat_tests)

pub follows_differs : (c d : Cell) → precedes c d ≡ true → same d c ≡ false
follows_differs c d p = grind (arith, nat_tests)

pub same_is : (c d : Cell) → same c d ≡ true → (c.x ≡ d.x) × (c.y ≡ d.y) × (c.z ≡ d.z)
same_is c d e = (grind (arith, nat_tests), grind (arith, nat_tests), grind (arith, nat_tests))

pub same_itself : (c : Cell) → same c c ≡ true
same_itself c = grind (arith, nat_tests)

-- c precedes each of the cells
abbrev pub Before : Cell → List Cell → Type 0
Before c [] = ⊤
Before c (d ∷ cells) = (precedes c d ≡ true) × Before c cells

-- each of the first cells precedes each of the second
abbrev pub AllBefore : List Cell → List Cell → Type 0
AllBefore [] after = ⊤
AllBefore (c ∷ cells) after = Before c after × AllBefore cells after

pub before_earlier : (c d : Cell) (cells : List Cell) → precedes c d ≡ true → Before d cells → Before c cells
before_earlier c d [] p b = tt
before_earlier c d (e ∷ cells) p b = (precedes-trans c d e p b.0, before_earlier c d cells p b.1)

pub before_rising : (c : Cell) (cells : List Cell) → rises (c ∷ cells) ≡ true → Before c cells
before_rising c [] r = tt
before_rising c (d ∷ cells) r =
    let parts = and_parts (precedes c d) (rises (d ∷ cells)) r in
    (parts.0, before_earlier c d cells parts.0 (before_rising d cells parts.1))

pub rises-tail : (c : Cell) (cells : List Cell) → rises (c ∷ cells) ≡ true → rises cells ≡ true
rises-tail c [] r = refl
rises-tail c (d ∷ cells) r = (and_parts (precedes c d) (rises (d ∷ cells)) r).1

pub rises-drop : (front cells : List Cell) → rises (front ++ cells) ≡ true → rises cells ≡ true
rises-drop [] cells r = r
rises-drop (c ∷ front) cells r = rises-drop front cells (rises-tail c (front ++ cells) r)

pub rises-cons : (c : Cell) (cells : List Cell) → Before c cells → rises cells ≡ true → rises (c ∷ cells) ≡ true
rises-cons c [] b r = refl
rises-cons c (d ∷ cells) b r = and_from (precedes c d) (rises (d ∷ cells)) b.0 r

pub before-append : (c : Cell) (front back : List Cell) → Before c front → Before c back → Before c (front ++ back)
before-append c [] back f b = b
before-append c (d ∷ front) back f b = (f.0, before-append c front back f.1 b)

pub before_front : (c : Cell) (front back : List Cell) → Before c (front ++ back) → Before c back
before_front c [] back b = b
before_front c (d ∷ front) back b = before_front c front back b.1

pub before_head : (c : Cell) (front back : List Cell) → Before c (front ++ back) → Before c front
before_head c [] back b = tt
before_head c (d ∷ front) back b = (b.0, before_head c front back b.1)

-- a rising list rises without one of its cells
pub rises-remove : (c : Cell) (front back : List Cell) → rises (front ++ c ∷ back) ≡ true → rises (front ++ back) ≡ true
rises-remove c [] back r = rises-tail c back r
rises-remove c (d ∷ front) back r =
    let after = before_rising d (front ++ c ∷ back) r in
    let later : Before d (c ∷ back) = before_front d front (c ∷ back) after in
    rises-cons d (front ++ back) (before-append d front back (before_head d front (c ∷ back) after) later.1)
    (rises-remove c front back (rises-tail d (front ++ c ∷ back) r))

pub rises-append : (front back : List Cell) → rises front ≡ true → rises back ≡ true → AllBefore front back → rises (front ++ back) ≡ true
rises-append [] back f b a = b
rises-append (c ∷ front) back f b a =
    rises-cons c (front ++ back) (before-append c front back (before_rising c front f) a.0) (rises-append front back (rises-tail c front f) b a.1)

pub or_none : (a b : Bool) → a ≡ false → b ≡ false → (a || b) ≡ false
or_none true b e f = e
or_none false b e f = f

-- a cell before all of them is none of them
pub absent : (c : Cell) (cells : List Cell) → Before c cells → list_any (same c) cells ≡ false
absent c [] b = refl
absent c (d ∷ cells) b = or_none (same c d) (list_any (same c) cells) (precedes_differs c d b.0) (absent c cells b.1)

-- a cell that rises with earlier ones is none of them
pub absent_earlier : (c : Cell) (earlier later : List Cell) → rises (earlier ++ c ∷ later) ≡ true → list_any (same c) earlier ≡ false
absent_earlier c [] later r = refl
absent_earlier c (d ∷ earlier) later r =
    let after : Before d (c ∷ later) = before_front d earlier (c ∷ later) (before_rising d (earlier ++ c ∷ later) r) in
    or_none (same c d) (list_any (same c) earlier) (follows_differs d c after.0) (absent_earlier c earlier later (rises-tail d (earlier ++ c ∷ later) r))
