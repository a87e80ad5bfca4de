-- The two cuts leave out no extras: a cell that can't enter is in none, and a gap that is left is filled in none.
use Rattle.std.proofs.Common.{◌≡◌, ℕ, suc, ◌+◌, ◌-◌, Bool, true, false, ◌||◌, List, [], ◌∷◌, ◌++◌, nat_eq, nat_lt, arith, refl, sym, ◌∙◌, inl, inr}
use Rattle.std.specs.List.{list_any}
use Rattle.std.proofs.lemmas.Bool.{or_left, or_right, and_parts, and_from, or_cases, cases_Bool}
use Rattle.std.proofs.lemmas.Bool.Decides.{nat_tests}
use Rattle.std.proofs.lemmas.List.Folds.{list_any-append}
use Rattle.tv_cells.specs.declared.cell.Cell.{Cell}
use Rattle.tv_cells.specs.declared.legs.Legs.{Legs}
use Rattle.tv_cells.specs.Cells.{cell, same, precedes, rises, sublists_of}
use Rattle.tv_cells.specs.Extras.{legs_at, in_union, is_extras}
use Rattle.tv_cells.proofs.Rising.{Before, before_earlier, before_rising, absent, absent_earlier, or_none, rises-drop, same_itself}
use Rattle.tv_cells.proofs.Downward.{extras_stand, step_down}
use Rattle.tv_cells.specs.Cuts.{extras_after, enters, leaves_gap, CutsDropNone}
use Rattle.tv_lemmas.proofs.Lists.{filter-none_on}
use Rattle.tv_cells.proofs.Sublists.{sublists-before}

-- what would make a test that fails hold doesn't hold
unless : (a b : Bool) → b ≡ false → (a ≡ true → b ≡ true) → a ≡ false
unless true b off f = sym (f refl) ∙ off
unless false b off f = refl

or_falses : (b : Bool) → ((b || false) || false) ≡ b
or_falses true = refl
or_falses false = refl

-- a cell of the union that comes before the last cells is a leg's or an earlier one
earlier_in_union : (legs : Legs) (chosen : List Cell) (c : Cell) (s : List Cell) (low : Cell) → precedes low c ≡ true → Before c s → in_union legs ((chosen ++ c ∷ []) ++ s) low ≡ true → in_union legs chosen low ≡ true
earlier_in_union legs chosen c s low p b u = elim (or_cases (nat_lt 0 (legs_at legs low)) (list_any (same low) ((chosen ++ c ∷ []) ++ s)) u) [
  | inl leg ↦ or_left (nat_lt 0 (legs_at legs low)) (list_any (same low) chosen) leg
  | inr member ↦ or_right (nat_lt 0 (legs_at legs low)) (list_any (same low) chosen) (among member)
]
  where
    not_here : list_any (same low) (c ∷ []) ≡ false
    not_here = absent low (c ∷ []) (p, tt)

    not_later : list_any (same low) s ≡ false
    not_later = absent low s (before_earlier low c s p b)

    split : list_any (same low) ((chosen ++ c ∷ []) ++ s) ≡ list_any (same low) chosen
    split =
        list_any-append (same low) (chosen ++ c ∷ []) s
        ∙ rw (list_any-append (same low) chosen (c ∷ []), not_here, not_later) (or_falses (list_any (same low) chosen))

    among : list_any (same low) ((chosen ++ c ∷ []) ++ s) ≡ true → list_any (same low) chosen ≡ true
    among m = sym split ∙ m

below_y : (c : Cell) → nat_eq c.y 0 ≡ false → precedes (cell c.x (c.y - 1) c.z) c ≡ true
below_y c off = grind (arith, nat_tests)

below_z : (c : Cell) → nat_eq c.z 0 ≡ false → precedes (cell c.x c.y (c.z - 1)) c ≡ true
below_z c off = grind (arith, nat_tests)

rests_y : (legs : Legs) (chosen : List Cell) (c : Cell) (s : List Cell) → Before c s → (nat_eq c.y 0 || in_union legs ((chosen ++ c ∷ []) ++ s) (cell c.x (c.y - 1) c.z)) ≡ true → (nat_eq c.y 0 || in_union legs chosen (cell c.x (c.y - 1) c.z)) ≡ true
rests_y legs chosen c s b r = elim (cases_Bool (nat_eq c.y 0)) [
  | inl on ↦ or_left (nat_eq c.y 0) _ on
  | inr off ↦ or_right (nat_eq c.y 0) _ (earlier_in_union legs chosen c s (cell c.x (c.y - 1) c.z) (below_y c off) b (rw off at r))
]

rests_z : (legs : Legs) (chosen : List Cell) (c : Cell) (s : List Cell) → Before c s → (nat_eq c.z 0 || in_union legs ((chosen ++ c ∷ []) ++ s) (cell c.x c.y (c.z - 1))) ≡ true → (nat_eq c.z 0 || in_union legs chosen (cell c.x c.y (c.z - 1))) ≡ true
rests_z legs chosen c s b r = elim (cases_Bool (nat_eq c.z 0)) [
  | inl on ↦ or_left (nat_eq c.z 0) _ on
  | inr off ↦ or_right (nat_eq c.z 0) _ (earlier_in_union legs chosen c s (cell c.x c.y (c.z - 1)) (below_z c off) b (rw off at r))
]

member_between : (c : Cell) (chosen s : List Cell) → list_any (same c) ((chosen ++ c ∷ []) ++ s) ≡ true
member_between c chosen s =
    list_any-append (same c) (chosen ++ c ∷ []) s
    ∙ or_left (list_any (same c) (chosen ++ c ∷ [])) (list_any (same c) s)
    (list_any-append (same c) chosen (c ∷ []) ∙ or_right (list_any (same c) chosen) (list_any (same c) (c ∷ [])) (or_left (same c c) false (same_itself c)))

extras_enter : (legs : Legs) (chosen : List Cell) (c : Cell) (s : List Cell) → Before c s → is_extras legs ((chosen ++ c ∷ []) ++ s) ≡ true → enters legs chosen c ≡ true
unfolding enters
extras_enter legs chosen c s b all =
    let parts = extras_stand legs ((chosen ++ c ∷ []) ++ s) c all (member_between c chosen s) in
    and_from (nat_eq (legs_at legs c) 0) _ parts.outside
    (and_from (nat_eq c.y 0 || in_union legs chosen (cell c.x (c.y - 1) c.z)) _ (rests_y legs chosen c s b parts.along_y) (rests_z legs chosen c s b parts.along_z))

-- no extras have a cell that can't enter
pub after-refused : (legs : Legs) (chosen : List Cell) (c : Cell) (cells : List Cell) (n : ℕ) → rises (chosen ++ c ∷ cells) ≡ true → enters legs chosen c ≡ false → extras_after legs (chosen ++ c ∷ []) cells n ≡ []
after-refused legs chosen c cells n r off =
    filter-none_on (Before c) (λ s. is_extras legs ((chosen ++ c ∷ []) ++ s))
    (λ s b. unless (is_extras legs ((chosen ++ c ∷ []) ++ s)) (enters legs chosen c) off (extras_enter legs chosen c s b))
    (sublists_of n cells) (sublists-before c n cells (before_rising c cells (rises-drop chosen (c ∷ cells) r)))

-- with the cell above it the extras have the cell
filled : (legs : Legs) (chosen : List Cell) (c : Cell) (s : List Cell) → list_any (same (cell (c.x + 1) c.y c.z)) chosen ≡ true → is_extras legs (chosen ++ s) ≡ true → in_union legs (chosen ++ s) c ≡ true
filled legs chosen c s above all =
    let up : c.x + 1 ≡ suc c.x = omega arith in
    let here : list_any (same (cell (suc c.x) c.y c.z)) chosen ≡ true = rw up at above in
    let member : list_any (same (cell (suc c.x) c.y c.z)) (chosen ++ s) ≡ true = list_any-append (same (cell (suc c.x) c.y c.z)) chosen s ∙ or_left (list_any (same (cell (suc c.x) c.y c.z)) chosen) (list_any (same (cell (suc c.x) c.y c.z)) s) here in
    step_down (λ v. in_union legs (chosen ++ s) (cell v c.y c.z)) c.x (extras_stand legs (chosen ++ s) (cell (suc c.x) c.y c.z) all member).along_x

no_leg : (n : ℕ) → nat_eq n 0 ≡ true → nat_lt 0 n ≡ false
no_leg n e = grind (arith, nat_tests)

-- no extras fill the gap later
pub after-gap : (legs : Legs) (chosen : List Cell) (c : Cell) (cells : List Cell) (n : ℕ) → rises (chosen ++ c ∷ cells) ≡ true → leaves_gap legs chosen c ≡ true → extras_after legs chosen cells n ≡ []
unfolding leaves_gap
after-gap legs chosen c cells n r gap =
    filter-none_on (Before c) (λ s. is_extras legs (chosen ++ s)) none
    (sublists_of n cells) (sublists-before c n cells (before_rising c cells (rises-drop chosen (c ∷ cells) r)))
  where
    none : (s : List Cell) → Before c s → is_extras legs (chosen ++ s) ≡ false
    none s b =
        let parts = and_parts (nat_eq (legs_at legs c) 0) (list_any (same (cell (c.x + 1) c.y c.z)) chosen) gap in
        let outside : list_any (same c) (chosen ++ s) ≡ false = list_any-append (same c) chosen s ∙ or_none (list_any (same c) chosen) (list_any (same c) s) (absent_earlier c chosen cells r) (absent c s b) in
        unless (is_extras legs (chosen ++ s)) (in_union legs (chosen ++ s) c)
        (or_none (nat_lt 0 (legs_at legs c)) (list_any (same c) (chosen ++ s)) (no_leg (legs_at legs c) parts.0) outside)
        (filled legs chosen c s parts.1)

pub cuts-drop-none : CutsDropNone
cuts-drop-none = record { refused = after-refused; gap = after-gap }
