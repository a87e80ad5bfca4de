-- The test of a list of cells and the relation that says that its union with the legs is closed downwards agree.
use Rattle.std.proofs.Common.{◌≡◌, ℕ, suc, zero, ◌+◌, ◌-◌, Bool, true, false, ◌||◌, List, [], ◌∷◌, nat_eq, nat_lt, arith, refl, sym, ◌∙◌, ap, inl, inr}
use Rattle.std.specs.Prelude.{IsTrue, ◌↔◌}
use Rattle.std.proofs.lemmas.Bool.{and_parts, and_from, or_cases, or_left, or_right, eqb-true, eq-eqb}
use Rattle.std.proofs.lemmas.Bool.Decides.{nat_tests}
use Rattle.std.specs.List.{list_any, list_all}
use Rattle.tv_partition.specs.Rows.{has}
use Rattle.tv_partition.proofs.Shapes.{has-lower_row, has-lower}
use Rattle.tv_cells.specs.declared.cell.Cell.{Cell}
use Rattle.tv_cells.specs.declared.legs.Legs.{Legs}
use Rattle.tv_cells.specs.Cells.{cell, same, rises}
use Rattle.tv_cells.specs.Extras.{bit, legs_at, in_union, stands, is_extras, IsExtras, IsDownClosed, AreDiagrams}
use Rattle.tv_cells.proofs.Rising.{same_is, same_itself}

some_bit : (a b c : Bool) → nat_lt 0 ((bit a + bit b) + bit c) ≡ (a || (b || c))
some_bit true true true = refl
some_bit true true false = refl
some_bit true false true = refl
some_bit true false false = refl
some_bit false true true = refl
some_bit false true false = refl
some_bit false false true = refl
some_bit false false false = refl

or-rises : (a b c a' b' c' : Bool) → (a ≡ true → a' ≡ true) → (b ≡ true → b' ≡ true) → (c ≡ true → c' ≡ true) → (a || (b || c)) ≡ true → (a' || (b' || c')) ≡ true
or-rises true b c a' b' c' f g h e = rw (f refl) refl
or-rises false true c true b' c' f g h e = refl
or-rises false true c false b' c' f g h e = rw (g refl) refl
or-rises false false true true b' c' f g h e = refl
or-rises false false true false true c' f g h e = refl
or-rises false false true false false c' f g h e = h refl
or-rises false false false a' b' c' f g h e = cc

bits-rise : (a b c a' b' c' : Bool) → (a ≡ true → a' ≡ true) → (b ≡ true → b' ≡ true) → (c ≡ true → c' ≡ true) → nat_lt 0 ((bit a + bit b) + bit c) ≡ true → nat_lt 0 ((bit a' + bit b') + bit c') ≡ true
bits-rise a b c a' b' c' f g h e = some_bit a' b' c' ∙ or-rises a b c a' b' c' f g h (sym (some_bit a b c) ∙ e)

pub cell_is : (c d : Cell) → c.x ≡ d.x → c.y ≡ d.y → c.z ≡ d.z → c ≡ d
cell_is c d ex ey ez = ap (λ x. cell x c.y c.z) ex ∙ (ap (λ y. cell d.x y c.z) ey ∙ ap (λ z. cell d.x d.y z) ez)

-- what every one of them passes, a member passes
pub member_passes : (p : Cell → Bool) (c : Cell) (cells : List Cell) → list_all p cells ≡ true → list_any (same c) cells ≡ true → p c ≡ true
member_passes p c [] all any = cc
member_passes p c (d ∷ cells) all any = elim (or_cases (same c d) (list_any (same c) cells) any) [
  | inl here ↦ is_at here
  | inr there ↦ member_passes p c cells (and_parts (p d) (list_all p cells) all).1 there
]
  where
    is_at : same c d ≡ true → p c ≡ true
    is_at e = let at = same_is c d e in ap p (cell_is c d at.0 at.1 at.2) ∙ (and_parts (p d) (list_all p cells) all).0

pub members_pass : (p : Cell → Bool) (cells : List Cell) → ((c : Cell) → list_any (same c) cells ≡ true → p c ≡ true) → list_all p cells ≡ true
members_pass p [] each = refl
members_pass p (d ∷ cells) each =
    and_from (p d) (list_all p cells) (each d (or_left (same d d) (list_any (same d) cells) (same_itself d)))
    (members_pass p cells (λ c m. each c (or_right (same c d) (list_any (same c) cells) m)))

legs-lower_x : (legs : Legs) → AreDiagrams legs → (x y z : ℕ) → nat_lt 0 (legs_at legs (cell (suc x) y z)) ≡ true → nat_lt 0 (legs_at legs (cell x y z)) ≡ true
legs-lower_x legs d x y z =
    bits-rise (has legs.along_x y z) (has legs.along_y (suc x) z) (has legs.along_z (suc x) y) (has legs.along_x y z) (has legs.along_y x z) (has legs.along_z x y)
    (λ e. e) (has-lower_row legs.along_y x z d.along_y) (has-lower_row legs.along_z x y d.along_z)

legs-lower_y : (legs : Legs) → AreDiagrams legs → (x y z : ℕ) → nat_lt 0 (legs_at legs (cell x (suc y) z)) ≡ true → nat_lt 0 (legs_at legs (cell x y z)) ≡ true
legs-lower_y legs d x y z =
    bits-rise (has legs.along_x (suc y) z) (has legs.along_y x z) (has legs.along_z x (suc y)) (has legs.along_x y z) (has legs.along_y x z) (has legs.along_z x y)
    (has-lower_row legs.along_x y z d.along_x) (λ e. e) (has-lower legs.along_z x y)

legs-lower_z : (legs : Legs) → AreDiagrams legs → (x y z : ℕ) → nat_lt 0 (legs_at legs (cell x y (suc z))) ≡ true → nat_lt 0 (legs_at legs (cell x y z)) ≡ true
legs-lower_z legs d x y z =
    bits-rise (has legs.along_x y (suc z)) (has legs.along_y x (suc z)) (has legs.along_z x y) (has legs.along_x y z) (has legs.along_y x z) (has legs.along_z x y)
    (has-lower legs.along_x y z) (has-lower legs.along_y x z) (λ e. e)

-- one step down, as the test writes it
pub step_down : (f : ℕ → Bool) (x : ℕ) → (nat_eq (suc x) 0 || f (suc x - 1)) ≡ true → f x ≡ true
step_down f x e =
    let off : nat_eq (suc x) 0 ≡ false = grind (arith, nat_tests) in
    let at : suc x - 1 ≡ x = omega arith in
    let rest = rw (off, at) at e in
    rest

step_up : (f : ℕ → Bool) (x : ℕ) → f x ≡ true → ((y : ℕ) → f (suc y) ≡ true → f y ≡ true) → (nat_eq x 0 || f (x - 1)) ≡ true
step_up f zero u step = or_left (nat_eq zero 0) (f (zero - 1)) refl
step_up f (suc x) u step =
    let at : suc x - 1 ≡ x = omega arith in
    or_right (nat_eq (suc x) 0) (f (suc x - 1)) (ap f at ∙ step x u)

-- the parts of the test of one cell
pub record Stands (legs : Legs) (cells : List Cell) (c : Cell) : Type 0 where
  pub outside : nat_eq (legs_at legs c) 0 ≡ true
  pub along_x : (nat_eq c.x 0 || in_union legs cells (cell (c.x - 1) c.y c.z)) ≡ true
  pub along_y : (nat_eq c.y 0 || in_union legs cells (cell c.x (c.y - 1) c.z)) ≡ true
  pub along_z : (nat_eq c.z 0 || in_union legs cells (cell c.x c.y (c.z - 1))) ≡ true

pub stands_says : (legs : Legs) (cells : List Cell) (c : Cell) → stands legs cells c ≡ true → Stands legs cells c
stands_says legs cells c s =
    let outer = and_parts (nat_eq (legs_at legs c) 0) _ s in
    let below_x = and_parts (nat_eq c.x 0 || in_union legs cells (cell (c.x - 1) c.y c.z)) _ outer.1 in
    let below_y = and_parts (nat_eq c.y 0 || in_union legs cells (cell c.x (c.y - 1) c.z)) _ below_x.1 in
    record { outside = outer.0; along_x = below_x.0; along_y = below_y.0; along_z = below_y.1 }

stands_when : (legs : Legs) (cells : List Cell) (c : Cell) → Stands legs cells c → stands legs cells c ≡ true
stands_when legs cells c s =
    and_from (nat_eq (legs_at legs c) 0) _ s.outside
    (and_from (nat_eq c.x 0 || in_union legs cells (cell (c.x - 1) c.y c.z)) _ s.along_x
    (and_from (nat_eq c.y 0 || in_union legs cells (cell c.x (c.y - 1) c.z)) _ s.along_y s.along_z))

pub extras_stand : (legs : Legs) (cells : List Cell) (c : Cell) → is_extras legs cells ≡ true → list_any (same c) cells ≡ true → Stands legs cells c
extras_stand legs cells c all m = stands_says legs cells c (member_passes (stands legs cells) c cells all m)

pub union_closed : (legs : Legs) (cells : List Cell) → AreDiagrams legs → is_extras legs cells ≡ true → IsDownClosed (in_union legs cells)
union_closed legs cells d all = record { along_x = down_x; along_y = down_y; along_z = down_z }
  where
    down_x : (x y z : ℕ) → in_union legs cells (cell (suc x) y z) ≡ true → in_union legs cells (cell x y z) ≡ true
    down_x x y z u = elim (or_cases (nat_lt 0 (legs_at legs (cell (suc x) y z))) (list_any (same (cell (suc x) y z)) cells) u) [
      | inl leg ↦ or_left (nat_lt 0 (legs_at legs (cell x y z))) _ (legs-lower_x legs d x y z leg)
      | inr m ↦ step_down (λ v. in_union legs cells (cell v y z)) x (extras_stand legs cells (cell (suc x) y z) all m).along_x
    ]

    down_y : (x y z : ℕ) → in_union legs cells (cell x (suc y) z) ≡ true → in_union legs cells (cell x y z) ≡ true
    down_y x y z u = elim (or_cases (nat_lt 0 (legs_at legs (cell x (suc y) z))) (list_any (same (cell x (suc y) z)) cells) u) [
      | inl leg ↦ or_left (nat_lt 0 (legs_at legs (cell x y z))) _ (legs-lower_y legs d x y z leg)
      | inr m ↦ step_down (λ v. in_union legs cells (cell x v z)) y (extras_stand legs cells (cell x (suc y) z) all m).along_y
    ]

    down_z : (x y z : ℕ) → in_union legs cells (cell x y (suc z)) ≡ true → in_union legs cells (cell x y z) ≡ true
    down_z x y z u = elim (or_cases (nat_lt 0 (legs_at legs (cell x y (suc z)))) (list_any (same (cell x y (suc z))) cells) u) [
      | inl leg ↦ or_left (nat_lt 0 (legs_at legs (cell x y z))) _ (legs-lower_z legs d x y z leg)
      | inr m ↦ step_down (λ v. in_union legs cells (cell x y v)) z (extras_stand legs cells (cell x y (suc z)) all m).along_z
    ]

extras_from_test : (legs : Legs) (cells : List Cell) → AreDiagrams legs → is_extras legs cells ≡ true → IsExtras legs cells
extras_from_test legs cells d all = record {
  outside = λ c m. eqb-true (legs_at legs c) 0 (extras_stand legs cells c all m).outside;
  closed = union_closed legs cells d all;
}

test_from_extras : (legs : Legs) (cells : List Cell) → IsExtras legs cells → is_extras legs cells ≡ true
test_from_extras legs cells e = members_pass (stands legs cells) cells each
  where
    each : (c : Cell) → list_any (same c) cells ≡ true → stands legs cells c ≡ true
    each c m =
        let u : in_union legs cells c ≡ true = or_right (nat_lt 0 (legs_at legs c)) (list_any (same c) cells) m in
        stands_when legs cells c (record {
          outside = eq-eqb (legs_at legs c) 0 (e.outside c m);
          along_x = step_up (λ v. in_union legs cells (cell v c.y c.z)) c.x u (λ x. e.closed.along_x x c.y c.z);
          along_y = step_up (λ v. in_union legs cells (cell c.x v c.z)) c.y u (λ y. e.closed.along_y c.x y c.z);
          along_z = step_up (λ v. in_union legs cells (cell c.x c.y v)) c.z u (λ z. e.closed.along_z c.x c.y z);
        })

pub test_is_relation : (legs : Legs) (cells : List Cell) → AreDiagrams legs → IsTrue (is_extras legs cells) ↔ IsExtras legs cells
test_is_relation legs cells d = (extras_from_test legs cells d, test_from_extras legs cells)

-- what the test of rising extras decides
pub valid_exact : (legs : Legs) (cells : List Cell) (r : Bool) → AreDiagrams legs → IsTrue (rises cells) → r ≡ is_extras legs cells → IsTrue r ↔ (IsTrue (rises cells) × IsExtras legs cells)
valid_exact legs cells r d risen e =
    (λ t. (risen, (test_is_relation legs cells d).0 (sym e ∙ t)), λ both. e ∙ (test_is_relation legs cells d).1 both.1)
