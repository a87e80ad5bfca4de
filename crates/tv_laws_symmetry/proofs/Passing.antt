-- How many sublists of a list of cells pass a test: as many for permuted lists, where the test doesn't look at the order.
--
-- passing p cells == the number of sublists of the cells that pass
-- IsOfCells p     == the test is the same on permuted lists
use Rattle.std.specs.Prelude.{◌≡◌, ℕ, ◌+◌, ◌-◌, Bool, true, false, cond, ◌&&◌, ◌||◌, nat_eq, nat_lt}
use Rattle.std.specs.Prelude.{List, [], ◌∷◌, map, filter, length}
use Rattle.std.specs.List.{list_any, list_all}
use Rattle.std.proofs.Common.{refl, sym, ap, ◌∙◌, arith, length-append}
use Rattle.std.proofs.lemmas.List.{length-map}
use Rattle.std.proofs.lemmas.List.Elements.{filter-append}
use Rattle.std.proofs.lemmas.List.Sorted.{list_any-IsPermutation}
use Rattle.tv_lemmas.proofs.Lists.{filter-map}
use Rattle.tv_lemmas.proofs.Permuted.{Permuted, IsEquality, IsOfMembers, places, permuted, permuted-permutation, permuted-length}
use Rattle.tv_cells.specs.declared.cell.Cell.{Cell}
use Rattle.tv_cells.specs.declared.legs.Legs.{Legs}
use Rattle.tv_cells.specs.Cells.{cell, same, cube, sublists}
use Rattle.tv_cells.specs.Extras.{bit, legs_at, in_union, stands, is_extras, extent, count}
use Rattle.tv_cells.proofs.Rising.{same_itself}
use Rattle.tv_cells.proofs.Sublists.{extras_by_length}
use Rattle.tv_laws_counts.proofs.Rises.{same_cell}

abbrev pub passing : (List Cell → Bool) → List Cell → ℕ
passing p [] = bit (p [])
passing p (c ∷ cells) = passing (λ s. p (c ∷ s)) cells + passing p cells

-- ---- the count as such a number

length-one : (s : List Cell) (b : Bool) → length (cond b (s ∷ []) []) ≡ bit b
length-one s true = refl
length-one s false = refl

length-begun : (p : List Cell → Bool) (c : Cell) (ss : List (List Cell)) →
    length (filter p (map (λ s. c ∷ s) ss)) ≡ length (filter (λ s. p (c ∷ s)) ss)
length-begun p c ss =
    ap length (filter-map p (λ s. p (c ∷ s)) (λ s. c ∷ s) (λ s. refl) ss) ∙ length-map (filter (λ s. p (c ∷ s)) ss) (λ s. c ∷ s)

pub length-passing : (p : List Cell → Bool) (cells : List Cell) → length (filter p (sublists cells)) ≡ passing p cells
unfolding sublists
length-passing p [] = length-one [] (p [])
length-passing p (c ∷ cells) =
    let both = length-append (filter p (map (λ s. c ∷ s) (sublists cells))) (filter p (sublists cells)) in
    let first = length-begun p c (sublists cells) ∙ length-passing (λ s. p (c ∷ s)) cells in
    let rest = length-passing p cells in
    ap length (filter-append p (map (λ s. c ∷ s) (sublists cells)) (sublists cells)) ∙ omega arith

-- i of them that are extras
abbrev pub are_extras : Legs → ℕ → List Cell → Bool
are_extras legs i s = is_extras legs s && nat_eq (length s) i

pub count-passing : (legs : Legs) (i : ℕ) → count legs i ≡ passing (are_extras legs i) (cube (i + extent legs))
unfolding count
count-passing legs i =
    ap length (sym (extras_by_length legs i (cube (i + extent legs))))
    ∙ length-passing (are_extras legs i) (cube (i + extent legs))

-- ---- other tests and other cells

pub passing-same : (p q : List Cell → Bool) → ((s : List Cell) → p s ≡ q s) → (cells : List Cell) →
    passing p cells ≡ passing q cells
passing-same p q alike [] = ap bit (alike [])
passing-same p q alike (c ∷ cells) =
    let first = passing-same (λ s. p (c ∷ s)) (λ s. q (c ∷ s)) (λ s. alike (c ∷ s)) cells in
    let rest = passing-same p q alike cells in omega arith

pub passing-map : (p : List Cell → Bool) (f : Cell → Cell) (cells : List Cell) →
    passing p (map f cells) ≡ passing (λ s. p (map f s)) cells
passing-map p f [] = refl
passing-map p f (c ∷ cells) =
    let first = passing-map (λ s. p (f c ∷ s)) f cells in
    let rest = passing-map p f cells in omega arith

-- ---- permuted cells

pub cells-equality : IsEquality same
cells-equality = record { own = same_itself; tells = same_cell }

pub record IsOfCells (p : List Cell → Bool) : Type 0 where
  pub each : (xs ys : List Cell) → Permuted same xs ys → p xs ≡ p ys

abbrev Counted : List Cell → List Cell → Type 0
Counted xs ys = (p : List Cell → Bool) → IsOfCells p → passing p xs ≡ passing p ys

permuted-cons : (c : Cell) (xs ys : List Cell) → Permuted same xs ys → Permuted same (c ∷ xs) (c ∷ ys)
permuted-cons c xs ys is = record { each = λ x. ap (λ n. bit (same x c) + n) (is.each x) }

behind : (c : Cell) (p : List Cell → Bool) → IsOfCells p → IsOfCells (λ s. p (c ∷ s))
behind c p of = record { each = λ xs ys is. of.each (c ∷ xs) (c ∷ ys) (permuted-cons c xs ys is) }

permuted-turned : (c d : Cell) (xs : List Cell) → Permuted same (c ∷ d ∷ xs) (d ∷ c ∷ xs)
permuted-turned c d xs = record { each = λ x. swap (bit (same x c)) (bit (same x d)) (places same x xs) }
  where
    swap : (a b n : ℕ) → a + (b + n) ≡ b + (a + n)
    swap a b n = omega arith

counted-later : (c : Cell) (xs ys : List Cell) → Counted xs ys → Counted (c ∷ xs) (c ∷ ys)
counted-later c xs ys e p of =
    let first = e (λ s. p (c ∷ s)) (behind c p of) in
    let rest = e p of in omega arith

counted-turned : (c d : Cell) (xs : List Cell) → Counted (c ∷ d ∷ xs) (d ∷ c ∷ xs)
counted-turned c d xs p of =
    let alike : (s : List Cell) → p (c ∷ d ∷ s) ≡ p (d ∷ c ∷ s) = λ s. of.each (c ∷ d ∷ s) (d ∷ c ∷ s) (permuted-turned c d s) in
    let both = passing-same (λ s. p (c ∷ d ∷ s)) (λ s. p (d ∷ c ∷ s)) alike xs in
    omega arith

counted-members : IsOfMembers Counted
counted-members = record {
  none = λ p of. refl;
  later = counted-later;
  turned = counted-turned;
  through = λ us vs ws e g. λ p of. e p of ∙ g p of;
}

pub passing-permuted : (p : List Cell → Bool) → IsOfCells p → (xs ys : List Cell) → Permuted same xs ys →
    passing p xs ≡ passing p ys
passing-permuted p of xs ys is = permuted same cells-equality Counted counted-members xs ys is p of

-- ---- the test of extras is of cells

list_any-permuted : (p : Cell → Bool) (xs ys : List Cell) → Permuted same xs ys → list_any p xs ≡ list_any p ys
list_any-permuted p xs ys is = list_any-IsPermutation p xs ys (permuted-permutation same cells-equality xs ys is)

pub and-turned : (a b c : Bool) → (a && (b && c)) ≡ (b && (a && c))
and-turned true b c = refl
and-turned false true c = refl
and-turned false false c = refl

list_all-permuted : (p : Cell → Bool) (xs ys : List Cell) → Permuted same xs ys → list_all p xs ≡ list_all p ys
list_all-permuted p xs ys is = permuted same cells-equality (λ us vs. list_all p us ≡ list_all p vs) members xs ys is
  where
    members : IsOfMembers (λ us vs. list_all p us ≡ list_all p vs)
    members = record {
      none = refl;
      later = λ x us vs e. ap (λ b. p x && b) e;
      turned = λ x y us. and-turned (p x) (p y) (list_all p us);
      through = λ us vs ws e g. e ∙ g;
    }

pub list_all-same : (p q : Cell → Bool) → ((c : Cell) → p c ≡ q c) → (cells : List Cell) → list_all p cells ≡ list_all q cells
list_all-same p q alike [] = refl
list_all-same p q alike (c ∷ cells) =
    ap (λ b. b && list_all p cells) (alike c) ∙ ap (λ b. q c && b) (list_all-same p q alike cells)

in_union-permuted : (legs : Legs) (xs ys : List Cell) → Permuted same xs ys → (c : Cell) → in_union legs xs c ≡ in_union legs ys c
in_union-permuted legs xs ys is c = ap (λ b. nat_lt 0 (legs_at legs c) || b) (list_any-permuted (same c) xs ys is)

stands-permuted : (legs : Legs) (xs ys : List Cell) → Permuted same xs ys → (c : Cell) → stands legs xs c ≡ stands legs ys c
stands-permuted legs xs ys is c =
    alike (nat_eq (legs_at legs c) 0) (nat_eq c.x 0) (nat_eq c.y 0) (nat_eq c.z 0) _ _ _ _ _ _
    (in_union-permuted legs xs ys is (cell (c.x - 1) c.y c.z))
    (in_union-permuted legs xs ys is (cell c.x (c.y - 1) c.z))
    (in_union-permuted legs xs ys is (cell c.x c.y (c.z - 1)))
  where
    alike : (a i j k x y z x' y' z' : Bool) → x ≡ x' → y ≡ y' → z ≡ z' →
        (a && ((i || x) && ((j || y) && (k || z)))) ≡ (a && ((i || x') && ((j || y') && (k || z'))))
    alike a i j k x y z x' y' z' p q r = rw (p, q, r) refl

is_extras-permuted : (legs : Legs) (xs ys : List Cell) → Permuted same xs ys → is_extras legs xs ≡ is_extras legs ys
is_extras-permuted legs xs ys is =
    list_all-permuted (stands legs xs) xs ys is
    ∙ list_all-same (stands legs xs) (stands legs ys) (stands-permuted legs xs ys is) ys

pub extras-of_cells : (legs : Legs) (i : ℕ) → IsOfCells (are_extras legs i)
extras-of_cells legs i = record { each = each }
  where
    each : (xs ys : List Cell) → Permuted same xs ys → are_extras legs i xs ≡ are_extras legs i ys
    each xs ys is =
        ap (λ b. b && nat_eq (length xs) i) (is_extras-permuted legs xs ys is)
        ∙ ap (λ n. is_extras legs ys && nat_eq n i) (permuted-length same cells-equality xs ys is)
