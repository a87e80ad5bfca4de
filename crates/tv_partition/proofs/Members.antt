-- The list of all diagrams of a size has exactly those.
use Rattle.std.proofs.Common.{◌≡◌, ℕ, zero, suc, ◌-◌, ◌≤◌, ◌<◌, min, Bool, true, ◌||◌, List, [], ◌∷◌, map, length, nat_eq, arith, refl, sym, ◌∙◌, ap, subst, inl, inr}
use Rattle.std.specs.Prelude.{IsTrue, ◌↔◌}
use Rattle.std.specs.List.{flat_map, list_any, AllByRecursion}
use Rattle.std.specs.Cmp.Lexicographic.{pointwise}
use Rattle.std.proofs.lemmas.Bool.{and_parts, or_cases, or_left, or_right, cases_eq, eqb-true, eq-eqb}
use Rattle.tv_lemmas.proofs.Lists.{list_any-flat_map}
use Rattle.tv_lemmas.proofs.Members.{all-append, all-map}
use Rattle.tv_partition.specs.Rows.{FallsFrom, IsDiagram, size, diagrams, diagrams_within, down_from}
use Rattle.tv_partition.proofs.Bounds.{falling_rows, falling_is_diagram}

pub same_lists : (a b : List ℕ) → pointwise nat_eq a b ≡ true → a ≡ b
same_lists [] [] e = refl
same_lists [] (y ∷ ys) e = cc
same_lists (x ∷ xs) [] e = cc
same_lists (x ∷ xs) (y ∷ ys) e =
    let parts = and_parts (nat_eq x y) (pointwise nat_eq xs ys) e in
    ap (λ z. z ∷ xs) (eqb-true x y parts.0) ∙ ap (λ zs. y ∷ zs) (same_lists xs ys parts.1)

-- a diagram of n cells whose rows fall from top
record Is (top n : ℕ) (rows : List ℕ) : Type 0 where
  falls : FallsFrom top rows
  cells : size rows ≡ n

abbrev EachIs : ℕ → ℕ → List (List ℕ) → Type 0
EachIs top n lists = AllByRecursion (Is top n) lists

each_is-map : (top n row : ℕ) (lists : List (List ℕ)) → 0 < row → row ≤ top → row ≤ n → EachIs row (n - row) lists → EachIs top n (map (λ rows. row ∷ rows) lists)
each_is-map top n row lists p l m e = all-map (Is row (n - row)) (Is top n) (λ rows. row ∷ rows) (λ rows is. record { falls = (p, l, is.falls); cells = omega (arith, is.cells) }) lists e

each_is-rows : (f : ℕ → List (List ℕ)) (top n m : ℕ) → ((row : ℕ) → EachIs row (n - row) (f row)) → m ≤ top → m ≤ n → EachIs top n (flat_map (λ row. map (λ rows. row ∷ rows) (f row)) (down_from m))
each_is-rows f top n zero each l p = tt
each_is-rows f top n (suc m) each l p =
    all-append (Is top n) (map (λ rows. suc m ∷ rows) (f (suc m))) (flat_map (λ row. map (λ rows. row ∷ rows) (f row)) (down_from m))
    (each_is-map top n (suc m) (f (suc m)) (omega arith) l p (each (suc m))) (each_is-rows f top n m each (omega arith) (omega arith))

within-are : (k top n : ℕ) → EachIs top n (diagrams_within k top n)
unfolding diagrams_within
within-are zero top zero = (record { falls = tt; cells = refl }, tt)
within-are (suc k) top zero = (record { falls = tt; cells = refl }, tt)
within-are zero top (suc n) = tt
within-are (suc k) top (suc n) =
    each_is-rows (λ row. diagrams_within k row (suc n - row)) top (suc n) (min top (suc n)) (λ row. within-are k row (suc n - row)) (omega arith) (omega arith)

member_is : (top n : ℕ) (rows : List ℕ) (lists : List (List ℕ)) → EachIs top n lists → list_any (pointwise nat_eq rows) lists ≡ true → Is top n rows
member_is top n rows [] e any = cc
member_is top n rows (a ∷ lists) e any = elim (or_cases (pointwise nat_eq rows a) (list_any (pointwise nat_eq rows) lists) any) [
  | inl here ↦ let P : List ℕ → Type 0 = λ v. Is top n v in subst P (sym (same_lists rows a here)) e.0
  | inr there ↦ member_is top n rows lists e.1 there
]

any-down_from : (p : ℕ → Bool) (m j : ℕ) → 0 < j → j ≤ m → p j ≡ true → list_any p (down_from m) ≡ true
any-down_from p zero j l h e = absurd (omega arith)
any-down_from p (suc m) j l h e = elim (cases_eq (suc m) j) [
  | inl here ↦ or_left (p (suc m)) (list_any p (down_from m)) (ap p here ∙ e)
  | inr later ↦ or_right (p (suc m)) (list_any p (down_from m)) (any-down_from p m j l (omega arith) e)
]

any-behind : (row : ℕ) (rows : List ℕ) (lists : List (List ℕ)) → list_any (pointwise nat_eq (row ∷ rows)) (map (λ s. row ∷ s) lists) ≡ list_any (pointwise nat_eq rows) lists
any-behind row rows [] = refl
any-behind row rows (a ∷ lists) =
    let own : nat_eq row row ≡ true = eq-eqb row row refl in
    let rest = any-behind row rows lists in
    rw own (ap (λ b. pointwise nat_eq rows a || b) rest)

member_within : (k top n : ℕ) (rows : List ℕ) → FallsFrom top rows → size rows ≡ n → length rows ≤ k → list_any (pointwise nat_eq rows) (diagrams_within k top n) ≡ true
unfolding diagrams_within
member_within zero top zero [] f s l = refl
member_within (suc k) top zero [] f s l = refl
member_within k top (suc n) [] f s l = absurd (omega arith)
member_within k top zero (row ∷ rows) f s l = absurd (omega (arith, f.0))
member_within zero top (suc n) (row ∷ rows) f s l = absurd (omega arith)
member_within (suc k) top (suc n) (row ∷ rows) f s l =
    list_any-flat_map (pointwise nat_eq (row ∷ rows)) (λ r. map (λ s. r ∷ s) (diagrams_within k r (suc n - r))) (down_from (min top (suc n)))
    ∙ any-down_from (λ r. list_any (pointwise nat_eq (row ∷ rows)) (map (λ s. r ∷ s) (diagrams_within k r (suc n - r)))) (min top (suc n)) row f.0 (omega (arith, f.1))
    (any-behind row rows (diagrams_within k row (suc n - row)) ∙ member_within k row (suc n - row) rows f.2 (omega arith) (omega arith))

falls-size : (rows : List ℕ) → IsDiagram rows → FallsFrom (size rows) rows
falls-size [] d = tt
falls-size (row ∷ rows) d = (d.0, omega arith, d.1)

pub diagrams-are-all : (n : ℕ) (rows : List ℕ) → IsTrue (list_any (pointwise nat_eq rows) (diagrams n)) ↔ (IsDiagram rows × (size rows ≡ n))
unfolding diagrams
diagrams-are-all n rows = (found, finds)
  where
    found : list_any (pointwise nat_eq rows) (diagrams_within n n n) ≡ true → IsDiagram rows × (size rows ≡ n)
    found any = let is = member_is n n rows (diagrams_within n n n) (within-are n n n) any in (falling_is_diagram n rows is.falls, is.cells)

    finds : IsDiagram rows × (size rows ≡ n) → list_any (pointwise nat_eq rows) (diagrams_within n n n) ≡ true
    finds d =
        let P : ℕ → Type 0 = λ v. FallsFrom v rows in
        let falls : FallsFrom n rows = subst P d.1 (falls-size rows d.0) in
        member_within n n n rows falls d.1 (let few = falling_rows n rows falls in omega (arith, d.1))
