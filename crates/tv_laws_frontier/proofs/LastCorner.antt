-- Fillings by their sets at the first corners: each set at the last corner goes with each of them.
use Rattle.std.specs.Prelude.{◌≡◌, ℕ, zero, suc, ◌+◌, ◌-◌, ◌*◌, ◌≤◌, Bool, true, false, cond, nat_eq, List, [], ◌∷◌, ◌++◌, map, filter, length, take}
use Rattle.std.specs.List.{AllByRecursion}
use Rattle.std.proofs.Common.{refl, sym, ap, ◌∙◌, arith}
use Rattle.std.proofs.lemmas.List.{length-map}
use Rattle.tv_lemmas.specs.Sums.{sum_of}
use Rattle.tv_lemmas.proofs.Lists.{filter-map, filter-flat_map}
use Rattle.tv_ring.specs.Sums.{total_below}
use Rattle.tv_ring.proofs.Sums.{total_below-none, total_below-more, total_below-same}
use Rattle.tv_spec_plane.specs.Web.{below}
use Rattle.tv_cells.specs.declared.cell.Cell.{Cell}
use Rattle.tv_cells.specs.declared.legs.Legs.{Legs}
use Rattle.tv_cells.specs.Extras.{AreDiagrams, count}
use Rattle.tv_spec_boxes.specs.Configurations.{extras_of, fillings}
use Rattle.tv_laws_counts.specs.Ways.{convolved, ways}
use Rattle.tv_laws_counts.proofs.Convolutions.{after_first, total_below-front, convolved-same, convolved-none, convolved-first, convolved-swap}
use Rattle.tv_laws_counts.proofs.Fillings.{with_first, fillings_counted}
use Rattle.tv_laws_counts.proofs.Lists.{length-numbered}
use Rattle.tv_laws_frontier.proofs.Filters.{length-flat_map}
use Rattle.tv_laws_frontier.proofs.Parted.{sum_of-alike}

-- ---- convolutions are linear

spread : (x y c : ℕ) → (x + y) * c ≡ x * c + y * c
spread x y c = grind arith

convolved-plus : (f g c : ℕ → ℕ) (n : ℕ) → convolved (λ i. f i + g i) c n ≡ convolved f c n + convolved g c n
convolved-plus f g c zero = rw (convolved-none (λ i. f i + g i) c, convolved-none f c, convolved-none g c) (spread (f 0) (g 0) (c 0))
convolved-plus f g c (suc n) =
    let apart = spread (f 0) (g 0) (c (suc n)) in
    rw (convolved-first (λ i. f i + g i) c n, convolved-first f c n, convolved-first g c n, convolved-plus (after_first f) (after_first g) c n) (omega arith)

convolved-zero : (c : ℕ → ℕ) (n : ℕ) → convolved (λ i. 0) c n ≡ 0
convolved-zero c zero = convolved-none (λ i. 0) c ∙ omega arith
convolved-zero c (suc n) = let rest = convolved-zero c n in rw (convolved-first (λ i. 0) c n) (omega arith)

convolved-sum : {A : Type 0} (h : A → ℕ → ℕ) (c : ℕ → ℕ) (n : ℕ) (xs : List A) → sum_of (λ x. convolved (h x) c n) xs ≡ convolved (λ j. sum_of (λ x. h x j) xs) c n
convolved-sum h c n [] = sym (convolved-zero c n)
convolved-sum h c n (x ∷ xs) = ap (λ s. convolved (h x) c n + s) (convolved-sum h c n xs) ∙ sym (convolved-plus (h x) (λ j. sum_of (λ y. h y j) xs) c n)

-- the sum of G i j over i + j = b
abbrev mixed : (ℕ → ℕ → ℕ) → ℕ → ℕ
mixed G b = total_below (λ i. G i (b - i)) (suc b)

mixed-none : (G : ℕ → ℕ → ℕ) → mixed G 0 ≡ G 0 0
mixed-none G = total_below-more (λ i. G i (0 - i)) 0 ∙ (ap (λ s. s + G 0 0) (total_below-none (λ i. G i (0 - i))) ∙ omega arith)

mixed-first : (G : ℕ → ℕ → ℕ) (b : ℕ) → mixed G (suc b) ≡ G 0 (suc b) + mixed (λ i. G (suc i)) b
mixed-first G b =
    total_below-front (λ i. G i (suc b - i)) (suc b)
    ∙ (let whole : suc b - 0 ≡ suc b = omega arith in ap (λ k. G 0 k + total_below (after_first (λ i. G i (suc b - i))) (suc b)) whole
    ∙ ap (λ s. G 0 (suc b) + s) (total_below-same (after_first (λ i. G i (suc b - i))) (λ i. G (suc i) (b - i)) (suc b) (λ i h. let e : suc b - suc i ≡ b - i = omega arith in ap (G (suc i)) e)))

mixed-convolved : (c : ℕ → ℕ) (b : ℕ) (G : ℕ → ℕ → ℕ) → mixed (λ i j. convolved (G i) c j) b ≡ convolved (mixed G) c b
mixed-convolved c zero G = mixed-none (λ i j. convolved (G i) c j) ∙ (convolved-none (G 0) c ∙ (ap (λ x. x * c 0) (sym (mixed-none G)) ∙ sym (convolved-none (mixed G) c)))
mixed-convolved c (suc b) G =
    let rest = mixed-convolved c b (λ i. G (suc i)) in
    let first = convolved-first (G 0) c b in
    let whole = convolved-first (mixed G) c b in
    let begins : mixed G 0 * c (suc b) ≡ G 0 0 * c (suc b) = ap (λ x. x * c (suc b)) (mixed-none G) in
    let later : convolved (after_first (mixed G)) c b ≡ convolved (λ j. after_first (G 0) j + mixed (λ i. G (suc i)) j) c b = convolved-same (after_first (mixed G)) (λ j. after_first (G 0) j + mixed (λ i. G (suc i)) j) c c b (λ j h. mixed-first G j) (λ j h. refl) in
    let both = convolved-plus (after_first (G 0)) (mixed (λ i. G (suc i))) c b in
    let start = mixed-first (λ i j. convolved (G i) c j) b in
    omega arith

-- ---- fillings that pass a test

abbrev Test : Type 0
Test = List (List Cell) → Bool

abbrev passing : Test → List Legs → ℕ → ℕ → ℕ
passing p legs side n = length (filter p (fillings legs side n))

-- by the set at the first corner
behind : (p : Test) (legs : List Legs) (side n : ℕ) (cells : List Cell) → length (filter p (map (λ others. cells ∷ others) (fillings legs side n))) ≡ passing (λ others. p (cells ∷ others)) legs side n
behind p legs side n cells =
    ap length (filter-map p (λ others. p (cells ∷ others)) (λ others. cells ∷ others) (λ others. refl) (fillings legs side n))
    ∙ length-map (filter (λ others. p (cells ∷ others)) (fillings legs side n)) (λ others. cells ∷ others)

with-first-passing : (p : Test) (l : Legs) (legs : List Legs) (side n i : ℕ) → length (filter p (with_first l legs side n i)) ≡ sum_of (λ cells. passing (λ others. p (cells ∷ others)) legs side (n - i)) (extras_of l side i)
with-first-passing p l legs side n i =
    ap length (filter-flat_map p (λ cells. map (λ others. cells ∷ others) (fillings legs side (n - i))) (extras_of l side i))
    ∙ (length-flat_map (λ cells. filter p (map (λ others. cells ∷ others) (fillings legs side (n - i)))) (extras_of l side i)
    ∙ sum_of-alike (λ cells. length (filter p (map (λ others. cells ∷ others) (fillings legs side (n - i))))) (λ cells. passing (λ others. p (cells ∷ others)) legs side (n - i)) (behind p legs side (n - i)) (extras_of l side i))

passing-first : (p : Test) (l : Legs) (legs : List Legs) (side n : ℕ) → passing p (l ∷ legs) side n ≡ mixed (λ i j. sum_of (λ cells. passing (λ others. p (cells ∷ others)) legs side j) (extras_of l side i)) n
unfolding fillings
passing-first p l legs side n =
    ap length (filter-flat_map p (with_first l legs side n) (below (suc n)))
    ∙ (length-numbered (λ i. filter p (with_first l legs side n i)) 0 (suc n)
    ∙ total_below-same (λ i. length (filter p (with_first l legs side n (0 + i)))) (λ i. sum_of (λ cells. passing (λ others. p (cells ∷ others)) legs side (n - i)) (extras_of l side i)) (suc n)
    (λ i h. let same : 0 + i ≡ i = omega arith in ap (λ j. length (filter p (with_first l legs side n j))) same ∙ with-first-passing p l legs side n i))

all-pass : (xs : List (List (List Cell))) → length (filter (λ s. true) xs) ≡ length xs
all-pass [] = refl
all-pass (x ∷ xs) = ap suc (all-pass xs)

none-pass : (xs : List (List (List Cell))) → length (filter (λ s. false) xs) ≡ 0
none-pass [] = refl
none-pass (x ∷ xs) = none-pass xs

no-corner : (p : Test) (side j : ℕ) (b : Bool) → p [] ≡ b → passing p [] side j ≡ cond b (ways [] j) 0
unfolding fillings ways
no-corner p side j b e = by_test (nat_eq j 0) b e
  where
    by_test : (z b : Bool) → p [] ≡ b → length (filter p (cond z ([] ∷ []) [])) ≡ cond b (cond z 1 0) 0
    by_test true true e = rw e refl
    by_test true false e = rw e refl
    by_test false true e = refl
    by_test false false e = refl

single : (c : ℕ → ℕ) (n : ℕ) → ways (c ∷ []) n ≡ convolved (ways []) c n
unfolding ways
single c n = convolved-swap c (ways []) n

one-corner : (p : Test) (l : Legs) (side n : ℕ) (b : Bool) → p [] ≡ b → AreDiagrams l → n ≤ side → passing (λ s. b) (l ∷ []) side n ≡ convolved (passing p [] side) (count l) n
one-corner p l side n true e is h =
    all-pass (fillings (l ∷ []) side n)
    ∙ (fillings_counted (l ∷ []) side n (is, tt) h
    ∙ (single (count l) n
    ∙ convolved-same (ways []) (passing p [] side) (count l) (count l) n (λ j k. sym (no-corner p side j true e)) (λ j k. refl)))
one-corner p l side n false e is h =
    none-pass (fillings (l ∷ []) side n)
    ∙ (sym (convolved-zero (count l) n)
    ∙ convolved-same (λ j. 0) (passing p [] side) (count l) (count l) n (λ j k. sym (no-corner p side j false e)) (λ j k. refl))

-- the last corner's sets go with each filling of the first corners
pub last-corner : (legs : List Legs) (l : Legs) (side : ℕ) → AllByRecursion AreDiagrams legs → AreDiagrams l → (p : Test) (n : ℕ) → n ≤ side → passing (λ sets. p (take (length legs) sets)) (legs ++ l ∷ []) side n ≡ convolved (passing p legs side) (count l) n
last-corner [] l side all is p n h = one-corner p l side n (p []) refl is h
last-corner (x ∷ legs) l side all is p n h =
    passing-first (λ sets. p (take (length (x ∷ legs)) sets)) x (legs ++ l ∷ []) side n
    ∙ (total_below-same (λ i. sum_of (λ cells. passing (λ others. p (cells ∷ take (length legs) others)) (legs ++ l ∷ []) side (n - i)) (extras_of x side i)) (λ i. convolved (λ j. sum_of (λ cells. passing (λ others. p (cells ∷ others)) legs side j) (extras_of x side i)) (count l) (n - i)) (suc n)
    (λ i k. sum_of-alike (λ cells. passing (λ others. p (cells ∷ take (length legs) others)) (legs ++ l ∷ []) side (n - i)) (λ cells. convolved (passing (λ others. p (cells ∷ others)) legs side) (count l) (n - i)) (λ cells. last-corner legs l side all.1 is (λ others. p (cells ∷ others)) (n - i) (omega arith)) (extras_of x side i)
    ∙ convolved-sum (λ cells. passing (λ others. p (cells ∷ others)) legs side) (count l) (n - i) (extras_of x side i))
    ∙ (mixed-convolved (count l) n (λ i j. sum_of (λ cells. passing (λ others. p (cells ∷ others)) legs side j) (extras_of x side i))
    ∙ convolved-same (mixed (λ i j. sum_of (λ cells. passing (λ others. p (cells ∷ others)) legs side j) (extras_of x side i))) (passing p (x ∷ legs) side) (count l) (count l) n (λ j k. sym (passing-first p x legs side j)) (λ j k. refl)))
