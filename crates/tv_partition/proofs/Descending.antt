-- The list of all diagrams of a size descends, so that none is there twice.
use Rattle.std.proofs.Common.{◌≡◌, ℕ, zero, suc, ◌-◌, ◌<◌, min, Bool, true, false, ◌&&◌, ◌||◌, List, [], ◌∷◌, ◌++◌, map, nat_eq, nat_lt, arith, refl}
use Rattle.std.specs.Prelude.{⊤}
use Rattle.std.specs.List.{flat_map, IsDistinct, AllByRecursion}
use Rattle.std.specs.Cmp.Lexicographic.{pointwise}
use Rattle.std.proofs.lemmas.Bool.{and_from}
use Rattle.std.proofs.lemmas.Bool.Decides.{nat_tests}
use Rattle.tv_lemmas.proofs.Members.{all-append, all-map, all-onto}
use Rattle.tv_partition.specs.Rows.{diagrams, diagrams_within, down_from}
use Rattle.tv_partition.specs.Laws.{greater, descends}

-- greater than each of the lists
abbrev AboveAll : List ℕ → List (List ℕ) → Type 0
AboveAll a lists = AllByRecursion (λ b. greater a b ≡ true) lists

abbrev Descends : List (List ℕ) → Type 0
Descends [] = ⊤
Descends (a ∷ lists) = AboveAll a lists × Descends lists

-- the first row is less, where there is one
abbrev StartsBelow : ℕ → List ℕ → Type 0
StartsBelow top [] = ⊤
StartsBelow top (row ∷ rows) = row < top

abbrev EachBelow : ℕ → List (List ℕ) → Type 0
EachBelow top lists = AllByRecursion (StartsBelow top) lists

greater-first : (row : ℕ) (rows a : List ℕ) → StartsBelow row a → greater (row ∷ rows) a ≡ true
greater-first row rows [] s = refl
greater-first row rows (other ∷ others) s = grind (arith, nat_tests)

greater-rest : (row : ℕ) (a b : List ℕ) → greater a b ≡ true → greater (row ∷ a) (row ∷ b) ≡ true
greater-rest row a b g = grind (arith, nat_tests)

above-first : (row : ℕ) (rows : List ℕ) (lists : List (List ℕ)) → EachBelow row lists → AboveAll (row ∷ rows) lists
above-first row rows lists e = all-onto (StartsBelow row) (λ b. greater (row ∷ rows) b ≡ true) (greater-first row rows) lists e

above-map : (row : ℕ) (a : List ℕ) (lists : List (List ℕ)) → AboveAll a lists → AboveAll (row ∷ a) (map (λ rows. row ∷ rows) lists)
above-map row a lists e = all-map (λ b. greater a b ≡ true) (λ b. greater (row ∷ a) b ≡ true) (λ rows. row ∷ rows) (greater-rest row a) lists e

-- what begins with one row comes before what begins below it
descends-join : (row : ℕ) (lists below : List (List ℕ)) → Descends lists → Descends below → EachBelow row below → Descends (map (λ rows. row ∷ rows) lists ++ below)
descends-join row [] below d e f = e
descends-join row (a ∷ lists) below d e f =
    (all-append (λ b. greater (row ∷ a) b ≡ true) (map (λ rows. row ∷ rows) lists) below (above-map row a lists d.0) (above-first row a below f), descends-join row lists below d.1 e f)

below-map : (row top : ℕ) (lists : List (List ℕ)) → row < top → EachBelow top (map (λ rows. row ∷ rows) lists)
below-map row top [] l = tt
below-map row top (a ∷ lists) l = (l, below-map row top lists l)

below-rows : (f : ℕ → List (List ℕ)) (m top : ℕ) → m < top → EachBelow top (flat_map (λ row. map (λ rows. row ∷ rows) (f row)) (down_from m))
below-rows f zero top l = tt
below-rows f (suc m) top l =
    all-append (StartsBelow top) (map (λ rows. suc m ∷ rows) (f (suc m))) (flat_map (λ row. map (λ rows. row ∷ rows) (f row)) (down_from m)) (below-map (suc m) top (f (suc m)) l) (below-rows f m top (omega arith))

descends-rows : (f : ℕ → List (List ℕ)) → ((row : ℕ) → Descends (f row)) → (m : ℕ) → Descends (flat_map (λ row. map (λ rows. row ∷ rows) (f row)) (down_from m))
descends-rows f each zero = tt
descends-rows f each (suc m) =
    descends-join (suc m) (f (suc m)) (flat_map (λ row. map (λ rows. row ∷ rows) (f row)) (down_from m)) (each (suc m)) (descends-rows f each m) (below-rows f m (suc m) (omega arith))

within-descends : (k top n : ℕ) → Descends (diagrams_within k top n)
unfolding diagrams_within
within-descends zero top zero = (tt, tt)
within-descends (suc k) top zero = (tt, tt)
within-descends zero top (suc n) = tt
within-descends (suc k) top (suc n) = descends-rows (λ row. diagrams_within k row (suc n - row)) (λ row. within-descends k row (suc n - row)) (min top (suc n))

descends-test : (lists : List (List ℕ)) → Descends lists → descends lists ≡ true
descends-test [] d = refl
descends-test (a ∷ []) d = refl
descends-test (a ∷ b ∷ lists) d = and_from (greater a b) (descends (b ∷ lists)) d.0.0 (descends-test (b ∷ lists) d.1)

pub diagrams-descend : (n : ℕ) → descends (diagrams n) ≡ true
unfolding diagrams
diagrams-descend n = descends-test (diagrams_within n n n) (within-descends n n n)

greater-differs : (a b : List ℕ) → greater a b ≡ true → pointwise nat_eq a b ≡ false
greater-differs [] b g = cc
greater-differs (row ∷ rows) [] g = refl
greater-differs (row ∷ rows) (other ∷ others) g = differs_by (nat_lt other row) (nat_eq row other) (greater rows others) (pointwise nat_eq rows others) apart (greater-differs rows others) g
  where
    apart : nat_lt other row ≡ true → nat_eq row other ≡ false
    apart l = grind (arith, nat_tests)

    differs_by : (less same above equal : Bool) → (less ≡ true → same ≡ false) → (above ≡ true → equal ≡ false) → (less || (same && above)) ≡ true → (same && equal) ≡ false
    differs_by true same above equal f h e = rw (f refl) refl
    differs_by false true above equal f h e = h e
    differs_by false false above equal f h e = refl

above-differs : (a : List ℕ) (lists : List (List ℕ)) → AboveAll a lists → AllByRecursion (λ b. pointwise nat_eq a b ≡ false) lists
above-differs a [] e = tt
above-differs a (b ∷ lists) e = (greater-differs a b e.0, above-differs a lists e.1)

descends-distinct : (lists : List (List ℕ)) → Descends lists → IsDistinct (pointwise nat_eq) lists
unfolding IsDistinct
descends-distinct [] d = tt
descends-distinct (a ∷ lists) d = (above-differs a lists d.0, descends-distinct lists d.1)

pub diagrams-once : (n : ℕ) → IsDistinct (pointwise nat_eq) (diagrams n)
unfolding diagrams
diagrams-once n = descends-distinct (diagrams_within n n n) (within-descends n n n)
