-- Corners without legs before the others: the ways to split boxes over them.
use Rattle.std.proofs.Common.{◌≡◌, ℕ, zero, suc, ◌+◌, ◌<◌, ◌≤◌, Bool, true, false, cond, not, ◌&&◌, List, [], ◌∷◌, ◌++◌, map, length, take, drop, get_or, refl, sym, ◌∙◌, ap, subst, arith, append_assoc, take_all}
use Rattle.std.specs.Prelude.{pos, filter}
use Rattle.std.specs.List.{count_by}
use Rattle.std.proofs.lemmas.List.{take-append-drop, take-replicate, append-nil}
use Rattle.std.proofs.lemmas.List.Elements.{filter-append, filter_more}
use Rattle.std.proofs.lemmas.List.Recursion.{is_count_by}
use Rattle.std.proofs.Math.Seq.{take-append_seam}
use Rattle.tv_ring.specs.Operations.{Operations}
use Rattle.tv_ring.specs.Sums.{times}
use Rattle.tv_laws_series.specs.Terms.{terms, listed}
use Rattle.tv_cells.specs.declared.legs.Legs.{Legs}
use Rattle.tv_cells.specs.Extras.{empty_legs, count}
use Rattle.tv_laws_counts.specs.Ways.{ways, corner_ways}
use Rattle.tv_laws_counts.proofs.Convolutions.{convolved-same, ways_swap}
use Rattle.tv_laws_counts.proofs.CornerWays.{ways-front}
use Rattle.tv_assigned_series.specs.Terms.{front_times, front_terms}
use Rattle.tv_images.specs.Least.{is_empty}
use Rattle.tv_images.proofs.Corners.{empty-is}
use Rattle.tv_assigned_series.specs.Empties.{empties}

-- the corners with a leg, in order
abbrev pub has_leg : Legs → Bool
has_leg l = not (is_empty l)

-- those without legs, and then the others among the first t
abbrev pub gathered : List Legs → ℕ → List Legs
gathered legs t = empties (count_by is_empty legs) ++ filter has_leg (take t legs)

-- the same corner before others that are split in as many ways
ways-onto : (l : Legs) (xs ys : List Legs) → ((i : ℕ) → corner_ways xs i ≡ corner_ways ys i) → (n : ℕ) → corner_ways (l ∷ xs) n ≡ corner_ways (l ∷ ys) n
unfolding ways
ways-onto l xs ys e n = convolved-same (count l) (count l) (corner_ways xs) (corner_ways ys) n (λ i h. refl) (λ i h. e i)

-- a corner before those without legs, and after them
ways-moved : (m : ℕ) (l : Legs) (ls : List Legs) (n : ℕ) → corner_ways (empties m ++ l ∷ ls) n ≡ corner_ways (l ∷ (empties m ++ ls)) n
ways-moved zero l ls n = refl
ways-moved (suc m) l ls n =
    ways-onto empty_legs (empties m ++ l ∷ ls) (l ∷ (empties m ++ ls)) (ways-moved m l ls) n
    ∙ ways_swap (count empty_legs) (count l) (map count (empties m ++ ls)) n

gathered-step : (l : Legs) (legs : List Legs) (n : ℕ) (b : Bool) → is_empty l ≡ b → ((i : ℕ) → corner_ways (empties (count_by is_empty legs) ++ filter has_leg legs) i ≡ corner_ways legs i) → corner_ways (empties (cond b 1 0 + count_by is_empty legs) ++ cond (not b) (l ∷ filter has_leg legs) (filter has_leg legs)) n ≡ corner_ways (l ∷ legs) n
gathered-step l legs n true e rest =
    let one : 1 + count_by is_empty legs ≡ suc (count_by is_empty legs) = omega arith in
    rw (one, empty-is l e) (ways-onto empty_legs (empties (count_by is_empty legs) ++ filter has_leg legs) legs rest n)
gathered-step l legs n false e rest =
    let none : 0 + count_by is_empty legs ≡ count_by is_empty legs = omega arith in
    rw none (ways-moved (count_by is_empty legs) l (filter has_leg legs) n ∙ ways-onto l (empties (count_by is_empty legs) ++ filter has_leg legs) legs rest n)

empties_in : List Legs → ℕ
empties_in [] = 0
empties_in (l ∷ legs) = cond (is_empty l) (1 + empties_in legs) (empties_in legs)

empties_in-count : (legs : List Legs) → empties_in legs ≡ count_by is_empty legs
unfolding empties_in
empties_in-count legs = is_count_by empties_in is_empty refl (λ l ls. refl) legs

count-cons : (l : Legs) (legs : List Legs) → count_by is_empty (l ∷ legs) ≡ cond (is_empty l) 1 0 + count_by is_empty legs
unfolding empties_in
count-cons l legs = sym (empties_in-count (l ∷ legs)) ∙ by (is_empty l)
  where
    by : (b : Bool) → cond b (1 + empties_in legs) (empties_in legs) ≡ cond b 1 0 + count_by is_empty legs
    by true = ap (λ m. 1 + m) (empties_in-count legs)
    by false = let same = empties_in-count legs in omega arith

gathered-whole : (legs : List Legs) (n : ℕ) → corner_ways (empties (count_by is_empty legs) ++ filter has_leg legs) n ≡ corner_ways legs n
gathered-whole [] n = refl
gathered-whole (l ∷ legs) n =
    subst (λ m. corner_ways (empties m ++ filter has_leg (l ∷ legs)) n ≡ corner_ways (l ∷ legs) n) (sym (count-cons l legs)) (gathered-step l legs n (is_empty l) refl (gathered-whole legs))

ways-before : (xs ys : List Legs) (n : ℕ) → corner_ways xs n ≤ corner_ways (xs ++ ys) n
ways-before xs ys n = subst (λ ls. corner_ways ls n ≤ corner_ways (xs ++ ys) n) (take-append_seam xs ys) (ways-front (length xs) (xs ++ ys) n)

-- as far as they are gathered, they are split in no more ways than all
pub gathered-within : (legs : List Legs) (t n : ℕ) → corner_ways (gathered legs t) n ≤ corner_ways legs n
gathered-within legs t n =
    let parts : filter has_leg legs ≡ filter has_leg (take t legs) ++ filter has_leg (drop t legs) =
    ap (filter has_leg) (sym (take-append-drop t legs)) ∙ filter-append has_leg (take t legs) (drop t legs) in
    let whole : corner_ways (gathered legs t ++ filter has_leg (drop t legs)) n ≡ corner_ways legs n =
    ap (λ ls. corner_ways ls n) (append_assoc (empties (count_by is_empty legs)) (filter has_leg (take t legs)) (filter has_leg (drop t legs)) ∙ ap (λ ls. empties (count_by is_empty legs) ++ ls) (sym parts)) ∙ gathered-whole legs n in
    subst (λ m. corner_ways (gathered legs t) n ≤ m) whole (ways-before (gathered legs t) (filter has_leg (drop t legs)) n)

pub fewer-empties : (m n i : ℕ) → m ≤ n → corner_ways (empties m) i ≤ corner_ways (empties n) i
fewer-empties m n i h = subst (λ ls. corner_ways ls i ≤ corner_ways (empties n) i) (take-replicate m n empty_legs h) (ways-front m (empties n) i)

-- a gathering begins with corners without legs, and takes in the others one by one
pub gathered-first : (legs : List Legs) → empties (count_by is_empty legs) ≡ gathered legs 0
gathered-first legs = sym (append-nil (empties (count_by is_empty legs)))

pub gathered-empty : (legs : List Legs) (t : ℕ) (l : Legs) → t < length legs → l ≡ get_or legs t l → true ≡ is_empty l → gathered legs t ≡ gathered legs (t + 1)
gathered-empty legs t l h at bare =
    let more = filter_more has_leg legs t l h in
    let here : has_leg (get_or legs t l) ≡ false = ap has_leg (sym at) ∙ ap not (sym bare) in
    let same : filter has_leg (take (t + 1) legs) ≡ filter has_leg (take t legs) = more ∙ (ap (λ b. filter has_leg (take t legs) ++ cond b (get_or legs t l ∷ []) []) here ∙ append-nil (filter has_leg (take t legs))) in
    ap (λ ls. empties (count_by is_empty legs) ++ ls) (sym same)

pub gathered-next : (legs : List Legs) (t : ℕ) (l : Legs) → t < length legs → l ≡ get_or legs t l → false ≡ is_empty l → gathered legs t ++ l ∷ [] ≡ gathered legs (t + 1)
gathered-next legs t l h at bare =
    let more = filter_more has_leg legs t l h in
    let here : has_leg (get_or legs t l) ≡ true = ap has_leg (sym at) ∙ ap not (sym bare) in
    let one : filter has_leg (take (t + 1) legs) ≡ filter has_leg (take t legs) ++ l ∷ [] = more ∙ (ap (λ b. filter has_leg (take t legs) ++ cond b (get_or legs t l ∷ []) []) here ∙ ap (λ c. filter has_leg (take t legs) ++ c ∷ []) (sym at)) in
    append_assoc (empties (count_by is_empty legs)) (filter has_leg (take t legs)) (l ∷ []) ∙ ap (λ ls. empties (count_by is_empty legs) ++ ls) (sym one)

front-same : {A : Type 0} (r : Operations A) (xs ys : List Legs) (k : ℕ) → ((i : ℕ) → corner_ways xs i ≡ corner_ways ys i) → front_terms r xs k ≡ front_terms r ys k
unfolding front_times
front-same r xs ys k e = λ i. terms (pos 0) (listed (λ n. times r (e n i)) (suc k))

pub gathered-all : {A : Type 0} (r : Operations A) (legs : List Legs) (t k : ℕ) → length legs ≤ t → front_terms r (gathered legs t) k ≡ front_terms r legs k
gathered-all r legs t k h = front-same r (gathered legs t) legs k (λ i. ap (λ ls. corner_ways (empties (count_by is_empty legs) ++ filter has_leg ls) i) (take_all t legs h) ∙ gathered-whole legs i)
