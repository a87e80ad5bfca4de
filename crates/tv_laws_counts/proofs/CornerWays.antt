-- The ways to split boxes over corners: a corner more gives no fewer ways.
use Rattle.std.specs.Prelude.{◌≡◌, ℕ, zero, suc, ◌+◌, ◌-◌, ◌*◌, ◌≤◌, ◌<◌, Bool, true, false, cond, nat_eq, List, [], ◌∷◌, map, length, take, slice_index_or}
use Rattle.std.specs.List.{AllByRecursion}
use Rattle.std.proofs.Common.{refl, ap, ◌∙◌, arith, le_trans, take_all}
use Rattle.std.proofs.lemmas.List.{take_more, map-append}
use Rattle.std.proofs.lemmas.Bool.Decides.{nat_tests}
use Rattle.tv_cells.specs.declared.legs.Legs.{Legs}
use Rattle.tv_cells.specs.Extras.{count}
use Rattle.tv_laws_counts.proofs.Larger.{no_extras}
use Rattle.tv_laws_counts.specs.Ways.{split, convolved, ways, corner_ways}
use Rattle.tv_lemmas.proofs.Members.{all-onto}
use Rattle.tv_laws_counts.proofs.Convolutions.{convolved-none, convolved-≤, total_below-term, ways_last}

-- the convolution of the first corners and the next one
pub front-next : (legs : List Legs) (k n : ℕ) (d : Legs) → k < length legs → corner_ways (take (k + 1) legs) n ≡ convolved (corner_ways (take k legs)) (count (slice_index_or legs k d)) n
front-next legs k n d h =
    ap (λ ls. corner_ways ls n) (take_more legs k d h)
    ∙ (ap (λ cs. ways cs n) (map-append count (take k legs) (slice_index_or legs k d ∷ []))
    ∙ ways_last (map count (take k legs)) (count (slice_index_or legs k d)) n)

pub front-none : (legs : List Legs) (n : ℕ) → corner_ways (take 0 legs) n ≡ cond (nat_eq n 0) 1 0
unfolding ways
front-none legs n = refl

pub front-all : (legs : List Legs) (k n : ℕ) → length legs ≤ k → corner_ways (take k legs) n ≡ corner_ways legs n
front-all legs k n h = ap (λ ls. corner_ways ls n) (take_all k legs h)

pub ways-start : (legs : List Legs) → corner_ways legs 0 ≡ 1
unfolding ways
ways-start [] = refl
ways-start (l ∷ legs) = convolved-none (count l) (corner_ways legs) ∙ (ap (λ x. x * corner_ways legs 0) (no_extras l) ∙ (let rest = ways-start legs in omega arith))

one-times : (x : ℕ) → 1 * x ≡ x
one-times x = omega arith

-- a further corner
pub ways-later : (l : Legs) (legs : List Legs) (n : ℕ) → corner_ways legs n ≤ corner_ways (l ∷ legs) n
unfolding ways convolved split
ways-later l legs n =
    let first = total_below-term (split (count l) (corner_ways legs) n) (suc n) 0 (omega arith) in
    let whole : n - 0 ≡ n = omega arith in
    let one : count l 0 * corner_ways legs (n - 0) ≡ corner_ways legs n = ap (λ x. x * corner_ways legs (n - 0)) (no_extras l) ∙ (one-times (corner_ways legs (n - 0)) ∙ ap (corner_ways legs) whole) in
    omega arith

pub ways-here : (l : Legs) (legs : List Legs) (n : ℕ) → count l n ≤ corner_ways (l ∷ legs) n
unfolding ways convolved split
ways-here l legs n =
    let last = total_below-term (split (count l) (corner_ways legs) n) (suc n) n (omega arith) in
    let one : count l n * corner_ways legs (n - n) ≡ count l n = ap (λ k. count l n * corner_ways legs k) (omega arith) ∙ (ap (λ x. count l n * x) (ways-start legs) ∙ omega arith) in
    omega arith

ways-none : (legs : List Legs) (n : ℕ) (b : Bool) → nat_eq n 0 ≡ b → cond b 1 0 ≤ corner_ways legs n
ways-none legs n true e = let z : n ≡ 0 = grind (arith, nat_tests) in let one = ap (corner_ways legs) z ∙ ways-start legs in omega arith
ways-none legs n false e = omega arith

pub ways-front : (k : ℕ) (legs : List Legs) (n : ℕ) → corner_ways (take k legs) n ≤ corner_ways legs n
unfolding ways
ways-front zero legs n = ways-none legs n (nat_eq n 0) refl
ways-front (suc k) [] n = omega arith
ways-front (suc k) (l ∷ legs) n = convolved-≤ (count l) (corner_ways (take k legs)) (corner_ways legs) n (ways-front k legs)

pub ways-each : (legs : List Legs) (n : ℕ) → AllByRecursion (λ l. count l n ≤ corner_ways legs n) legs
ways-each [] n = tt
ways-each (l ∷ legs) n = (ways-here l legs n, all-onto (λ (m : Legs). count m n ≤ corner_ways legs n) (λ (m : Legs). count m n ≤ corner_ways (l ∷ legs) n) (λ m h. le_trans h (ways-later l legs n)) legs (ways-each legs n))
