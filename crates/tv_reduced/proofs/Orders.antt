-- The order that reaches from each low to n, row by row.
use Rattle.std.proofs.Common.{◌≡◌, ℕ, zero, suc, ◌+◌, ◌<◌, ◌≤◌, take, length, arith}
use Rattle.std.specs.Prelude.{ℤ, ◌-ℤ◌, ◌≤ℤ◌, List, [], ◌∷◌, slice_get, IfSome}
use Rattle.std.specs.Int.{int_max}
use Rattle.std.specs.List.{AllByRecursion}
use Rattle.std.proofs.lemmas.Int.{ints, clamps}
use Rattle.std.proofs.lemmas.List.{take_all}
use Rattle.tv_spec_series.specs.Families.{Row}
use Rattle.tv_reduced.specs.Orders.{StartsFrom, ReachedBy, IsOrder}

abbrev pub IsAway : {A : Type 0} → ℤ → ℤ → Row A → Type 0
IsAway n away x = away ≡ n -ℤ x.series.low

reached_next : {A : Type 0} (n k away m : ℤ) (rows : List (Row A)) (i : ℕ) → k ≤ℤ m → away ≤ℤ m → AllByRecursion (ReachedBy n k) (take i rows) → IfSome (slice_get rows i) (IsAway n away) → AllByRecursion (ReachedBy n m) (take (suc i) rows)
reached_next n k away m [] i h l all here = tt
reached_next n k away m (x ∷ rows) zero h l all here = (omega (arith, ints), tt)
reached_next n k away m (x ∷ rows) (suc i) h l all here = (let first = all.0 in omega (arith, ints), reached_next n k away m rows i h l all.1 here)

front : {A : Type 0} (P : Row A → Type 0) (rows : List (Row A)) (i : ℕ) → AllByRecursion P (take (suc i) rows) → AllByRecursion P (take i rows)
front P [] zero all = tt
front P [] (suc i) all = tt
front P (x ∷ rows) zero all = tt
front P (x ∷ rows) (suc i) all = (all.0, front P rows i all.1)

away_most : {A : Type 0} (n away low : ℤ) (rows : List (Row A)) (i : ℕ) → i < length rows → AllByRecursion (StartsFrom low) (take (suc i) rows) → IfSome (slice_get rows i) (IsAway n away) → away ≤ℤ (n -ℤ low)
away_most n away low [] i h all here = absurd (omega arith)
away_most n away low (x ∷ rows) zero h all here = let first = all.0 in omega (arith, ints)
away_most n away low (x ∷ rows) (suc i) h all here = away_most n away low rows i (omega arith) all.1 here

pub order_next : {A : Type 0} (n k away m : ℤ) (rows : List (Row A)) (i : ℕ) → i < length rows → IsOrder n (take i rows) k → IfSome (slice_get rows i) (IsAway n away) → m ≡ int_max k away → IsOrder n (take (i + 1) rows) m
order_next n k away m rows i h order here e =
    let next : i + 1 ≡ suc i = omega arith in
    rw next (record {
      least = let l = order.least in omega (arith, ints, clamps);
      reaches = reached_next n k away m rows i (omega (arith, ints, clamps)) (omega (arith, ints, clamps)) order.reaches here;
      most = λ low all. let first = order.most low (front (StartsFrom low) rows i all) in let last = away_most n away low rows i h all here in omega (arith, ints, clamps);
    })

pub order_all : {A : Type 0} (n m k : ℤ) (rows : List (Row A)) (i : ℕ) → m ≡ n → length rows ≤ i → IsOrder m (take i rows) k → IsOrder n rows k
order_all n m k rows i e h order = let whole : take i rows ≡ rows = take_all i rows h in rw (e, whole) at order
