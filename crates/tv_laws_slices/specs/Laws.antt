-- What is true of slices and of paths of them, as laws.
--
-- often s shapes == how many of the slices in the list are s
-- SlicesOnce     == of legs that are diagrams, the lists of slices at t have exactly those that fit and have m extras, or
--                   at most k extras, each once
-- CompletionSteps == a slice takes no more extras above it than a neighbour above it that fits has and takes above it
-- HasLeastNext legs t a == a neighbour above a that fits has so many extras and takes so many above it as a does
-- LeastCompletes  == each slice that fits has one
-- pushed legs k t b c == the entries at t, each pushed to its neighbours at t + 1 that have at most the extras that are left:
--                   the sum of the ways of those that come to b with c extras
-- EntriesPush     == from the first diagonal on this is the number of ways to b, where c and the completion are at most k
-- IsChain legs first slices c == slices of the diagonals from first on, the one above all first: each fits, neighbours
--                   interlace, that at the diagonal first is the legs alone, and they have c extras in all
-- IsPath legs far i slices == a chain from the diagonal -far to far with i extras, the one above all the legs alone too
-- AreAll P lists  == exactly the lists of slices that are so, each once
-- PathsAreChains  == the number of paths is that of a list of all paths, for i at most k
-- PathsAreExtras  == the cells of a path of i extras, for i at most k, are extras, and there are i of them
-- ExtrasArePaths  == each set of i extras, for i at most k, has the cells of a path of i extras
-- PathsAreCounted == so the number of paths of i extras, for i at most k, is that of the sets of i extras
-- EntriesAreBounded == an entry has no more ways than there are paths with as many extras as its cost and its completion
use Rattle.std.specs.Prelude.{◌≡◌, ℕ, suc, ◌+◌, ◌-◌, ◌*◌, ◌≤◌, ℤ, pos, neg_ℤ, ◌≤ℤ◌, ◌+ℤ◌, Bool, true, cond, ◌&&◌, ◌↔◌, Contains, List, [], ◌∷◌, length, nat_eq, nat_le}
use Rattle.std.specs.List.{IsDistinct}
use Rattle.std.specs.Cmp.Lexicographic.{pointwise}
use Rattle.tv_lemmas.specs.Sums.{sum_of}
use Rattle.tv_cells.specs.declared.cell.Cell.{Cell}
use Rattle.tv_cells.specs.Cells.{rises}
use Rattle.tv_cells.specs.declared.legs.Legs.{Legs}
use Rattle.tv_cells.specs.Extras.{bit, extent, is_extras, count, AreDiagrams}
use Rattle.tv_spec_slices.specs.Slices.{Shape, interlaces, fits, extras_of, completion, same_shape}
use Rattle.tv_laws_slices.specs.Taken.{taken}
use Rattle.tv_spec_slices.specs.Paths.{fitting_by, fitting, diagonal_at, next_of, ways_at, is_entry, entries, paths}

abbrev pub often : Shape → List Shape → ℕ
often s shapes = sum_of (λ a. bit (same_shape s a)) shapes

pub record SlicesOnce : Type 0 where
  pub with_extras : (legs : Legs) (t : ℤ) (m : ℕ) (s : Shape) → AreDiagrams legs →
      often s (fitting_by legs t m) ≡ bit (fits legs t s && nat_eq (extras_of legs t s) m)
  pub in_all : (legs : Legs) (t : ℤ) (k : ℕ) (s : Shape) → AreDiagrams legs →
      often s (fitting legs t k) ≡ bit (fits legs t s && nat_le (extras_of legs t s) k)

abbrev pub CompletionSteps : Type 0
CompletionSteps = (legs : Legs) (t : ℤ) (a b : Shape) → AreDiagrams legs → fits legs (t +ℤ pos 1) b ≡ true → interlaces t a b ≡ true →
    completion legs t a ≤ extras_of legs (t +ℤ pos 1) b + completion legs (t +ℤ pos 1) b

pub record HasLeastNext (legs : Legs) (t : ℤ) (a : Shape) : Type 0 where
  pub next : Shape
  pub suits : fits legs (t +ℤ pos 1) next ≡ true
  pub beside : interlaces t a next ≡ true
  pub completes : extras_of legs (t +ℤ pos 1) next + completion legs (t +ℤ pos 1) next ≡ completion legs t a

abbrev pub LeastCompletes : Type 0
LeastCompletes = (legs : Legs) (t : ℤ) (a : Shape) → AreDiagrams legs → fits legs t a ≡ true → HasLeastNext legs t a

abbrev pub pushed : Legs → ℕ → ℤ → Shape → ℕ → ℕ
pushed legs k t b c =
    sum_of (λ entry. sum_of (λ d. cond (same_shape b d && nat_eq (entry.1 + extras_of legs (t +ℤ pos 1) d) c) (ways_at legs k t entry.0 entry.1) 0)
    (next_of legs t entry.0 (k - entry.1))) (entries legs k t)

abbrev pub EntriesPush : Type 0
EntriesPush =
    (legs : Legs) (k : ℕ) (t : ℤ) (b : Shape) (c : ℕ) → AreDiagrams legs → neg_ℤ (pos (k + extent legs)) ≤ℤ t → fits legs (t +ℤ pos 1) b ≡ true →
    c + completion legs (t +ℤ pos 1) b ≤ k → pushed legs k t b c ≡ ways_at legs k (t +ℤ pos 1) b c

abbrev pub EntriesAreBounded : Type 0
EntriesAreBounded =
    (legs : Legs) (k : ℕ) (t : ℤ) (s : Shape) (c : ℕ) → AreDiagrams legs → neg_ℤ (pos (k + extent legs)) ≤ℤ t → t ≤ℤ pos (k + extent legs) →
    is_entry legs k t s c ≡ true → ways_at legs k t s c ≤ paths legs k (c + completion legs t s)

abbrev pub IsChain : Legs → ℤ → List Shape → ℕ → Type 0
IsChain legs first [] c = ⊥
IsChain legs first (s ∷ []) c = (fits legs first s ≡ true) × (extras_of legs first s ≡ 0) × (c ≡ 0)
IsChain legs first (s ∷ a ∷ slices) c =
    (fits legs (diagonal_at first (suc (length slices))) s ≡ true)
    × (interlaces (diagonal_at first (length slices)) a s ≡ true)
    × (extras_of legs (diagonal_at first (suc (length slices))) s ≤ c)
    × IsChain legs first (a ∷ slices) (c - extras_of legs (diagonal_at first (suc (length slices))) s)

abbrev pub IsPath : Legs → ℕ → ℕ → List Shape → Type 0
IsPath legs far i [] = ⊥
IsPath legs far i (s ∷ slices) =
    (length slices ≡ 2 * far) × (extras_of legs (pos far) s ≡ 0) × IsChain legs (neg_ℤ (pos far)) (s ∷ slices) i

pub record AreAll (P : List Shape → Type 0) (lists : List (List Shape)) : Type 0 where
  pub each : (slices : List Shape) → Contains lists slices ↔ P slices
  pub once : IsDistinct (pointwise same_shape) lists

abbrev pub PathsAreChains : Type 0
PathsAreChains =
    (legs : Legs) (k i : ℕ) → AreDiagrams legs → i ≤ k →
    (lists : List (List Shape)) × (AreAll (IsPath legs (k + extent legs) i) lists × (length lists ≡ paths legs k i))

abbrev pub PathsAreExtras : Type 0
PathsAreExtras =
    (legs : Legs) (k i : ℕ) (slices : List Shape) → AreDiagrams legs → i ≤ k → IsPath legs (k + extent legs) i slices →
    (is_extras legs (taken legs (k + extent legs) slices) ≡ true) × (length (taken legs (k + extent legs) slices) ≡ i)

abbrev pub ExtrasArePaths : Type 0
ExtrasArePaths =
    (legs : Legs) (k i : ℕ) (cells : List Cell) → AreDiagrams legs → i ≤ k → rises cells ≡ true → is_extras legs cells ≡ true → length cells ≡ i →
    (slices : List Shape) × (IsPath legs (k + extent legs) i slices × (taken legs (k + extent legs) slices ≡ cells))

abbrev pub PathsAreCounted : Type 0
PathsAreCounted = (legs : Legs) (k i : ℕ) → AreDiagrams legs → i ≤ k → paths legs k i ≡ count legs i
