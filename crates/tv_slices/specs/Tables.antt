-- Tables of the slices of a diagonal, with the numbers of ways up to each.
--
-- known legs k t s    == how many costs of s at t are kept: those that with the completion are at most k
-- ways_to legs k t s c == the ways up to s at t with cost c, none where it doesn't fit
-- HasRow r f n row    == the row's numbers are f 0, .., f (n - 1), its marks tell which are above 0, and those below its least
--                        cost are 0
-- IsTable r legs k t f rows == each slice that has a row fits, has at most k extras and the row of f at it, and of each
--                        other one f is 0 as far as it is kept
-- given legs t f b x s c == what comes to s with cost c where the numbers f are pushed to b, which has x extras
use Rattle.std.specs.Prelude.{◌≡◌, ℕ, suc, ◌+◌, ◌-◌, ◌*◌, ◌<◌, ◌≤◌, ℤ, pos, ◌+ℤ◌, true, cond, ◌&&◌, nat_le, List, MatchOption}
use Rattle.std.specs.List.{AllByRecursion}
use Rattle.std.specs.Map.{lookup}
use Rattle.tv_lemmas.specs.Sums.{sum_of}
use Rattle.tv_ring.specs.Operations.{Operations, limit}
use Rattle.tv_cells.specs.declared.legs.Legs.{Legs}
use Rattle.tv_spec_slices.specs.Slices.{Shape, fits, extras_of, completion, same_shape}
use Rattle.tv_spec_slices.specs.Paths.{ways_at, next_of}
use Rattle.tv_slices.specs.declared.row.Row.{Row}
use Rattle.tv_slices.specs.Rows.{numbers, marks}

abbrev pub known : Legs → ℕ → ℤ → Shape → ℕ
known legs k t s = suc k - completion legs t s

abbrev pub ways_to : Legs → ℕ → ℤ → Shape → ℕ → ℕ
ways_to legs k t s c = cond (fits legs t s) (ways_at legs k t s c) 0

pub record HasRow {A : Type 0} (r : Operations A) (f : ℕ → ℕ) (n : ℕ) (row : Row A) : Type 0 where
  pub counts : row.counts.items ≡ numbers r f n
  pub reached : row.reached.items ≡ marks f n
  pub least : (c : ℕ) → c < n → c < row.least → f c ≡ 0

pub record IsTable {A : Type 0} (r : Operations A) (legs : Legs) (k : ℕ) (t : ℤ) (f : Shape → ℕ → ℕ) (rows : List (Shape × Row A)) : Type 0 where
  pub each : (s : Shape) → MatchOption (lookup (same_shape s) rows) ((c : ℕ) → c < known legs k t s → f s c ≡ 0) (HasRow r (f s) (known legs k t s))
  pub suits : AllByRecursion (λ e. (fits legs t e.0 ≡ true) × (extras_of legs t e.0 ≤ k)) rows

abbrev pub given : (ℕ → ℕ) → Shape → ℕ → Shape → ℕ → ℕ
given f b x s c = cond (same_shape b s && nat_le x c) (f (c - x)) 0

-- Pushes r legs k t f n row b == what the row of f tells is pushed to b at t, which fits and has at most k extras
-- with_one legs t f b g  == g, with what comes from f to b
-- pushed legs k t m a s c == what comes to s with cost c from the slice a, pushed to its neighbours of at most m extras
-- with_slice legs k t m a g == g, with that
-- IsTooMany r legs k t f == one of the numbers of f that are kept, times the size of one, exceeds the limit
pub record Pushes {A : Type 0} (r : Operations A) (legs : Legs) (k : ℕ) (t : ℤ) (f : ℕ → ℕ) (n : ℕ) (row : Row A) (b : Shape) : Type 0 where
  pub has : HasRow r f n row
  pub long : known legs k t b ≤ n + extras_of legs t b
  pub suits : fits legs t b ≡ true
  pub few : extras_of legs t b ≤ k

unfoldable pub with_one : Legs → ℤ → (ℕ → ℕ) → Shape → (Shape → ℕ → ℕ) → Shape → ℕ → ℕ
with_one legs t f b g s c = g s c + given f b (extras_of legs t b) s c

unfoldable pub pushed : Legs → ℕ → ℤ → ℕ → Shape → Shape → ℕ → ℕ
pushed legs k t m a s c = sum_of (λ b. given (ways_at legs k t a) b (extras_of legs (t +ℤ pos 1) b) s c) (next_of legs t a m)

unfoldable pub with_slice : Legs → ℕ → ℤ → ℕ → Shape → (Shape → ℕ → ℕ) → Shape → ℕ → ℕ
with_slice legs k t m a g s c = g s c + pushed legs k t m a s c

pub record IsTooMany {A : Type 0} (r : Operations A) (legs : Legs) (k : ℕ) (t : ℤ) (f : Shape → ℕ → ℕ) : Type 0 where
  pub slice : Shape
  pub cost : ℕ
  pub suits : fits legs t slice ≡ true
  pub kept : cost < known legs k t slice
  pub beyond : limit < f slice cost * r.size r.unit
