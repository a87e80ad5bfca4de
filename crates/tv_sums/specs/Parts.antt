-- Tables of heights of which some places are replaced.
--
-- ways_in legs t plan i slices s c == the ways from the slices on diagonal t up to the heights of s, of which i are replaced
-- summed legs k t slices s c == what comes to s, which fits the legs above diagonal t, from those of the slices with which it
--                     interlaces, when its extras are paid
-- kept_in legs plan i s == how many costs of the heights of s are kept
-- all_done s          == every key is done
-- has_key rows s      == the rows have s as a key
-- grouped plan i rows s == the rows have, as a key, s with height 0 at the place that is replaced after i others
-- IsPart r legs t plan i slices done rows == each key is one of fitting new heights; of these keys each that has a row has that of
--                     its ways, and to each other one that is done no ways lead, as far as they are kept
-- IsEnd r legs t plan slices done rows == each slice that has a row fits above diagonal t, is low and has at most k extras; of these
--                     slices each that has a row has that of what comes to it, and to each other one whose heights are done
--                     nothing comes, as far as it is kept
use Rattle.std.specs.Prelude.{◌≡◌, ℕ, ◌<◌, ◌≤◌, ℤ, pos, ◌+ℤ◌, Bool, true, cond, List, MatchOption, is_some}
use Rattle.std.specs.List.{AllByRecursion}
use Rattle.std.specs.Map.{lookup}
use Rattle.tv_lemmas.specs.Sums.{sum_of}
use Rattle.tv_ring.specs.Operations.{Operations}
use Rattle.tv_cells.specs.declared.legs.Legs.{Legs}
use Rattle.tv_spec_slices.specs.Slices.{Shape, at, same_shape, interlaces, fits, extras_of}
use Rattle.tv_spec_slices.specs.Paths.{ways_at}
use Rattle.tv_laws_sums.specs.Mixed.{value}
use Rattle.tv_laws_sums.specs.Sums.{charged, kept, through}
use Rattle.tv_laws_sums.specs.Laws.{IsLow}
use Rattle.tv_slices.specs.declared.row.Row.{Row}
use Rattle.tv_slices.specs.Tables.{known, HasRow}
use Rattle.tv_sums.specs.declared.plan.Plan.{Plan}
use Rattle.tv_sums.specs.Plans.{left, are_fit}
use Rattle.tv_sums.specs.Keys.{key, IsKey, opened}

abbrev pub ways_in : Legs → ℤ → Plan → ℕ → List Shape → Shape → ℕ → ℕ
ways_in legs t plan i slices s c = through legs plan.k t plan.top plan.n i slices (at s) c

abbrev pub summed : Legs → ℕ → ℤ → List Shape → Shape → ℕ → ℕ
summed legs k t slices s c =
    cond (fits legs (t +ℤ pos 1) s) (sum_of (λ a. cond (interlaces t a s) (charged (ways_at legs k t a) (extras_of legs (t +ℤ pos 1) s) c) 0) slices) 0

abbrev pub kept_in : Legs → Plan → ℕ → Shape → ℕ
kept_in legs plan i s = kept plan.k (left legs plan i (at s))

abbrev pub all_done : Shape → Bool
all_done s = true

abbrev pub has_key : {V : Type 0} → List (Shape × V) → Shape → Bool
has_key rows s = is_some (lookup (same_shape s) rows)

abbrev pub grouped : {V : Type 0} → Plan → ℕ → List (Shape × V) → Shape → Bool
grouped plan i rows s = has_key rows (opened plan i s)

pub record IsPart {A : Type 0} (r : Operations A) (legs : Legs) (t : ℤ) (plan : Plan) (i : ℕ) (slices : List Shape) (done : Shape → Bool) (rows : List (Shape × Row A)) : Type 0 where
  pub keys : AllByRecursion (λ e. IsKey plan.top plan.n e.0 × (are_fit legs plan i (at e.0) ≡ true)) rows
  pub each : (s : Shape) → IsKey plan.top plan.n s → are_fit legs plan i (at s) ≡ true →
      MatchOption (lookup (same_shape s) rows) (done s ≡ true → (c : ℕ) → c < kept_in legs plan i s → ways_in legs t plan i slices s c ≡ 0) (HasRow r (ways_in legs t plan i slices s) (kept_in legs plan i s))

pub record IsEnd {A : Type 0} (r : Operations A) (legs : Legs) (t : ℤ) (plan : Plan) (slices : List Shape) (done : Shape → Bool) (rows : List (Shape × Row A)) : Type 0 where
  pub keys : AllByRecursion (λ e. (fits legs (t +ℤ pos 1) e.0 ≡ true) × (IsLow plan.top plan.n e.0 × (extras_of legs (t +ℤ pos 1) e.0 ≤ plan.k))) rows
  pub each : (s : Shape) → fits legs (t +ℤ pos 1) s ≡ true → IsLow plan.top plan.n s → extras_of legs (t +ℤ pos 1) s ≤ plan.k →
      MatchOption (lookup (same_shape s) rows) (done (key (value plan.top s) plan.n) ≡ true → (c : ℕ) → c < known legs plan.k (t +ℤ pos 1) s → summed legs plan.k t slices s c ≡ 0) (HasRow r (summed legs plan.k t slices s) (known legs plan.k (t +ℤ pos 1) s))
