-- What is summed along the frontier of a web once some of its corners are done.
--
-- ChosenFamily A       == a choice of diagrams on the pending edges, and a family of series
-- Partials A           == numbers of edges, and such choices with their families
-- HasPartialCounts r w n t k row == each coefficient of the row through n is the sum of the signs of the configurations of its
--                         class there over the first t corners, with the diagrams k on the pending edges, times one
-- IsPartialRow r w d n t k row == and its series is known through n, and starts at `lowest` or above, or beyond n
-- AreStateClasses w d t k vs == every class that the state of k has, each once, in order
-- IsPartialFamily r w d n t k f == a family of the web to degree d and through n, which has these classes, and each row of which
--                         is so
-- IsFrontier r w d n t f == the pending edges, rising; the choices of degree at most d on them, each once, in order; and with
--                         each its family
use Rattle.std.specs.Prelude.{◌≡◌, Contains, ℕ, ℤ, pos, ◌+ℤ◌, ◌≤ℤ◌, List, map}
use Rattle.std.specs.Int.{int_min}
use Rattle.std.specs.List.{AllByRecursion}
use Rattle.tv_ring.specs.Operations.{Operations}
use Rattle.tv_ring.specs.Sums.{whole_times}
use Rattle.tv_laws_series.specs.Terms.{upto}
use Rattle.tv_spec_plane.specs.Web.{Web}
use Rattle.tv_spec_boxes.specs.Assignments.{Rows, no_legs}
use Rattle.tv_spec_boxes.specs.Classes.{ClassesRise}
use Rattle.tv_spec_boxes.specs.Numbers.{lowest}
use Rattle.tv_spec_partial.specs.Partial.{pending, partial_count}
use Rattle.tv_spec_series.specs.Families.{Row, Family, classes, coefficient}
use Rattle.tv_laws_frontier.specs.Steps.{states}
use Rattle.tv_laws_frontier.specs.StateClasses.{HasClass}

pub record ChosenFamily (A : Type 0) : Type 0 where
  pub choice : List Rows
  pub family : Family A

pub record Partials (A : Type 0) : Type 0 where
  pub pending : List ℕ
  pub states : List (ChosenFamily A)

abbrev pub HasPartialCounts : {A : Type 0} → Operations A → Web → ℤ → ℕ → List Rows → Row A → Type 0
HasPartialCounts r w n t k row = (i : ℤ) → i ≤ℤ n → coefficient r row.series i ≡ whole_times r (partial_count w t k row.class i)

pub record IsPartialRow {A : Type 0} (r : Operations A) (w : Web) (d : ℕ) (n : ℤ) (t : ℕ) (k : List Rows) (row : Row A) : Type 0 where
  pub counts : HasPartialCounts r w n t k row
  pub known : upto row.series ≡ n
  pub low : int_min (lowest w (no_legs w) d) (n +ℤ pos 1) ≤ℤ row.series.low

pub record AreStateClasses (w : Web) (d t : ℕ) (k : List Rows) (vs : List (List ℤ)) : Type 0 where
  pub rises : ClassesRise w.heights vs
  pub each : AllByRecursion (HasClass w d t k) vs
  pub whole : (v : List ℤ) → HasClass w d t k v → Contains vs v

pub record IsPartialFamily {A : Type 0} (r : Operations A) (w : Web) (d : ℕ) (n : ℤ) (t : ℕ) (k : List Rows) (f : Family A) : Type 0 where
  pub heights : f.heights ≡ w.heights
  pub top : f.top ≡ pos d
  pub upto : f.upto ≡ n
  pub classes : AreStateClasses w d t k (classes f.rows)
  pub rows : AllByRecursion (IsPartialRow r w d n t k) f.rows

pub record IsFrontier {A : Type 0} (r : Operations A) (w : Web) (d : ℕ) (n : ℤ) (t : ℕ) (f : Partials A) : Type 0 where
  pub pending : f.pending ≡ pending w t
  pub choices : map (λ s. s.choice) f.states ≡ states w d t
  pub each : AllByRecursion (λ s. IsPartialFamily r w d n t s.choice s.family) f.states
