-- Sums over the edges that are picked from an assignment.
use Rattle.std.specs.Prelude.{◌≡◌, ℕ, zero, suc, ◌≤◌, Bool, true, false, cond, ℤ, pos, ◌-ℤ◌, ◌≤ℤ◌, List, [], ◌∷◌, take}
use Rattle.std.specs.Int.{int_min}
use Rattle.std.proofs.Common.{refl, arith}
use Rattle.std.proofs.lemmas.Int.{ints}
use Rattle.std.proofs.lemmas.Bool.Decides.{nat_tests}
use Rattle.tv_lemmas.specs.Sums.{sum_of}
use Rattle.tv_spec_plane.specs.declared.records.CompactEdge.{CompactEdge}
use Rattle.tv_spec_plane.specs.Web.{Web}
use Rattle.tv_cells.specs.Costs.{rows_cost}
use Rattle.tv_spec_boxes.specs.Assignments.{Rows, Assignment, sum_on, cost_by}
use Rattle.tv_spec_boxes.specs.Numbers.{fall_by}
use Rattle.tv_spec_partial.specs.Partial.{is_met}
use Rattle.tv_laws_frontier.specs.Frontier.{only}

-- what a diagram raises the Euler characteristic by, beyond its fall
abbrev pub rise_by : Web → CompactEdge → Rows → ℤ
rise_by w e d = cost_by w e d -ℤ fall_by w e d

pub cost-empty : (w : Web) (e : CompactEdge) → cost_by w e [] ≡ pos 0
unfolding rows_cost
cost-empty w e = refl

pub fall-empty : (w : Web) (e : CompactEdge) → fall_by w e [] ≡ pos 0
unfolding rows_cost
fall-empty w e = refl

pub rise-empty : (w : Web) (e : CompactEdge) → rise_by w e [] ≡ pos 0
unfolding rows_cost
rise-empty w e = refl

fall-number : (x : ℤ) → int_min (pos 0) x ≤ℤ pos 0
fall-number x = grind (arith, ints)

rise-number : (x : ℤ) → pos 0 ≤ℤ (x -ℤ int_min (pos 0) x)
rise-number x = grind (arith, ints)

pub fall-least : (w : Web) (e : CompactEdge) (d : Rows) → fall_by w e d ≤ℤ pos 0
fall-least w e d = fall-number (cost_by w e d)

pub rise-least : (w : Web) (e : CompactEdge) (d : Rows) → pos 0 ≤ℤ rise_by w e d
rise-least w e d = rise-number (cost_by w e d)

module _ (f : CompactEdge → Rows → ℤ) (empty : (e : CompactEdge) → f e [] ≡ pos 0) where
  more-here : (e : CompactEdge) (d : Rows) (b c : Bool) → pos 0 ≤ℤ f e d → (b ≡ true → c ≡ true) → f e (cond b d []) ≤ℤ f e (cond c d [])
  more-here e d true true h also = omega (arith, ints)
  more-here e d true false h also = absurd (let no : false ≡ true = also refl in cc)
  more-here e d false true h also = omega (arith, ints, empty e)
  more-here e d false false h also = omega (arith, ints)

  -- more edges, where each adds what is not below 0
  pub more-picked : (p q : CompactEdge → Bool) → ((e : CompactEdge) (d : Rows) → pos 0 ≤ℤ f e d) → ((e : CompactEdge) → p e ≡ true → q e ≡ true) → (es : List CompactEdge) (a : Assignment) → sum_on f es (only p es a) ≤ℤ sum_on f es (only q es a)
  more-picked p q least also [] a = omega (arith, ints)
  more-picked p q least also (e ∷ es) [] = omega (arith, ints)
  more-picked p q least also (e ∷ es) (d ∷ a) = omega (arith, ints, more-here e d (p e) (q e) (least e d) (also e), more-picked p q least also es a)

  fewer-here : (e : CompactEdge) (d : Rows) (b : Bool) → f e d ≤ℤ pos 0 → f e d ≤ℤ f e (cond b d [])
  fewer-here e d true h = omega (arith, ints)
  fewer-here e d false h = omega (arith, ints, empty e)

  -- fewer edges, where none adds what is above 0
  pub fewer-picked : (p : CompactEdge → Bool) → ((e : CompactEdge) (d : Rows) → f e d ≤ℤ pos 0) → (es : List CompactEdge) (a : Assignment) → sum_on f es a ≤ℤ sum_on f es (only p es a)
  fewer-picked p most [] a = omega (arith, ints)
  fewer-picked p most (e ∷ es) [] = omega (arith, ints)
  fewer-picked p most (e ∷ es) (d ∷ a) = omega (arith, ints, fewer-here e d (p e) (most e d), fewer-picked p most es a)

pub falls-most : (w : Web) (es : List CompactEdge) (a : Assignment) → sum_on (fall_by w) es a ≤ℤ pos 0
falls-most w [] a = omega (arith, ints)
falls-most w (e ∷ es) [] = omega (arith, ints)
falls-most w (e ∷ es) (d ∷ a) = omega (arith, ints, fall-least w e d, falls-most w es a)

pub rises-are : (w : Web) (es : List CompactEdge) (a : Assignment) → sum_on (rise_by w) es a ≡ sum_on (cost_by w) es a -ℤ sum_on (fall_by w) es a
rises-are w [] a = omega (arith, ints)
rises-are w (e ∷ es) [] = omega (arith, ints)
rises-are w (e ∷ es) (d ∷ a) = omega (arith, ints, rises-are w es a)

pub met-later : (t : ℕ) (e : CompactEdge) → is_met t e ≡ true → is_met (suc t) e ≡ true
met-later t e h = grind (arith, nat_tests)

pub sum_of-front : {A : Type 0} (f : A → ℕ) (t : ℕ) (xs : List A) → sum_of f (take t xs) ≤ sum_of f xs
sum_of-front f zero xs = omega arith
sum_of-front f (suc t) [] = omega arith
sum_of-front f (suc t) (x ∷ xs) = let rest = sum_of-front f t xs in omega arith
