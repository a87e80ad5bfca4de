-- One series of a state joined to a corner.
--
-- lowest_kept w d n         == the lesser of the lowest and of what is one beyond the greatest exponent kept
-- IsSpan w d n low m        == d and n are within their limits, low is the lowest kept, and m is the greatest exponent kept
-- IsRange low m             == low is one beyond m at most, and both are within their limits
-- IsStage w d n low m t     == d and n are within their limits, low is the lowest kept, m is at most the greatest exponent kept and
--                              no further below low than one, and t is a corner
-- Reaches w d n b m k       == what is known through b, exponents moved by k, tells all through m: b is the greatest exponent kept,
--                              beyond which nothing is, or m, moved back, is at most b
-- IsJoin w d t h g l c v k  == h is a choice on the pending edges and g one on the new ones, of degree at most d together; l are
--                              the legs of corner t, c is the class of the new edges, with entries of at most 10,000, v that of what the corner sees, and k is
--                              the cost of the new edges less the overlap cost
-- moved_low floor m l k     == where a series begins that began at l, its exponents moved by k: at floor at least, else at m + 1
--                              at most
-- moved_at r s k low i      == its coefficient at low + i
-- moved_terms r floor m s k == the series of these coefficients through m
-- join_number w d n t h g v i == the number that is joined, of the state of h and the choice g on the new edges, at v and i
-- IsOfState r w d n t h u m s == each coefficient of the series through m is the number of the state of h at class u, times one
-- IsJoined r w d n t h g v m s == the series is known through m, starts at the lowest kept or above, and its coefficients through m
--                              are the joins into class v, times one
use Rattle.std.specs.Prelude.{◌≡◌, ◌⊎◌, Contains, ℕ, ◌<◌, ◌≤◌, ℤ, pos, ◌+ℤ◌, ◌-ℤ◌, ◌≤ℤ◌, List, length, unsigned_abs}
use Rattle.std.specs.Int.{int_min, int_max}
use Rattle.std.specs.List.{AllByRecursion}
use Rattle.tv_ring.specs.Operations.{Operations}
use Rattle.tv_ring.specs.Sums.{times}
use Rattle.tv_laws_series.specs.Terms.{Terms, terms, above, upto, listed}
use Rattle.tv_spec_plane.specs.Web.{Web, degree_of}
use Rattle.tv_cells.specs.declared.legs.Legs.{Legs}
use Rattle.tv_cells.specs.Costs.{overlap_cost}
use Rattle.tv_spec_boxes.specs.Assignments.{Rows, no_legs, class_of, edge_costs}
use Rattle.tv_spec_boxes.specs.Numbers.{lowest, box_bound}
use Rattle.tv_spec_series.specs.Families.{coefficient}
use Rattle.tv_laws_frontier.specs.Frontier.{state_number, kept_upto}
use Rattle.tv_laws_frontier.specs.Steps.{states, options, new_part, near_part, near_legs, joined}

abbrev pub lowest_kept : Web → ℕ → ℤ → ℤ
lowest_kept w d n = int_min (lowest w (no_legs w) d) (kept_upto w (no_legs w) d n +ℤ pos 1)

pub record IsSpan (w : Web) (d : ℕ) (n low m : ℤ) : Type 0 where
  pub degree : d ≤ 24
  pub order : unsigned_abs n ≤ 100000000
  pub lowest : unsigned_abs (lowest w (no_legs w) d) ≤ 10000000
  pub floor : low ≡ lowest_kept w d n
  pub upto : m ≡ kept_upto w (no_legs w) d n
  pub rises : low ≤ℤ (m +ℤ pos 1)
  pub small_low : unsigned_abs low ≤ 200000000
  pub small_upto : unsigned_abs m ≤ 200000000

pub record IsRange (low m : ℤ) : Type 0 where
  pub rises : low ≤ℤ (m +ℤ pos 1)
  pub small_low : unsigned_abs low ≤ 200000000
  pub small_upto : unsigned_abs m ≤ 200000000

pub record IsStage (w : Web) (d : ℕ) (n low m : ℤ) (t : ℕ) : Type 0 where
  pub degree : d ≤ 24
  pub order : unsigned_abs n ≤ 100000000
  pub lowest : unsigned_abs (lowest w (no_legs w) d) ≤ 10000000
  pub floor : low ≡ lowest_kept w d n
  pub upto : m ≤ℤ kept_upto w (no_legs w) d n
  pub rises : low ≤ℤ (m +ℤ pos 1)
  pub small_low : unsigned_abs low ≤ 200000000
  pub small_upto : unsigned_abs m ≤ 200000000
  pub corner : t < length w.triangles

abbrev pub Reaches : Web → ℕ → ℤ → ℤ → ℤ → ℤ → Type 0
Reaches w d n b m k = (b ≡ kept_upto w (no_legs w) d n) ⊎ ((m -ℤ k) ≤ℤ b)

pub record IsJoin (w : Web) (d t : ℕ) (h g : List Rows) (l : Legs) (c v : List ℤ) (k : ℤ) : Type 0 where
  pub first : Contains (states w d t) h
  pub new : Contains (options w d t) g
  pub legs : l ≡ near_legs w (no_legs w) t h g
  pub class : c ≡ class_of w (new_part w t g)
  pub entries : AllByRecursion (λ (x : ℤ). unsigned_abs x ≤ 10000) c
  pub near : v ≡ class_of w (near_part w t h g)
  pub within : degree_of w.heights (class_of w (near_part w t h g)) ≤ℤ pos d
  pub shift : k ≡ edge_costs w (new_part w t g) -ℤ pos (overlap_cost (near_legs w (no_legs w) t h g))
  pub small : unsigned_abs k ≤ 10000000

abbrev pub moved_low : ℤ → ℤ → ℤ → ℤ → ℤ
moved_low floor m l k = int_max floor (int_min (m +ℤ pos 1) (l +ℤ k))

unfoldable pub moved_at : {A : Type 0} → Operations A → Terms A → ℤ → ℤ → ℕ → A
moved_at r s k low i = coefficient r s ((low +ℤ pos i) -ℤ k)

abbrev pub moved_terms : {A : Type 0} → Operations A → ℤ → ℤ → Terms A → ℤ → Terms A
moved_terms r floor m s k =
    terms (moved_low floor m s.low k)
    (listed (moved_at r s k (moved_low floor m s.low k)) (above (moved_low floor m s.low k) (m +ℤ pos 1)))

abbrev pub IsOfState : {A : Type 0} → Operations A → Web → ℕ → ℤ → ℕ → List Rows → List ℤ → ℤ → Terms A → Type 0
IsOfState r w d n t h u m s =
    (i : ℤ) → i ≤ℤ m → coefficient r s i ≡ times r (state_number w (no_legs w) d (kept_upto w (no_legs w) d n) t h u i)

abbrev pub join_number : Web → ℕ → ℤ → ℕ → List Rows → List Rows → List ℤ → ℤ → ℕ
join_number w d n t h g v i =
    joined w (no_legs w) d (kept_upto w (no_legs w) d n) (box_bound n (lowest w (no_legs w) d)) t h g v i

pub record IsJoined {A : Type 0} (r : Operations A) (w : Web) (d : ℕ) (n : ℤ) (t : ℕ) (h g : List Rows) (v : List ℤ) (m : ℤ) (s : Terms A) : Type 0 where
  pub known : m ≤ℤ upto s
  pub low : lowest_kept w d n ≤ℤ s.low
  pub numbers : (i : ℤ) → i ≤ℤ m → coefficient r s i ≡ times r (join_number w d n t h g v i)
