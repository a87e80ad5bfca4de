-- The rule of an edge bounds its normal degrees: r times the way from a to b is the sum of the ways from a to c and to d,
-- each coordinate of which is at most 400, and a and b are apart.
use Rattle.std.specs.Prelude.{◌≡◌, ◌≢◌, ℕ, zero, suc, ◌+◌, ◌<◌, ◌≤◌, ◌⊎◌, Bool, true, false, cond, ◌||◌, nat_eq, ℤ, pos, negsuc, ◌+ℤ◌, ◌-ℤ◌, ◌*ℤ◌, map, length, unsigned_abs}
use Rattle.std.specs.List.{AllByRecursion, range_with_len}
use Rattle.std.proofs.Common.{refl, inl, inr, arith, lit≤, ◌*◌}
use Rattle.std.proofs.lemmas.Int.{ints, unsigned_abs-mul}
use Rattle.std.proofs.Math.Nat.{mul-le-mul}
use Rattle.tv_spec_plane.specs.declared.records.CompactEdge.{CompactEdge}
use Rattle.tv_spec_plane.specs.Plane.{Point, origin, at, turn}
use Rattle.tv_spec_plane.specs.Web.{Web, compact, edge_ratio, normal_a, normal_b, class_entry, edge_class, no_edge}
use Rattle.tv_lemmas.proofs.Integers.{mul-sub, sub-mul}
use Rattle.tv_lemmas.proofs.Signs.{sign}
use Rattle.tv_lattice.specs.Limits.{IsCoordinate, HasCoordinates}
use Rattle.tv_lemmas.proofs.Members.{all-at}
use Rattle.tv_laws_edges.specs.Rule.{HasSides, ratio, HasRule, HasEdgeRule}
use Rattle.tv_laws_edges.proofs.Rules.{ratio-rule}
use Rattle.tv_degrees.specs.Edges.{edge_at, IsNormalDegree}

-- a product with a factor that isn't 0
factor-le : (r u : ℤ) (n : ℕ) → u ≢ pos 0 → unsigned_abs (r *ℤ u) ≤ n → unsigned_abs r ≤ n
factor-le r u n apart h =
    let one : 1 ≤ unsigned_abs u = not_zero u apart in
    let more : unsigned_abs r * 1 ≤ unsigned_abs r * unsigned_abs u = mul-le-mul (let e : unsigned_abs r ≤ unsigned_abs r = omega arith in e) one in
    omega (arith, unsigned_abs-mul r u)
  where
    not_zero : (u : ℤ) → u ≢ pos 0 → 1 ≤ unsigned_abs u
    not_zero (pos zero) apart = absurd (apart refl)
    not_zero (pos (suc n)) apart = omega arith
    not_zero (negsuc n) apart = omega (arith, ints)

way : (a b c d p r : ℤ) → p +ℤ r ≡ pos 2 → c +ℤ d ≡ (p *ℤ a) +ℤ (r *ℤ b) → r *ℤ (b -ℤ a) ≡ ((c +ℤ d) -ℤ a) -ℤ a
way a b c d p r two e =
    let q : p ≡ pos 2 -ℤ r = omega (arith, ints) in
    let f = rw (q, sub-mul (pos 2) r a) at e in
    rw (mul-sub r b a) (omega (arith, ints))

way-le : (a b c d p r : ℤ) → IsCoordinate a → IsCoordinate c → IsCoordinate d → p +ℤ r ≡ pos 2 → c +ℤ d ≡ (p *ℤ a) +ℤ (r *ℤ b) → unsigned_abs (r *ℤ (b -ℤ a)) ≤ 400
way-le a b c d p r small third fourth two e = rw (way a b c d p r two e) (omega (arith, ints))

turn-same : (a b c : Point) → b.x -ℤ a.x ≡ pos 0 → b.y -ℤ a.y ≡ pos 0 → turn a b c ≡ pos 0
unfolding turn
turn-same a b c x y = rw (x, y) (omega (arith, ints))

turns : (a b c d : Point) → HasSides a b c d → turn a b c ≢ pos 0
turns a b c d (inl ones) e = absurd (omega (arith, ints, ones.0))
turns a b c d (inr minus) e = absurd (omega (arith, ints, minus.0))

zero_or_not : (z : ℤ) → (z ≡ pos 0) ⊎ (z ≢ pos 0)
zero_or_not z = elim (sign z) [
  | inl less ↦ inr (λ e. absurd (omega (arith, ints)))
  | inr (inl same) ↦ inl same
  | inr (inr more) ↦ inr (λ e. absurd (omega (arith, ints)))
]

ratio-le : (a b c d : Point) → HasCoordinates a → HasCoordinates c → HasCoordinates d → HasSides a b c d → unsigned_abs (ratio a b c d) ≤ 400
ratio-le a b c d first third fourth sides =
    let rule = ratio-rule a b c d sides in
    elim (zero_or_not (b.x -ℤ a.x)) [
      | inr apart ↦ factor-le (ratio a b c d) (b.x -ℤ a.x) 400 apart (way-le a.x b.x c.x d.x (pos 2 -ℤ ratio a b c d) (ratio a b c d) first.0 third.0 fourth.0 rule.two rule.x)
      | inl same ↦ elim (zero_or_not (b.y -ℤ a.y)) [
        | inr apart ↦ factor-le (ratio a b c d) (b.y -ℤ a.y) 400 apart (way-le a.y b.y c.y d.y (pos 2 -ℤ ratio a b c d) (ratio a b c d) first.1 third.1 fourth.1 rule.two rule.y)
        | inl both ↦ absurd (turns a b c d sides (turn-same a b c same both))
      ]
    ]

-- of an edge of a web
edge_ratio-le : (w : Web) (e : CompactEdge) → AllByRecursion HasCoordinates w.points → HasRule w e → unsigned_abs (edge_ratio w e) ≤ 400
unfolding edge_ratio
edge_ratio-le w e small rule = ratio-le (at w.points e.a) (at w.points e.b) (at w.points e.c) (at w.points e.d) (all-at HasCoordinates w.points origin small e.a rule.a) (all-at HasCoordinates w.points origin small e.c rule.c) (all-at HasCoordinates w.points origin small e.d rule.d) rule.sides

pub normal_a-small : (w : Web) (e : CompactEdge) → AllByRecursion HasCoordinates w.points → HasRule w e → IsNormalDegree (normal_a w e)
normal_a-small w e small rule = omega (arith, ints, edge_ratio-le w e small rule)

pub normal_b-small : (w : Web) (e : CompactEdge) → AllByRecursion HasCoordinates w.points → HasRule w e → IsNormalDegree (normal_b w e)
normal_b-small w e small rule = omega (arith, ints, edge_ratio-le w e small rule)

-- each entry of its class is 1, a normal degree or 0
entry-small : (m n : ℤ) (one first second : Bool) → IsNormalDegree m → IsNormalDegree n → IsNormalDegree (cond one (pos 1) (cond first m (cond second n (pos 0))))
entry-small m n true first second h k = lit≤ tt
entry-small m n false true second h k = h
entry-small m n false false true h k = k
entry-small m n false false false h k = lit≤ tt

entries-small : (f : ℕ → ℤ) → ((k : ℕ) → IsNormalDegree (f k)) → (k n : ℕ) → AllByRecursion IsNormalDegree (map f (range_with_len k n))
entries-small f each k zero = tt
entries-small f each k (suc n) = (each k, entries-small f each (k + 1) n)

pub class_entries-small : (w : Web) (e : CompactEdge) → AllByRecursion HasCoordinates w.points → HasRule w e → AllByRecursion IsNormalDegree (edge_class w e)
class_entries-small w e small rule =
    let first = normal_a-small w e small rule in let second = normal_b-small w e small rule in
    entries-small (class_entry w e) (λ k. entry-small (normal_a w e) (normal_b w e) (nat_eq k e.c || nat_eq k e.d) (nat_eq k e.a) (nat_eq k e.b) first second) 0 (length w.points)

-- by the number of the edge
pub rule_at : (w : Web) (e : ℕ) → e < length (compact w) → HasEdgeRule w → HasRule w (edge_at w e)
rule_at w e h rule = all-at (HasRule w) (compact w) no_edge rule e h
