-- What is kept after one corner more, of one assignment with diagrams on the new edges.
use Rattle.std.specs.Prelude.{◌≡◌, Contains, ℕ, zero, suc, ◌+◌, ◌*◌, ◌<◌, ◌≤◌, true, ◌||◌, ℤ, pos, negsuc, ◌+ℤ◌, ◌-ℤ◌, ◌≤ℤ◌, List, [], ◌∷◌, ◌++◌, length, filter, take}
use Rattle.std.proofs.Common.{refl, sym, ap, ◌∙◌, arith}
use Rattle.std.proofs.lemmas.Int.{ints}
use Rattle.std.proofs.lemmas.List.{take_more}
use Rattle.tv_lemmas.proofs.Naturals.{as_natural-above}
use Rattle.tv_lemmas.proofs.Sums.{sum_of-append}
use Rattle.tv_ring.specs.Sums.{total_below}
use Rattle.tv_ring.proofs.Sums.{total_below-same}
use Rattle.tv_spec_plane.specs.Web.{Web, compact}
use Rattle.tv_cells.specs.Costs.{overlap_cost}
use Rattle.tv_cells.specs.Extras.{count, empty_legs}
use Rattle.tv_spec_boxes.specs.Assignments.{Rows, Assignment, all_legs, edge_costs, cost_by, assignments, overlaps_of}
use Rattle.tv_spec_boxes.specs.Numbers.{lowest, box_bound}
use Rattle.tv_spec_partial.specs.Partial.{is_met, is_pending, rests_on}
use Rattle.tv_laws_counts.specs.Ways.{convolved, ways}
use Rattle.tv_laws_counts.proofs.Convolutions.{convolved-same, convolved-swap}
use Rattle.tv_laws_frontier.specs.Frontier.{only, start_after, corner_legs, through, kept_ways, at_number, kept_at, kept_upto}
use Rattle.tv_laws_frontier.specs.Steps.{is_new, picked, put, new_part, near_part, near_legs, before}
use Rattle.tv_laws_frontier.proofs.Agreeing.{Agrees, agrees-fewer, agrees-only}
use Rattle.tv_laws_frontier.proofs.Convolved.{convolved-at, at-same, term_at}
use Rattle.tv_laws_frontier.proofs.Corners.{corner-agrees, front-agrees}
use Rattle.tv_laws_frontier.proofs.Crowded.{starts-above}
use Rattle.tv_laws_frontier.proofs.Kept.{legs-long, through-within}
use Rattle.tv_laws_frontier.proofs.PartialSums.{only-resting}
use Rattle.tv_laws_frontier.proofs.Picked.{cost-empty}
use Rattle.tv_laws_frontier.proofs.Placed.{put-long, sum-put, agrees-other, near-agrees}
use Rattle.tv_laws_frontier.proofs.Resting.{met-apart, pending-apart, touching-near, touching-met, met-before, put-rests, rests-bare}

-- ---- assignments that agree on the met edges

start-agrees : (w : Web) (fixed : List Rows) (t : ℕ) (a b : Assignment) → t ≤ length w.triangles → Agrees (is_met t) (compact w) a b → start_after w fixed t a ≡ start_after w fixed t b
start-agrees w fixed t a b within same =
    let costs : edge_costs w (only (is_met t) (compact w) a) ≡ edge_costs w (only (is_met t) (compact w) b) = ap (edge_costs w) (agrees-only (is_met t) (compact w) a b same) in
    let overlaps : overlaps_of (take t (all_legs w a fixed)) ≡ overlaps_of (take t (all_legs w b fixed)) = ap overlaps_of (front-agrees w fixed (is_met t) a b same t within (λ s h e on. touching-met t s e h on)) in
    omega (arith, ints)

pub kept-agrees : (w : Web) (fixed : List Rows) (m : ℤ) (t : ℕ) (a b : Assignment) → t ≤ length w.triangles → Agrees (is_met t) (compact w) a b → (n : ℕ) → kept_ways w fixed m t a n ≡ kept_ways w fixed m t b n
unfolding kept_ways
kept-agrees w fixed m zero a b within same n = ap (λ z. through m (z +ℤ pos n) (ways [] n)) (start-agrees w fixed 0 a b within same)
kept-agrees w fixed m (suc t) a b within same n =
    let fewer : Agrees (is_met t) (compact w) a b = agrees-fewer (is_met (suc t)) (is_met t) (λ e on. met-before (suc t) t e (omega arith) on) (compact w) a b same in
    let legs : corner_legs w fixed t a ≡ corner_legs w fixed t b = corner-agrees w fixed (is_met (suc t)) a b same t (omega arith) (λ e on. touching-met (suc t) t e (omega arith) on) in
    ap (λ z. through m (z +ℤ pos n) (convolved (kept_ways w fixed m t a) (count (corner_legs w fixed t a)) n)) (start-agrees w fixed (suc t) a b within same)
    ∙ ap (through m (start_after w fixed (suc t) b +ℤ pos n)) (convolved-same (kept_ways w fixed m t a) (kept_ways w fixed m t b) (count (corner_legs w fixed t a)) (count (corner_legs w fixed t b)) n (λ i h. kept-agrees w fixed m t a b (omega arith) fewer i) (λ i h. ap (λ l. count l i) legs))

-- ---- one corner more

next-at : (w : Web) (fixed : List Rows) (m : ℤ) (t : ℕ) (a : Assignment) (i z : ℤ) → i ≤ℤ m → i ≡ start_after w fixed (suc t) a +ℤ z → at_number (kept_ways w fixed m (suc t) a) z ≡ at_number (convolved (count (corner_legs w fixed t a)) (kept_ways w fixed m t a)) z
unfolding kept_ways
next-at w fixed m t a i (pos n) h e =
    through-within m (start_after w fixed (suc t) a +ℤ pos n) (convolved (kept_ways w fixed m t a) (count (corner_legs w fixed t a)) n) (omega (arith, ints))
    ∙ convolved-swap (kept_ways w fixed m t a) (count (corner_legs w fixed t a)) n
next-at w fixed m t a i (negsuc n) h e = refl

module _ (w : Web) (fixed : List Rows) (t : ℕ) (within : t < length w.triangles) (g : List Rows) (b : Assignment) (long : length b ≡ length (compact w)) (new : length g ≡ length (filter (is_new t) (compact w))) (rests : rests_on t (compact w) b ≡ true) where
  abbrev after : Assignment
  after = put (is_new t) (compact w) g b

  abbrev choice : List Rows
  choice = picked (is_pending t) (compact w) b

  after-long : length after ≡ length (compact w)
  after-long = put-long (is_new t) (compact w) g b ∙ long

  met-agrees : Agrees (is_met t) (compact w) after b
  met-agrees = agrees-other (is_new t) (is_met t) (met-apart t) (compact w) g b long

  pub near-same : Agrees (λ e. is_pending t e || is_new t e) (compact w) after (near_part w t choice g)
  near-same = near-agrees (is_new t) (is_pending t) (pending-apart t) (compact w) g b long new

  legs-near : corner_legs w fixed t after ≡ near_legs w fixed t choice g
  legs-near = corner-agrees w fixed (λ e. is_pending t e || is_new t e) after (near_part w t choice g) near-same t within (touching-near t)

  start-next : start_after w fixed (suc t) after ≡ (start_after w fixed t b +ℤ edge_costs w (new_part w t g)) -ℤ pos (overlap_cost (near_legs w fixed t choice g))
  start-next =
      let whole : only (is_met (suc t)) (compact w) after ≡ after = only-resting (suc t) (compact w) after after-long (put-rests t (compact w) g b rests) in
      let part : only (is_met t) (compact w) b ≡ b = only-resting t (compact w) b long rests in
      let costs : edge_costs w (only (is_met (suc t)) (compact w) after) ≡ edge_costs w after = ap (edge_costs w) whole in
      let first : edge_costs w (only (is_met t) (compact w) b) ≡ edge_costs w b = ap (edge_costs w) part in
      let both : edge_costs w after ≡ edge_costs w b +ℤ edge_costs w (new_part w t g) = sum-put (is_new t) (cost_by w) (cost-empty w) (compact w) g b long (rests-bare t (compact w) b rests) in
      let up : t + 1 ≡ suc t = omega arith in
      let size = legs-long w fixed after in
      let more : take (suc t) (all_legs w after fixed) ≡ take t (all_legs w after fixed) ++ corner_legs w fixed t after ∷ [] = ap (λ k. take k (all_legs w after fixed)) (sym up) ∙ take_more (all_legs w after fixed) t empty_legs (omega arith) in
      let front : take t (all_legs w after fixed) ≡ take t (all_legs w b fixed) = front-agrees w fixed (is_met t) after b met-agrees t (omega arith) (λ s h e on. touching-met t s e h on) in
      let sum : overlaps_of (take (suc t) (all_legs w after fixed)) ≡ overlaps_of (take t (all_legs w after fixed)) + overlaps_of (corner_legs w fixed t after ∷ []) = ap overlaps_of more ∙ sum_of-append overlap_cost (take t (all_legs w after fixed)) (corner_legs w fixed t after ∷ []) in
      let before_it : overlaps_of (take t (all_legs w after fixed)) ≡ overlaps_of (take t (all_legs w b fixed)) = ap overlaps_of front in
      let here : overlap_cost (corner_legs w fixed t after) ≡ overlap_cost (near_legs w fixed t choice g) = ap overlap_cost legs-near in
      omega (arith, ints)

  pub kept-next : (d : ℕ) (i n : ℤ) → i ≤ℤ kept_upto w fixed d n → Contains (assignments w d) after → kept_at w fixed (kept_upto w fixed d n) (suc t) after i ≡ total_below (λ j. count (near_legs w fixed t choice g) j * kept_at w fixed (kept_upto w fixed d n) t b (before w fixed t choice g i -ℤ pos j)) (suc (box_bound n (lowest w fixed d)))
  kept-next d i n h among =
      let m = kept_upto w fixed d n in
      let z = i -ℤ start_after w fixed (suc t) after in
      let legs = near_legs w fixed t choice g in
      let above = as_natural-above ((n -ℤ lowest w fixed d) -ℤ lowest w fixed d) in
      let least = starts-above w fixed d (suc t) after among in
      next-at w fixed m t after i z h (omega (arith, ints))
      ∙ (at-same (convolved (count (corner_legs w fixed t after)) (kept_ways w fixed m t after)) (convolved (count legs) (kept_ways w fixed m t b))
      (λ k. convolved-same (count (corner_legs w fixed t after)) (count legs) (kept_ways w fixed m t after) (kept_ways w fixed m t b) k (λ j l. ap (λ x. count x j) legs-near) (λ j l. kept-agrees w fixed m t after b (omega arith) met-agrees j)) z
      ∙ (convolved-at (count legs) (kept_ways w fixed m t b) z (box_bound n (lowest w fixed d)) (omega (arith, ints))
      ∙ total_below-same (term_at (count legs) (kept_ways w fixed m t b) z) (λ j. count legs j * kept_at w fixed m t b (before w fixed t choice g i -ℤ pos j)) (suc (box_bound n (lowest w fixed d)))
      (λ j l. ap (λ x. count legs j * at_number (kept_ways w fixed m t b) x) (left-at j))))
    where
      left-at : (j : ℕ) → (i -ℤ start_after w fixed (suc t) after) -ℤ pos j ≡ (before w fixed t choice g i -ℤ pos j) -ℤ start_after w fixed t b
      left-at j = left i (start_after w fixed (suc t) after) (start_after w fixed t b) (edge_costs w (new_part w t g)) (pos (overlap_cost (near_legs w fixed t choice g))) (pos j) start-next
        where
          left : (i s r c o j : ℤ) → s ≡ (r +ℤ c) -ℤ o → (i -ℤ s) -ℤ j ≡ (((i -ℤ c) +ℤ o) -ℤ j) -ℤ r
          left i s r c o j e = omega (arith, ints)
