-- Over all corners: every compact edge is met and none is pending, so that the partial count is the signed count.
use Rattle.std.specs.Prelude.{◌≡◌, ℕ, zero, suc, ◌+◌, ◌<◌, ◌≤◌, Bool, true, false, cond, not, ◌&&◌, nat_lt, ℤ, pos, ◌+ℤ◌, ◌-ℤ◌, List, [], ◌∷◌, map, filter, length, take, slice_index_or, Option, Some, None}
use Rattle.std.specs.List.{flat_map, filter_map, cons_option, AllByRecursion, range_with_len}
use Rattle.std.proofs.Common.{refl, ap, ◌∙◌, arith}
use Rattle.std.proofs.lemmas.Bool.Decides.{nat_tests}
use Rattle.tv_lemmas.proofs.Lists.{filter-none, flat_map-same}
use Rattle.tv_lemmas.proofs.Members.{all-any, all-filter}
use Rattle.tv_spec_plane.specs.declared.records.CompactEdge.{CompactEdge}
use Rattle.tv_spec_plane.specs.Tiling.{triangle_at}
use Rattle.tv_spec_plane.specs.Web.{Web, compact, compact_by, compact_edge, owners, pairs, below, opposite, has, corner_of, sign, no_edge}
use Rattle.tv_spec_boxes.specs.Assignments.{Assignment, no_legs, legs_of, all_legs, assignments_of, edge_costs, edge_twist, overlaps_of, same_choice}
use Rattle.tv_spec_boxes.specs.Configurations.{Configuration, configuration, configurations_on, configurations, configuration_sign, fillings_of, boxes_of, signed_count}
use Rattle.tv_lemmas.specs.Sums.{total}
use Rattle.tv_lemmas.proofs.Sums.{total-same}
use Rattle.tv_spec_partial.specs.Partial.{is_pending, pending, rests_on, chosen, first_legs, partial_on, partial_configurations, partial_sign, partial_count}
use Rattle.tv_laws_signs.specs.PartialLaws.{WholeIsPartial}

-- both corners of the edge are among the first n
abbrev pub IsInside : ℕ → CompactEdge → Type 0
IsInside n e = (nat_lt e.corner_c n ≡ true) × (nat_lt e.corner_d n ≡ true)

abbrev AreBelow : ℕ → List ℕ → Type 0
AreBelow n ks = AllByRecursion (λ k. nat_lt k n ≡ true) ks

numbers_below : (k m n : ℕ) → k + m ≤ n → AreBelow n (range_with_len k m)
numbers_below k zero n h = tt
numbers_below k (suc m) n h = (less k n (omega arith), numbers_below (k + 1) m n (omega arith))
  where
    less : (k n : ℕ) → k < n → nat_lt k n ≡ true
    less k n h = grind (arith, nat_tests)

owners_below : (w : Web) (a b : ℕ) → AreBelow (length w.triangles) (owners w a b)
owners_below w a b = all-filter (λ k. nat_lt k (length w.triangles) ≡ true) (λ k. nat_lt k (length w.triangles) ≡ true) (λ t. has (triangle_at w.triangles t) a && has (triangle_at w.triangles t) b) (λ k less on. less) (below (length w.triangles)) (numbers_below 0 (length w.triangles) (length w.triangles) (omega arith))

edge_inside : (n a b c t d u : ℕ) → nat_lt t n ≡ true → nat_lt u n ≡ true → IsInside n (compact_edge a b c t d u)
edge_inside n a b c t d u p q = elim (nat_lt c d) as (λ x. IsInside n (cond x (record { a = a; b = b; c = c; d = d; corner_c = t; corner_d = u }) (record { a = a; b = b; c = d; d = c; corner_c = u; corner_d = t }))) [ true ↦ (p, q) | false ↦ (q, p) ]

-- what there is, is inside
abbrev OfOption : ℕ → Option CompactEdge → Type 0
OfOption n None = Unit {0}
OfOption n (Some e) = IsInside n e

by_inside : (w : Web) (n a b : ℕ) (ts : List ℕ) → AreBelow n ts → OfOption n (compact_by w a b ts)
by_inside w n a b [] all = tt
by_inside w n a b (t ∷ []) all = tt
by_inside w n a b (t ∷ u ∷ []) all = edge_inside n a b (opposite (triangle_at w.triangles t) a b) t (opposite (triangle_at w.triangles u) a b) u all.0 all.1.0
by_inside w n a b (t ∷ u ∷ v ∷ ts) all = tt

with_one : (n : ℕ) (o : Option CompactEdge) (es : List CompactEdge) → OfOption n o → AllByRecursion (IsInside n) es → AllByRecursion (IsInside n) (cons_option o es)
with_one n None es here rest = rest
with_one n (Some e) es here rest = (here, rest)

gathered : (n : ℕ) (f : (ℕ × ℕ) → Option CompactEdge) (ps : List (ℕ × ℕ)) → ((p : ℕ × ℕ) → OfOption n (f p)) → AllByRecursion (IsInside n) (filter_map f ps)
gathered n f [] here = tt
gathered n f (p ∷ ps) here = with_one n (f p) (filter_map f ps) (here p) (gathered n f ps here)

pub compact_inside : (w : Web) → AllByRecursion (IsInside (length w.triangles)) (compact w)
unfolding compact
compact_inside w = gathered (length w.triangles) (λ p. compact_by w p.0 p.1 (owners w p.0 p.1)) (pairs (length w.points)) (λ p. by_inside w (length w.triangles) p.0 p.1 (owners w p.0 p.1) (owners_below w p.0 p.1))

pub rests : (n : ℕ) (es : List CompactEdge) (a : Assignment) → AllByRecursion (IsInside n) es → rests_on n es a ≡ true
rests n [] a all = refl
rests n (e ∷ es) [] all = refl
rests n (e ∷ es) (d ∷ a) all = rw (all.0.0) (rests n es a all.1)

pub nothing_chosen : (n : ℕ) (es : List CompactEdge) (a : Assignment) → AllByRecursion (IsInside n) es → chosen n es a ≡ []
nothing_chosen n [] a all = refl
nothing_chosen n (e ∷ es) [] all = refl
nothing_chosen n (e ∷ es) (d ∷ a) all = rw (all.0.0, all.0.1) (nothing_chosen n es a all.1)

filter-all : {A : Type 0} (p : A → Bool) (xs : List A) → ((x : A) → p x ≡ true) → filter p xs ≡ xs
filter-all p [] h = refl
filter-all p (x ∷ xs) h = rw (h x) (ap (λ ys. x ∷ ys) (filter-all p xs h))

take-maps : {A B C : Type 0} (f : B → C) (g : A → B) (xs : List A) → take (length xs) (map f (map g xs)) ≡ map f (map g xs)
take-maps f g [] = refl
take-maps f g (x ∷ xs) = ap (λ ys. f (g x) ∷ ys) (take-maps f g xs)

-- an edge between the first corners is not pending, nor is the one that stands for none
settled : (n : ℕ) (es : List CompactEdge) (k : ℕ) → AllByRecursion (IsInside n) es → is_pending n (slice_index_or es k no_edge) ≡ false
settled n [] k all = same (nat_lt 0 n)
  where
    same : (b : Bool) → cond b (not b) b ≡ false
    same true = refl
    same false = refl
settled n (e ∷ es) zero all = rw (all.0.0, all.0.1) refl
settled n (e ∷ es) (suc k) all = settled n es k all.1

first_legs-all : (w : Web) (a : Assignment) → first_legs w (length w.triangles) a ≡ all_legs w a (no_legs w)
first_legs-all w a = take-maps (legs_of a (no_legs w)) (corner_of w) w.triangles

on_all : (w : Web) (n : ℤ) (a : Assignment) → partial_on w (length w.triangles) a n ≡ configurations_on w (no_legs w) a n
on_all w n a = ap (λ legs. map (configuration a) (fillings_of legs ((n -ℤ edge_costs w a) +ℤ pos (overlaps_of legs)))) (first_legs-all w a)

sign_all : (w : Web) (c : Configuration) → partial_sign w (length w.triangles) c ≡ configuration_sign w (no_legs w) c
sign_all w c = ap (λ legs. sign (((edge_costs w c.diagrams +ℤ pos (boxes_of c.extras)) -ℤ pos (overlaps_of legs)) +ℤ edge_twist w c.diagrams)) (first_legs-all w c.diagrams)

all_configurations : (w : Web) (v : List ℤ) (n : ℤ) → partial_configurations w (length w.triangles) v n ≡ configurations w (no_legs w) v n
all_configurations w v n =
    ap (flat_map (λ a. partial_on w (length w.triangles) a n)) (filter-all (rests_on (length w.triangles) (compact w)) (assignments_of w v) (λ a. rests (length w.triangles) (compact w) a (compact_inside w)))
    ∙ flat_map-same (λ a. partial_on w (length w.triangles) a n) (λ a. configurations_on w (no_legs w) a n) (on_all w n) (assignments_of w v)

none_pending : (w : Web) → pending w (length w.triangles) ≡ []
none_pending w = filter-none (λ k. is_pending (length w.triangles) (slice_index_or (compact w) k no_edge)) (λ k. settled (length w.triangles) (compact w) k (compact_inside w)) (below (length (compact w)))

any_choice : (w : Web) (c : Configuration) → same_choice (chosen (length w.triangles) (compact w) c.diagrams) [] ≡ true
any_choice w c = ap (λ ds. same_choice ds []) (nothing_chosen (length w.triangles) (compact w) c.diagrams (compact_inside w))

whole_sum : (w : Web) (v : List ℤ) (n : ℤ) → partial_count w (length w.triangles) [] v n ≡ signed_count w (no_legs w) v n
unfolding partial_count signed_count
whole_sum w v n =
    ap (total (partial_sign w (length w.triangles))) (filter-all (λ (c : Configuration). same_choice (chosen (length w.triangles) (compact w) c.diagrams) []) (partial_configurations w (length w.triangles) v n) (any_choice w) ∙ all_configurations w v n)
    ∙ total-same (partial_sign w (length w.triangles)) (configuration_sign w (no_legs w)) (configurations w (no_legs w) v n) (all-any (λ c. partial_sign w (length w.triangles) c ≡ configuration_sign w (no_legs w) c) (sign_all w) (configurations w (no_legs w) v n))

pub whole_is_partial : WholeIsPartial
whole_is_partial w = record { none = none_pending w; same = whole_sum w }
