-- The signed count of a web of one triangle is the count of its corner, with the sign of the exponent.
use Rattle.std.proofs.Common.{◌≡◌, ℕ, ◌+◌, ◌-◌, ◌%◌, ◌<◌, ℤ, pos, negsuc, ◌+ℤ◌, List, [], ◌∷◌, ◌++◌, map, length, cond, Bool, true, false, refl, ap, ◌∙◌, arith, zero-add, append-nil, nat_eq}
use Rattle.std.proofs.lemmas.Int.{ints}
use Rattle.std.proofs.lemmas.Bool.Decides.{nat_tests}
use Rattle.std.specs.List.{flat_map, AllByRecursion}
use Rattle.std.proofs.lemmas.List.{length-map}
use Rattle.std.proofs.lemmas.List.Concat.{flat_map_single}
use Rattle.tv_lemmas.specs.Naturals.{as_natural}
use Rattle.tv_lemmas.proofs.Members.{all-map, all-filter}
use Rattle.tv_spec_plane.specs.Web.{Web, sign, degree_of}
use Rattle.tv_cells.specs.declared.cell.Cell.{Cell}
use Rattle.tv_cells.specs.declared.legs.Legs.{Legs}
use Rattle.tv_cells.specs.Cells.{cube, sublists_of}
use Rattle.tv_cells.specs.Costs.{overlap_cost, overlaps}
use Rattle.tv_cells.specs.Extras.{is_extras, extent, count, empty_legs}
use Rattle.tv_spec_boxes.specs.Assignments.{all_legs, no_legs, zeros, assignments, choices, assignments_of, edge_costs, edge_twist, overlaps_of}
use Rattle.tv_spec_boxes.specs.Configurations.{Configuration, extras_of, fillings, configuration, configurations, configuration_sign, boxes_left, chi_of, signed_count}
use Rattle.tv_spec_boxes.proofs.OneCorner.{IsOneCorner, with_sign, corner_coefficient}
use Rattle.tv_spec_boxes.proofs.OneCornerWeb.{IsBare, one_corner_bare}
use Rattle.tv_lemmas.specs.Sums.{total}
use Rattle.tv_lemmas.proofs.Sums.{total-alike}
use Rattle.tv_lemmas.proofs.Lists.{flat_map-none, flat_map-last}
use Rattle.tv_cells.proofs.Sublists.{sublists_of-length}

-- the boxes of one corner alone
abbrev pub alone : List Cell → List (List Cell)
alone cells = cells ∷ []

part : Legs → ℕ → ℕ → ℕ → List (List (List Cell))
part legs side n i = flat_map (λ cells. map (λ others. cells ∷ others) (cond (nat_eq (n - i) 0) ([] ∷ []) [])) (extras_of legs side i)

part-none : (legs : Legs) (side n i : ℕ) (b : Bool) → nat_eq (n - i) 0 ≡ b → b ≡ false → part legs side n i ≡ []
unfolding part
part-none legs side n i b e f = let none : nat_eq (n - i) 0 ≡ false = e ∙ f in rw none (flat_map-none (extras_of legs side i))

part-all : (legs : Legs) (side n i : ℕ) → nat_eq (n - i) 0 ≡ true → part legs side n i ≡ map alone (extras_of legs side i)
unfolding part
part-all legs side n i e = rw e (flat_map_single alone (extras_of legs side i))

not_yet : (n i : ℕ) → i < n → nat_eq (n - i) 0 ≡ false
not_yet n i h = grind (arith, nat_tests)

spent : (n : ℕ) → nat_eq (n - n) 0 ≡ true
spent n = grind (arith, nat_tests)

pub fillings-one : (legs : Legs) (n : ℕ) → fillings (legs ∷ []) n n ≡ map alone (extras_of legs n n)
unfolding fillings part
fillings-one legs n = flat_map-last (part legs n n) 0 n (λ j h. part-none legs n n j _ refl (not_yet n j (omega arith))) ∙ (ap (part legs n n) (zero-add n) ∙ part-all legs n n n (spent n))

pub only_assignment : (w : Web) → IsBare w → (d : ℕ) → assignments w d ≡ [] ∷ []
unfolding assignments choices
only_assignment w h d = rw h.edges refl

pub only_of_class : (w : Web) → IsBare w → assignments_of w (zeros 3) ≡ [] ∷ []
only_of_class w h = let e = only_assignment w h (as_natural (degree_of w.heights (zeros 3))) in rw (e, h.edges, h.points) refl

-- the sign at a corner of n boxes
abbrev sign_at : ℕ → ℤ
sign_at n = sign (pos n)

no_costs : (w : Web) → IsBare w → (edge_costs w [] ≡ pos 0) × (edge_twist w [] ≡ pos 0) × (overlaps_of (all_legs w [] (no_legs w)) ≡ 0)
unfolding overlap_cost overlaps cube
no_costs w h = (rw h.edges refl, rw h.edges refl, rw h.legs refl)

left : (w : Web) → IsBare w → (n : ℤ) → boxes_left w (no_legs w) [] n ≡ n
left w h n = let c = no_costs w h in rw (c.0, c.2) (omega (arith, ints))

list_of : (w : Web) → IsBare w → (n : ℕ) → configurations w (no_legs w) (zeros 3) (pos n) ≡ map (configuration []) (map alone (extras_of empty_legs n n)) ++ []
list_of w h n = rw (only_of_class w h, left w h (pos n), h.legs, fillings-one empty_legs n) refl

-- at n boxes the Euler characteristic is n
chi_alone : (w : Web) → IsBare w → (cells : List Cell) → chi_of w (no_legs w) (configuration [] (alone cells)) ≡ pos (length cells)
chi_alone w h cells = let c = no_costs w h in rw (c.0, c.2) (omega (arith, ints))

sign_alone : (w : Web) → IsBare w → (n : ℕ) (cells : List Cell) → length cells ≡ n → configuration_sign w (no_legs w) (configuration [] (alone cells)) ≡ sign (pos n)
sign_alone w h n cells e = let c = no_costs w h in let twisted : configuration_sign w (no_legs w) (configuration [] (alone cells)) ≡ sign (pos (length cells) +ℤ pos 0) = rw (chi_alone w h cells, c.1) refl in
    let at_n : pos (length cells) +ℤ pos 0 ≡ pos n = omega (arith, ints) in twisted ∙ ap sign at_n

-- each configuration has it
signs : (w : Web) → IsBare w → (n : ℕ) → AllByRecursion (λ c. configuration_sign w (no_legs w) c ≡ sign (pos n)) (map (configuration []) (map alone (extras_of empty_legs n n)))
signs w h n =
    let Signed : Configuration → Type 0 = λ c. configuration_sign w (no_legs w) c ≡ sign (pos n) in
    all-map (λ cs. Signed (configuration [] cs)) Signed (configuration []) (λ cs e. e) (map alone (extras_of empty_legs n n))
    (all-map (λ cells. length cells ≡ n) (λ cs. Signed (configuration [] cs)) alone (sign_alone w h n) (extras_of empty_legs n n)
    (all-filter (λ cells. length cells ≡ n) (λ cells. length cells ≡ n) (is_extras empty_legs) (λ cells e on. e) (sublists_of n (cube (n + extent empty_legs))) (sublists_of-length n (cube (n + extent empty_legs)))))

total-with_sign : {A : Type 0} (f : A → ℤ) (even : Bool) (xs : List A) → AllByRecursion (λ x. f x ≡ cond even (pos 1) (negsuc 0)) xs → total f xs ≡ with_sign even (length xs)
total-with_sign f true xs h = let e = total-alike f (pos 1) xs h in omega (arith, ints)
total-with_sign f false xs h = let e = total-alike f (negsuc 0) xs h in omega (arith, ints)

pub one_corner_count : (w : Web) → IsOneCorner w → (n : ℕ) → signed_count w (no_legs w) (zeros 3) (pos n) ≡ with_sign (nat_eq (n % 2) 0) (count empty_legs n)
unfolding signed_count count
one_corner_count w one n = let h = one_corner_bare w one in
    rw (list_of w h n) (ap (total (configuration_sign w (no_legs w))) (append-nil (map (configuration []) (map alone (extras_of empty_legs n n))))
    ∙ (total-with_sign (configuration_sign w (no_legs w)) (nat_eq (n % 2) 0) _ (signs w h n)
    ∙ ap (with_sign (nat_eq (n % 2) 0)) (length-map (map alone (extras_of empty_legs n n)) (configuration []) ∙ length-map (extras_of empty_legs n n) alone)))

pub one_corner_below : (w : Web) → IsOneCorner w → (n : ℕ) → signed_count w (no_legs w) (zeros 3) (negsuc n) ≡ pos 0
unfolding signed_count
one_corner_below w one n = let h = one_corner_bare w one in rw (only_of_class w h, left w h (negsuc n)) refl

pub one_corner_coefficient : (w : Web) → IsOneCorner w → (n : ℤ) → signed_count w (no_legs w) (zeros 3) n ≡ corner_coefficient n
one_corner_coefficient w one (pos n) = one_corner_count w one n
one_corner_coefficient w one (negsuc n) = one_corner_below w one n
