-- A set of extras, cut into slices: they fit, neighbours interlace, and their cells are those of the set.
use Rattle.std.specs.Prelude.{◌≡◌, ◌⊎◌, ℕ, zero, suc, ◌+◌, ◌-◌, ◌*◌, ◌<◌, ◌≤◌, ℤ, pos, negsuc, ◌+ℤ◌, neg_ℤ, max, Bool, true, false, not, ◌&&◌, ◌||◌, nat_eq, nat_lt, nat_le, List, [], ◌∷◌, filter, length, slice_index, nat_abs}
use Rattle.std.specs.List.{list_any}
use Rattle.std.specs.Cmp.{both_ways}
use Rattle.std.proofs.Common.{refl, sym, ap, subst, ◌∙◌, arith, inl, inr}
use Rattle.std.proofs.lemmas.Int.{ints}
use Rattle.std.proofs.lemmas.Bool.{cases_eq, cases_lt, cond-true, cond-false, and_parts, and_from, or_cases, or_left, or_right, le-leb, lt-ltb, le-ltb, ltb-true, ltb-false, eq-eqb, false_from_ne_true}
use Rattle.std.proofs.lemmas.Bool.Decides.{nat_tests}
use Rattle.tv_lemmas.specs.Sums.{sum_of}
use Rattle.tv_cells.specs.declared.cell.Cell.{Cell}
use Rattle.tv_cells.specs.declared.legs.Legs.{Legs}
use Rattle.tv_cells.specs.Cells.{cell, same, below, x_from, y_from, cube, rises}
use Rattle.tv_cells.specs.Extras.{bit, legs_at, in_union, is_extras, extent, AreDiagrams, IsExtras}
use Rattle.tv_cells.proofs.Downward.{test_is_relation}
use Rattle.tv_laws_counts.proofs.Reaching.{extras_within}
use Rattle.tv_spec_slices.specs.Falling.{falls}
use Rattle.tv_spec_slices.specs.Slices.{Shape, at, reach, covers, all_below, interlaces_at, interlaces, base_at, is_endless, over, fits_at, fits, extras_of}
use Rattle.tv_spec_slices.specs.Paths.{diagonal_at, full_of, shape}
use Rattle.tv_laws_slices.specs.Taken.{on, place, in_slice, inside, taken}
use Rattle.tv_laws_slices.proofs.Sums.{sum_of-zeros}
use Rattle.tv_laws_slices.proofs.Bases.{base-past, endless-first, endless-inside}
use Rattle.tv_laws_slices.proofs.Fits.{below-from, one-fits, falls-parts, full-inside}
use Rattle.tv_laws_slices.proofs.Steps.{sum_of-last, sum_of-below, behind}
use Rattle.tv_laws_slices.proofs.Least.{both-covers, trim, trim-at, trim-falls, ahead, endless-behind, endless-ahead, x-pos, y-pos, x-neg, y-neg, next_plus, plus_next}
use Rattle.tv_laws_slices.proofs.Inside.{pick, pick-first, pick-later, inside-some, inside-at, count-either, slice-count, no-leg}
use Rattle.tv_lemmas.proofs.Lists.{filter-none}
use Rattle.tv_laws_slices.proofs.Chains.{last-diagonal}
use Rattle.tv_cells.proofs.Cubes.{cube-rises, cube-has}
use Rattle.tv_laws_counts.proofs.Rises.{rises-filter, any-filter, rising_same}
use Rattle.tv_laws_slices.proofs.Taken.{start, row-inside, apart-slices}
use Rattle.tv_laws_slices.proofs.Closed.{leg-place, x-of-place, y-of-place}
use Rattle.tv_laws_slices.specs.Laws.{IsChain, IsPath, ExtrasArePaths}

-- a test that passes with a number also each lower one passes exactly as many first ones
abbrev passed : (ℕ → Bool) → ℕ → ℕ
passed q n = sum_of (λ z. bit (q z)) (below n)

lower-all : (q : ℕ → Bool) → ((z : ℕ) → q (suc z) ≡ true → q z ≡ true) → (d z : ℕ) → q (z + d) ≡ true → q z ≡ true
lower-all q down zero z h = let e : z + 0 ≡ z = omega arith in ap q (sym e) ∙ h
lower-all q down (suc d) z h = let e : z + suc d ≡ suc (z + d) = omega arith in lower-all q down d z (down (z + d) (ap q (sym e) ∙ h))

first-ones : (q : ℕ → Bool) → ((z : ℕ) → q (suc z) ≡ true → q z ≡ true) → (n : ℕ) → (passed q n ≤ n) × ((z : ℕ) → z < n → q z ≡ nat_lt z (passed q n))
first-ones q down zero = (omega arith, λ z l. absurd (omega arith))
first-ones q down (suc n) = by_test (q n) refl (first-ones q down n)
  where
    later : (z : ℕ) → z ≤ n → q n ≡ true → q z ≡ true
    later z l h = let e : z + (n - z) ≡ n = omega arith in lower-all q down (n - z) z (ap q e ∙ h)

    by_test : (b : Bool) → q n ≡ b → (passed q n ≤ n) × ((z : ℕ) → z < n → q z ≡ nat_lt z (passed q n)) → (passed q (suc n) ≤ suc n) × ((z : ℕ) → z < suc n → q z ≡ nat_lt z (passed q (suc n)))
    by_test true e before =
        let last : passed q (suc n) ≡ 1 + passed q n = sum_of-last (λ z. bit (q z)) n ∙ ap (λ b. bit b + passed q n) e in
        let full : passed q n ≡ n = all_of (cases_lt (passed q n) n) in
        (omega arith, λ z l. later z (omega arith) e ∙ sym (lt-ltb z (passed q (suc n)) (omega arith)))
      where
        all_of : (passed q n < n) ⊎ (n ≤ passed q n) → passed q n ≡ n
        all_of (inl l) = absurd (let f = before.1 (passed q n) l ∙ le-ltb (passed q n) (passed q n) (omega arith) in let g = later (passed q n) (omega arith) e in let x : ⊥ = cc in x)
        all_of (inr m) = let l = before.0 in omega arith
    by_test false e before =
        let last : passed q (suc n) ≡ 0 + passed q n = sum_of-last (λ z. bit (q z)) n ∙ ap (λ b. bit b + passed q n) e in
        let most = before.0 in
        let same : passed q (suc n) ≡ passed q n = omega arith in
        (omega arith, λ z l. rw same (at_place z l))
      where
        at_place : (z : ℕ) → z < suc n → q z ≡ nat_lt z (passed q n)
        at_place z l = elim (cases_eq z n) [
          | inl is ↦ ap q is ∙ (e ∙ sym (le-ltb z (passed q n) (let m = before.0 in omega arith)))
          | inr ne ↦ before.1 z (omega (arith, ne))
        ]

falls-length : (hs : List ℕ) (i : ℕ) → falls hs ≡ true → slice_index hs i ≡ 0 → length hs ≤ i
falls-length [] i f e = omega arith
falls-length (h ∷ hs) zero f e = let p = (falls-parts h hs f).0 in absurd (omega arith)
falls-length (h ∷ hs) (suc i) f e = let rest = falls-length hs i (falls-parts h hs f).2 e in omega arith

module _ (legs : Legs) (set : List Cell) (w : ℕ) (are : AreDiagrams legs) (good : is_extras legs set ≡ true) (few : length set + extent legs ≤ w) where
  abbrev side : ℕ
  side = suc (w + w)

  abbrev tall : ℕ → ℕ → ℕ
  tall x y = passed (λ z. in_union legs set (cell x y z)) side

  relation : IsExtras legs set
  relation = (test_is_relation legs set are).0 good

  tall-tells : (x y z : ℕ) → z < side → in_union legs set (cell x y z) ≡ nat_lt z (tall x y)
  tall-tells x y z l = (first-ones (λ v. in_union legs set (cell x y v)) (λ v h. relation.closed.along_z x y v h) side).1 z l

  less-bit : (p q : Bool) → (p ≡ true → q ≡ true) → bit p ≤ bit q
  less-bit true q h = let e : bit q ≡ 1 = ap bit (h refl) in omega arith
  less-bit false q h = omega arith

  tall-x : (x y : ℕ) → tall (suc x) y ≤ tall x y
  tall-x x y = sum_of-below (λ z. bit (in_union legs set (cell (suc x) y z))) (λ z. bit (in_union legs set (cell x y z))) 0 side (λ z l m. less-bit _ _ (λ h. relation.closed.along_x x y z h))

  tall-y : (x y : ℕ) → tall x (suc y) ≤ tall x y
  tall-y x y = sum_of-below (λ z. bit (in_union legs set (cell x (suc y) z))) (λ z. bit (in_union legs set (cell x y z))) 0 side (λ z l m. less-bit _ _ (λ h. relation.closed.along_y x y z h))

  abbrev high : ℤ → ℕ → ℕ
  high t d = tall (d + x_from t) (d + y_from t)

  high-next : (t : ℤ) (d : ℕ) → high t (suc d) ≤ high t d
  high-next t d =
      through (high t (suc d)) (tall (suc (d + x_from t)) (suc (d + y_from t))) (tall (d + x_from t) (suc (d + y_from t))) (high t d)
      (ap (λ x. tall x (suc d + y_from t)) (next_plus d (x_from t)) ∙ ap (λ y. tall (suc (d + x_from t)) y) (next_plus d (y_from t)))
      (tall-x (d + x_from t) (suc (d + y_from t))) (tall-y (d + x_from t) (d + y_from t))
    where
      through : (a b c e : ℕ) → a ≡ b → b ≤ c → c ≤ e → a ≤ e
      through a b c e p l m = omega arith

  -- outside the reach of the set and of the legs
  none-far : (t : ℤ) (d : ℕ) → extent legs ≤ d → w ≤ d → high t d ≡ 0
  none-far t d l m = sum_of-zeros (λ z. bit (in_union legs set (cell (d + x_from t) (d + y_from t) z))) 0 side (λ z p q. ap bit (none z))
    where
      leg-free : (z : ℕ) → nat_eq (legs_at legs (cell (d + x_from t) (d + y_from t) z)) 0 ≡ true
      leg-free z = no-leg legs (d + x_from t) (d + y_from t) z ∙ and_from (not (is_endless legs t d)) (nat_le (base_at legs t d) z)
          (ap not (false_from_ne_true (is_endless legs t d) (λ h. let k = endless-inside legs t d are h in omega arith)))
          (le-leb (base_at legs t d) z (let b = base-past legs t d l in omega arith))

      far-cell : (x : ℕ) (z : ℕ) → list_any (same (cell (d + x_from t) (d + y_from t) z)) set ≡ true → ⊥
      far-cell x z h = let r = (extras_within legs set (cell (d + x_from t) (d + y_from t) z) are good h).x in beyond (x_from t) r
        where
          beyond : (x : ℕ) → d + x < length set + extent legs → ⊥
          beyond x r = omega arith

      none_eq : (k : ℕ) → nat_eq k 0 ≡ true → nat_lt 0 k ≡ false
      none_eq k e = grind (arith, nat_tests)

      none : (z : ℕ) → in_union legs set (cell (d + x_from t) (d + y_from t) z) ≡ false
      none z = ap (λ b. b || list_any (same (cell (d + x_from t) (d + y_from t) z)) set) (none_eq (legs_at legs (cell (d + x_from t) (d + y_from t) z)) (leg-free z)) ∙ false_from_ne_true (list_any (same (cell (d + x_from t) (d + y_from t) z)) set) (far-cell 0 z)

  abbrev full : ℤ → ℕ
  full t = full_of legs t (extent legs)

  abbrev slice : ℤ → Shape
  slice t = shape (full t) (trim (high t) (full t) (side + extent legs))

  high-end : (t : ℤ) → high t (full t + (side + extent legs)) ≡ 0
  high-end t = none-far t (full t + (side + extent legs)) (one (full t)) (two (full t))
    where
      one : (f : ℕ) → extent legs ≤ f + (side + extent legs)
      one f = omega arith

      two : (f : ℕ) → w ≤ f + (side + extent legs)
      two f = omega arith

  at-slice : (t : ℤ) (d : ℕ) → full t ≤ d → at (slice t) d ≡ high t d
  at-slice t d l = trim-at (high t) (high-next t) (full t) (side + extent legs) (high-end t) (d - full t) ∙ ap (high t) (together (full t) l)
    where
      together : (k : ℕ) → k ≤ d → k + (d - k) ≡ d
      together k l = omega arith

  over-base : (t : ℤ) (d : ℕ) → base_at legs t d ≤ side → base_at legs t d ≤ high t d
  over-base t d small = elim (cases_lt (high t d) (base_at legs t d)) [
    | inr m ↦ m
    | inl l ↦ absurd (wrong (in_union legs set (cell (d + x_from t) (d + y_from t) (high t d))) (tall-tells (d + x_from t) (d + y_from t) (high t d) (below_side l) ∙ le-ltb (high t d) (high t d) (omega arith))
        (or_left (nat_lt 0 (legs_at legs (cell (d + x_from t) (d + y_from t) (high t d)))) _ (some (legs_at legs (cell (d + x_from t) (d + y_from t) (high t d))) (no-leg legs (d + x_from t) (d + y_from t) (high t d) ∙ off (not (is_endless legs t d)) l))))
  ]
    where
      below_side : high t d < base_at legs t d → high t d < side
      below_side l = omega arith

      wrong : (b : Bool) → b ≡ false → b ≡ true → ⊥
      wrong b e f = cc

      off : (q : Bool) → high t d < base_at legs t d → (q && nat_le (base_at legs t d) (high t d)) ≡ false
      off q l = lower (base_at legs t d) (high t d) q l
        where
          lower : (b h : ℕ) (q : Bool) → h < b → (q && nat_le b h) ≡ false
          lower b h q l = grind (arith, nat_tests)

      some : (k : ℕ) → nat_eq k 0 ≡ false → nat_lt 0 k ≡ true
      some k e = grind (arith, nat_tests)

  small-base : (t : ℤ) (d : ℕ) → base_at legs t d ≤ side
  small-base t d = within (base_at legs t d) (extent legs) (length set) (row-inside legs t d are) few
    where
      within : (b e n : ℕ) → b ≤ e → n + e ≤ w → b ≤ suc (w + w)
      within b e n l m = omega arith

  slice-fits : (t : ℤ) → fits legs t (slice t) ≡ true
  slice-fits t =
      and_from (falls (slice t).heights) (all_below (max (reach (slice t)) (extent legs)) (fits_at legs t (slice t)))
      (trim-falls (high t) (high-next t) (full t) (side + extent legs) (high-end t))
      (below-from (max (reach (slice t)) (extent legs)) (fits_at legs t (slice t)) (λ i l. one-fits (nat_lt i (full t)) (is_endless legs t i) (nat_le (base_at legs t i) (at (slice t) i))
      (endless-first legs t i are) (λ far. le-leb (base_at legs t i) (at (slice t) i) (raised_to (at (slice t) i) (high t i) (base_at legs t i) (at-slice t i (ltb-false i (full t) far)) (over-base t i (small-base t i))))))
    where
      raised_to : (h g b : ℕ) → h ≡ g → b ≤ g → b ≤ h
      raised_to h g b e l = omega arith

  tall-at : (x y v u : ℕ) → x ≡ v → y ≡ u → tall x y ≡ tall v u
  tall-at x y v u e f = ap (λ k. tall k y) e ∙ ap (λ k. tall v k) f

  le-both : (a b c e : ℕ) → a ≡ b → b ≤ c → c ≡ e → a ≤ e
  le-both a b c e p l q = omega arith

  high-behind : (t : ℤ) (d : ℕ) → high t (behind t d) ≤ high (t +ℤ pos 1) d
  high-behind (pos n) d = le-both _ (tall (suc (d + n)) (suc (d + 0))) (tall (suc (d + n)) (d + 0)) _ (tall-at _ _ _ _ (next_plus d n) (next_plus d 0)) (tall-y (suc (d + n)) (d + 0)) (tall-at _ _ _ _ (sym (x-pos n d)) (sym (y-pos n d)))
  high-behind (negsuc n) d = le-both _ (tall (d + 0) (suc (d + n))) (tall (d + 0) (d + n)) _ (tall-at _ _ _ _ refl (plus_next d n)) (tall-y (d + 0) (d + n)) (tall-at _ _ _ _ (sym (x-neg n d)) (sym (y-neg n d)))

  high-ahead : (t : ℤ) (d : ℕ) → high (t +ℤ pos 1) (ahead t d) ≤ high t d
  high-ahead (pos n) d = le-both _ (tall (suc (d + n)) (d + 0)) (tall (d + n) (d + 0)) _ (tall-at _ _ _ _ (x-pos n d) (y-pos n d)) (tall-x (d + n) (d + 0)) refl
  high-ahead (negsuc n) d = le-both _ (tall (suc (d + 0)) (d + suc n)) (tall (d + 0) (d + suc n)) _ (tall-at _ _ _ _ (x-neg n (suc d) ∙ next_plus d 0) (y-neg n (suc d) ∙ (next_plus d n ∙ sym (plus_next d n)))) (tall-x (d + 0) (d + suc n)) refl

  ends : (t : ℤ) (d : ℕ) → d < full t → is_endless legs t d ≡ true
  ends t d l = endless-first legs t d are ∙ lt-ltb d (full t) l

  ended : (t : ℤ) (d : ℕ) → is_endless legs t d ≡ true → d < full t
  ended t d h = ltb-true d (full t) (sym (endless-first legs t d are) ∙ h)

  -- where an end at e tells of one at d, the slice at d covers the other one at e
  slice-covers : (t u : ℤ) (d e : ℕ) → (is_endless legs u e ≡ true → is_endless legs t d ≡ true) → high u e ≤ high t d → covers (slice t) d (slice u) e ≡ true
  slice-covers t u d e tells l = by_test (cases_lt d (full t)) (cases_lt e (full u))
    where
      lower : (p q a b : ℕ) → p ≡ a → q ≡ b → a ≤ b → p ≤ q
      lower p q a b f g l = omega arith

      by_test : (d < full t) ⊎ (full t ≤ d) → (e < full u) ⊎ (full u ≤ e) → covers (slice t) d (slice u) e ≡ true
      by_test (inl m) k = or_left (nat_lt d (full t)) (nat_le (full u) e && nat_le (at (slice u) e) (at (slice t) d)) (lt-ltb d (full t) m)
      by_test (inr m) (inl k) = absurd (let r = ended t d (tells (ends u e k)) in omega arith)
      by_test (inr m) (inr k) =
          or_right (nat_lt d (full t)) (nat_le (full u) e && nat_le (at (slice u) e) (at (slice t) d))
          (and_from (nat_le (full u) e) (nat_le (at (slice u) e) (at (slice t) d)) (le-leb (full u) e k)
          (le-leb (at (slice u) e) (at (slice t) d) (lower (at (slice u) e) (at (slice t) d) (high u e) (high t d) (at-slice u e k) (at-slice t d m) l)))

  interlaced : (t : ℤ) → interlaces t (slice t) (slice (t +ℤ pos 1)) ≡ true
  interlaced t = below-from (max (reach (slice t)) (reach (slice (t +ℤ pos 1)))) (interlaces_at t (slice t) (slice (t +ℤ pos 1)))
      (λ d l. both-covers t (slice t) (slice (t +ℤ pos 1)) d
      (slice-covers t (t +ℤ pos 1) d (ahead t d) (endless-ahead legs t d are) (high-ahead t d))
      (slice-covers (t +ℤ pos 1) t d (behind t d) (endless-behind legs t d) (high-behind t d)))

  -- ---- the path

  pub tail : ℤ → ℕ → List Shape
  tail first zero = []
  tail first (suc n) = slice (diagonal_at first n) ∷ tail first n

  length-tail : (first : ℤ) (n : ℕ) → length (tail first n) ≡ n
  unfolding tail
  length-tail first zero = refl
  length-tail first (suc n) = ap suc (length-tail first n)

  pub cost : ℤ → ℕ → ℕ
  cost first zero = 0
  cost first (suc n) = extras_of legs (diagonal_at first (suc n)) (slice (diagonal_at first (suc n))) + cost first n

  cut-chain : (first : ℤ) → extras_of legs first (slice first) ≡ 0 → (n : ℕ) → IsChain legs first (tail first (suc n)) (cost first n)
  unfolding tail cost
  cut-chain first bare zero = subst (λ t. (fits legs first (slice t) ≡ true) × (extras_of legs first (slice t) ≡ 0) × (◌≡◌ {A = ℕ} 0 0)) (sym (start first)) (slice-fits first, bare, refl)
  cut-chain first bare (suc n) =
      let x = extras_of legs (diagonal_at first (suc n)) (slice (diagonal_at first (suc n))) in
      let s = slice (diagonal_at first (suc n)) in
      subst (λ j. (fits legs (diagonal_at first (suc j)) s ≡ true) × (interlaces (diagonal_at first j) (slice (diagonal_at first n)) s ≡ true) × (extras_of legs (diagonal_at first (suc j)) s ≤ x + cost first n) × IsChain legs first (tail first (suc n)) ((x + cost first n) - extras_of legs (diagonal_at first (suc j)) s)) (sym (length-tail first n))
      (slice-fits (diagonal_at first (suc n)), subst (λ t. interlaces (diagonal_at first n) (slice (diagonal_at first n)) (slice t) ≡ true) (sym (up first n)) (interlaced (diagonal_at first n)), more x (cost first n), subst (λ c. IsChain legs first (tail first (suc n)) c) (rest x (cost first n)) (cut-chain first bare n))
    where
      up : (first : ℤ) (n : ℕ) → diagonal_at first (suc n) ≡ diagonal_at first n +ℤ pos 1
      up first n = omega (arith, ints)

      more : (a b : ℕ) → a ≤ a + b
      more a b = omega arith

      rest : (a b : ℕ) → b ≡ (a + b) - a
      rest a b = omega arith

  tail-pick : (first : ℤ) (n j : ℕ) → j < n → pick (tail first n) j ≡ slice (diagonal_at first j)
  unfolding tail
  tail-pick first zero j l = absurd (omega arith)
  tail-pick first (suc n) j l = elim (cases_eq j n) [
    | inl e ↦ subst (λ k. pick (slice (diagonal_at first n) ∷ tail first n) k ≡ slice (diagonal_at first j)) (length-tail first n ∙ sym e) (pick-first (slice (diagonal_at first n)) (tail first n) ∙ ap (λ k. slice (diagonal_at first k)) (sym e))
    | inr ne ↦ let m : j < n = omega (arith, ne) in pick-later (slice (diagonal_at first n)) (tail first n) j (shorter j n (length (tail first n)) (length-tail first n) m) ∙ tail-pick first n j m
  ]
    where
      shorter : (j n l : ℕ) → l ≡ n → j < n → j < l
      shorter j n l e m = omega arith

  -- the cells of a slice are those of the set on its diagonal
  slice-cell : (t : ℤ) (c : Cell) → c.z < side → in_slice legs t (slice t) c ≡ true → list_any (same c) set ≡ true
  slice-cell t c l h =
      let tests = and_parts (on t c) (nat_eq (legs_at legs c) 0 && nat_lt c.z (at (slice t) (place t c))) h in
      let both = and_parts (nat_eq (legs_at legs c) 0) (nat_lt c.z (at (slice t) (place t c))) tests.1 in
      by_case (or_cases (nat_lt 0 (legs_at legs c)) (list_any (same c) set)
      (tall-tells c.x c.y c.z l ∙ lt-ltb c.z (tall c.x c.y) (lower c.z (at (slice t) (place t c)) (high t (place t c)) (tall c.x c.y) (ltb-true c.z (at (slice t) (place t c)) both.1) (at-slice t (place t c) (finite t c tests.0 both.0)) (tall-at _ _ _ _ (sym (x-of-place t c tests.0)) (sym (y-of-place t c tests.0)))))) both.0
    where
      lower : (z a b v : ℕ) → z < a → a ≡ b → b ≡ v → z < v
      lower z a b v l e f = omega arith

      by_case : (nat_lt 0 (legs_at legs c) ≡ true) ⊎ (list_any (same c) set ≡ true) → nat_eq (legs_at legs c) 0 ≡ true → list_any (same c) set ≡ true
      by_case (inl leg) e = absurd (let x : ⊥ = grind (arith, nat_tests) in x)
      by_case (inr among) e = among

      finite : (t : ℤ) (c : Cell) → on t c ≡ true → nat_eq (legs_at legs c) 0 ≡ true → full t ≤ place t c
      finite t c h e = elim (cases_lt (place t c) (full t)) [
        | inr m ↦ m
        | inl l ↦ absurd (let g = leg-place legs t c h in let k = ends t (place t c) l in let x : ⊥ = wrong (is_endless legs t (place t c)) (nat_le (base_at legs t (place t c)) c.z) k (sym g ∙ e) in x)
      ]
        where
          wrong : (q r : Bool) → q ≡ true → (not q && r) ≡ true → ⊥
          wrong true r e f = cc
          wrong false r e f = cc

  set-cell : (t : ℤ) (c : Cell) → on t c ≡ true → list_any (same c) set ≡ true → in_slice legs t (slice t) c ≡ true
  set-cell t c h among =
      let free = relation.outside c among in
      let r = (extras_within legs set c are good among).z in
      let low = tall-tells c.x c.y c.z (near c.z r) in
      let union = or_right (nat_lt 0 (legs_at legs c)) (list_any (same c) set) among in
      and_from (on t c) (nat_eq (legs_at legs c) 0 && nat_lt c.z (at (slice t) (place t c))) h
      (and_from (nat_eq (legs_at legs c) 0) (nat_lt c.z (at (slice t) (place t c))) (eq-eqb (legs_at legs c) 0 free)
      (lt-ltb c.z (at (slice t) (place t c)) (upper c.z (at (slice t) (place t c)) (high t (place t c)) (tall c.x c.y) (ltb-true c.z (tall c.x c.y) (sym low ∙ union)) (at-slice t (place t c) (finite (eq-eqb (legs_at legs c) 0 free))) (tall-at _ _ _ _ (sym (x-of-place t c h)) (sym (y-of-place t c h))))))
    where
      near : (z : ℕ) → z < length set + extent legs → z < side
      near z l = omega arith

      upper : (z a b v : ℕ) → z < v → a ≡ b → b ≡ v → z < a
      upper z a b v l e f = omega arith

      finite : nat_eq (legs_at legs c) 0 ≡ true → full t ≤ place t c
      finite e = elim (cases_lt (place t c) (full t)) [
        | inr m ↦ m
        | inl l ↦ absurd (wrong (is_endless legs t (place t c)) (nat_le (base_at legs t (place t c)) c.z) (ends t (place t c) l) (sym (leg-place legs t c h) ∙ e))
      ]
        where
          wrong : (q r : Bool) → q ≡ true → (not q && r) ≡ true → ⊥
          wrong true r e f = cc
          wrong false r e f = cc

  bare-end : (t : ℤ) → ((d : ℕ) → d + x_from t < w → d + y_from t < w → ⊥) → extras_of legs t (slice t) ≡ 0
  bare-end t out = sum_of-zeros (λ d. over legs t (at (slice t) d) d) 0 (reach (slice t)) (λ d p q. by_test d (cases_lt d (full t)))
    where
      flat : (a h b : ℕ) → a ≡ h → h ≤ b → a - b ≡ 0
      flat a h b e l = omega arith

      near : (x : ℕ) → x < length set + extent legs → x < w
      near x l = omega arith

      not_more : (d : ℕ) → full t ≤ d → high t d ≤ base_at legs t d
      not_more d m = elim (cases_lt (base_at legs t d) (high t d)) [
        | inr low ↦ low
        | inl l ↦ absurd (by_case (or_cases (nat_lt 0 (legs_at legs (cell (d + x_from t) (d + y_from t) (base_at legs t d)))) (list_any (same (cell (d + x_from t) (d + y_from t) (base_at legs t d))) set)
            (tall-tells (d + x_from t) (d + y_from t) (base_at legs t d) (in_side (row-inside legs t d are)) ∙ lt-ltb (base_at legs t d) (high t d) l)))
      ]
        where
          in_side : base_at legs t d ≤ extent legs → base_at legs t d < side
          in_side l = under (base_at legs t d) (extent legs) (length set) l few
            where
              under : (b e n : ℕ) → b ≤ e → n + e ≤ w → b < suc (w + w)
              under b e n l m = omega arith

          free : nat_eq (legs_at legs (cell (d + x_from t) (d + y_from t) (base_at legs t d))) 0 ≡ true
          free = no-leg legs (d + x_from t) (d + y_from t) (base_at legs t d) ∙ and_from (not (is_endless legs t d)) (nat_le (base_at legs t d) (base_at legs t d))
              (ap not (endless-first legs t d are ∙ le-ltb d (full t) m)) (le-leb (base_at legs t d) (base_at legs t d) (omega arith))

          zero_free : (k : ℕ) → nat_eq k 0 ≡ true → nat_lt 0 k ≡ true → ⊥
          zero_free k e f = grind (arith, nat_tests)

          by_case : (nat_lt 0 (legs_at legs (cell (d + x_from t) (d + y_from t) (base_at legs t d))) ≡ true) ⊎ (list_any (same (cell (d + x_from t) (d + y_from t) (base_at legs t d))) set ≡ true) → ⊥
          by_case (inl leg) = zero_free (legs_at legs (cell (d + x_from t) (d + y_from t) (base_at legs t d))) free leg
          by_case (inr among) = let r = extras_within legs set (cell (d + x_from t) (d + y_from t) (base_at legs t d)) are good among in out d (near (d + x_from t) r.x) (near (d + y_from t) r.y)

      by_test : (d : ℕ) → (d < full t) ⊎ (full t ≤ d) → over legs t (at (slice t) d) d ≡ 0
      by_test d (inl l) = cond-true (is_endless legs t d) 0 (at (slice t) d - base_at legs t d) (ends t d l)
      by_test d (inr m) = cond-false (is_endless legs t d) 0 (at (slice t) d - base_at legs t d) (endless-first legs t d are ∙ le-ltb d (full t) m) ∙ flat (at (slice t) d) (high t d) (base_at legs t d) (at-slice t d m) (not_more d m)

  first-bare : extras_of legs (neg_ℤ (pos w)) (slice (neg_ℤ (pos w))) ≡ 0
  first-bare = bare-end (neg_ℤ (pos w)) (λ d p q. past w d p q)
    where
      past : (v d : ℕ) → d + x_from (neg_ℤ (pos v)) < v → d + y_from (neg_ℤ (pos v)) < v → ⊥
      past zero d p q = omega arith
      past (suc v) d p q = omega arith

  last-bare : extras_of legs (pos w) (slice (pos w)) ≡ 0
  last-bare = bare-end (pos w) (λ d p q. past w d p)
    where
      past : (v d : ℕ) → d + v < v → ⊥
      past v d p = omega arith

  cells-are : rises set ≡ true → filter (inside legs (neg_ℤ (pos w)) (tail (neg_ℤ (pos w)) (suc (2 * w)))) (cube side) ≡ set
  cells-are up = rising_same (filter (inside legs first path) (cube side)) set (rises-filter (inside legs first path) (cube side) (cube-rises side)) up
      (λ c. any-filter (inside legs first path) c (cube side) ∙ both_ways (list_any (same c) (cube side) && inside legs first path c) (list_any (same c) set) (onto c) (back c))
    where
      first : ℤ
      first = neg_ℤ (pos w)

      path : List Shape
      path = tail (neg_ℤ (pos w)) (suc (2 * w))

      onto : (c : Cell) → (list_any (same c) (cube side) && inside legs (neg_ℤ (pos w)) (tail (neg_ℤ (pos w)) (suc (2 * w))) c) ≡ true → list_any (same c) set ≡ true
      onto c h =
          let both = and_parts (list_any (same c) (cube side)) (inside legs (neg_ℤ (pos w)) (tail (neg_ℤ (pos w)) (suc (2 * w))) c) h in
          let bounds = and_parts (nat_lt c.x side) (nat_lt c.y side && nat_lt c.z side) (sym (cube-has side c) ∙ both.0) in
          let z = ltb-true c.z side (and_parts (nat_lt c.y side) (nat_lt c.z side) bounds.1).1 in
          let r = inside-some legs (neg_ℤ (pos w)) (tail (neg_ℤ (pos w)) (suc (2 * w))) c both.1 in
          slice-cell (diagonal_at (neg_ℤ (pos w)) r.number) c z (ap (λ a. in_slice legs (diagonal_at (neg_ℤ (pos w)) r.number) a c) (sym (tail-pick (neg_ℤ (pos w)) (suc (2 * w)) r.number (early r.number (length (tail (neg_ℤ (pos w)) (suc (2 * w)))) (length-tail (neg_ℤ (pos w)) (suc (2 * w))) r.early))) ∙ r.here)
        where
          early : (j l : ℕ) → l ≡ suc (2 * w) → j < l → j < suc (2 * w)
          early j l e m = omega arith

      back : (c : Cell) → list_any (same c) set ≡ true → (list_any (same c) (cube side) && inside legs (neg_ℤ (pos w)) (tail (neg_ℤ (pos w)) (suc (2 * w))) c) ≡ true
      back c among =
          let r = extras_within legs set c are good among in
          let j = (w + c.x) - c.y in
          let x = near c.x r.x in let y = near c.y r.y in let z = near c.z r.z in
          and_from (list_any (same c) (cube side)) (inside legs (neg_ℤ (pos w)) (tail (neg_ℤ (pos w)) (suc (2 * w))) c)
          (cube-has side c ∙ and_from (nat_lt c.x side) (nat_lt c.y side && nat_lt c.z side) (lt-ltb c.x side (wide c.x x)) (and_from (nat_lt c.y side) (nat_lt c.z side) (lt-ltb c.y side (wide c.y y)) (lt-ltb c.z side (wide c.z z))))
          (inside-at legs (neg_ℤ (pos w)) (tail (neg_ℤ (pos w)) (suc (2 * w))) c j (late c.x c.y (length (tail (neg_ℤ (pos w)) (suc (2 * w)))) (length-tail (neg_ℤ (pos w)) (suc (2 * w))) x y)
          (ap (λ a. in_slice legs (diagonal_at (neg_ℤ (pos w)) j) a c) (tail-pick (neg_ℤ (pos w)) (suc (2 * w)) j (late c.x c.y (suc (2 * w)) refl x y)) ∙ set-cell (diagonal_at (neg_ℤ (pos w)) j) c (on_it c.x c.y x y) among))
        where
          near : (v : ℕ) → v < length set + extent legs → v < w
          near v l = omega arith

          wide : (v : ℕ) → v < w → v < side
          wide v l = omega arith

          late : (x y l : ℕ) → l ≡ suc (2 * w) → x < w → y < w → (w + x) - y < l
          late x y l e p q = omega arith

          on_it : (x y : ℕ) → x < w → y < w → nat_eq (x + y_from (neg_ℤ (pos w) +ℤ pos ((w + x) - y))) (y + x_from (neg_ℤ (pos w) +ℤ pos ((w + x) - y))) ≡ true
          on_it x y p q = by_sign (neg_ℤ (pos w) +ℤ pos ((w + x) - y)) refl
            where
              by_sign : (t : ℤ) → neg_ℤ (pos w) +ℤ pos ((w + x) - y) ≡ t → nat_eq (x + y_from t) (y + x_from t) ≡ true
              by_sign (pos m) e = eq-eqb (x + 0) (y + m) (omega (arith, ints))
              by_sign (negsuc m) e = eq-eqb (x + suc m) (y + 0) (omega (arith, ints))

  -- ---- how many

  reach-slice : (t : ℤ) → reach (slice t) ≤ w
  reach-slice t = sums (full t) (length (slice t).heights) (full-inside legs t (extent legs))
      (λ l. falls-length (slice t).heights (w - full t) (fall (slice-fits t)) (at-slice t w l ∙ none-far t w (omega arith) (omega arith)))
    where
      fall : fits legs t (slice t) ≡ true → falls (slice t).heights ≡ true
      fall f = (and_parts (falls (slice t).heights) (all_below (max (reach (slice t)) (extent legs)) (fits_at legs t (slice t))) f).0

      sums : (f n : ℕ) → f ≤ extent legs → (f ≤ w → n ≤ w - f) → f + n ≤ w
      sums f n l m = let k = m (under f (extent legs) (length set) l few) in let j = under f (extent legs) (length set) l few in omega arith
        where
          under : (a e n : ℕ) → a ≤ e → n + e ≤ w → a ≤ w
          under a e n l m = omega arith

  low-slice : (t : ℤ) (d : ℕ) → at (slice t) d ≤ side
  low-slice t d = elim (cases_lt d (full t)) [
    | inr m ↦ same_le (at (slice t) d) (high t d) (at-slice t d m) (most d)
    | inl l ↦ same_le (at (slice t) d) (high t (full t)) (ap (slice_index (slice t).heights) (none d (full t) l) ∙ at-slice t (full t) (omega arith)) (most (full t))
  ]
    where
      most : (d : ℕ) → high t d ≤ side
      most d = (first-ones (λ z. in_union legs set (cell (d + x_from t) (d + y_from t) z)) (λ z h. relation.closed.along_z (d + x_from t) (d + y_from t) z h) side).0

      same_le : (a b : ℕ) → a ≡ b → b ≤ side → a ≤ side
      same_le a b e l = omega arith

      none : (d f : ℕ) → d < f → d - f ≡ f - f
      none d f l = omega arith

  one-cut : (n : ℕ) → n ≤ 2 * w → length (filter (in_slice legs (diagonal_at (neg_ℤ (pos w)) n) (slice (diagonal_at (neg_ℤ (pos w)) n))) (cube side)) ≡ extras_of legs (diagonal_at (neg_ℤ (pos w)) n) (slice (diagonal_at (neg_ℤ (pos w)) n))
  one-cut n l =
      slice-count legs (diagonal_at (neg_ℤ (pos w)) n) (slice (diagonal_at (neg_ℤ (pos w)) n)) (w + w) (near (nat_abs (diagonal_at (neg_ℤ (pos w)) n)) (size w l))
      (wide (nat_abs (diagonal_at (neg_ℤ (pos w)) n)) (reach (slice (diagonal_at (neg_ℤ (pos w)) n))) (size w l) (reach-slice (diagonal_at (neg_ℤ (pos w)) n))) (low-slice (diagonal_at (neg_ℤ (pos w)) n))
    where
      size : (v : ℕ) → n ≤ 2 * v → nat_abs (neg_ℤ (pos v) +ℤ pos n) ≤ v
      size v l = omega (arith, ints)

      near : (a : ℕ) → a ≤ w → a ≤ w + w
      near a l = omega arith

      wide : (a r : ℕ) → a ≤ w → r ≤ w → r ≤ suc (w + w) - a
      wide a r l m = omega arith

  cut-total : (n : ℕ) → n ≤ 2 * w → length (filter (inside legs (neg_ℤ (pos w)) (tail (neg_ℤ (pos w)) (suc n))) (cube side)) ≡ cost (neg_ℤ (pos w)) n
  unfolding tail cost inside
  cut-total zero l =
      count-either (in_slice legs (diagonal_at (neg_ℤ (pos w)) 0) (slice (diagonal_at (neg_ℤ (pos w)) 0))) (λ d. false) (λ d p q. cc) (cube side)
      ∙ (ap (λ v. v + length (filter (λ (d : Cell). false) (cube side))) (one-cut 0 l ∙ (ap (λ t. extras_of legs t (slice t)) (start (neg_ℤ (pos w))) ∙ first-bare))
      ∙ ap (λ v. 0 + v) (ap length (filter-none (λ (d : Cell). false) (λ d. refl) (cube side))))
  cut-total (suc n) l =
      let first = neg_ℤ (pos w) in
      let s = slice (diagonal_at first (suc n)) in
      count-either (in_slice legs (diagonal_at first (length (tail first (suc n)))) s) (inside legs first (tail first (suc n))) (apart-slices legs first s (tail first (suc n))) (cube side)
      ∙ (ap (λ j. length (filter (in_slice legs (diagonal_at first j) s) (cube side)) + length (filter (inside legs first (tail first (suc n))) (cube side))) (length-tail first (suc n))
      ∙ (ap (λ v. v + length (filter (inside legs first (tail first (suc n))) (cube side))) (one-cut (suc n) l)
      ∙ ap (λ v. extras_of legs (diagonal_at first (suc n)) s + v) (cut-total n (omega arith))))

  set-path : rises set ≡ true → (slices : List Shape) × (IsPath legs w (length set) slices × (taken legs w slices ≡ set))
  unfolding tail
  set-path up = (
    tail (neg_ℤ (pos w)) (suc (2 * w)),
    (
      (
        length-tail (neg_ℤ (pos w)) (2 * w),
        ap (λ t. extras_of legs (pos w) (slice t)) (last-diagonal w) ∙ last-bare,
        subst (λ c. IsChain legs (neg_ℤ (pos w)) (tail (neg_ℤ (pos w)) (suc (2 * w))) c) (sym (cut-total (2 * w) (omega arith)) ∙ ap length (cells-are up)) (cut-chain (neg_ℤ (pos w)) first-bare (2 * w)),
      ),
      cells-are up,
    ),
  )

pub extras-are-paths : ExtrasArePaths
extras-are-paths legs k i set are l up good many =
    let found = set-path legs set (k + extent legs) are good (few (length set) (extent legs) many) up in
    (found.0, (subst (λ n. IsPath legs (k + extent legs) n found.0) many found.1.0, found.1.1))
  where
    few : (n e : ℕ) → n ≡ i → n + e ≤ k + e
    few n e m = omega arith
