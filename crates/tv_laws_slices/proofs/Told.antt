-- A path is told by its cells.
use Rattle.std.specs.Prelude.{◌≡◌, ℕ, suc, ◌+◌, ◌-◌, ◌*◌, ◌<◌, ◌≤◌, ℤ, pos, negsuc, neg_ℤ, ◌+ℤ◌, nat_abs, true, false, not, ◌&&◌, nat_eq, nat_lt, nat_le, List, [], ◌∷◌, length, slice_index}
use Rattle.std.specs.List.{list_any}
use Rattle.std.proofs.Common.{refl, sym, ap, subst, ◌∙◌, arith, inl, inr}
use Rattle.std.proofs.lemmas.Int.{ints}
use Rattle.std.proofs.lemmas.Bool.{cases_eq, cases_lt, and_parts, and_from, le-leb, lt-ltb, le-ltb, ltb-true}
use Rattle.tv_cells.specs.declared.cell.Cell.{Cell}
use Rattle.tv_cells.specs.declared.legs.Legs.{Legs}
use Rattle.tv_cells.specs.Cells.{cell, same, x_from, y_from, cube}
use Rattle.tv_cells.specs.Extras.{legs_at, extent, AreDiagrams}
use Rattle.tv_cells.proofs.Cubes.{cube-has, starts_within}
use Rattle.tv_laws_counts.proofs.Rises.{any-filter}
use Rattle.tv_spec_slices.specs.Falling.{falls}
use Rattle.tv_spec_slices.specs.Slices.{Shape, at, reach, base_at, is_endless, fits, extras_of}
use Rattle.tv_spec_slices.specs.Paths.{diagonal_at, full_of, shape}
use Rattle.tv_laws_slices.specs.Taken.{on, place, in_slice, inside, taken}
use Rattle.tv_laws_slices.specs.Laws.{IsChain, IsPath}
use Rattle.tv_laws_slices.proofs.Bases.{endless-first}
use Rattle.tv_laws_slices.proofs.Fits.{fits-full, fits-above, falls-parts}
use Rattle.tv_laws_slices.proofs.Steps.{at-past}
use Rattle.tv_laws_slices.proofs.Least.{heights-of}
use Rattle.tv_laws_slices.proofs.Inside.{pick, pick-first, pick-later, inside-some, inside-at, on-same, on-own, place-own, no-leg}
use Rattle.tv_laws_slices.proofs.Taken.{start, reach-few, height-few, chain-fits-at}

falls-same : (hs ks : List ℕ) → falls hs ≡ true → falls ks ≡ true → ((i : ℕ) → slice_index hs i ≡ slice_index ks i) → hs ≡ ks
falls-same [] [] f g each = refl
falls-same [] (k ∷ ks) f g each = absurd (let p = (falls-parts k ks g).0 in let e = each 0 in omega arith)
falls-same (h ∷ hs) [] f g each = absurd (let p = (falls-parts h hs f).0 in let e = each 0 in omega arith)
falls-same (h ∷ hs) (k ∷ ks) f g each =
    ap (λ x. x ∷ hs) (each 0) ∙ ap (λ l. k ∷ l) (falls-same hs ks (falls-parts h hs f).2 (falls-parts k ks g).2 (λ i. each (suc i)))

at-from : (s : Shape) (f i : ℕ) → s.full ≡ f → at s (f + i) ≡ slice_index s.heights i
at-from s f i e = ap (slice_index s.heights) (back s.full e)
  where
    back : (g : ℕ) → g ≡ f → (f + i) - g ≡ i
    back g e = omega arith

-- ---- a slice by its cells in the cube

abbrev far : Legs → ℕ → ℕ
far legs k = k + extent legs

abbrev wide : Legs → ℕ → ℕ
wide legs k = suc (far legs k + far legs k)

abbrev Onto : Legs → ℕ → ℤ → Shape → Shape → Type 0
Onto legs k t a b = (c : Cell) → c.x < wide legs k → c.y < wide legs k → c.z < wide legs k → in_slice legs t a c ≡ true → in_slice legs t b c ≡ true

lower : (legs : Legs) (k : ℕ) (t : ℤ) (a b : Shape) → AreDiagrams legs → fits legs t a ≡ true → fits legs t b ≡ true → extras_of legs t a ≤ k → nat_abs t ≤ far legs k → Onto legs k t a b → (i : ℕ) → slice_index a.heights i ≤ slice_index b.heights i
lower legs k t a b are fa fb few near onto i = elim (cases_lt (slice_index b.heights i) (slice_index a.heights i)) [
  | inr m ↦ m
  | inl l ↦ absurd (
      let f = full_of legs t (extent legs) in
      let h = slice_index b.heights i in
      let d = f + i in
      let ea = at-from a f i (fits-full legs t a are fa) in
      let eb = at-from b f i (fits-full legs t b are fb) in
      let high = height-few legs t a k are fa few d in
      let short = early d ea l in
      let sides = starts_within t in
      let h_high : h < at a d = below_at h (at a d) (slice_index a.heights i) l ea in
      let c = cell (d + x_from t) (d + y_from t) h in
      let ends : is_endless legs t d ≡ false = endless-first legs t d are ∙ le-ltb d f (omega arith) in
      let base : base_at legs t d ≤ h = subst (λ g. base_at legs t (g + i) ≤ slice_index b.heights i) (fits-full legs t b are fb) (fits-above legs t b fb i) in
      let free : nat_eq (legs_at legs c) 0 ≡ true = no-leg legs (d + x_from t) (d + y_from t) h ∙ and_from (not (is_endless legs t d)) (nat_le (base_at legs t d) h) (ap not ends) (le-leb (base_at legs t d) h base) in
      let here : in_slice legs t a c ≡ true = and_from (on t c) (nat_eq (legs_at legs c) 0 && nat_lt c.z (at a (place t c))) (on-own t d h)
      (and_from (nat_eq (legs_at legs c) 0) (nat_lt h (at a (place t c))) free (ap (λ e. nat_lt h (at a e)) (place-own t d h) ∙ lt-ltb h (at a d) h_high)) in
      let there = onto c (in_wide d (x_from t) (nat_abs t) short sides.0 near) (in_wide d (y_from t) (nat_abs t) short sides.1 near) (low_wide h (at a d) h_high high) here in
      let tests = (and_parts (on t c) (nat_eq (legs_at legs c) 0 && nat_lt c.z (at b (place t c))) there).1 in
      let less = (and_parts (nat_eq (legs_at legs c) 0) (nat_lt h (at b (place t c))) tests).1 in
      not_below h (at b d) eb (ltb-true h (at b d) (sym (ap (λ e. nat_lt h (at b e)) (place-own t d h)) ∙ less)))
]
  where
    below_at : (h p q : ℕ) → h < q → p ≡ q → h < p
    below_at h p q l e = omega arith

    not_below : (h p : ℕ) → p ≡ h → h < p → ⊥
    not_below h p e l = omega arith

    early : (d : ℕ) → at a d ≡ slice_index a.heights i → slice_index b.heights i < slice_index a.heights i → d < far legs k
    early d e l = elim (cases_lt d (reach a)) [
      | inl m ↦ within d (reach a) m (reach-few legs t a k are fa few)
      | inr m ↦ absurd (none (at a d) (slice_index a.heights i) (slice_index b.heights i) (at-past a d m) e l)
    ]
      where
        within : (d r : ℕ) → d < r → r ≤ k + extent legs → d < k + extent legs
        within d r l m = omega arith

        none : (p q r : ℕ) → p ≡ 0 → p ≡ q → r < q → ⊥
        none p q r e f l = omega arith

    in_wide : (d x n : ℕ) → d < far legs k → x ≤ n → n ≤ far legs k → d + x < wide legs k
    in_wide d x n l m p = sums (far legs k) l p
      where
        sums : (w : ℕ) → d < w → n ≤ w → d + x < suc (w + w)
        sums w l p = omega arith

    low_wide : (h p : ℕ) → h < p → p ≤ far legs k → h < wide legs k
    low_wide h p l m = sums (far legs k) m
      where
        sums : (w : ℕ) → p ≤ w → h < suc (w + w)
        sums w m = omega arith

same-slice : (legs : Legs) (k : ℕ) (t : ℤ) (a b : Shape) → AreDiagrams legs → fits legs t a ≡ true → fits legs t b ≡ true → extras_of legs t a ≤ k → extras_of legs t b ≤ k → nat_abs t ≤ far legs k → Onto legs k t a b → Onto legs k t b a → a ≡ b
same-slice legs k t a b are fa fb la lb near onto back =
    ap (λ f. shape f a.heights) (fits-full legs t a are fa ∙ sym (fits-full legs t b are fb))
    ∙ ap (λ hs. shape b.full hs) (falls-same a.heights b.heights (heights-of legs t a fa) (heights-of legs t b fb)
    (λ i. both (slice_index a.heights i) (slice_index b.heights i) (lower legs k t a b are fa fb la near onto i) (lower legs k t b a are fb fa lb near back i)))
  where
    both : (p q : ℕ) → p ≤ q → q ≤ p → p ≡ q
    both p q l m = omega arith

-- ---- paths by their slices

chain-few : (legs : Legs) (first : ℤ) (slices : List Shape) (c j : ℕ) → IsChain legs first slices c → j < length slices → extras_of legs (diagonal_at first j) (pick slices j) ≤ c
chain-few legs first [] c j h l = absurd h
chain-few legs first (s ∷ []) c j h l =
    let z : j ≡ 0 = omega arith in
    subst (λ i. extras_of legs (diagonal_at first i) (pick (s ∷ []) i) ≤ c) (sym z)
    (low (extras_of legs (diagonal_at first 0) (pick (s ∷ []) 0)) (ap (λ t. extras_of legs t (pick (s ∷ []) 0)) (start first) ∙ (ap (λ a. extras_of legs first a) (pick-first s []) ∙ h.1)))
  where
    low : (x : ℕ) → x ≡ 0 → x ≤ c
    low x e = omega arith
chain-few legs first (s ∷ a ∷ slices) c j h l = elim (cases_eq j (suc (length slices))) [
  | inl e ↦ subst (λ i. extras_of legs (diagonal_at first i) (pick (s ∷ a ∷ slices) i) ≤ c) (sym e)
      (subst (λ b. extras_of legs (diagonal_at first (suc (length slices))) b ≤ c) (sym (pick-first s (a ∷ slices))) h.2)
  | inr ne ↦ let m : j < length (a ∷ slices) = omega (arith, ne) in
      subst (λ b. extras_of legs (diagonal_at first j) b ≤ c) (sym (pick-later s (a ∷ slices) j m))
      (less (extras_of legs (diagonal_at first j) (pick (a ∷ slices) j)) (extras_of legs (diagonal_at first (suc (length slices))) s) (chain-few legs first (a ∷ slices) (c - extras_of legs (diagonal_at first (suc (length slices))) s) j h.3 m))
]
  where
    less : (x y : ℕ) → x ≤ c - y → x ≤ c
    less x y l = omega arith

picks-same : (xs ys : List Shape) → length xs ≡ length ys → ((j : ℕ) → j < length xs → pick xs j ≡ pick ys j) → xs ≡ ys
picks-same [] [] e each = refl
picks-same [] (y ∷ ys) e each = absurd (omega arith)
picks-same (x ∷ xs) [] e each = absurd (omega arith)
picks-same (x ∷ xs) (y ∷ ys) e each =
    let n : length xs ≡ length ys = omega arith in
    ap (λ z. z ∷ xs) (sym (pick-first x xs) ∙ (each (length xs) (omega arith) ∙ subst (λ m. pick (y ∷ ys) m ≡ y) (sym n) (pick-first y ys)))
    ∙ ap (λ zs. y ∷ zs) (picks-same xs ys n (λ j l. sym (pick-later x xs j l) ∙ (each j (omega arith) ∙ pick-later y ys j (omega arith))))

path-long : (legs : Legs) (w i : ℕ) (slices : List Shape) → IsPath legs w i slices → length slices ≡ suc (2 * w)
path-long legs w i [] path = absurd path
path-long legs w i (s ∷ slices) path = ap suc path.0

path-chain : (legs : Legs) (w i : ℕ) (slices : List Shape) → IsPath legs w i slices → IsChain legs (neg_ℤ (pos w)) slices i
path-chain legs w i [] path = absurd path
path-chain legs w i (s ∷ slices) path = path.2

moved : (legs : Legs) (k : ℕ) (xs ys : List Shape) (j : ℕ) → j < length xs → taken legs (far legs k) xs ≡ taken legs (far legs k) ys →
    Onto legs k (diagonal_at (neg_ℤ (pos (far legs k))) j) (pick xs j) (pick ys j)
moved legs k xs ys j l e c x y z h =
    let first = neg_ℤ (pos (far legs k)) in
    let n = wide legs k in
    let among : list_any (same c) (taken legs (far legs k) xs) ≡ true = any-filter (inside legs first xs) c (cube n) ∙ and_from (list_any (same c) (cube n)) (inside legs first xs c)
    (cube-has n c ∙ and_from (nat_lt c.x n) (nat_lt c.y n && nat_lt c.z n) (lt-ltb c.x n x) (and_from (nat_lt c.y n) (nat_lt c.z n) (lt-ltb c.y n y) (lt-ltb c.z n z))) (inside-at legs first xs c j l h) in
    let other = (and_parts (list_any (same c) (cube n)) (inside legs first ys c) (sym (any-filter (inside legs first ys) c (cube n)) ∙ (ap (λ cells. list_any (same c) cells) (sym e) ∙ among))).1 in
    let r = inside-some legs first ys c other in
    let there = on-same (diagonal_at first r.number) (diagonal_at first j) c (and_parts (on (diagonal_at first r.number) c) (nat_eq (legs_at legs c) 0 && nat_lt c.z (at (pick ys r.number) (place (diagonal_at first r.number) c))) r.here).0 (and_parts (on (diagonal_at first j) c) (nat_eq (legs_at legs c) 0 && nat_lt c.z (at (pick xs j) (place (diagonal_at first j) c))) h).0 in
    subst (λ m. in_slice legs (diagonal_at first m) (pick ys m) c ≡ true) (numbers first r.number there) r.here
  where
    numbers : (t : ℤ) (m : ℕ) → diagonal_at t m ≡ diagonal_at t j → m ≡ j
    numbers t m e = omega (arith, ints)

pub path-told : (legs : Legs) (k i : ℕ) (xs ys : List Shape) → AreDiagrams legs → i ≤ k → IsPath legs (k + extent legs) i xs → IsPath legs (k + extent legs) i ys →
    taken legs (k + extent legs) xs ≡ taken legs (k + extent legs) ys → xs ≡ ys
path-told legs k i xs ys are l p q e =
    let first = neg_ℤ (pos (far legs k)) in
    let lx = path-long legs (far legs k) i xs p in
    let ly = path-long legs (far legs k) i ys q in
    picks-same xs ys (lx ∙ sym ly) (λ j m.
    let m2 : j < length ys = subst (λ n. j < n) (lx ∙ sym ly) m in
    same-slice legs k (diagonal_at first j) (pick xs j) (pick ys j) are
    (chain-fits-at legs first xs i j (path-chain legs (far legs k) i xs p) m) (chain-fits-at legs first ys i j (path-chain legs (far legs k) i ys q) m2)
    (few (extras_of legs (diagonal_at first j) (pick xs j)) (chain-few legs first xs i j (path-chain legs (far legs k) i xs p) m))
    (few (extras_of legs (diagonal_at first j) (pick ys j)) (chain-few legs first ys i j (path-chain legs (far legs k) i ys q) m2))
    (size (far legs k) j (subst (λ n. j < n) lx m)) (moved legs k xs ys j m e) (moved legs k ys xs j m2 (sym e)))
  where
    few : (x : ℕ) → x ≤ i → x ≤ k
    few x m = omega arith

    size : (w j : ℕ) → j < suc (2 * w) → nat_abs (neg_ℤ (pos w) +ℤ pos j) ≤ w
    size w j l = omega (arith, ints)
