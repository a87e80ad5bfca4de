-- Heights of all places, and the slice that has them.
--
-- slice-of-heights   heights that pass the test are those of a slice that fits
-- heights-of-slice   the heights of a slice that fits pass it, and the slice is made of them
use Rattle.std.proofs.Common.{◌≡◌, ℕ, zero, suc, ◌+◌, ◌-◌, ◌<◌, ◌≤◌, ℤ, pos, ◌+ℤ◌, Bool, true, false, List, [], ◌∷◌, length, refl, sym, ◌∙◌, ap, arith, inl, inr}
use Rattle.std.specs.Prelude.{cond, max, not, ◌&&◌, ◌||◌, nat_eq, nat_lt, nat_le, slice_index}
use Rattle.std.proofs.Math.Path.{fun_ext}
use Rattle.std.proofs.lemmas.Bool.{cases_lt, cond-true, cond-false, and_parts, and_from, lt-ltb, le-ltb, le-leb, leb-true, ltb-true, ltb-false, eq-eqb, eqb-true, ne_eqb}
use Rattle.tv_cells.specs.declared.legs.Legs.{Legs}
use Rattle.tv_cells.specs.Extras.{extent, AreDiagrams}
use Rattle.tv_spec_slices.specs.Falling.{falls}
use Rattle.tv_spec_slices.specs.Slices.{Shape, at, reach, base_at, is_endless, fits_at, fits, all_below}
use Rattle.tv_spec_slices.specs.Paths.{full_of, shape}
use Rattle.tv_laws_slices.proofs.Bases.{base-past, endless-first, endless-inside}
use Rattle.tv_laws_slices.proofs.Fits.{below-at, below-from, falls-parts, one-fits, fits-full}
use Rattle.tv_laws_slices.proofs.Least.{trim, trim-at, trim-falls, heights-next}
use Rattle.tv_laws_sums.specs.Mixed.{grows, value, is_new}
use Rattle.tv_laws_sums.specs.Laws.{IsLow}
use Rattle.tv_laws_sums.proofs.Both.{value-past}
use Rattle.tv_sums.specs.Plans.{plan_for, is_fit, are_fit, is_slice}
use Rattle.tv_sums.specs.Keys.{key, IsKey, cut_from, cut}
use Rattle.tv_sums.proofs.Keyed.{at-key, key-past, key-own, key-is}

abbrev pub ending : Legs → ℤ → ℕ → Shape → Shape
ending legs t n s = cut (at s) (full_of legs (t +ℤ pos 1) (extent legs)) n

-- ---- heights behind the places without end

cut-trim : (h : ℕ → ℕ) (d m : ℕ) → cut_from h d m ≡ trim h d m
cut-trim h d zero = refl
cut-trim h d (suc m) = ap (λ r. cond (nat_eq (h d) 0) [] (h d ∷ r)) (cut-trim h (suc d) m)

cut-short : (h : ℕ → ℕ) (d m : ℕ) → length (cut_from h d m) ≤ m
cut-short h d zero = omega arith
cut-short h d (suc m) = by (nat_eq (h d) 0) (cut-short h (suc d) m)
  where
    by : (q : Bool) → length (cut_from h (suc d) m) ≤ m → length (cond q [] (h d ∷ cut_from h (suc d) m)) ≤ suc m
    by true l = omega arith
    by false l = omega arith

cut-back : (h : ℕ → ℕ) (hs : List ℕ) (d m : ℕ) → falls hs ≡ true → length hs ≤ m → ((i : ℕ) → h (d + i) ≡ slice_index hs i) → cut_from h d m ≡ hs
cut-back h [] d zero f l each = refl
cut-back h [] d (suc m) f l each =
    let z : d ≡ d + 0 = omega arith in
    ap (λ q. cond q [] (h d ∷ cut_from h (suc d) m)) (eq-eqb (h d) 0 (ap h z ∙ each 0))
cut-back h (x ∷ hs) d zero f l each = absurd (omega arith)
cut-back h (x ∷ hs) d (suc m) f l each =
    let z : d ≡ d + 0 = omega arith in
    let here : h d ≡ x = ap h z ∙ each 0 in
    let parts = falls-parts x hs f in
    ap (λ q. cond q [] (h d ∷ cut_from h (suc d) m)) (ne_eqb (h d) 0 (some (h d) x here parts.0))
    ∙ (ap (λ v. v ∷ cut_from h (suc d) m) here ∙ ap (λ r. x ∷ r) (cut-back h hs (suc d) m parts.2 (less (length hs) m l) (λ i. let s : suc d + i ≡ d + suc i = omega arith in ap h s ∙ each (suc i))))
  where
    some : (a b : ℕ) → a ≡ b → 0 < b → a ≡ 0 → ⊥
    some a b e p z = omega arith

    less : (a b : ℕ) → suc a ≤ suc b → a ≤ b
    less a b l = omega arith

within : (a n e d : ℕ) → a ≤ n → d < max a e → d < max n e
within a n e d l m = omega arith

inside_first : (n e d : ℕ) → d < n → d < max n e
inside_first n e d l = omega arith

inside_second : (n e d : ℕ) → d < e → d < max n e
inside_second n e d l = omega arith

-- ---- from heights to the slice

module _ (legs : Legs) (k : ℕ) (t : ℤ) (top n : ℕ) (s : Shape) (are : AreDiagrams legs) (some : 0 < top) (is : IsKey top n s) (test : is_slice legs (plan_for k t top n) (at s) ≡ true) where
  abbrev u : ℤ
  u = t +ℤ pos 1

  abbrev f : ℕ
  f = full_of legs u (extent legs)

  parts : (d : ℕ) → d < max n (extent legs) → (nat_le (at s (suc d)) (at s d) ≡ true) × (is_fit legs (plan_for k t top n) d (at s d) ≡ true)
  parts d l = and_parts (nat_le (at s (suc d)) (at s d)) (is_fit legs (plan_for k t top n) d (at s d)) (below-at (max n (extent legs)) (λ d. nat_le (at s (suc d)) (at s d) && is_fit legs (plan_for k t top n) d (at s d)) test d l)

  next : (d : ℕ) → at s (suc d) ≤ at s d
  next d = elim (cases_lt d n) [
    | inl l ↦ leb-true (at s (suc d)) (at s d) (parts d (inside_first n (extent legs) d l)).0
    | inr m ↦ none (at s (suc d)) (at s d) (key-past top n s is (suc d) (omega arith))
  ]
    where
      none : (a b : ℕ) → a ≡ 0 → a ≤ b
      none a b e = omega arith

  endless-top : (d : ℕ) → d < max n (extent legs) → is_endless legs u d ≡ true → at s d ≡ top
  endless-top d l e = eqb-true (at s d) top (sym (cond-true (is_endless legs u d) (nat_eq (at s d) top) (nat_le (base_at legs u d) (at s d)) e) ∙ (parts d l).1)

  finite-base : (d : ℕ) → d < max n (extent legs) → is_endless legs u d ≡ false → nat_le (base_at legs u d) (at s d) ≡ true
  finite-base d l e = sym (cond-false (is_endless legs u d) (nat_eq (at s d) top) (nat_le (base_at legs u d) (at s d)) e) ∙ (parts d l).1

  full-short : f ≤ n
  full-short = elim (cases_lt n f) [
    | inl l ↦
        let ends : is_endless legs u n ≡ true = endless-first legs u n are ∙ lt-ltb n f l in
        absurd (apart (at s n) (key-past top n s is n (omega arith)) (endless-top n (inside_second n (extent legs) n (endless-inside legs u n are ends)) ends))
    | inr m ↦ m
  ]
    where
      apart : (a : ℕ) → a ≡ 0 → a ≡ top → ⊥
      apart a e g = omega (arith, some)

  rest-end : at s (f + (n - f)) ≡ 0
  rest-end = let l = full-short in key-past top n s is (f + (n - f)) (omega arith)

  at-ending : (d : ℕ) → f ≤ d → at (ending legs t n s) d ≡ at s d
  at-ending d l =
      let e : f + (d - f) ≡ d = omega arith in
      ap (λ hs. slice_index hs (d - f)) (cut-trim (at s) f (n - f)) ∙ (trim-at (at s) next f (n - f) rest-end (d - f) ∙ ap (at s) e)

  ending-short : reach (ending legs t n s) ≤ n
  ending-short = let l = full-short in let m = cut-short (at s) f (n - f) in omega arith

  ending-falls : falls (cut_from (at s) f (n - f)) ≡ true
  ending-falls = ap falls (cut-trim (at s) f (n - f)) ∙ trim-falls (at s) next f (n - f) rest-end

  ending-fits : fits legs u (ending legs t n s) ≡ true
  ending-fits = and_from (falls (cut_from (at s) f (n - f))) (all_below (max (reach (ending legs t n s)) (extent legs)) (fits_at legs u (ending legs t n s))) ending-falls
      (below-from (max (reach (ending legs t n s)) (extent legs)) (fits_at legs u (ending legs t n s))
      (λ d l. one-fits (nat_lt d f) (is_endless legs u d) (nat_le (base_at legs u d) (at (ending legs t n s) d)) (endless-first legs u d are)
      (λ off. ap (nat_le (base_at legs u d)) (at-ending d (ltb-false d f off)) ∙ finite-base d (within (reach (ending legs t n s)) n (extent legs) d ending-short l) (endless-first legs u d are ∙ off))))

  value-ending : (d : ℕ) → value top (ending legs t n s) d ≡ at s d
  value-ending d = elim (cases_lt d f) [
    | inl l ↦ cond-true (nat_lt d f) top (at (ending legs t n s) d) (lt-ltb d f l)
        ∙ sym (endless-top d (inside_first n (extent legs) d (let m = full-short in omega arith)) (endless-first legs u d are ∙ lt-ltb d f l))
    | inr m ↦ cond-false (nat_lt d f) top (at (ending legs t n s) d) (le-ltb d f m) ∙ at-ending d m
  ]

  pub slice-of-heights : (fits legs (t +ℤ pos 1) (ending legs t n s) ≡ true) × ((reach (ending legs t n s) ≤ n) × (key (value top (ending legs t n s)) n ≡ s))
  slice-of-heights = (ending-fits, (ending-short, ap (λ g. key g n) (fun_ext value-ending) ∙ sym (key-own top n s is)))

-- ---- from a slice to its heights

module _ (legs : Legs) (k : ℕ) (t : ℤ) (top n : ℕ) (b : Shape) (are : AreDiagrams legs) (suits : fits legs (t +ℤ pos 1) b ≡ true) (low : IsLow top n b) where
  abbrev w : ℤ
  w = t +ℤ pos 1

  abbrev v : ℕ → ℕ
  v = value top b

  ends : (d : ℕ) → is_endless legs w d ≡ nat_lt d b.full
  ends d = endless-first legs w d are ∙ ap (nat_lt d) (sym (fits-full legs w b are suits))

  v-full : (d : ℕ) → d < b.full → v d ≡ top
  v-full d l = cond-true (nat_lt d b.full) top (at b d) (lt-ltb d b.full l)

  v-else : (d : ℕ) → b.full ≤ d → v d ≡ at b d
  v-else d l = cond-false (nat_lt d b.full) top (at b d) (le-ltb d b.full l)

  v-low : (d : ℕ) → v d ≤ top
  v-low d = by (nat_lt d b.full) (low.low d)
    where
      by : (q : Bool) → at b d < top → cond q top (at b d) ≤ top
      by true l = omega arith
      by false l = omega arith

  pub heights-at : at (key v n) ≡ v
  heights-at = at-key v n (value-past top n b low)

  b-falls : falls b.heights ≡ true
  b-falls = (and_parts (falls b.heights) (all_below (max (reach b) (extent legs)) (fits_at legs w b)) suits).0

  v-next : (d : ℕ) → v (suc d) ≤ v d
  v-next d = elim (cases_lt d b.full) [
    | inl l ↦ under (v (suc d)) (v d) (v-full d l) (v-low (suc d))
    | inr m ↦ both (v (suc d)) (v d) (at b (suc d)) (at b d) (v-else (suc d) (omega arith)) (v-else d m) (let e : suc d - b.full ≡ suc (d - b.full) = omega arith in rw e (heights-next b.heights (d - b.full) b-falls))
  ]
    where
      under : (a c : ℕ) → c ≡ top → a ≤ top → a ≤ c
      under a c e l = omega arith

      both : (a c x y : ℕ) → a ≡ x → c ≡ y → x ≤ y → a ≤ c
      both a c x y e g l = omega arith

  base-under : (d : ℕ) → nat_lt d b.full ≡ false → nat_le (base_at legs w d) (at b d) ≡ true
  base-under d off = elim (cases_lt d (max (reach b) (extent legs))) [
    | inl l ↦ one-high (nat_lt d b.full) (is_endless legs w d) (nat_le (base_at legs w d) (at b d)) off
        (below-at (max (reach b) (extent legs)) (fits_at legs w b) (and_parts (falls b.heights) (all_below (max (reach b) (extent legs)) (fits_at legs w b)) suits).1 d l)
    | inr m ↦ le-leb (base_at legs w d) (at b d) (none (base_at legs w d) (at b d) (base-past legs w d (second (reach b) (extent legs) d m)))
  ]
    where
      one-high : (c e q : Bool) → c ≡ false → cond c e (not e && q) ≡ true → q ≡ true
      one-high true e q f h = absurd (cc)
      one-high false true q f h = absurd (cc)
      one-high false false q f h = h

      none : (a c : ℕ) → a ≡ 0 → a ≤ c
      none a c e = omega arith

      second : (a c d : ℕ) → max a c ≤ d → c ≤ d
      second a c d l = omega arith

  v-fit : (d : ℕ) → is_fit legs (plan_for k t top n) d (v d) ≡ true
  v-fit d = by (nat_lt d b.full) refl
    where
      by : (q : Bool) → nat_lt d b.full ≡ q → cond (is_endless legs w d) (nat_eq (v d) top) (nat_le (base_at legs w d) (v d)) ≡ true
      by true on = cond-true (is_endless legs w d) (nat_eq (v d) top) (nat_le (base_at legs w d) (v d)) (ends d ∙ on) ∙ eq-eqb (v d) top (v-full d (ltb-true d b.full on))
      by false off = cond-false (is_endless legs w d) (nat_eq (v d) top) (nat_le (base_at legs w d) (v d)) (ends d ∙ off) ∙ (ap (nat_le (base_at legs w d)) (v-else d (ltb-false d b.full off)) ∙ base-under d off)

  v-cut : cut v (full_of legs w (extent legs)) n ≡ b
  v-cut = ap (λ m. cut v m n) (sym (fits-full legs w b are suits)) ∙ ap (shape b.full) (cut-back v b.heights b.full (n - b.full) b-falls (short (length b.heights) b.full low.short)
      (λ i. v-else (b.full + i) (omega arith) ∙ ap (slice_index b.heights) (let e : (b.full + i) - b.full ≡ i = omega arith in e)))
    where
      short : (a c : ℕ) → c + a ≤ n → a ≤ n - c
      short a c l = omega arith

  pub heights-key : IsKey top n (key v n)
  heights-key = key-is top n v v-low

  pub heights-test : is_slice legs (plan_for k t top n) (at (key v n)) ≡ true
  heights-test = ap (is_slice legs (plan_for k t top n)) heights-at
      ∙ below-from (max n (extent legs)) (λ d. nat_le (v (suc d)) (v d) && is_fit legs (plan_for k t top n) d (v d)) (λ d l. and_from (nat_le (v (suc d)) (v d)) (is_fit legs (plan_for k t top n) d (v d)) (le-leb (v (suc d)) (v d) (v-next d)) (v-fit d))

  pub heights-fit : are_fit legs (plan_for k t top n) n (at (key v n)) ≡ true
  heights-fit = ap (are_fit legs (plan_for k t top n) n) heights-at
      ∙ below-from n (λ d. not (is_new (grows t) n n d) || is_fit legs (plan_for k t top n) d (v d)) (λ d l. ap (λ q. not (is_new (grows t) n n d) || q) (v-fit d) ∙ or (not (is_new (grows t) n n d)))
    where
      or : (q : Bool) → (q || true) ≡ true
      or true = refl
      or false = refl

  pub heights-ending : ending legs t n (key v n) ≡ b
  heights-ending = ap (λ g. cut g (full_of legs w (extent legs)) n) heights-at ∙ v-cut
