-- The columns that are listed, by the height of the first one from the greatest down, and by the number of extras.
use Rattle.std.proofs.Common.{◌≡◌, ℕ, zero, suc, ◌+◌, ◌-◌, ◌<◌, ◌≤◌, ℤ, Bool, true, false, cond, ◌&&◌, ◌||◌, nat_lt, nat_le, nat_eq, List, [], ◌∷◌, ◌++◌, map, length, arith, refl, sym, ◌∙◌, ap, append_assoc, append-nil, inl, inr}
use Rattle.std.specs.Prelude.{filter, slice_index}
use Rattle.std.specs.List.{flat_map}
use Rattle.std.proofs.lemmas.Bool.{cases_Bool}
use Rattle.std.proofs.lemmas.Bool.Decides.{nat_tests}
use Rattle.tv_lemmas.proofs.Lists.{flat_map-filter, flat_map-same, filter-none}
use Rattle.tv_cells.specs.declared.legs.Legs.{Legs}
use Rattle.tv_spec_slices.specs.Slices.{Shape, at, base_at, same_shape}
use Rattle.tv_spec_slices.specs.Paths.{columns, down, shape}
use Rattle.tv_interlace.specs.Columns.{longer, firsts}
use Rattle.tv_laws_slices.proofs.Pushed.{same-shape}
use Rattle.tv_paths.specs.Among.{is_among, has_height, behind, one_more}

-- ---- among the keys

-- a test that the slice passes leaves out no key that is the slice
pub narrowed : (q : Shape → Bool) (s : Shape) (keys : List Shape) → q s ≡ true → is_among (filter q keys) s ≡ is_among keys s
narrowed q s [] on = refl
narrowed q s (b ∷ keys) on = elim (cases_Bool (same_shape s b)) [
  | inl is ↦
      let kept : q b ≡ true = ap q (sym (same-shape s b is)) ∙ on in
      rw kept (rw is refl)
  | inr other ↦ elim (cases_Bool (q b)) [
    | inl kept ↦ rw kept (ap (λ v. same_shape s b || v) (narrowed q s keys on))
    | inr off ↦ rw off (narrowed q s keys on ∙ sym (ap (λ v. v || is_among keys s) other))
  ]
]

module _ (keys : List Shape) (full : ℕ) where
  behind-append : (front : List ℕ) (xs ys : List (List ℕ)) → behind keys full front (xs ++ ys) ≡ behind keys full front xs ++ behind keys full front ys
  unfolding behind
  behind-append front [] ys = refl
  behind-append front (x ∷ xs) ys = step (is_among keys (shape full (front ++ x))) (behind-append front xs ys)
    where
      step : (b : Bool) → behind keys full front (xs ++ ys) ≡ behind keys full front xs ++ behind keys full front ys →
          cond b (shape full (front ++ x) ∷ behind keys full front (xs ++ ys)) (behind keys full front (xs ++ ys)) ≡ cond b (shape full (front ++ x) ∷ behind keys full front xs) (behind keys full front xs) ++ behind keys full front ys
      step true e = ap (λ ss. shape full (front ++ x) ∷ ss) e
      step false e = e

  behind-none : (front : List ℕ) → behind keys full front [] ≡ []
  unfolding behind
  behind-none front = refl

  behind-cons : (front : List ℕ) (h : ℕ) (xs : List (List ℕ)) → behind keys full front (map (λ hs. h ∷ hs) xs) ≡ behind keys full (front ++ h ∷ []) xs
  unfolding behind
  behind-cons front h [] = refl
  behind-cons front h (x ∷ xs) =
      ap (λ s. cond (is_among keys (shape full s)) (shape full s ∷ behind keys full front (map (λ hs. h ∷ hs) xs)) (behind keys full front (map (λ hs. h ∷ hs) xs))) (sym (append_assoc front (h ∷ []) x))
      ∙ ap (λ ss. cond (is_among keys (shape full ((front ++ h ∷ []) ++ x))) (shape full ((front ++ h ∷ []) ++ x) ∷ ss) ss) (behind-cons front h xs)

  behind-flat_map : (front : List ℕ) (f : ℕ → List (List ℕ)) (es : List ℕ) → behind keys full front (flat_map f es) ≡ flat_map (λ e. behind keys full front (f e)) es
  behind-flat_map front f [] = behind-none front
  behind-flat_map front f (e ∷ es) = behind-append front (f e) (flat_map f es) ∙ ap (λ ss. behind keys full front (f e) ++ ss) (behind-flat_map front f es)

  longer-parts : (legs : Legs) (t : ℤ) (front : List ℕ) (d n top m : ℕ) → behind keys full front (longer legs t d n top m) ≡ flat_map (one_more keys legs t full front d n top m) (firsts (suc m))
  unfolding longer one_more
  longer-parts legs t front d n top m =
      ap (behind keys full front) (flat_map-filter test lists (down m))
      ∙ (behind-flat_map front (λ e. cond (test e) (lists e) []) (down m)
      ∙ (flat_map-same (λ e. behind keys full front (cond (test e) (lists e) [])) (one_more keys legs t full front d n top m) (λ e. by_test (test e) e) (down m)
      ∙ ap (flat_map (one_more keys legs t full front d n top m)) (downwards m)))
    where
      test : ℕ → Bool
      test e = nat_lt 0 (base_at legs t d + e) && nat_le (base_at legs t d + e) top

      lists : ℕ → List (List ℕ)
      lists e = map (λ hs. (base_at legs t d + e) ∷ hs) (columns legs t (suc d) n (base_at legs t d + e) (m - e))

      by_test : (b : Bool) (e : ℕ) → behind keys full front (cond b (lists e) []) ≡ cond b (behind keys full (front ++ (base_at legs t d + e) ∷ []) (columns legs t (suc d) n (base_at legs t d + e) (m - e))) []
      by_test true e = behind-cons front (base_at legs t d + e) (columns legs t (suc d) n (base_at legs t d + e) (m - e))
      by_test false e = behind-none front

      downwards : (m : ℕ) → down m ≡ firsts (suc m)
      downwards zero = refl
      downwards (suc m) = ap (λ es. suc m ∷ es) (downwards m)

  pub longer-start : (legs : Legs) (t : ℤ) (front : List ℕ) (d n top m : ℕ) (now : List Shape) →
      now ++ flat_map (one_more keys legs t full front d n top m) (firsts (m + 1)) ≡ now ++ behind keys full front (longer legs t d n top m)
  longer-start legs t front d n top m now =
      let s : m + 1 ≡ suc m = omega arith in
      ap (λ j. now ++ flat_map (one_more keys legs t full front d n top m) (firsts j)) s ∙ ap (λ ss. now ++ ss) (sym (longer-parts legs t front d n top m))

  pub longer-next : (P : ℕ → List Shape) (more : ℕ) (now before whole : List Shape) → 0 < more → now ≡ before ++ P (more - 1) → before ++ flat_map P (firsts more) ≡ whole → now ++ flat_map P (firsts (more - 1)) ≡ whole
  longer-next P zero now before whole some push far = absurd (omega arith)
  longer-next P (suc e) now before whole some push far =
      let one : suc e - 1 ≡ e = omega arith in
      ap (λ i. now ++ flat_map P (firsts i)) one ∙ (ap (λ ss. ss ++ flat_map P (firsts e)) (push ∙ ap (λ i. before ++ P i) one) ∙ (append_assoc before (P e) (flat_map P (firsts e)) ∙ far))

  pub longer-end : (P : ℕ → List Shape) (more : ℕ) (now whole : List Shape) → (0 < more → ⊥) → now ++ flat_map P (firsts more) ≡ whole → now ≡ whole
  longer-end P zero now whole none far = sym (append-nil now) ∙ far
  longer-end P (suc e) now whole none far = absurd (none (omega arith))

  columns-some : (legs : Legs) (t : ℤ) (front : List ℕ) (d left top m : ℕ) → 0 < left →
      behind keys full front (columns legs t d left top m) ≡ behind keys full front (longer legs t d (left - 1) top m) ++ behind keys full front (cond (nat_eq (base_at legs t d) 0 && nat_eq m 0) ([] ∷ []) [])
  unfolding columns longer
  columns-some legs t front d zero top m p = absurd (omega arith)
  columns-some legs t front d (suc n) top m p =
      let e : suc n - 1 ≡ n = omega arith in
      behind-append front (longer legs t d n top m) (cond (nat_eq (base_at legs t d) 0 && nat_eq m 0) ([] ∷ []) [])
      ∙ ap (λ k. behind keys full front (longer legs t d k top m) ++ behind keys full front (cond (nat_eq (base_at legs t d) 0 && nat_eq m 0) ([] ∷ []) [])) (sym e)

  pub columns-joined : (legs : Legs) (t : ℤ) (front : List ℕ) (d left top m : ℕ) (mid before : List Shape) → 0 < left →
      mid ≡ before ++ behind keys full front (longer legs t d (left - 1) top m) →
      mid ++ behind keys full front (cond (nat_eq (base_at legs t d) 0 && nat_eq m 0) ([] ∷ []) []) ≡ before ++ behind keys full front (columns legs t d left top m)
  columns-joined legs t front d left top m mid before p e =
      let ended = behind keys full front (cond (nat_eq (base_at legs t d) 0 && nat_eq m 0) ([] ∷ []) []) in
      ap (λ ss. ss ++ ended) e ∙ (append_assoc before (behind keys full front (longer legs t d (left - 1) top m)) ended ∙ ap (λ ss. before ++ ss) (sym (columns-some legs t front d left top m p)))

  pub ended-not : (front : List ℕ) (b : Bool) (before : List Shape) → b ≡ false → before ≡ before ++ behind keys full front (cond b ([] ∷ []) [])
  unfolding behind
  ended-not front b before e = rw e (sym (append-nil before))

  pub ended-among : (front : List ℕ) (b : Bool) (now before : List Shape) → b ≡ true → is_among keys (shape full front) ≡ true → now ≡ before ++ shape full front ∷ [] → now ≡ before ++ behind keys full front (cond b ([] ∷ []) [])
  unfolding behind
  ended-among front b now before e i push = push ∙ rw (e, append-nil front, i) refl

  pub ended-alone : (front : List ℕ) (b : Bool) (before : List Shape) → b ≡ true → is_among keys (shape full front) ≡ false → before ≡ before ++ behind keys full front (cond b ([] ∷ []) [])
  unfolding behind
  ended-alone front b before e i = rw (e, append-nil front, i) (sym (append-nil before))

pub no-keys : (keys : List Shape) (full : ℕ) (front : List ℕ) (lists : List (List ℕ)) (before : List Shape) → length keys ≡ 0 → before ≡ before ++ behind keys full front lists
unfolding behind
no-keys [] full front lists before e = sym (ap (λ ss. before ++ ss) (filter-none (is_among []) (λ s. refl) (map (λ hs. shape full (front ++ hs)) lists)) ∙ append-nil before)
no-keys (b ∷ keys) full front lists before e = absurd (omega arith)

-- ---- one height more

height-there : (full : ℕ) (front : List ℕ) (h : ℕ) (hs : List ℕ) → at (shape full ((front ++ h ∷ []) ++ hs)) (full + length front) ≡ h
height-there full front h hs = let d : (full + length front) - full ≡ length front = omega arith in ap (slice_index ((front ++ h ∷ []) ++ hs)) d ∙ there front
  where
    there : (front : List ℕ) → slice_index ((front ++ h ∷ []) ++ hs) (length front) ≡ h
    there [] = refl
    there (x ∷ front) = there front

behind-narrowed : (keys : List Shape) (full : ℕ) (front : List ℕ) (d h : ℕ) (lists : List (List ℕ)) → d ≡ full + length front →
    behind (filter (has_height d h) keys) full (front ++ h ∷ []) lists ≡ behind keys full (front ++ h ∷ []) lists
unfolding behind
behind-narrowed keys full front d h [] at_d = refl
behind-narrowed keys full front d h (hs ∷ lists) at_d =
    let s = shape full ((front ++ h ∷ []) ++ hs) in
    let is : has_height d h s ≡ true = rw at_d (rw (height-there full front h hs) (own h)) in
    ap (λ b. cond b (s ∷ behind (filter (has_height d h) keys) full (front ++ h ∷ []) lists) (behind (filter (has_height d h) keys) full (front ++ h ∷ []) lists)) (narrowed (has_height d h) s keys is)
    ∙ ap (λ ss. cond (is_among keys s) (s ∷ ss) ss) (behind-narrowed keys full front d h lists at_d)
  where
    own : (v : ℕ) → nat_eq v v ≡ true
    own v = grind (arith, nat_tests)

pub height-outside : (keys : List Shape) (legs : Legs) (t : ℤ) (full : ℕ) (front : List ℕ) (d n top m e h : ℕ) (before : List Shape) → h ≡ base_at legs t d + e → (0 < h → h ≤ top → ⊥) → before ≡ before ++ one_more keys legs t full front d n top m e
unfolding one_more
height-outside keys legs t full front d n top m e h before is out = sym (ap (λ b. before ++ cond b (behind keys full (front ++ (base_at legs t d + e) ∷ []) (columns legs t (suc d) n (base_at legs t d + e) (m - e))) []) (off (base_at legs t d + e) is) ∙ append-nil before)
  where
    off : (v : ℕ) → h ≡ v → (nat_lt 0 v && nat_le v top) ≡ false
    off v e = elim (cases_Bool (nat_lt 0 v && nat_le v top)) [
      | inl on ↦ absurd (let low : 0 < v = grind (arith, nat_tests) in let high : v ≤ top = grind (arith, nat_tests) in out (omega arith) (omega arith))
      | inr none ↦ none
    ]

pub height-inside : (keys some : List Shape) (legs : Legs) (t : ℤ) (full : ℕ) (front : List ℕ) (d n top m e h : ℕ) (now before : List Shape) → h ≡ base_at legs t d + e → 0 < h → h ≤ top → d ≡ full + length front → some ≡ filter (has_height d h) keys →
    now ≡ before ++ behind some full (front ++ h ∷ []) (columns legs t (suc d) n h (m - e)) → now ≡ before ++ one_more keys legs t full front d n top m e
unfolding one_more
height-inside keys some legs t full front d n top m e h now before is low high at_d narrow push =
    push ∙ ap (λ ss. before ++ ss) (ap (λ ks. behind ks full (front ++ h ∷ []) (columns legs t (suc d) n h (m - e))) narrow
    ∙ (behind-narrowed keys full front d h (columns legs t (suc d) n h (m - e)) at_d ∙ rw (← is) (rw (on h low high) refl)))
  where
    on : (v : ℕ) → 0 < v → v ≤ top → (nat_lt 0 v && nat_le v top) ≡ true
    on v p l = grind (arith, nat_tests)
