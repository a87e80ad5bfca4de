-- The columns that are listed, by the height of the first one from the greatest down: what is listed and what is left make
-- the whole.
use Rattle.std.proofs.Common.{◌≡◌, ℕ, zero, suc, ◌+◌, ◌-◌, ◌<◌, ◌≤◌, ℤ, Bool, true, false, cond, ◌&&◌, nat_lt, nat_le, nat_eq, List, [], ◌∷◌, ◌++◌, map, length, arith, refl, sym, ◌∙◌, ap, append_assoc, append-nil, inl, inr}
use Rattle.std.specs.List.{flat_map}
use Rattle.std.proofs.lemmas.Bool.{cases_Bool, cases_lt}
use Rattle.std.proofs.lemmas.Bool.Decides.{nat_tests}
use Rattle.tv_lemmas.proofs.Lists.{flat_map-filter, flat_map-same}
use Rattle.tv_cells.specs.declared.legs.Legs.{Legs}
use Rattle.tv_spec_slices.specs.Slices.{Shape, base_at, interlaces}
use Rattle.tv_spec_slices.specs.Paths.{columns, down, shape}
use Rattle.tv_interlace.specs.declared.bounds.TheConstants.{WITHOUT_END}
use Rattle.tv_interlace.specs.Bounds.{floor, ceiling}
use Rattle.tv_interlace.specs.Columns.{behind, longer, one_more, firsts}
use Rattle.tv_interlace.proofs.Bounded.{behind-outside}

pub behind-append : (t : ℤ) (a : Shape) (full : ℕ) (front : List ℕ) (xs ys : List (List ℕ)) → behind t a full front (xs ++ ys) ≡ behind t a full front xs ++ behind t a full front ys
unfolding behind
behind-append t a full front [] ys = refl
behind-append t a full front (x ∷ xs) ys = step (interlaces t a (shape full (front ++ x))) (behind-append t a full front xs ys)
  where
    step : (b : Bool) → behind t a full front (xs ++ ys) ≡ behind t a full front xs ++ behind t a full front ys →
        cond b (shape full (front ++ x) ∷ behind t a full front (xs ++ ys)) (behind t a full front (xs ++ ys)) ≡ cond b (shape full (front ++ x) ∷ behind t a full front xs) (behind t a full front xs) ++ behind t a full front ys
    step true e = ap (λ ss. shape full (front ++ x) ∷ ss) e
    step false e = e

pub behind-none : (t : ℤ) (a : Shape) (full : ℕ) (front : List ℕ) → behind t a full front [] ≡ []
unfolding behind
behind-none t a full front = refl

behind-cons : (t : ℤ) (a : Shape) (full : ℕ) (front : List ℕ) (h : ℕ) (xs : List (List ℕ)) → behind t a full front (map (λ hs. h ∷ hs) xs) ≡ behind t a full (front ++ h ∷ []) xs
unfolding behind
behind-cons t a full front h [] = refl
behind-cons t a full front h (x ∷ xs) =
    ap (λ s. cond (interlaces t a (shape full s)) (shape full s ∷ behind t a full front (map (λ hs. h ∷ hs) xs)) (behind t a full front (map (λ hs. h ∷ hs) xs))) (sym (append_assoc front (h ∷ []) x))
    ∙ ap (λ ss. cond (interlaces t a (shape full ((front ++ h ∷ []) ++ x))) (shape full ((front ++ h ∷ []) ++ x) ∷ ss) ss) (behind-cons t a full front h xs)

behind-flat_map : (t : ℤ) (a : Shape) (full : ℕ) (front : List ℕ) (f : ℕ → List (List ℕ)) (es : List ℕ) → behind t a full front (flat_map f es) ≡ flat_map (λ e. behind t a full front (f e)) es
behind-flat_map t a full front f [] = behind-none t a full front
behind-flat_map t a full front f (e ∷ es) = behind-append t a full front (f e) (flat_map f es) ∙ ap (λ ss. behind t a full front (f e) ++ ss) (behind-flat_map t a full front f es)

downwards : (m : ℕ) → down m ≡ firsts (suc m)
downwards zero = refl
downwards (suc m) = ap (λ es. suc m ∷ es) (downwards m)

pub longer-parts : (legs : Legs) (t u : ℤ) (a : Shape) (full : ℕ) (front : List ℕ) (d n top m : ℕ) → behind t a full front (longer legs u d n top m) ≡ flat_map (one_more legs t u a full front d n top m) (firsts (suc m))
unfolding longer one_more
longer-parts legs t u a full front d n top m =
    ap (behind t a full front) (flat_map-filter test lists (down m))
    ∙ (behind-flat_map t a full front (λ e. cond (test e) (lists e) []) (down m)
    ∙ (flat_map-same (λ e. behind t a full front (cond (test e) (lists e) [])) (one_more legs t u a full front d n top m) each (down m)
    ∙ ap (flat_map (one_more legs t u a full front d n top m)) (downwards m)))
  where
    test : ℕ → Bool
    test e = nat_lt 0 (base_at legs u d + e) && nat_le (base_at legs u d + e) top

    lists : ℕ → List (List ℕ)
    lists e = map (λ hs. (base_at legs u d + e) ∷ hs) (columns legs u (suc d) n (base_at legs u d + e) (m - e))

    by_test : (b : Bool) (e : ℕ) → behind t a full front (cond b (lists e) []) ≡ cond b (behind t a full (front ++ (base_at legs u d + e) ∷ []) (columns legs u (suc d) n (base_at legs u d + e) (m - e))) []
    by_test true e = behind-cons t a full front (base_at legs u d + e) (columns legs u (suc d) n (base_at legs u d + e) (m - e))
    by_test false e = behind-none t a full front

    each : (e : ℕ) → behind t a full front (cond (test e) (lists e) []) ≡ one_more legs t u a full front d n top m e
    each e = by_test (test e) e

-- parts that are empty are left out
pub skip : {A : Type 0} (P : ℕ → List A) (j i : ℕ) → ((e : ℕ) → j ≤ e → e < i + j → P e ≡ []) → flat_map P (firsts (i + j)) ≡ flat_map P (firsts j)
skip P j zero none = let z : 0 + j ≡ j = omega arith in rw z refl
skip P j (suc i) none = let s : suc i + j ≡ suc (i + j) = omega arith in rw (s, none (i + j) (omega arith) (omega arith)) (skip P j i (λ e l h. none e l (omega arith)))

pub all_empty : {A : Type 0} (P : ℕ → List A) (j : ℕ) → ((e : ℕ) → e < j → P e ≡ []) → flat_map P (firsts j) ≡ []
all_empty P zero none = refl
all_empty P (suc j) none = rw (none j (omega arith)) (all_empty P j (λ e l. none e (omega arith)))

tests : (h top : ℕ) → (nat_lt 0 h && nat_le h top) ≡ true → (0 < h) × (h ≤ top)
tests h top e = (grind (arith, nat_tests), grind (arith, nat_tests))

on : (h top : ℕ) → 0 < h → h ≤ top → (nat_lt 0 h && nat_le h top) ≡ true
on h top p l = grind (arith, nat_tests)

-- the first part and the others
pub columns-some : (legs : Legs) (t u : ℤ) (a : Shape) (full : ℕ) (front : List ℕ) (d left top m : ℕ) → 0 < left →
    behind t a full front (columns legs u d left top m) ≡ behind t a full front (longer legs u d (left - 1) top m) ++ behind t a full front (cond (nat_eq (base_at legs u d) 0 && nat_eq m 0) ([] ∷ []) [])
unfolding columns longer
columns-some legs t u a full front d zero top m p = absurd (omega arith)
columns-some legs t u a full front d (suc n) top m p =
    let e : suc n - 1 ≡ n = omega arith in
    behind-append t a full front (longer legs u d n top m) (cond (nat_eq (base_at legs u d) 0 && nat_eq m 0) ([] ∷ []) [])
    ∙ ap (λ k. behind t a full front (longer legs u d k top m) ++ behind t a full front (cond (nat_eq (base_at legs u d) 0 && nat_eq m 0) ([] ∷ []) [])) (sym e)

pub columns-joined : (legs : Legs) (t u : ℤ) (a : Shape) (full : ℕ) (front : List ℕ) (d left top m : ℕ) (mid before : List Shape) → 0 < left →
    mid ≡ before ++ behind t a full front (longer legs u d (left - 1) top m) →
    mid ++ behind t a full front (cond (nat_eq (base_at legs u d) 0 && nat_eq m 0) ([] ∷ []) []) ≡ before ++ behind t a full front (columns legs u d left top m)
columns-joined legs t u a full front d left top m mid before p e =
    let ended = behind t a full front (cond (nat_eq (base_at legs u d) 0 && nat_eq m 0) ([] ∷ []) []) in
    ap (λ ss. ss ++ ended) e ∙ (append_assoc before (behind t a full front (longer legs u d (left - 1) top m)) ended ∙ ap (λ ss. before ++ ss) (sym (columns-some legs t u a full front d left top m p)))

pub columns-none : (legs : Legs) (u : ℤ) (d left top m : ℕ) → left ≡ 0 → columns legs u d left top m ≡ cond (nat_eq m 0) ([] ∷ []) []
unfolding columns
columns-none legs u d left top m e = rw e refl

pub ended-not : (t : ℤ) (a : Shape) (full : ℕ) (front : List ℕ) (b : Bool) (before : List Shape) → b ≡ false → before ≡ before ++ behind t a full front (cond b ([] ∷ []) [])
unfolding behind
ended-not t a full front b before e = rw e (sym (append-nil before))

pub ended-beside : (t : ℤ) (a : Shape) (full : ℕ) (front : List ℕ) (b : Bool) (now before : List Shape) → b ≡ true → interlaces t a (shape full front) ≡ true → now ≡ before ++ shape full front ∷ [] → now ≡ before ++ behind t a full front (cond b ([] ∷ []) [])
unfolding behind
ended-beside t a full front b now before e i push = push ∙ rw (e, append-nil front, i) refl

pub ended-alone : (t : ℤ) (a : Shape) (full : ℕ) (front : List ℕ) (b : Bool) (before : List Shape) → b ≡ true → interlaces t a (shape full front) ≡ false → before ≡ before ++ behind t a full front (cond b ([] ∷ []) [])
unfolding behind
ended-alone t a full front b before e i = rw (e, append-nil front, i) (sym (append-nil before))

module _ (legs : Legs) (t u : ℤ) (a : Shape) (full : ℕ) (front : List ℕ) (d n top m : ℕ) where
  -- none where no height between the bounds leaves one
  pub outside : (e h : ℕ) → d ≡ full + length front → h ≡ base_at legs u d + e → top ≤ WITHOUT_END →
      ((0 < h) × (h ≤ top) × (floor t a d ≤ h) × (h ≤ ceiling t a d) → behind t a full (front ++ h ∷ []) (columns legs u (suc d) n h (m - e)) ≡ []) → one_more legs t u a full front d n top m e ≡ []
  unfolding one_more
  outside e h at_d at_h w none =
      elim (cases_Bool (nat_lt 0 h && nat_le h top)) [
        | inl is_so ↦
            let parts = tests h top is_so in
            rw (← at_h) (rw is_so (elim (cases_lt h (floor t a d)) [
              | inl low ↦ behind-outside t a full front h d (columns legs u (suc d) n h (m - e)) at_d (omega (arith, parts.1)) (λ within. let above_floor = within.0 in omega arith)
              | inr on ↦ elim (cases_lt (ceiling t a d) h) [
                | inl high ↦ behind-outside t a full front h d (columns legs u (suc d) n h (m - e)) at_d (omega (arith, parts.1)) (λ within. let below_ceiling = within.1 in omega arith)
                | inr under ↦ none (parts.0, parts.1, on, under)
              ]
            ]))
        | inr is_not ↦ rw (← at_h) (rw is_not refl)
      ]

  pub here : (e h : ℕ) → h ≡ base_at legs u d + e → 0 < h → h ≤ top → one_more legs t u a full front d n top m e ≡ behind t a full (front ++ h ∷ []) (columns legs u (suc d) n h (m - e))
  unfolding one_more
  here e h at_h p l = rw (← at_h) (rw (on h top p l) refl)
