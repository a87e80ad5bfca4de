-- A column of a neighbour that interlaces stands between the bounds.
use Rattle.std.proofs.Common.{◌≡◌, ℕ, zero, suc, ◌+◌, ◌-◌, ◌<◌, ◌≤◌, ℤ, pos, negsuc, true, false, cond, ◌&&◌, ◌||◌, nat_lt, nat_le, List, [], ◌∷◌, ◌++◌, map, length, max, arith, refl, ap, ◌∙◌, length-append, inl, inr}
use Rattle.std.specs.Prelude.{slice_index}
use Rattle.std.proofs.lemmas.Bool.{cases_Bool, cases_lt, le-ltb, lt-leb}
use Rattle.std.proofs.lemmas.Bool.Decides.{nat_tests}
use Rattle.tv_partition.proofs.Shapes.{row-past}
use Rattle.tv_lemmas.proofs.Lists.{filter-map, filter-none}
use Rattle.tv_spec_slices.specs.Slices.{Shape, at, reach, interlaces_at, interlaces}
use Rattle.tv_spec_slices.specs.Paths.{shape}
use Rattle.tv_interlace.specs.declared.bounds.TheConstants.{WITHOUT_END}
use Rattle.tv_interlace.specs.Bounds.{floor, ceiling}
use Rattle.tv_interlace.specs.Columns.{behind}
use Rattle.tv_interlace.proofs.Tested.{all-at}
use Rattle.tv_lemmas.proofs.Tests.{and-left, and-right}

most : (d f g e x y w : ℕ) → (nat_lt d f || (nat_le g e && nat_le x y)) ≡ true → x ≤ w → x ≤ cond (nat_lt d f) w y
most d f g e x y w h l = grind (arith, nat_tests)

least : (d g e f x y w : ℕ) → g ≤ d → (nat_lt d g || (nat_le f e && nat_le y x)) ≡ true → cond (nat_lt e f) w y ≤ x
least d g e f x y w l h = grind (arith, nat_tests)

most-before : (d f g e x y w : ℕ) → (nat_lt d f || (nat_le g e && nat_le x y)) ≡ true → x ≤ w → x ≤ cond (nat_le (suc d) f) w y
most-before d f g e x y w h l = grind (arith, nat_tests)

most-first : (f x y w : ℕ) → x ≤ w → x ≤ cond (nat_le 0 f) w y
most-first f x y w l = grind (arith, nat_tests)

first-most : (a b c : ℕ) → c < b → c < max a b
first-most a b c l = omega arith

pub within : (t : ℤ) (a b : Shape) (d : ℕ) → interlaces t a b ≡ true → b.full ≤ d → d < reach b → at b d ≤ WITHOUT_END → (floor t a d ≤ at b d) × (at b d ≤ ceiling t a d)
within (pos n) a b d on l r w =
    let here = all-at (max (reach a) (reach b)) (interlaces_at (pos n) a b) on d (first-most (reach a) (reach b) d r) in
    (least d b.full (suc d) a.full (at b d) (at a (suc d)) WITHOUT_END l (and-right _ _ here), most d a.full b.full d (at b d) (at a d) WITHOUT_END (and-left _ _ here) w)
within (negsuc n) a b zero on l r w =
    let here = all-at (max (reach a) (reach b)) (interlaces_at (negsuc n) a b) on 0 (first-most (reach a) (reach b) 0 r) in
    (least 0 b.full 0 a.full (at b 0) (at a 0) WITHOUT_END l (and-left _ _ here), most-first a.full (at b 0) (at a (0 - 1)) WITHOUT_END w)
within (negsuc n) a b (suc d) on l r w =
    let here = all-at (max (reach a) (reach b)) (interlaces_at (negsuc n) a b) on (suc d) (first-most (reach a) (reach b) (suc d) r) in
    let before = all-at (max (reach a) (reach b)) (interlaces_at (negsuc n) a b) on d (first-most (reach a) (reach b) d (omega arith)) in
    let e : suc d - 1 ≡ d = omega arith in (
      least (suc d) b.full (suc d) a.full (at b (suc d)) (at a (suc d)) WITHOUT_END l (and-left _ _ here),
      rw e (most-before d a.full b.full (suc d) (at b (suc d)) (at a d) WITHOUT_END (and-right _ _ before) w),
    )

last-column : (front hs : List ℕ) (h full d : ℕ) → d ≡ full + length front → slice_index ((front ++ h ∷ []) ++ hs) (d - full) ≡ h
last-column [] hs h full d e = let z : d - full ≡ 0 = omega arith in rw z refl
last-column (f ∷ front) hs h full d e =
    let s : d - full ≡ suc (d - suc full) = omega arith in
    let rest = last-column front hs h (suc full) d (omega arith) in
    rw s rest

-- no slice has a column outside of them
pub behind-outside : (t : ℤ) (a : Shape) (full : ℕ) (front : List ℕ) (h d : ℕ) (lists : List (List ℕ)) → d ≡ full + length front → h ≤ WITHOUT_END →
    ((floor t a d ≤ h) × (h ≤ ceiling t a d) → ⊥) → behind t a full (front ++ h ∷ []) lists ≡ []
unfolding behind
behind-outside t a full front h d lists e w outside =
    filter-map (interlaces t a) (λ hs. interlaces t a (shape full ((front ++ h ∷ []) ++ hs))) (λ hs. shape full ((front ++ h ∷ []) ++ hs)) (λ hs. refl) lists
    ∙ ap (map (λ hs. shape full ((front ++ h ∷ []) ++ hs))) (filter-none (λ hs. interlaces t a (shape full ((front ++ h ∷ []) ++ hs))) off lists)
  where
    off : (hs : List ℕ) → interlaces t a (shape full ((front ++ h ∷ []) ++ hs)) ≡ false
    off hs =
        let column : at (shape full ((front ++ h ∷ []) ++ hs)) d ≡ h = last-column front hs h full d e in
        let long : length ((front ++ h ∷ []) ++ hs) ≡ (length front + 1) + length hs = length-append (front ++ h ∷ []) hs ∙ ap (λ k. k + length hs) (length-append front (h ∷ [])) in
        elim (cases_Bool (interlaces t a (shape full ((front ++ h ∷ []) ++ hs)))) [
          | inl on ↦
              let bounds = within t a (shape full ((front ++ h ∷ []) ++ hs)) d on (omega arith) (omega arith) (rw column w) in
              absurd (outside (rw column at bounds))
          | inr none ↦ none
        ]

-- past the last column of either, a floor is 0
pub floor-past : (t : ℤ) (a b : Shape) (d : ℕ) → interlaces t a b ≡ true → reach b ≤ d → floor t a d ≡ 0
floor-past t a b d on past = elim (cases_lt d (max (reach a) (reach b))) [
  | inl l ↦ let above = here t on l in let none = row-past b.heights (d - b.full) (omega arith) in omega arith
  | inr m ↦ nothing t (omega arith)
]
  where
    here : (t : ℤ) → interlaces t a b ≡ true → d < max (reach a) (reach b) → floor t a d ≤ at b d
    here (pos n) on l = least d b.full (suc d) a.full (at b d) (at a (suc d)) WITHOUT_END (omega arith) (and-right _ _ (all-at (max (reach a) (reach b)) (interlaces_at (pos n) a b) on d l))
    here (negsuc n) on l = least d b.full d a.full (at b d) (at a d) WITHOUT_END (omega arith) (and-left _ _ (all-at (max (reach a) (reach b)) (interlaces_at (negsuc n) a b) on d l))

    nothing : (t : ℤ) → reach a ≤ d → floor t a d ≡ 0
    nothing (pos n) m = rw (le-ltb (suc d) a.full (omega arith), row-past a.heights (suc d - a.full) (omega arith)) refl
    nothing (negsuc n) m = rw (le-ltb d a.full (omega arith), row-past a.heights (d - a.full) (omega arith)) refl

-- past the last column of a, so is a ceiling
pub ceiling-past : (t : ℤ) (a : Shape) (d : ℕ) → reach a < d → ceiling t a d ≡ 0
ceiling-past (pos n) a d l = rw (le-ltb d a.full (omega arith), row-past a.heights (d - a.full) (omega arith)) refl
ceiling-past (negsuc n) a d l = rw (lt-leb d a.full (omega arith), row-past a.heights (d - 1 - a.full) (omega arith)) refl
