-- The slice of the legs alone is the only one without extras.
use Rattle.std.proofs.Common.{◌≡◌, ℕ, zero, suc, ◌+◌, ◌-◌, ◌<◌, ◌≤◌, ℤ, Bool, true, false, List, [], ◌∷◌, ◌++◌, map, refl, sym, ◌∙◌, ap, arith, append-nil}
use Rattle.std.specs.Prelude.{cond, ◌&&◌, nat_eq, nat_lt, nat_le, filter}
use Rattle.std.specs.List.{flat_map}
use Rattle.std.proofs.lemmas.Bool.{leb-true, ne_eqb}
use Rattle.std.proofs.lemmas.Bool.Decides.{nat_tests}
use Rattle.tv_cells.specs.declared.legs.Legs.{Legs}
use Rattle.tv_cells.specs.Extras.{bit, extent, AreDiagrams}
use Rattle.tv_spec_slices.specs.Slices.{Shape, base_at, fits, extras_of, same_shape}
use Rattle.tv_spec_slices.specs.Paths.{full_of, columns, down, shape, fitting, fitting_by}
use Rattle.tv_laws_slices.specs.Laws.{often}
use Rattle.tv_laws_slices.proofs.Once.{once-all}
use Rattle.tv_laws_slices.proofs.Bases.{base-next, base-past}
use Rattle.tv_laws_slices.proofs.Pushed.{own-shape}
use Rattle.tv_slices.specs.Bare.{bare, bare_from}

-- without extras a column is as high as the legs
one_part : (b top : ℕ) (F : ℕ → List (List ℕ)) → b ≤ top →
    flat_map F (filter (λ e. nat_lt 0 (b + e) && nat_le (b + e) top) (down 0)) ++ cond (nat_eq b 0 && nat_eq 0 0) ([] ∷ []) [] ≡ cond (nat_eq b 0) ([] ∷ []) (F 0)
one_part zero top F l = refl
one_part (suc b) top F l =
    let e : suc b + 0 ≡ suc b = omega arith in
    let test : (nat_lt 0 (suc b + 0) && nat_le (suc b + 0) top) ≡ true = ap (λ v. nat_lt 0 v && nat_le v top) e ∙ positive (suc b) (omega arith) l in
    rw (test, ne_eqb (suc b) 0 (λ e. omega arith)) (append-nil (F 0 ++ []) ∙ append-nil (F 0))
  where
    positive : (v : ℕ) → 0 < v → v ≤ top → (nat_lt 0 v && nat_le v top) ≡ true
    positive v p l = grind (arith, nat_tests)

columns-bare : (legs : Legs) (t : ℤ) (d n top : ℕ) → AreDiagrams legs → base_at legs t d ≤ top → base_at legs t (d + n) ≡ 0 → columns legs t d n top 0 ≡ bare_from legs t d n ∷ []
unfolding columns bare_from
columns-bare legs t d zero top are l none = refl
columns-bare legs t d (suc n) top are l none =
    let e : base_at legs t d + 0 ≡ base_at legs t d = omega arith in
    let further : d + suc n ≡ suc d + n = omega arith in
    let rest = columns-bare legs t (suc d) n (base_at legs t d) are (base-next legs t d are) (sym (ap (base_at legs t) further) ∙ none) in
    one_part (base_at legs t d) top (λ e. map (λ hs. (base_at legs t d + e) ∷ hs) (columns legs t (suc d) n (base_at legs t d + e) (0 - e))) l
    ∙ (ap (λ v. cond (nat_eq (base_at legs t d) 0) ([] ∷ []) (map (λ hs. v ∷ hs) (columns legs t (suc d) n v 0))) e
    ∙ (ap (λ cs. cond (nat_eq (base_at legs t d) 0) ([] ∷ []) (map (λ hs. base_at legs t d ∷ hs) cs)) rest
    ∙ out (nat_eq (base_at legs t d) 0) (base_at legs t d ∷ bare_from legs t (suc d) n)))
  where
    out : (q : Bool) (hs : List ℕ) → cond q ([] ∷ []) (hs ∷ []) ≡ cond q [] hs ∷ []
    out true hs = refl
    out false hs = refl

pub bare-only : (legs : Legs) (t : ℤ) → AreDiagrams legs → fitting legs t 0 ≡ bare legs t ∷ []
unfolding bare
bare-only legs t are =
    let full = full_of legs t (extent legs) in
    let n : extent legs + 0 ≡ extent legs = omega arith in
    let top : base_at legs t full + 0 ≡ base_at legs t full = omega arith in
    append-nil (fitting_by legs t 0)
    ∙ (ap (λ m. map (shape full) (columns legs t full m (base_at legs t full + 0) 0)) n
    ∙ (ap (λ m. map (shape full) (columns legs t full (extent legs) m 0)) top
    ∙ ap (map (shape full)) (columns-bare legs t full (extent legs) (base_at legs t full) are (omega arith) (base-past legs t (full + extent legs) (omega arith)))))

bits : (p q : Bool) → bit true + 0 ≡ bit (p && q) → (p ≡ true) × (q ≡ true)
bits true true e = (refl, refl)
bits true false e = absurd (omega arith)
bits false q e = absurd (omega arith)

pub bare-suits : (legs : Legs) (t : ℤ) → AreDiagrams legs → (fits legs t (bare legs t) ≡ true) × (extras_of legs t (bare legs t) ≡ 0)
bare-suits legs t are =
    let own = bits (fits legs t (bare legs t)) (nat_le (extras_of legs t (bare legs t)) 0)
    (sym (ap (λ q. bit q + 0) (own-shape (bare legs t))) ∙ (ap (often (bare legs t)) (sym (bare-only legs t are)) ∙ once-all legs t 0 (bare legs t) are)) in
    (own.0, none (extras_of legs t (bare legs t)) own.1)
  where
    none : (x : ℕ) → nat_le x 0 ≡ true → x ≡ 0
    none x e = let l = leb-true x 0 e in omega arith

-- each other one that fits has some
pub others-have : (legs : Legs) (t : ℤ) (s : Shape) → AreDiagrams legs → same_shape s (bare legs t) ≡ false → fits legs t s ≡ true → nat_eq (extras_of legs t s) 0 ≡ false
others-have legs t s are off f =
    by (nat_le (extras_of legs t s) 0) refl (sym (ap (λ q. bit q + 0) off) ∙ (ap (often s) (sym (bare-only legs t are)) ∙ (once-all legs t 0 s are ∙ ap (λ p. bit (p && nat_le (extras_of legs t s) 0)) f)))
  where
    some : (x : ℕ) → nat_le x 0 ≡ false → nat_eq x 0 ≡ false
    some x e = grind (arith, nat_tests)

    by : (q : Bool) → nat_le (extras_of legs t s) 0 ≡ q → bit false + 0 ≡ bit (true && q) → nat_eq (extras_of legs t s) 0 ≡ false
    by true e h = absurd (omega arith)
    by false e h = some (extras_of legs t s) e
