-- The heights of the legs, as they are written: what is written and what is left make the whole.
use Rattle.std.proofs.Common.{◌≡◌, ℕ, suc, ◌+◌, ◌-◌, ◌<◌, ◌≤◌, ℤ, List, [], ◌∷◌, ◌++◌, refl, sym, ◌∙◌, ap, arith, append_assoc, append-nil}
use Rattle.std.specs.Prelude.{cond, nat_eq}
use Rattle.std.proofs.lemmas.Bool.{ne_eqb}
use Rattle.tv_cells.specs.declared.legs.Legs.{Legs}
use Rattle.tv_spec_slices.specs.Slices.{base_at}
use Rattle.tv_slices.specs.Bare.{bare_from}

unfoldable one_place : Legs → ℤ → ℕ → ℕ → ℕ → List ℕ
one_place legs t d m b = cond (nat_eq b 0) [] (b ∷ bare_from legs t (suc d) m)

one_step : (legs : Legs) (t : ℤ) (d m b : ℕ) → b ≡ base_at legs t d → bare_from legs t d (suc m) ≡ one_place legs t d m b
unfolding bare_from one_place
one_step legs t d m b e = ap (one_place legs t d m) (sym e)

some_place : (legs : Legs) (t : ℤ) (d m b : ℕ) → 0 < b → one_place legs t d m b ≡ b ∷ bare_from legs t (suc d) m
unfolding one_place
some_place legs t d m b p = rw (ne_eqb b 0 (λ e. omega arith)) refl

no_place : (legs : Legs) (t : ℤ) (d m b : ℕ) → b ≡ 0 → one_place legs t d m b ≡ []
unfolding one_place
no_place legs t d m b e = rw e refl

none_left : (legs : Legs) (t : ℤ) (d : ℕ) → bare_from legs t d 0 ≡ []
unfolding bare_from
none_left legs t d = refl

pub heights-next : (legs : Legs) (t : ℤ) (full i n b : ℕ) (now before whole : List ℕ) → i < n → b ≡ base_at legs t (full + i) → 0 < b → now ≡ before ++ b ∷ [] →
    before ++ bare_from legs t (full + i) (n - i) ≡ whole → now ++ bare_from legs t (full + (i + 1)) (n - (i + 1)) ≡ whole
heights-next legs t full i n b now before whole l e p push far =
    let more : n - i ≡ suc (n - (i + 1)) = omega arith in
    let place : full + (i + 1) ≡ suc (full + i) = omega arith in
    ap (λ ss. ss ++ bare_from legs t (full + (i + 1)) (n - (i + 1))) push
    ∙ (append_assoc before (b ∷ []) (bare_from legs t (full + (i + 1)) (n - (i + 1)))
    ∙ (ap (λ d. before ++ (b ∷ bare_from legs t d (n - (i + 1)))) place
    ∙ (ap (λ ss. before ++ ss) (sym (one_step legs t (full + i) (n - (i + 1)) b e ∙ some_place legs t (full + i) (n - (i + 1)) b p))
    ∙ (ap (λ m. before ++ bare_from legs t (full + i) m) (sym more) ∙ far))))

pub heights-stop : (legs : Legs) (t : ℤ) (full i n b : ℕ) (now whole : List ℕ) → i < n → b ≡ base_at legs t (full + i) → b ≡ 0 → now ++ bare_from legs t (full + i) (n - i) ≡ whole → now ≡ whole
heights-stop legs t full i n b now whole l e z far =
    let more : n - i ≡ suc (n - (i + 1)) = omega arith in
    sym (append-nil now) ∙ (ap (λ ss. now ++ ss) (sym (one_step legs t (full + i) (n - (i + 1)) b e ∙ no_place legs t (full + i) (n - (i + 1)) b z)) ∙ (ap (λ m. now ++ bare_from legs t (full + i) m) (sym more) ∙ far))

pub heights-done : (legs : Legs) (t : ℤ) (full i n : ℕ) (now whole : List ℕ) → n ≤ i → now ++ bare_from legs t (full + i) (n - i) ≡ whole → now ≡ whole
heights-done legs t full i n now whole l far =
    let none : n - i ≡ 0 = omega arith in
    sym (append-nil now) ∙ (ap (λ ss. now ++ ss) (sym (ap (bare_from legs t (full + i)) none ∙ none_left legs t (full + i))) ∙ far)

pub heights-start : (legs : Legs) (t : ℤ) (full n : ℕ) (now : List ℕ) → now ≡ [] → now ++ bare_from legs t (full + 0) (n - 0) ≡ bare_from legs t full n
heights-start legs t full n now e =
    let place : full + 0 ≡ full = omega arith in
    let all : n - 0 ≡ n = omega arith in
    rw e (ap (λ d. bare_from legs t d (n - 0)) place ∙ ap (bare_from legs t full) all)
