-- The heights behind the places without end, as they are written: what is written and what is left make the whole.
use Rattle.std.proofs.Common.{◌≡◌, ℕ, suc, ◌+◌, ◌-◌, ◌<◌, ◌≤◌, List, [], ◌∷◌, ◌++◌, sym, ◌∙◌, ap, arith, append_assoc, append-nil}
use Rattle.std.specs.Prelude.{cond, nat_eq}
use Rattle.std.proofs.lemmas.Bool.{ne_eqb, eq-eqb}
use Rattle.tv_sums.specs.Keys.{cut_from}

some_place : (h : ℕ → ℕ) (d m b : ℕ) → b ≡ h d → (b ≡ 0 → ⊥) → cut_from h d (suc m) ≡ b ∷ cut_from h (suc d) m
some_place h d m b e ne = ap (λ v. cond (nat_eq v 0) [] (v ∷ cut_from h (suc d) m)) (sym e) ∙ ap (λ q. cond q [] (b ∷ cut_from h (suc d) m)) (ne_eqb b 0 ne)

no_place : (h : ℕ → ℕ) (d m b : ℕ) → b ≡ h d → b ≡ 0 → cut_from h d (suc m) ≡ []
no_place h d m b e z = ap (λ v. cond (nat_eq v 0) [] (v ∷ cut_from h (suc d) m)) (sym e) ∙ ap (λ q. cond q [] (b ∷ cut_from h (suc d) m)) (eq-eqb b 0 z)

pub cut-next : (h : ℕ → ℕ) (full i n b : ℕ) (now before whole : List ℕ) → i < n → b ≡ h (full + i) → (b ≡ 0 → ⊥) → now ≡ before ++ b ∷ [] →
    before ++ cut_from h (full + i) (n - i) ≡ whole → now ++ cut_from h (full + (i + 1)) (n - (i + 1)) ≡ whole
cut-next h full i n b now before whole l e p push far =
    let more : n - i ≡ suc (n - (i + 1)) = omega arith in
    let place : full + (i + 1) ≡ suc (full + i) = omega arith in
    ap (λ ss. ss ++ cut_from h (full + (i + 1)) (n - (i + 1))) push
    ∙ (append_assoc before (b ∷ []) (cut_from h (full + (i + 1)) (n - (i + 1)))
    ∙ (ap (λ d. before ++ (b ∷ cut_from h d (n - (i + 1)))) place
    ∙ (ap (λ ss. before ++ ss) (sym (some_place h (full + i) (n - (i + 1)) b e p)) ∙ (ap (λ m. before ++ cut_from h (full + i) m) (sym more) ∙ far))))

pub cut-stop : (h : ℕ → ℕ) (full i n b : ℕ) (now whole : List ℕ) → i < n → b ≡ h (full + i) → b ≡ 0 → now ++ cut_from h (full + i) (n - i) ≡ whole → now ≡ whole
cut-stop h full i n b now whole l e z far =
    let more : n - i ≡ suc (n - (i + 1)) = omega arith in
    sym (append-nil now) ∙ (ap (λ ss. now ++ ss) (sym (no_place h (full + i) (n - (i + 1)) b e z)) ∙ (ap (λ m. now ++ cut_from h (full + i) m) (sym more) ∙ far))

pub cut-done : (h : ℕ → ℕ) (full i n : ℕ) (now whole : List ℕ) → n ≤ i → now ++ cut_from h (full + i) (n - i) ≡ whole → now ≡ whole
cut-done h full i n now whole l far =
    let none : n - i ≡ 0 = omega arith in
    sym (append-nil now) ∙ (ap (λ ss. now ++ ss) (sym (ap (cut_from h (full + i)) none)) ∙ far)

pub cut-start : (h : ℕ → ℕ) (full n : ℕ) (now : List ℕ) → now ≡ [] → now ++ cut_from h (full + 0) (n - 0) ≡ cut_from h full n
cut-start h full n now e =
    let place : full + 0 ≡ full = omega arith in
    let all : n - 0 ≡ n = omega arith in
    rw e (ap (λ d. cut_from h d (n - 0)) place ∙ ap (cut_from h full) all)
