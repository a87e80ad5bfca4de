-- A list has at most one place at which it leaves a language.
use Rattle.std.proofs.Common.{◌≡◌, ℕ, suc, ◌<◌, ◌≤◌, List, ◌++◌, length, take, drop, sym, ◌∙◌, subst, arith, append_assoc, append-nil, []}
use Rattle.std.proofs.lemmas.List.{take-take, take-append-drop, take_all}
use Rattle.tv_spec_text.specs.Places.{Begins, IsPlace}

pub Begins-front : {A : Type 0} (L : List A → Type 0) (xs ys : List A) → Begins L (xs ++ ys) → Begins L xs
Begins-front L xs ys b = (ys ++ b.0, subst L (append_assoc xs ys b.0) b.1)

pub Begins-shorter : {A : Type 0} (L : List A → Type 0) (xs : List A) (i k : ℕ) → i ≤ k → Begins L (take k xs) → Begins L (take i xs)
Begins-shorter L xs i k h b = subst (Begins L) (take-take i k xs h) (Begins-front L (take i (take k xs)) (drop i (take k xs)) (subst (Begins L) (sym (take-append-drop i (take k xs))) b))

not_before : {A : Type 0} (L : List A → Type 0) (xs : List A) (j k : ℕ) → IsPlace L xs j → IsPlace L xs k → j < k → ⊥
not_before L xs j k p q h = p.outside (omega (arith, q.within)) (Begins-shorter L xs (suc j) k (omega arith) q.before)

pub IsPlace-unique : {A : Type 0} (L : List A → Type 0) (xs : List A) (j k : ℕ) → IsPlace L xs j → IsPlace L xs k → j ≡ k
IsPlace-unique L xs j k p q =
    let below : j < k → ⊥ = not_before L xs j k p q in
    let above : k < j → ⊥ = not_before L xs k j q p in
    grind arith

-- a list of the language leaves it nowhere
pub IsPlace-none : {A : Type 0} (L : List A → Type 0) (xs : List A) (k : ℕ) → L xs → IsPlace L xs k → ⊥
IsPlace-none L xs k whole p =
    let all : Begins L (take (length xs) xs) = ([], subst L (sym (append-nil _ ∙ take_all (length xs) xs (omega arith))) whole) in
    let short : k ≡ length xs → ⊥ = λ e. p.short e whole in
    let further : k < length xs → ⊥ = λ h. p.outside h (Begins-shorter L xs (suc k) (length xs) (omega arith) all) in
    let within = p.within in
    grind arith
