-- A fact of each item of a list, one item further.
use Rattle.std.proofs.Common.{◌≡◌, ℕ, zero, suc, arith, ◌+◌, ◌<◌, List, [], ◌∷◌, ◌++◌, length, take, get_or, sym, subst}
use Rattle.std.proofs.lemmas.List.{take_more}
use Rattle.std.specs.List.{AllByRecursion}
use Rattle.tv_lemmas.proofs.Members.{all-append}

pub each_push : {X : Type 0} (P : X → Type 0) (xs : List X) (y : X) → AllByRecursion P xs → P y → AllByRecursion P (xs ++ y ∷ [])
each_push P xs y all last = all-append P xs (y ∷ []) all (last, tt)

pub each_take_more : {X : Type 0} (P : X → Type 0) (xs : List X) (i : ℕ) (d : X) → i < length xs → AllByRecursion P (take i xs) → P (get_or xs i d) → AllByRecursion P (take (i + 1) xs)
each_take_more P xs i d h all last = subst (AllByRecursion P) (sym (take_more xs i d h)) (each_push P (take i xs) (get_or xs i d) all last)

pub each_below : {X : Type 0} (P : X → Type 0) (xs : List X) (k i : ℕ) (d : X) → i < k → i < length xs → AllByRecursion P (take k xs) → P (get_or xs i d)
each_below P [] k i d h l all = absurd (omega arith)
each_below P (x ∷ xs) zero i d h l all = absurd (omega arith)
each_below P (x ∷ xs) (suc k) zero d h l all = all.0
each_below P (x ∷ xs) (suc k) (suc i) d h l all = each_below P xs k i d (omega arith) (omega arith) all.1

-- the first item without the fact is at one place
pub first_unique : {X : Type 0} (P : X → Type 0) (xs : List X) (i j : ℕ) (d : X) → i < length xs → j < length xs → AllByRecursion P (take i xs) → AllByRecursion P (take j xs) → (P (get_or xs i d) → ⊥) → (P (get_or xs j d) → ⊥) → i ≡ j
first_unique P xs i j d h k before after here there =
    let below : i < j → ⊥ = λ l. here (each_below P xs j i d l h after) in
    let above : j < i → ⊥ = λ l. there (each_below P xs i j d l k before) in
    grind arith
