-- Lists of words that spell lists of numbers.
use Rattle.std.proofs.Common.{◌≡◌, ◌≢◌, ℕ, ℤ, zero, suc, ◌+◌, ◌<◌, List, [], ◌∷◌, ◌++◌, length, map, take, get_or, sym, ◌∙◌, ap, arith, pos, negsuc, FitsSigned, to_z, of_z, w64}
use Rattle.std.proofs.lemmas.List.{take_more, map-append}
use Rattle.std.proofs.lemmas.Int.{fits_signed_from_abs, to_z-of_z}
use Rattle.std.specs.List.{AllByRecursion}
use Rattle.tv_spec_text.specs.Lines.{IsNumber, spelled}

pub no_spelling : {A : Type 0} (f : A → List ℕ) (xs : List A) (i : ℕ) (d : A) (zs : List ℤ) → i < length xs → ((z : ℤ) → IsNumber z → f (get_or xs i d) ≢ spelled z) → AllByRecursion IsNumber zs → map f xs ≡ map spelled zs → ⊥
no_spelling f [] i d zs l none all e = absurd (omega arith)
no_spelling f (x ∷ xs) i d [] l none all e = cc
no_spelling f (x ∷ xs) zero d (z ∷ zs) l none all e = none z all.0 (cc)
no_spelling f (x ∷ xs) (suc i) d (z ∷ zs) l none all e = no_spelling f xs i d zs (omega arith) none all.1 (cc)

pub spelled_more : {A : Type 0} (f : A → List ℕ) (xs : List A) (i : ℕ) (d : A) (zs : List ℤ) (z : ℤ) → i < length xs → map f (take i xs) ≡ map spelled zs → f (get_or xs i d) ≡ spelled z → map f (take (i + 1) xs) ≡ map spelled (zs ++ z ∷ [])
spelled_more f xs i d zs z l e h = ap (map f) (take_more xs i d l) ∙ map-append f (take i xs) (get_or xs i d ∷ []) ∙ ap (λ p. p ++ f (get_or xs i d) ∷ []) e ∙ ap (λ w. map spelled zs ++ w ∷ []) h ∙ sym (map-append spelled zs (z ∷ []))

pub FitsSigned-number : (z : ℤ) → IsNumber z → FitsSigned w64 z
FitsSigned-number (pos n) h = fits_signed_from_abs w64 (pos n) (omega arith)
FitsSigned-number (negsuc n) h = fits_signed_from_abs w64 (negsuc n) (omega arith)

pub same_number : (z : ℤ) → IsNumber z → to_z w64 (of_z w64 z) ≡ z
same_number z h = to_z-of_z w64 z (FitsSigned-number z h)
